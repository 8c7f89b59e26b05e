pub mod EventLaws
pub mod Exactness
pub mod LayoutLaws
pub mod NumberLaws
pub mod Progress
pub mod SheetLaws
pub mod Standing
