pub mod Consents
