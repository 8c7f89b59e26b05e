pub mod Tracks
pub mod TrackRows
