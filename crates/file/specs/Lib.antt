pub mod Reads
pub mod Indexed
pub mod Frames
pub mod Given
pub mod Files
