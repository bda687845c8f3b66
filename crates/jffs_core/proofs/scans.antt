-- What a scan of its device finds.
pub mod Mounting
pub mod Reading
pub mod Scanning
