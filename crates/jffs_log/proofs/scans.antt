-- What a scan finds, step by step.
pub mod MountHistory
pub mod MountedLog
pub mod ReadOnce
pub mod ScanFold
pub mod ScanFound
pub mod ScanIndex
pub mod ScanLog
pub mod ScanNumbers
pub mod ScanSectors
pub mod Showing
pub mod Small
