-- The ring of sectors, and what an image says of it.
pub mod Layouts
pub mod Live
pub mod Ring
pub mod RingFound
pub mod SectorFound
pub mod SectorSpellings
pub mod Sectors
pub mod Volume
