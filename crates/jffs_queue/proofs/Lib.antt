mod Carrying
mod Overlays
