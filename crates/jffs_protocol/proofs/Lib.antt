mod Exchanges
mod Taking
mod Heard
mod Blocks
