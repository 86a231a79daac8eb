mod Halving
mod Scanning
