pub mod Windows
mod Scanning
mod Fitting
mod Keeping
mod Plain
mod Low
