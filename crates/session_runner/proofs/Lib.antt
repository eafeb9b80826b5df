pub mod Words
pub mod Writing
pub mod Handing
pub mod Fitting
pub mod Completing
