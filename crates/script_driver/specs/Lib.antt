pub mod Fitting
pub mod Clients
pub mod Apart
pub mod Syncing
pub mod Handing
pub mod Holding
pub mod Making
pub mod Failing
