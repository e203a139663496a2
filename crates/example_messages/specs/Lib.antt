pub mod Endpoints
pub mod Restarts
pub mod Faults
pub mod Asking
