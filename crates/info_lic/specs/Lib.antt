pub mod Name
pub mod Stored
pub mod Inverse
pub mod ClientInfo
pub mod Licence
pub mod Grammar
pub mod Faults
