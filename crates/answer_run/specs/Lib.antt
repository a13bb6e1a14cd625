pub mod Asking
pub mod Service
pub mod Solos
pub mod Visits
pub mod Cut
pub mod Serves
