pub mod DomainParameters
pub mod ConnectInitial
pub mod Grammar
pub mod ConnectResponse
