pub mod User
pub mod ErectDomain
pub mod AttachUser
pub mod ChannelJoin
pub mod SendData
pub mod Ultimatum
pub mod DomainPdu
pub mod Grammar
