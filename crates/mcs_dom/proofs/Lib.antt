pub mod Indication
pub mod PduText
pub mod TextPdu
pub mod Broken
pub mod SampleClient
