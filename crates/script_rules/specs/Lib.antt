pub mod Fields
pub mod Forms
pub mod Script
pub mod Capture
pub mod CaptureText
