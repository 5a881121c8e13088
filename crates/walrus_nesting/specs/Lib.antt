pub mod Certificates
pub mod Pushing
pub mod Steps
