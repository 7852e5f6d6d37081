pub mod Exchanges
pub mod Serving
pub mod Desks
pub mod Waiting
pub mod Led
