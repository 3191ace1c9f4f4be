pub mod Places
mod Search
