pub mod Asked
pub mod Credits
pub mod Judged
pub mod Listings
pub mod Replays
