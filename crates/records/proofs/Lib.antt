pub mod CodeTrips
pub mod RecordTrips
