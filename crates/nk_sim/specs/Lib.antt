pub mod Emitted
pub mod Flights
pub mod Traces
