pub mod Transitions
pub mod Predecessors
pub mod Places
pub mod Closures
pub mod Sweeps
pub mod CounterexampleStarts
