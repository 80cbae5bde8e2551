pub mod Table
pub mod Words
pub mod Seat
pub mod Typed
pub mod Renaming
pub mod Recovery
pub mod Bays
