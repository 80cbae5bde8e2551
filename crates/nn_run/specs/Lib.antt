pub mod Running
pub mod Window
pub mod Course
pub mod Steps
pub mod Flights
pub mod Restoring
pub mod Loop
