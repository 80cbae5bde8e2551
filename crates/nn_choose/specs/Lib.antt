pub mod Served
pub mod Looking
pub mod Picking
pub mod Laws
