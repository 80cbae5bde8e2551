pub mod Folder
pub mod Images
pub mod Words
pub mod Records
pub mod Chain
pub mod Fair
pub mod Reading
pub mod Laws
