pub mod Count
pub mod Counted
pub mod Folder
pub mod Memory
pub mod Output
pub mod Outside
pub mod Reading
pub mod Source
