pub mod Snapshots
pub mod Acts
pub mod Found
pub mod PendingLaws
pub mod ArmLaws
pub mod StreamLaws
mod ReadyRow
