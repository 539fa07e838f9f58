pub mod Steps
pub mod Sessions
pub mod Next
pub mod Lives
