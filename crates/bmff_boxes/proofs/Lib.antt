pub mod ReadingLaws
pub mod HeaderLaws
pub mod ChildLaws
pub mod RowLaws
pub mod FieldLaws
pub mod RunLaws
