pub mod Reading
pub mod Headers
pub mod Children
pub mod Rows
pub mod Fields
pub mod MovieFields
pub mod FragmentFields
pub mod RunFields
