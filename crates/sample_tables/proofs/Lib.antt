pub mod PlaceLaws
pub mod EntryLaws
pub mod RuleLaws
pub mod ColumnLaws
pub mod ConsistentLaws
pub mod TrackLaws
pub mod FactLaws
pub mod MovieLaws
