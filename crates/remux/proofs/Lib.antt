pub mod SortLaws
pub mod RunLaws
pub mod PieceLaws
pub mod StepLaws
pub mod TimeLaws
pub mod SegmentLaws
pub mod RunEnds
