pub mod Floors
pub mod TickLemmas
pub mod Compared
pub mod Sets
pub mod Unique
pub mod JoinedSpans
pub mod Extended
pub mod Places
pub mod CarvedRanges
pub mod BridgedRanges
pub mod RangeLookUps
pub mod Beside
pub mod Overlaps
pub mod Unions
pub mod Neighbours
pub mod FilledGaps
pub mod SharedTicks
pub mod AnyOrder
pub mod RangeAtTime
pub mod Firsts
pub mod Lasts
mod Late
mod InRows
mod BlockStarts
mod Slices
mod SpreadOut
mod SpanEnds
