pub mod JournalView
pub mod EntryRef
pub mod EntryPlaces
pub mod PlacesView
pub mod AnsweredCalls
