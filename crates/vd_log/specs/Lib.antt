pub mod StoredEntries
pub mod LogFields
pub mod HistoryFields
pub mod Adding
