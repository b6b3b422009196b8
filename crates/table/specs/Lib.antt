pub mod RegionRow
pub mod EntryRow
pub mod SavedRow
pub mod Table
pub mod View
pub mod Claims
