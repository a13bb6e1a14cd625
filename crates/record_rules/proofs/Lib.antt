mod Rows
pub mod FieldsBack
pub mod ShapesBack
pub mod EntriesBack
pub mod HeadsBack
pub mod RecordsBack
pub mod Recordable
pub mod Extends
pub mod Holders
mod EntryRows
mod RefusedRows
