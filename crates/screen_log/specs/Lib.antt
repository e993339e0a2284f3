pub mod Line
pub mod Book
pub mod History
pub mod Enter
pub mod Right
pub mod Log
pub mod Keep
pub mod Step
