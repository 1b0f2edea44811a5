pub mod Images
pub mod ImageTables
