pub mod Numbers
pub mod Line
pub mod Sets
