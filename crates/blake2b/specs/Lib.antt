pub mod Blake2b
