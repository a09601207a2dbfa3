pub mod Float
pub mod Form
pub mod Item
pub mod Put
