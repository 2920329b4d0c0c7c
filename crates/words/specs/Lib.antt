pub mod Said
pub mod Order
