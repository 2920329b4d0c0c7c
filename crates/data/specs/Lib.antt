pub mod Held
