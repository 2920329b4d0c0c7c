pub mod Bits
pub mod Printed
pub mod Alphabet
pub mod Code39
pub mod Codabar
pub mod TwoOfFive
pub mod Ean
pub mod FullAscii
