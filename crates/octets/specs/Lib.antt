pub mod Octets
pub mod Bits
