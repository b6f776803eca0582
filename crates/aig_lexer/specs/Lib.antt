pub mod Bytes
pub mod Takes
pub mod Faults
pub mod WordReaders
pub mod Header
pub mod Digits
pub mod SignedNumbers
