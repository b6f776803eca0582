pub mod Forms
pub mod Literals
pub mod Numbering
pub mod TextParts
