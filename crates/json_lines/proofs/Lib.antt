pub mod Back
pub mod Cutting
pub mod OneLine
pub mod Plain
pub mod Utf8Texts
pub mod ValueOf
