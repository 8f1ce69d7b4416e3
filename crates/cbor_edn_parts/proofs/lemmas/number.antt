-- Numbers: their texts, their parts, and those made from values.
pub mod Decimals
pub mod WrittenNumbers
pub mod NumberParts
pub mod FirstDigits
pub mod NumberEnds
pub mod NumberTexts
