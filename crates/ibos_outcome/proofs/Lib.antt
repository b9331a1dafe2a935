mod CutTexts
mod ToldLines
mod HexTexts
mod ReadWords
mod RuleTexts
mod ReadItems
mod ReadLines
pub mod FieldWords
