pub mod DigitLaws
pub mod WriteLaws
pub mod RecordsLaws
pub mod LongestText
pub mod TranslationLaws
pub mod ListedLaws
