pub mod BlockRuleHolds
pub mod ByStanding
pub mod CommonBlocks
pub mod FirstSoFar
pub mod RelatedRows
pub mod RowJudged
pub mod Verdicts
