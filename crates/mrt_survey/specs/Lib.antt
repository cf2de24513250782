pub mod BlockHeads
pub mod Counting
pub mod Draws
pub mod MadeLinks
pub mod MadeLsas
pub mod Separating
pub mod SurveyText
pub mod steps
