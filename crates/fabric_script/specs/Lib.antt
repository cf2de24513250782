pub mod Names
pub mod ScriptFaults
pub mod ScriptLines
pub mod steps
