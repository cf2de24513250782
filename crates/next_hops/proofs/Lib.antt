mod Causing
mod Leading
