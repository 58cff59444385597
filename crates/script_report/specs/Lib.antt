pub mod Verdict
pub mod TomlVerdict
