pub mod ScriptLemmas
pub mod ReportLemmas
pub mod HandedLemmas
