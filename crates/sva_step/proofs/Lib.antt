pub mod AnswerTexts
pub mod FrameTableLemmas
pub mod RefusalLemmas
pub mod TextLemmas
