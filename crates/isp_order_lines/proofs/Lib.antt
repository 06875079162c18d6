pub mod AnswerCauses
pub mod AnswerTexts
pub mod LineLists
pub mod TellsLaws
pub mod ToldLaws
pub mod VictimLists
