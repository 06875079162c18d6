pub mod SessionParts
pub mod AnswerFalls
pub mod WaitFalls
pub mod WorkFalls
pub mod PathFalls
pub mod SearchFalls
pub mod VisitFalls
pub mod EventLaws
