pub mod TrueAnswers
