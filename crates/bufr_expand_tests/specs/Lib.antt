pub mod StepAnswers
