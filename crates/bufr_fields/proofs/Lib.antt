pub mod DigitRunFacts
pub mod DigitTestFacts
pub mod FitSteps
pub mod OctetFacts
pub mod OnLiterals
