-- Lemmas on messages and reports.
pub mod OnLiterals
pub mod StepFacts
pub mod LengthFacts
pub mod CanBeAlone
pub mod AloneBits
pub mod MessageFacts
pub mod FaultFacts
pub mod EncodingFacts
pub mod WrittenFacts
pub mod UnwrittenFacts
pub mod ReportFacts
pub mod AloneFacts
pub mod SmallFacts
pub mod UnderFacts
pub mod ViewFacts
pub mod OwnBitsFacts
