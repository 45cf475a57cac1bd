-- Lemmas on archives.
pub mod AddFacts
pub mod BeforeFacts
pub mod FrameFacts
pub mod HeldFacts
pub mod MergeFacts
pub mod MergedOctetsFacts
pub mod OnLiterals
pub mod ReportFacts
pub mod ReportFrameFacts
pub mod TextMergeFacts
pub mod ToldFacts
pub mod UnderFacts
