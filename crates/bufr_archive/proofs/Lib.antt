-- The proofs of the crate: facts of archives, of slots, of steps and of runs, for the clauses of
-- `Archive` and `Depot` and of the laws.
pub mod AddFacts
pub mod AgreementFacts
pub mod ChangeCounts
pub mod CountFacts
pub mod DepotFacts
pub mod HeadlineFacts
pub mod HeldFacts
pub mod JoinFacts
pub mod ListFacts
pub mod RunFacts
pub mod StepFacts
