-- The lemmas of the command line's proofs.
mod OnLiterals
mod CommandFacts
