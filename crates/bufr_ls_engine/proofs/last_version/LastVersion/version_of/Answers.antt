-- The head says again which version the message has.
use Rattle.std.proofs.Common.{◌≡◌, ◌∙◌, ℕ, [], ◌∷◌, ◌++◌, Ok, Result, ap, arith, decimal}
use Rattle.std.proofs.lemmas.List.{append-nil}
use Rattle.std.proofs.lemmas.List.Elements.{All-from_get_or}
use Rattle.bufr_frame.specs.declared.frames.Found.{Found}
use Rattle.bufr_io.specs.Taking.{frame_at}
use Rattle.bufr_sections.specs.declared.fault.Refused.{Refused}
use Rattle.bufr_sections.specs.Sections.{Envelope, IsOctet, envelope_of}
use Rattle.bufr_ls_engine.specs.Rows.{field_as, refused_as, row, row_as, said_in}
use Rattle.bufr_ls_engine.specs.declared.column.Column.TheVariants.{MasterVersion}
use Rattle.bufr_ls_engine.proofs.last_version.LastVersion.version_of.Goals as goal

-- the row of a message with this version
version_row : (input message : ℕ) (frame : Found) (e : Envelope) (version : ℕ)
    → envelope_of frame.bytes ≡ Ok e → e.head.master_version ≡ version
    → row (MasterVersion ∷ []) input message frame ≡ decimal version ++ 10 ∷ []
unfolding field_as said_in
version_row input message frame e version is same =
    ap (λ (r : Result Envelope Refused). row_as (MasterVersion ∷ []) input message frame r) is
    ∙ ap (λ t. t ++ 10 ∷ []) (append-nil (decimal e.head.master_version))
    ∙ ap (λ n. decimal n ++ 10 ∷ []) same

pub returns-then-is_of-clause-row : goal.returns-then-is_of-clause-row
returns-then-is_of-clause-row c input message place =
    let octets = c.args.octets.now in
    let again =
    c.self.invariant.1 octets
    (All-from_get_or IsOctet octets 0 (λ i here. omega (arith, c.type_inv.octets i)))
    (c.is_of.ensures c.if-is_of.true) in
    version_row input message (frame_at place octets) again.0 c.self.inside.version again.1 again.2

pub returns-then-is_of-clause-read : goal.returns-then-is_of-clause-read
returns-then-is_of-clause-read c place =
    let octets = c.args.octets.now in
    let again =
    c.self.invariant.1 octets
    (All-from_get_or IsOctet octets 0 (λ i here. omega (arith, c.type_inv.octets i)))
    (c.is_of.ensures c.if-is_of.true) in
    ap refused_as again.1
