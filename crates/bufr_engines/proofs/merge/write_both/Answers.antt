-- The octets of the entries of both are the text of both merged.
use Rattle.std.proofs.Common.{◌≡◌, ℕ, List, length, ap, subst, ◌∙◌, arith}
use Rattle.std.proofs.lemmas.List.{length-map}
use Rattle.bufr_bits.specs.Devices.{Writing}
use Rattle.bufr_io.specs.Engines.{WritesAll}
use Rattle.bufr_entries.specs.declared.entry.Entry.{Entry}
use Rattle.bufr_gather.specs.Archives.{merged}
use Rattle.bufr_gather.specs.Texts.{text}
use Rattle.bufr_engines.specs.Parts.{joined, WritesArchive}
use Rattle.bufr_io.specs.PassingLaws.{passed}
use Rattle.bufr_engines.proofs.HandOnFacts.{archive_fails, joined_text}
use Rattle.bufr_engines.proofs.merge.write_both.Goals as goal

pub write_merged-requires-clause-few : goal.write_merged-requires-clause-few
write_merged-requires-clause-few g c =
    omega (arith, c.len-reports.ensures, c.len-reports.type_inv)

pub returns-in_err-write_merged : goal.returns-in_err-write_merged
returns-in_err-write_merged g c =
    let old : Writing = g.W.Sink.writing c.args.writer.now in
    let now : Writing = g.W.Sink.writing c.write_merged.new.writer in
    let both = merged c.args.lowest.now c.args.upper.now in
    let e = c.in_err-write_merged.field-0.0 in
    let is : joined c.in_ok-left.left ≡ text both.entries =
    ap joined c.in_ok-left.ensures ∙ joined_text both.entries in
    passed (WritesArchive both old now) c.from_residual-in_err-write_merged.result e
    c.from_residual-in_err-write_merged.ensures.1
    (archive_fails old now both _ e is c.in_err-write_merged.ensures)

pub returns : goal.returns
returns g c =
    let old : Writing = g.W.Sink.writing c.args.writer.now in
    let now : Writing = g.W.Sink.writing c.write_merged.new.writer in
    let both = merged c.args.lowest.now c.args.upper.now in
    let is : joined c.in_ok-left.left ≡ text both.entries =
    ap joined c.in_ok-left.ensures ∙ joined_text both.entries in (
      subst (WritesAll old now) is c.in_ok-write_merged.ensures,
      c.len-reports.ensures
          ∙ ap (λ (xs : List (List ℕ)). length xs) c.in_ok-left.ensures
          ∙ length-map both.entries (λ (e : Entry). e.bytes),
    )
