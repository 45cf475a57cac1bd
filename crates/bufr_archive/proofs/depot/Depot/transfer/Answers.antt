-- The text of the source's archive reads back and merges into the target.
use Rattle.std.proofs.Common.{◌≡◌, ◌∙◌, ◌++◌, ℕ, List, ap}
use Rattle.std.proofs.lemmas.Option.{same_Some, slice_get_within}
use Rattle.bufr_bits.specs.Devices.{Writing}
use Rattle.bufr_gather.specs.Texts.{text}
use Rattle.bufr_archive.specs.Holdings.{Holding, DepotView}
use Rattle.bufr_archive.proofs.DepotFacts.{is_below, read_is, read_back}
use Rattle.bufr_archive.proofs.JoinFacts.{join_missing, join_ran_out, took}
use Rattle.bufr_archive.proofs.depot.Depot.transfer.Goals as goal

pub returns-in_err-find : goal.returns-in_err-find
returns-in_err-find g c =
    join_missing c.args.self.now c.args.from c.args.into c.in_err-find.field-0.0
    c.from_residual.result c.from_residual.ensures.1 c.in_err-find.ensures.missing

pub index-requires : goal.index-requires
index-requires g c =
    let there = c.in_ok-find.ensures.there in
    is_below c.args.self.now _ c.args.from _ there.source c.self.view_is c.self.inside.slots.ok.0
    there.source_there

pub returns-in_default : goal.returns-in_default
returns-in_default g c =
    join_ran_out c.args.self.now c.args.from c.args.into c.in_ok-find.ensures.there

pub take_in-requires-clause-there : goal.take_in-requires-clause-there
take_in-requires-clause-there g c =
    let there = c.in_ok-find.ensures.there in
    slice_get_within c.args.self.now.slots c.args.into there.target there.target_there

pub returns-in_default-read : goal.returns-in_default-read
returns-in_default-read g c =
    join_ran_out c.args.self.now c.args.from c.args.into c.in_ok-find.ensures.there

pub returns : goal.returns
returns g c =
    let there = c.in_ok-find.ensures.there in
    let is = c.behind-self.view_is
    ∙ read_is c.args.self.now _ c.args.from there.source c.index.result.now c.self.view_is
    there.source_there c.index.ensures in
    let text_is : c.deref.result.now ≡ text c.behind-self.inside.archive.entries =
    c.deref.ensures.value ∙ ap (λ (v : _). v.items) c.into_inner-text.ensures
    ∙ same_Some _ _ c.in-Ok.ensures.ok
    ∙ ap (λ (xs : List ℕ). xs ++ text c.behind-self.inside.archive.entries)
    (same_Some _ _ (ap (λ (w : Writing). w.taken) c.new-sink.ensures) ∙ c.new.ensures.items) in
    took c.args.self.now c.take_in.new.self c.args.from c.args.into there c.in-Ok-read.archive
    c.take_in.result
    (read_back c.self.inside.tables.now c.args.self.now.tables there.source.archive
    c.in-Ok-read.archive c.deref.result.now (ap (λ (e : DepotView). e.tables) c.self.view_is)
    (text_is ∙ ap (λ (k : Holding). text k.archive.entries) is) c.in-Ok-read.ensures.only)
    c.take_in.ensures
