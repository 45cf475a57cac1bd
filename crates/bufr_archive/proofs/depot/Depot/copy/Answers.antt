-- A copy of the source's archive merges into that of the target.
use Rattle.std.proofs.Common.{◌∙◌, ap}
use Rattle.std.proofs.lemmas.Option.{slice_get_within}
use Rattle.bufr_gather.specs.Archives.{ArchiveView}
use Rattle.bufr_archive.specs.Holdings.{Holding}
use Rattle.bufr_archive.proofs.DepotFacts.{is_below, read_is, is_under}
use Rattle.bufr_archive.proofs.JoinFacts.{join_missing, join_ran_out, took}
use Rattle.bufr_archive.proofs.depot.Depot.copy.Goals as goal

pub returns-in_err-find : goal.returns-in_err-find
returns-in_err-find g c =
    join_missing c.args.self.now c.args.from c.args.into c.in_err-find.field-0.0
    c.from_residual.result c.from_residual.ensures.1 c.in_err-find.ensures.missing

pub index-requires : goal.index-requires
index-requires g c =
    let there = c.in_ok-find.ensures.there in
    is_below c.args.self.now _ c.args.from _ there.source c.self.view_is c.self.inside.slots.ok.0
    there.source_there

pub returns-in_default : goal.returns-in_default
returns-in_default g c =
    join_ran_out c.args.self.now c.args.from c.args.into c.in_ok-find.ensures.there

pub take_in-requires-clause-there : goal.take_in-requires-clause-there
take_in-requires-clause-there g c =
    let there = c.in_ok-find.ensures.there in
    slice_get_within c.args.self.now.slots c.args.into there.target there.target_there

pub take_in-requires-clause-tables : goal.take_in-requires-clause-tables
take_in-requires-clause-tables g c =
    let there = c.in_ok-find.ensures.there in
    let is = c.behind-self.view_is
    ∙ read_is c.args.self.now _ c.args.from there.source c.index.result.now c.self.view_is
    there.source_there c.index.ensures in
    ap (λ (a : ArchiveView). a.tables) c.in-Ok.ensures
    ∙ ap (λ (k : Holding). k.archive.tables) is
    ∙ is_under c.args.self.now _ c.args.from there.source c.self.view_is there.source_there
    c.self.invariant

pub returns : goal.returns
returns g c =
    let there = c.in_ok-find.ensures.there in
    let is = c.behind-self.view_is
    ∙ read_is c.args.self.now _ c.args.from there.source c.index.result.now c.self.view_is
    there.source_there c.index.ensures in
    took c.args.self.now c.take_in.new.self c.args.from c.args.into there c.in-Ok.archive
    c.take_in.result (λ reports under e. c.in-Ok.ensures ∙ ap (λ (k : Holding). k.archive) is)
    c.take_in.ensures
