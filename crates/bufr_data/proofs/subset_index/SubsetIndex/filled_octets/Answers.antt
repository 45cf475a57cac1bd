-- The bits from a start to its end are those of its subset.
use Rattle.std.proofs.Common.{◌≡◌, ◌∙◌, ap, map, sym}
use Rattle.std.proofs.lemmas.Option.{IfSome_then}
use Rattle.bufr_data.specs.Plain.Starts.{subset_from}
use Rattle.bufr_data.specs.Shown.{shown}
use Rattle.bufr_data.specs.Subsets.{filled}
use Rattle.bufr_data.proofs.PlainFacts.Shown.{begins_there, start_shown}
use Rattle.bufr_data.proofs.PlainFacts.Starts.{bits_between}
use Rattle.bufr_data.proofs.subset_index.SubsetIndex.filled_octets.Goals as goal

pub filled_octets-requires-clause-onward : goal.filled_octets-requires-clause-onward
filled_octets-requires-clause-onward c =
    (bits_between _ _ _
    (begins_there _ _ _ c.args.index _ c.subsets.invariant.0 c.at-start.ensures)).0

pub filled_octets-requires-clause-inside : goal.filled_octets-requires-clause-inside
filled_octets-requires-clause-inside c =
    (begins_there _ _ _ c.args.index _ c.subsets.invariant.0 c.at-start.ensures).2

pub returns-in-Plain : goal.returns-in-Plain
returns-in-Plain c =
    let begins =
    begins_there _ _ _ c.args.index _ c.subsets.invariant.0 c.at-start.ensures in
    let shows : map (subset_from c.subsets.inside.octets.now c.subsets.inside.template)
    c.subsets.inside.starts ≡ c.args.self.now =
    c.subsets.view_is ∙ sym (ap shown c.in-Plain.is) ∙ c.self.view_is in
    IfSome_then c.filled_octets.result c.filled_octets.ensures
    (λ lent is. rw (start_shown c.subsets.inside.octets.now c.subsets.inside.template
    c.subsets.inside.starts c.args.self.now c.args.index c.at-start.result shows
    c.at-start.ensures) (is ∙ ap filled (bits_between _ _ _ begins).1))
