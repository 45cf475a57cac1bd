use Rattle.std.proofs.Common.{◌≡◌, ◌∙◌, refl, sym, ap, arith}
use Rattle.bufr_data.specs.Compressed.{subsets_from}
use Rattle.bufr_data.specs.Compressed.Indexed.{Indexed}
use Rattle.bufr_data.proofs.CompressedFacts.Places.{one_subset_more}
use Rattle.bufr_data.proofs.compressed.index.all_subsets.Goals as goal

pub loop-index-preserved : goal.loop-index-preserved
loop-index-preserved c =
    one_subset_more c.loop-index.index c.loop-index.index c.args.columns.now.columns c.loop-index.subsets.items
    c.push.new.self.items c.in_ok-subset_at.field-0
    c.in_ok-push.ensures.items c.loop-index.invariant c.in_ok-subset_at.ensures refl

pub returns : goal.returns
returns c =
    let many : c.args.columns.now.subsets ≡ c.columns.inside.subsets =
    ap (λ (i : Indexed). i.subsets) (sym c.columns.view_is) in
    let all : c.loop-index.index ≡ c.args.columns.now.subsets =
    omega (arith, c.loop-index-test.false, c.loop-index.auto.index-end, many) in
    c.from_vec.ensures ∙ c.loop-index.invariant
    ∙ ap (λ n. subsets_from 0 n c.args.columns.now.columns) all
