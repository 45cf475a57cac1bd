-- A message with the same flags, count, octets and descriptors has the same fields.
use Rattle.std.proofs.Common.{◌≡◌, ◌∙◌, [], ap, arith, drop, sym, take}
use Rattle.std.specs.Cmp.{booleans_Decides}
use Rattle.bufr_base.specs.AnswerLaws.{not_false}
use Rattle.bufr_sections.specs.Sections.{Envelope, descriptors_of}
use Rattle.bufr_sections.specs.SectionsRead.{head4_with}
use Rattle.bufr_ls_engine.specs.RowSteps.{fields_from}
use Rattle.bufr_ls_engine.proofs.KeptFacts.{kept_fields}
use Rattle.bufr_ls_engine.proofs.last_fields.LastFields.is_of.Goals as goal

pub returns : goal.returns
returns c equal =
    let l = c.self.inside in
    let s = c.said.inside in
    let e = c.args.said.now in
    let kept = c.self.invariant.0 c.if-not-self.false in
    let head : l.head ≡ take 23 (drop 7 c.args.octets.now) =
    c.are_same.ensures c.if-not-are_same.false in
    let listed : l.listed.items ≡ s.listed.now =
    sym c.deref.ensures.value ∙ c.are_same-2.ensures equal in
    let same : l.count ≡ s.count = omega (arith, c.if-self-said-3.false) in
    let count : l.count ≡ e.count = same ∙ ap (λ (e : Envelope). e.count) c.said.view_is in
    let observed : l.observed ≡ e.observed =
    (booleans_Decides _ _).0 (not_false _ c.if-self-said.false)
    ∙ ap (λ (e : Envelope). e.observed) c.said.view_is in
    let compressed : l.compressed ≡ e.compressed =
    (booleans_Decides _ _).0 (not_false _ c.if-self-said-2.false)
    ∙ ap (λ (e : Envelope). e.compressed) c.said.view_is in
    let descriptors : descriptors_of l.listed.items ≡ e.descriptors =
    ap descriptors_of listed ∙ ap (λ (e : Envelope). e.descriptors) c.said.view_is in
    sym c.self.view_is
    ∙ kept.1
    ∙ (λ i. fields_from 4 (head4_with (drop 4 l.head) []) (count i) (observed i) (compressed i)
    (descriptors i))
    ∙ kept_fields c.args.octets.now l.head e c.requires head kept.0
