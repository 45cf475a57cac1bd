-- The text is that of a message of edition 4, whose octets are kept.
use Rattle.std.proofs.Common.{◌≡◌, ◌∙◌, ◌++◌, [], ap, arith, drop, get_or, subst, sym, take}
use Rattle.std.proofs.lemmas.Bool.{false≢true}
use Rattle.bufr_sections.specs.Sections.{Envelope, descriptors_of}
use Rattle.bufr_sections.specs.SectionsRead.{head4_with}
use Rattle.bufr_ls_engine.specs.RowSteps.{SaysAgain, fields_after_length, fields_from}
use Rattle.bufr_ls_engine.specs.Rows.{edition_of}
use Rattle.bufr_ls_engine.proofs.KeptFacts.{first_is_edition, kept_fields}
use Rattle.bufr_ls_engine.proofs.last_fields.LastFields.write.Goals as goal

pub invariant_of-self-then-edition_of-ne4 : goal.invariant_of-self-then-edition_of-ne4
invariant_of-self-then-edition_of-ne4 c =
    let octets = c.args.octets.now in
    let e = c.args.said.now in
    let text = c.in_ok-push_fields.ensures
    ∙ ap (λ t. t ++ fields_after_length octets e) c.clear.ensures.items in (
      (λ no. absurd (false≢true no)),
      e.head.master_version,
      subst (λ t. SaysAgain c.keep.new.self e.head.master_version t) (sym text) c.keep.ensures,
    )

pub invariant_of-self-in_err-extend_from_slice : goal.invariant_of-self-in_err-extend_from_slice
invariant_of-self-in_err-extend_from_slice c =
    let octets = c.args.octets.now in
    let e = c.args.said.now in
    let text = c.in_ok-push_fields.ensures
    ∙ ap (λ t. t ++ fields_after_length octets e) c.clear.ensures.items in (
      (λ no. absurd (false≢true no)),
      e.head.master_version,
      subst (λ t. SaysAgain c.keep.new.self e.head.master_version t) (sym text) c.keep.ensures,
    )

pub invariant_of-self-2 : goal.invariant_of-self-2
invariant_of-self-2 c =
    let octets = c.args.octets.now in
    let s = c.said.inside in
    let e = c.args.said.now in
    let text = c.in_ok-push_fields.ensures
    ∙ ap (λ t. t ++ fields_after_length octets e) c.clear.ensures.items in
    let head = c.copy_from_slice.new.self in
    let kept : head ≡ take 23 (drop 7 octets) = c.copy_from_slice.ensures.after in
    let edition : edition_of octets ≡ 4 =
    omega (arith, c.edition_of.ensures, c.if-edition_of-ne4.false) in
    let four : get_or head 0 0 ≡ 4 =
    ap (λ t. get_or t 0 0) kept ∙ first_is_edition octets ∙ edition in
    let listed : e.descriptors ≡ descriptors_of c.extend_from_slice.new.self.items =
    sym (ap descriptors_of
    (c.in_ok-extend_from_slice.ensures.items ∙ ap (λ t. t ++ s.listed.now) c.clear-2.ensures.items)
    ∙ ap (λ (e : Envelope). e.descriptors) c.said.view_is) in
    let count : e.count ≡ s.count = sym (ap (λ (e : Envelope). e.count) c.said.view_is) in
    let observed : e.observed ≡ s.observed = sym (ap (λ (e : Envelope). e.observed) c.said.view_is) in
    let compressed : e.compressed ≡ s.compressed =
    sym (ap (λ (e : Envelope). e.compressed) c.said.view_is) in (
      (λ _. (
        four,
        text ∙ sym (kept_fields octets head e c.requires kept four)
            ∙ (λ i. fields_from 4 (head4_with (drop 4 head) []) (count i) (observed i) (compressed i)
            (listed i)),
      )),
      e.head.master_version,
      subst (λ t. SaysAgain c.keep.new.self e.head.master_version t) (sym text) c.keep.ensures,
    )
