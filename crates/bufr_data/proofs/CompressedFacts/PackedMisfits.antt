-- The fault of writing compressed subsets is the first misfit.
use Rattle.std.proofs.Common.{◌≡◌, ℕ, suc, ◌+◌, ◌*◌, ◌<◌, true, List, [], ◌∷◌, ◌++◌, length, map}
use Rattle.std.proofs.Common.{Ok, Err, refl, sym, ap, subst, ◌∙◌, arith, inl, inr}
use Rattle.std.specs.Prelude.{nat_lt}
use Rattle.std.specs.List.{AllByRecursion}
use Rattle.std.proofs.lemmas.Bool.{lt-ltb, ltb-true}
use Rattle.bufr_base.specs.AnswerLaws.{bind_err}
use Rattle.bufr_expand.specs.Trees.{Tree}
use Rattle.bufr_expand.specs.Courses.{course}
use Rattle.bufr_fields.specs.declared.field.Subset.{Subset}
use Rattle.bufr_fields.specs.declared.fault.MisfitFault.{MisfitFault}
use Rattle.bufr_fields.specs.declared.fault.MisfitFault.TheVariants as misfits
use Rattle.bufr_fields.specs.Forms.{items_of}
use Rattle.bufr_data.specs.Causes.{FirstMisfit}
use Rattle.bufr_data.specs.Compressed.{Column, subsets_from}
use Rattle.bufr_data.specs.Compressed.Best.{columns_of, columns_of_all, packed, CanBeWritten}
use Rattle.bufr_data.specs.Data.{each_fits, written_bits}
use Rattle.bufr_fields.specs.Fits.{FitsAlone}
use Rattle.bufr_data.specs.Compressed.Causes.{FirstUnpacked, misfit, apart, too_many}
use Rattle.bufr_fields.specs.FitLaws.{counted_fit, fitting_counted}
use Rattle.bufr_data.proofs.CauseFacts.{write_refused_first, first_write_refused}
use Rattle.bufr_data.proofs.AnswerFacts.{guard_err}
use Rattle.bufr_data.proofs.CompressedFacts.Packed.{columns_whole, each_fit}
use Rattle.bufr_data.proofs.CompressedFacts.Written.{subsets_can, columns_written, each_counted}
use Rattle.bufr_data.proofs.CompressedFacts.Misfits.{columns_apart, apart_columns}
use Rattle.bufr_fields.specs.Limits.{most_values}
use Rattle.bufr_fields.specs.CourseLaws.{Laws}

-- a subset that does not fit alone, and those before it
abbrev MisfitFrom : Tree → ℕ → List Subset → MisfitFault → Type 0
MisfitFrom tree j subsets fault =
    (before : List Subset) × (s : Subset) × (behind : List Subset)
    × (subsets ≡ before ++ s ∷ behind) × AllByRecursion (FitsAlone tree) before
    × FirstMisfit tree (j + length before) 0 s.fields fault

each_misfit : Laws → (tree : Tree) (j : ℕ) (subsets : List Subset) (fault : MisfitFault)
    → each_fits tree j subsets ≡ Err fault → MisfitFrom tree j subsets fault
each_misfit laws tree j [] fault e = absurd cc
each_misfit laws tree j (s ∷ subsets) fault e =
    elim (bind_err (items_of j 1 (course tree 0) s.fields) _ fault e) [
      | inl none ↦
          let same : j ≡ j + 0 = omega arith in (
            [],
            s,
            subsets,
            refl,
            tt,
            subst (λ k. FirstMisfit tree k 0 s.fields fault) same
                (write_refused_first laws tree j 0 s.fields fault (omega arith) none),
          )
      | inr x ↦
          let h = each_misfit laws tree (j + 1) subsets fault x.2 in
          let same : j + 1 + length h.0 ≡ j + suc (length h.0) = omega arith in (
            s ∷ h.0,
            h.1,
            h.2,
            ap (λ ss. s ∷ ss) h.3,
            ((x.0, counted_fit laws.unrolled tree j 0 x.0 s.fields (omega arith) x.1), h.4),
            subst (λ k. FirstMisfit tree k 0 h.1.fields fault) same h.5,
          )
    ]

misfit_each : Laws
    → (tree : Tree) (j : ℕ) (before : List Subset) (s : Subset) (behind : List Subset)
    (fault : MisfitFault) → AllByRecursion (FitsAlone tree) before
    → FirstMisfit tree (j + length before) 0 s.fields fault
    → each_fits tree j (before ++ s ∷ behind) ≡ Err fault
misfit_each laws tree j [] s behind fault fit h =
    let same : j + 0 ≡ j = omega arith in
    rw (first_write_refused laws tree j 0 s.fields fault (omega arith)
    (subst (λ k. FirstMisfit tree k 0 s.fields fault) same h)) refl
misfit_each laws tree j (t ∷ before) s behind fault fit h =
    let same : j + suc (length before) ≡ j + 1 + length before = omega arith in
    rw (fitting_counted laws.allowed tree j 0 fit.0.0 t.fields fit.0.1)
    (misfit_each laws tree (j + 1) before s behind fault fit.1
    (subst (λ k. FirstMisfit tree k 0 s.fields fault) same h))

too_many_err : (tree : Tree) (s : Subset) (subsets : List Subset) (columns : List Column)
    (fault : MisfitFault) → AllByRecursion (FitsAlone tree) (s ∷ subsets)
    → columns_of 1 s.fields (map (λ (t : Subset). t.fields) subsets) ≡ Ok columns
    → packed (length (s ∷ subsets)) columns ≡ Err fault → FirstUnpacked tree (s ∷ subsets) fault
too_many_err tree s subsets columns fault fit e p =
    elim (guard_err (nat_lt most_values (length columns * length (s ∷ subsets))) _ fault _ p) [
      | inl past ↦
          too_many columns fit (omega arith) (columns_whole s subsets columns e)
          (subsets_can s subsets columns e) (ltb-true _ _ past.0) (sym past.1)
      | inr ok ↦ let bad = ok.1 in absurd cc
    ]

pub unpacked_is : Laws → (tree : Tree) (subsets : List Subset) (fault : MisfitFault)
    → written_bits tree true subsets ≡ Err fault → FirstUnpacked tree subsets fault
unpacked_is laws tree [] fault e = absurd cc
unpacked_is laws tree (s ∷ subsets) fault e =
    elim (bind_err (each_fits tree 1 (s ∷ subsets)) _ fault e) [
      | inl none ↦ let h = each_misfit laws tree 1 (s ∷ subsets) fault none in
          misfit h.0 h.1 h.2 h.3 h.4 h.5
      | inr x ↦
          let fit = each_fit laws.unrolled tree 1 (s ∷ subsets) x.0 x.1 in
          elim (bind_err (columns_of_all (s ∷ subsets)) _ fault x.2) [
            | inl none ↦
                apart s subsets fit refl
                (columns_apart 1 s.fields (map (λ (t : Subset). t.fields) subsets) fault none)
            | inr y ↦ too_many_err tree s subsets y.0 fault fit y.1 y.2
          ]
    ]

too_many_again : Laws
    → (tree : Tree) (subsets : List Subset) (columns : List Column) (fault : MisfitFault)
    → AllByRecursion (FitsAlone tree) subsets → 0 < length subsets
    → subsets ≡ subsets_from 0 (length subsets) columns
    → AllByRecursion (CanBeWritten (length subsets)) columns
    → most_values < length columns * length subsets → fault ≡ misfits.TooLarge
    → written_bits tree true subsets ≡ Err fault
too_many_again laws tree [] columns fault fit some whole can past is = absurd (omega (arith, some))
too_many_again laws tree (s ∷ subsets) columns fault fit some whole can past is =
    let found : columns_of_all (s ∷ subsets) ≡ Ok columns =
    ap columns_of_all whole ∙ columns_written 1 (length subsets) columns can in
    rw (
      each_counted laws.allowed tree 1 (s ∷ subsets) fit,
      found,
      lt-ltb most_values (length columns * length (s ∷ subsets)) past,
    ) (ap (λ f. Err f) (sym is))

pub unpacked_again : Laws → (tree : Tree) (subsets : List Subset) (fault : MisfitFault)
    → FirstUnpacked tree subsets fault → written_bits tree true subsets ≡ Err fault
unpacked_again laws tree subsets fault (misfit before s behind is fit h) =
    ap (written_bits tree true) is ∙ rw (misfit_each laws tree 1 before s behind fault fit h) refl
unpacked_again laws tree subsets fault (apart s others fit is h) =
    let all = subst (λ ss. AllByRecursion (FitsAlone tree) ss) is fit in
    ap (written_bits tree true) is
    ∙ rw (
      each_counted laws.allowed tree 1 (s ∷ others) all,
      apart_columns 1 s.fields (map (λ (t : Subset). t.fields) others) fault h,
    ) refl
unpacked_again laws tree subsets fault (too_many columns fit some whole can past is) =
    too_many_again laws tree subsets columns fault fit some whole can past is
