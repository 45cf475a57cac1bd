-- `count_changes` of joined lists, and of what is kept already: for `Archive::add_message` and
-- `Depot::step`.
use Rattle.std.proofs.Common.{◌≡◌, ◌+◌, cond, List, [], ◌∷◌, ◌++◌, refl, sym, ap, ◌∙◌, arith}
use Rattle.std.proofs.Common.{append_assoc}
use Rattle.std.proofs.lemmas.List.{append-nil}
use Rattle.bufr_entries.specs.declared.entry.Entry.{Entry}
use Rattle.bufr_entries.specs.Entries.{kept, changes}
use Rattle.bufr_entries.specs.Orders.{kept-early, kept-kept}
use Rattle.bufr_entries.specs.ChangeLaws.{changes-kept}
use Rattle.bufr_archive.specs.Adding.{count_changes}

count_same : (old others es : List Entry) → kept old ≡ kept others
    → count_changes old es ≡ count_changes others es
count_same old others [] h = refl
count_same old others (e ∷ es) h =
    let tells : changes old e ≡ changes others e =
    sym (changes-kept old e) ∙ ap (λ ks. changes ks e) h ∙ changes-kept others e in
    let more : kept (old ++ e ∷ []) ≡ kept (others ++ e ∷ []) =
    sym (kept-early old (e ∷ [])) ∙ ap (λ (ks : List Entry). kept (ks ++ e ∷ [])) h
    ∙ kept-early others (e ∷ []) in
    ap (λ b. cond b 1 0 + count_changes (old ++ e ∷ []) es) tells
    ∙ ap (λ n. cond (changes others e) 1 0 + n)
    (count_same (old ++ e ∷ []) (others ++ e ∷ []) es more)

pub count_kept : (old es : List Entry) → count_changes (kept old) es ≡ count_changes old es
count_kept old es = count_same (kept old) old es (kept-kept old)

pub count_more : (old es fs : List Entry)
    → count_changes old (es ++ fs) ≡ count_changes old es + count_changes (old ++ es) fs
count_more old [] fs =
    ap (λ (os : List Entry). count_changes os fs) (sym (append-nil old))
    ∙ (let z : count_changes (old ++ []) fs ≡ 0 + count_changes (old ++ []) fs = omega arith in z)
count_more old (e ∷ es) fs =
    let rest = count_more (old ++ e ∷ []) es fs
    ∙ ap (λ (os : List Entry). count_changes (old ++ e ∷ []) es + count_changes os fs)
    (append_assoc old (e ∷ []) es) in
    omega (arith, rest)
