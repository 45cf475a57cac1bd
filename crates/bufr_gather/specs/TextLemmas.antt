-- Texts of entries written one by one: for `Archive::write`.
use Rattle.std.proofs.Common.{◌≡◌, ℕ, ◌+◌, ◌≤◌, length, take, List, [], ◌∷◌, ◌++◌, ap, ◌∙◌}
use Rattle.std.proofs.lemmas.List.{append-nil, take-append-le}
use Rattle.std.proofs.lemmas.Grind.{flat_map-append}
use Rattle.std.proofs.Math.Seq.{take-append-add}
use Rattle.bufr_entries.specs.declared.entry.Entry.{Entry}
use Rattle.bufr_gather.specs.Texts.{text}

pub text-push : (es : List Entry) (e : Entry) → text (es ++ e ∷ []) ≡ text es ++ e.bytes
text-push es e =
    flat_map-append (λ (f : Entry). f.bytes) es (e ∷ [])
    ∙ ap (λ zs. text es ++ zs) (append-nil e.bytes)

pub text-split : (es fs : List Entry) (e : Entry)
    → text (es ++ e ∷ fs) ≡ text es ++ (e.bytes ++ text fs)
text-split es fs e = flat_map-append (λ (f : Entry). f.bytes) es (e ∷ fs)

pub take-over : (xs ys zs : List ℕ) (n : ℕ) → n ≤ length ys
    → take (length xs + n) (xs ++ (ys ++ zs)) ≡ xs ++ take n ys
take-over xs ys zs n h =
    take-append-add xs (ys ++ zs) n ∙ ap (λ ws. xs ++ ws) (take-append-le n ys zs h)
