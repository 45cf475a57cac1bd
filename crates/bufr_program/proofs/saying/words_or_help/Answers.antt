-- The words stay as they are if there are some.
use Rattle.std.proofs.Common.{◌≡◌, ℕ, List, [], ◌∷◌, false, IfOk, map, string_bytes, rules, refl, sym}
use Rattle.std.proofs.Common.{subst, length}
use Rattle.std.specs.Bool.{◌==◌}
use Rattle.std.proofs.lemmas.Iterator.{YieldsList-from_slice, YieldsList-from_map_by}
use Rattle.std.proofs.lemmas.Iterator.Consumers.{map_from_collect}
use Rattle.bufr_program.specs.Words.{or_help}
use Rattle.bufr_program.proofs.saying.words_or_help.Goals as goal

some_stay : {A : Type 0} (f : A → List ℕ) (words : List A) → false ≡ (length words == 0)
    → or_help (map f words) ≡ map f words
some_stay f [] some = absurd cc
some_stay f (word ∷ words) some = refl

pub returns : goal.returns
returns c =
    let yields = map_from_collect _ c.collect.ensures.ran
    (YieldsList-from_map_by _ _ _ (YieldsList-from_slice c.args.words.now cc)
    c.map.ensures.closure (λ x r q k. search rules)) in
    subst (λ (ts : List (List ℕ)). IfOk c.collect.result (λ texts.
    map (λ text. text.now) texts.items ≡ ts))
    (sym (some_stay string_bytes c.args.words.now c.if-is_empty.ensures)) yields
