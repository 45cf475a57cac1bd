-- The clause `columns` of `line_of`: the value of the option, or the empty text.
use Rattle.std.proofs.Common.{◌≡◌, [], ap, refl, ◌∙◌, Option, Some, None, option_map, unwrap_or, Bor}
use Rattle.clap.specs.Words.{Text}
use Rattle.bufr_select_engine.proofs.command_line.line_of.Goals as goal

-- the text of a value, or else another
text_or : (o : Option (Bor Text)) (other : Bor Text)
    → (unwrap_or o other).now ≡ unwrap_or (option_map (λ s. s.now) o) other.now
text_or None other = refl
text_or (Some s) other = refl

pub returns-clause-columns : goal.returns-clause-columns
returns-clause-columns c =
    ap (λ (b : Bor Text). b.now) c.unwrap_or.ensures
    ∙ text_or c.value.result _
    ∙ ap (λ (o : Option Text). unwrap_or o []) c.value.ensures
