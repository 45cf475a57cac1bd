use Rattle.std.proofs.Common.{◌∙◌, sym, ap, List, ℕ, Bor}
use Rattle.std.specs.Prelude.{position, bytes_eq}
use Rattle.bufr_tables.specs.Titles.{title}
use Rattle.bufr_tables.specs.TableFiles.{found_or_absent}
use Rattle.bufr_tables.proofs.ColumnFacts.{position-map}
use Rattle.bufr_tables.proofs.columns.column_at.Goals as goal

pub returns-in-Some : goal.returns-in-Some
returns-in-Some c =
    ap (found_or_absent c.args.column)
    (c.in-Some.ensures
    ∙ ap (λ (w : List ℕ). position
    (λ (s : Bor (List ℕ)). bytes_eq s.now w) c.args.names.now) (c.as_bytes.ensures.value ∙ c.title.ensures)
    ∙ sym (position-map (λ (s : List ℕ). bytes_eq s (title c.args.column))
    (λ (s : Bor (List ℕ)). s.now) c.args.names.now))

pub returns-in-None : goal.returns-in-None
returns-in-None c =
    ap (found_or_absent c.args.column)
    (c.in-None.ensures
    ∙ ap (λ (w : List ℕ). position
    (λ (s : Bor (List ℕ)). bytes_eq s.now w) c.args.names.now) (c.as_bytes.ensures.value ∙ c.title.ensures)
    ∙ sym (position-map (λ (s : List ℕ). bytes_eq s (title c.args.column))
    (λ (s : Bor (List ℕ)). s.now) c.args.names.now))
