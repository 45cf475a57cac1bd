-- The clause `ok` of `push_field`: the descriptors.
use Rattle.std.proofs.Common.{◌≡◌, ◌∙◌, ℕ, List, [], ◌∷◌, ◌++◌, false, Ok, refl, sym, ap}
use Rattle.std.specs.List.{join_by}
use Rattle.bufr_tables.specs.Descriptors.{six_digits}
use Rattle.bufr_sections.specs.Sections.{Envelope}
use Rattle.bufr_frame.specs.declared.frames.Found.{Found}
use Rattle.bufr_io.specs.Taking.{frame_at}
use Rattle.bufr_ls_engine.specs.Rows.{field_as, is_short, said_in}
use Rattle.bufr_ls_engine.specs.declared.column.Column.{Column}
use Rattle.bufr_ls_engine.specs.declared.column.Column.TheVariants as columns
use Rattle.bufr_ls_engine.proofs.row.push_field.Goals as goal

-- a column that is not short has the descriptors
long_field : (column : Column) (input message : ℕ) (frame : Found) (e : Envelope)
    → is_short column ≡ false
    → field_as column input message frame (Ok e) ≡ join_by six_digits (32 ∷ []) e.descriptors
unfolding field_as said_in
long_field columns.Descriptors input message frame e long = refl
long_field _ input message frame e long = absurd cc

pub returns-clause-ok : goal.returns-clause-ok
returns-clause-ok c =
    let old = c.args.text.now.items in
    let field = long_field c.args.column c.args.frame.now.input c.args.frame.now.message
    (frame_at c.args.frame.now.place c.args.frame.now.octets.now) c.args.said.now
    (sym c.is_short.ensures ∙ c.if-is_short.false) in
    c.in_ok-push.ensures.items
    ∙ ap (λ (t : List ℕ). t ++ c.args.end ∷ [])
    (c.in_ok-push_listed.ensures.ok
    ∙ ap (λ (t : List ℕ). old ++ t) (sym field))
