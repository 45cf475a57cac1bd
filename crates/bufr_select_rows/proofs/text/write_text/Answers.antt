-- The clause `written` of `write_text`: plain octets.
use Rattle.std.proofs.Common.{◌≡◌, ◌∙◌, [], true, ap, cond, drop, sym, rules, tests}
use Rattle.std.specs.List.{list_all}
use Rattle.std.proofs.lemmas.Iterator.{YieldsList-from_slice}
use Rattle.std.proofs.lemmas.Iterator.Search.{all_from_yields_List}
use Rattle.csv.specs.Writing.{default_writer, field_text}
use Rattle.bufr_select_rows.specs.TextCells.{is_plain, shown_octets}
use Rattle.bufr_select_rows.specs.Values.{shown_text, trimmed}
use Rattle.bufr_select_rows.proofs.BareFacts.{bare_text}
use Rattle.bufr_select_rows.proofs.TextFacts.{plain_bare, plain_themselves, shown_themselves}
use Rattle.bufr_select_rows.proofs.WrittenFacts.{text_same}
use Rattle.bufr_select_rows.proofs.text.write_text.Goals as goal

pub returns-clause-written : goal.returns-clause-written
returns-clause-written c =
    let octets = c.args.octets.now in
    let shown = c.trimmed-shown.result.now in
    let ran : c.all.result ≡ list_all is_plain shown =
    all_from_yields_List is_plain _ _ c.all.result c.all.ensures.ran
    (YieldsList-from_slice shown c.iter.ensures.rest) (λ x b q k. search (rules, tests)) in
    let all : list_all is_plain shown ≡ true = sym ran ∙ c.if-not-all.false in
    let same : shown ≡ shown_octets octets =
    sym (shown_themselves shown (plain_themselves shown all))
    ∙ ap shown_text c.trimmed-shown.ensures
    ∙ ap (λ b. cond b [] (shown_text (trimmed octets)))
    (sym (sym c.are_ones.ensures ∙ c.if-are_ones.false)) in
    text_same c.write_plain.result c.write_plain.new.room shown
    (field_text default_writer (shown_octets octets)) (drop c.args.end c.args.room.now)
    (sym (bare_text shown (plain_bare shown all)) ∙ ap (field_text default_writer) same)
    c.write_plain.ensures.written
