use Rattle.std.proofs.Common.{◌∙◌, sym, ap, codes, refl}
use Rattle.std.specs.Str.{bytes_eq}
use Rattle.bufr_listing_reader.specs.Cursors.{is_end}
use Rattle.bufr_listing_reader.proofs.PrintedFacts.{same_test}
use Rattle.bufr_listing_reader.proofs.subsets.ends.Goals as goal

pub returns-in-Some : goal.returns-in-Some
returns-in-Some c =
    let p = rw c.in-Some.is at c.peek.ensures in
    c.eq.ensures ∙ ap (λ w. bytes_eq c.in-Some.line.text.now w) c.as_slice.ensures
    ∙ sym (ap is_end p.1 ∙ same_test c.in-Some.line.text.now (codes "end") refl)
