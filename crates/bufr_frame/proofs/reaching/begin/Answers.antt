use Rattle.std.proofs.Common.{◌≡◌, ◌+◌, ◌≤◌, ◌⊎◌, ◌++◌, length, drop, take, ap, ◌∙◌, arith, inl}
use Rattle.std.proofs.Common.{inr, length-drop}
use Rattle.std.proofs.lemmas.List.{take_rest, length-take-le}
use Rattle.std.proofs.lemmas.Bool.Decides.{leb_tells}
use Rattle.bufr_frame.proofs.ReachLaws.{passed_begun}
use Rattle.bufr_frame.proofs.reaching.begin.Goals as goal

pub returns : goal.returns
returns c =
    let rest = c.args.rest.now in
    let skip = c.next_mark-skip.result in
    let more = c.min-more.result in
    let mark = c.next_mark-skip.ensures in
    let within = mark.within in
    let left = take_rest rest skip in
    let size = length-drop skip rest in
    let some = c.requires.some in
    let least = c.min-more.ensures in
    let room : skip + more ≤ length rest = omega (arith, ap length left) in
    let fits : length (take more (drop skip rest)) ≡ more =
    length-take-le more (drop skip rest) (omega arith) in
    let enough : (4 ≤ more) ⊎ (length rest ≤ skip + more) =
    elim (leb_tells 4 more)
    [ inl a ↦ inl a.1 | inr a ↦ let few = a.1 in inr (omega (arith, ap length left)) ] in
    record {
      same = tt;
      more = record {
        some = omega (arith, ap length left);
        within = room;
        kept = take more (drop skip rest);
        appended =
            c.in_ok-extend_from_slice.ensures.items
            ∙ ap (λ t. c.args.octets.now.items ++ take more t) left;
        short = omega arith;
        passed = passed_begun rest skip more room enough (λ k l. mark.others k (omega arith) l);
      };
    }
