-- Entry by entry, until the sink fails or none is left.
use Rattle.std.proofs.Common.{◌≡◌, ◌+◌, ◌≤◌, [], ◌∷◌, ◌++◌, length, take, sym, ap, subst, ◌∙◌}
use Rattle.std.proofs.Common.{arith, append_assoc}
use Rattle.std.proofs.lemmas.List.{length-append}
use Rattle.bufr_bits.specs.Devices.{Writes}
use Rattle.bufr_bits.specs.DeviceLaws.{Writes-more}
use Rattle.bufr_shelves.specs.Shelves.{lent}
use Rattle.bufr_gather.specs.Texts.{text}
use Rattle.bufr_shelves.specs.WalkLaws.{after-in-order, goes-on}
use Rattle.bufr_gather.specs.TextLemmas.{text-push, text-split, take-over}
use Rattle.bufr_archive.proofs.archive.Archive.write.Goals as goal

pub returns-in-Err-clause-front : goal.returns-in-Err-clause-front
returns-in-Err-clause-front g c =
    let i = c.loop.invariant in
    let h = c.in-Some.held in
    let e = lent h in
    let p = goes-on c.loop.next h i.todo c.in-Some.is i.next in
    let all : c.args.self.now.entries ≡ i.done ++ e ∷ p.0 = i.all ∙ ap (λ zs. i.done ++ zs) p.1 in
    let bytes : c.as_slice-bytes.result.now ≡ e.bytes = c.as_slice-bytes.ensures in
    let n = c.in-Err.field-0.written in
    let short : n ≤ length e.bytes =
    subst (λ xs. n ≤ length xs) bytes (omega (arith, c.in-Err.ensures.written)) in
    let same : text i.done ++ take n c.as_slice-bytes.result.now
    ≡ take (c.loop.written + n) (text c.args.self.now.entries) =
    ap (λ xs. text i.done ++ take n xs) bytes
    ∙ sym (take-over (text i.done) e.bytes (text p.0) n short)
    ∙ ap (λ k. take (k + n) (text i.done ++ (e.bytes ++ text p.0))) (sym i.counted)
    ∙ ap (take (c.loop.written + n)) (sym (ap text all ∙ text-split i.done p.0 e)) in
    subst (λ xs. Writes (g.W.Sink.writing c.args.sink.now) (g.W.Sink.writing c.write_all.new.sink)
    xs) same
    (Writes-more (g.W.Sink.writing c.args.sink.now) (g.W.Sink.writing c.loop.sink)
    (g.W.Sink.writing c.write_all.new.sink) (text i.done) (take n c.as_slice-bytes.result.now)
    i.wrote c.in-Err.ensures.front)

pub loop-preserved : goal.loop-preserved
loop-preserved g c =
    let i = c.loop.invariant in
    let h = c.in-Some.held in
    let e = lent h in
    let p = goes-on c.loop.next h i.todo c.in-Some.is i.next in
    let all : c.args.self.now.entries ≡ i.done ++ e ∷ p.0 = i.all ∙ ap (λ zs. i.done ++ zs) p.1 in
    let shelf = g.S.Shelf.entries c.self.inside.shelf in
    let view : c.args.self.now.entries ≡ shelf = sym (ap (λ v. v.entries) c.self.view_is) in
    let bytes : c.as_slice-bytes.result.now ≡ e.bytes = c.as_slice-bytes.ensures in
    let pushed : length (text (i.done ++ e ∷ [])) ≡ length (text i.done) + length e.bytes =
    ap length (text-push i.done e) ∙ length-append (text i.done) e.bytes in
    record {
      done = i.done ++ e ∷ [];
      todo = p.0;
      all = all ∙ sym (append_assoc i.done (e ∷ []) p.0);
      at = omega (arith, i.at, length-append i.done (e ∷ []));
      next = c.after-next.ensures ∙ after-in-order shelf i.done p.0 e
          (g.met.S.Shelf.in_order c.self.inside.shelf) (sym view ∙ all);
      wrote = subst (λ xs. Writes (g.W.Sink.writing c.args.sink.now)
          (g.W.Sink.writing c.write_all.new.sink) xs)
          (ap (λ xs. text i.done ++ xs) bytes ∙ sym (text-push i.done e))
          (Writes-more (g.W.Sink.writing c.args.sink.now) (g.W.Sink.writing c.loop.sink)
          (g.W.Sink.writing c.write_all.new.sink) (text i.done) c.as_slice-bytes.result.now
          i.wrote c.in_default-write_all.ensures.ok);
      works = c.in_default-write_all.ensures.works;
      counted = omega (arith, i.counted, pushed, ap length bytes);
      bound = omega (arith, i.bound);
    }
