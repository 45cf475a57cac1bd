use Rattle.std.proofs.Common.{◌≡◌, ℕ, suc, ◌+◌, ◌-◌, ◌*◌, ◌%◌, ◌^◌, ◌<◌, ◌≤◌, cond, sym, ap, ◌∙◌}
use Rattle.std.proofs.Common.{arith}
use Rattle.std.specs.Prelude.{nat_le}
use Rattle.std.proofs.lemmas.Bool.{le-leb, lt-leb}
use Rattle.std.proofs.lemmas.Nat.{one_shl}
use Rattle.bufr_fields.specs.Increments.{fewest_bits}
use Rattle.bufr_fields.proofs.increment.fewest_bits.Goals as goal

shift_is : (k : ℕ) → k < 64 → 1 * 2 ^ k % 340282366920938463463374607431768211456 ≡ 2 ^ k
shift_is k less = one_shl k 128 (omega (arith, less))

fewest_next : (k d : ℕ) → k < 64
    → fewest_bits (64 - k) k d
    ≡ cond (nat_le (d + 2) (2 ^ k)) k (fewest_bits (64 - (k + 1)) (k + 1) d)
unfolding fewest_bits
fewest_next k d less =
    let some : 64 - k ≡ suc (64 - (k + 1)) = omega (arith, less) in ap (λ m. fewest_bits m k d) some

fewest_done : (k d : ℕ) → 64 ≤ k → k ≤ 64 → fewest_bits (64 - k) k d ≡ 64
unfolding fewest_bits
fewest_done k d done within =
    let is : k ≡ 64 = omega (arith, done, within) in ap (λ m. fewest_bits (64 - m) m d) is

fewest_here : (k d whole : ℕ) → k < 64 → d + 2 ≤ 2 ^ k → whole ≡ fewest_bits (64 - k) k d
    → k ≡ whole
fewest_here k d whole less fits so_far =
    sym (so_far ∙ fewest_next k d less
    ∙ ap (λ b. cond b k (fewest_bits (64 - (k + 1)) (k + 1) d)) (le-leb (d + 2) (2 ^ k) fits))

fewest_later : (k d whole : ℕ) → k < 64 → 2 ^ k < d + 2 → whole ≡ fewest_bits (64 - k) k d
    → whole ≡ fewest_bits (64 - (k + 1)) (k + 1) d
fewest_later k d whole less more so_far =
    so_far ∙ fewest_next k d less
    ∙ ap (λ b. cond b k (fewest_bits (64 - (k + 1)) (k + 1) d)) (lt-leb (d + 2) (2 ^ k) more)

pub returns-then-from-k : goal.returns-then-from-k
returns-then-from-k c =
    let shift = shift_is c.loop-k.k c.loop-k-test.true in
    let fits : c.args.difference + 2 ≤ 2 ^ c.loop-k.k =
    omega (arith, c.if-from-k.true, shift, c.from.ensures) in
    fewest_here c.loop-k.k c.args.difference _ c.loop-k-test.true fits c.loop-k.invariant

pub loop-k-preserved : goal.loop-k-preserved
loop-k-preserved c =
    let shift = shift_is c.loop-k.k c.loop-k-test.true in
    let more : 2 ^ c.loop-k.k < c.args.difference + 2 =
    omega (arith, c.if-from-k.false, shift, c.from.ensures) in
    fewest_later c.loop-k.k c.args.difference _ c.loop-k-test.true more c.loop-k.invariant

pub returns : goal.returns
returns c =
    sym (c.loop-k.invariant
    ∙ fewest_done c.loop-k.k c.args.difference c.loop-k-test.false
    (c.loop-k.auto.k-end (omega arith)))
