-- Increment by increment, until one is too large.
use Rattle.std.proofs.Common.{◌≡◌, ◌∙◌, ◌-◌, ◌*◌, drop, refl, ap, sym, arith}
use Rattle.bufr_bits.specs.Ends.{left}
use Rattle.bufr_data.proofs.CompressedFacts.Increments.{none_yet, none_left, one_raised, raised_fails}
use Rattle.bufr_data.proofs.CompressedFacts.Increments.{all_raised_so_far, enough_behind, moved_on, drop_is}
use Rattle.bufr_data.proofs.CompressedFacts.Increments.{first_below}
use Rattle.bufr_data.proofs.compressed.pass.read_increments.Goals as goal

pub loop-j-init : goal.loop-j-init
loop-j-init c =
    let whole : c.args.n - 0 ≡ c.args.n = omega arith in
    let none : 0 * c.args.k ≡ 0 = omega arith in
    record {
      octets = refl;
      onward = omega arith;
      enough = rw whole c.requires.enough;
      moved = sym (ap (λ m. drop m (left c.args.reader.now)) none);
      fits = λ h. absurd (omega (arith, h));
      so_far = none_yet _ _ _ _ _ 0 _;
    }

pub returns-in-None-clause-err : goal.returns-in-None-clause-err
returns-in-None-clause-err c =
    absurd
    (none_left c.args.n c.loop-j.j c.args.k _ c.loop-j-test.true c.loop-j.invariant.enough
    c.in-None.ensures.short)

pub returns-in-None-clause-octets : goal.returns-in-None-clause-octets
returns-in-None-clause-octets c =
    absurd
    (none_left c.args.n c.loop-j.j c.args.k _ c.loop-j-test.true c.loop-j.invariant.enough
    c.in-None.ensures.short)

pub returns-in-None-clause-onward : goal.returns-in-None-clause-onward
returns-in-None-clause-onward c =
    absurd
    (none_left c.args.n c.loop-j.j c.args.k _ c.loop-j-test.true c.loop-j.invariant.enough
    c.in-None.ensures.short)

pub returns-in-None-raised-clause-err : goal.returns-in-None-raised-clause-err
returns-in-None-raised-clause-err c =
    rw c.from.ensures
    (raised_fails c.args.i c.args.width c.args.minimum c.args.k c.args.n c.loop-j.j
    c.in-Some.increment (left c.args.reader.now) (left c.loop-j.reader)
    (left c.take.new.self) c.loop-j.first c.loop-j.equal
    c.loop-j-test.true c.loop-j.invariant.so_far c.in-Some.ensures.found
    c.in-None-raised.ensures.value)

pub loop-j-preserved : goal.loop-j-preserved
loop-j-preserved c =
    let gone =
    drop_is c.args.k c.in-Some.increment (left c.loop-j.reader)
    (left c.take.new.self) c.in-Some.ensures.found in
    let moved = c.in-Some.ensures.moved in
    record {
      octets = ap (λ r. r.octets) moved ∙ c.loop-j.invariant.octets;
      onward = let at = ap (λ r. r.place) moved in omega (arith, at, c.loop-j.invariant.onward);
      enough =
          enough_behind c.args.n c.loop-j.j c.args.k (left c.loop-j.reader)
          (left c.take.new.self) c.loop-j-test.true c.loop-j.invariant.enough gone;
      moved =
          moved_on c.loop-j.j c.args.k (left c.args.reader.now) (left c.loop-j.reader)
          (left c.take.new.self) c.loop-j.invariant.moved gone;
      fits =
          λ h. rw c.first_number-first.ensures
          (first_below c.loop-j.j c.in-Some-raised.number c.loop-j.first _
          c.in-Some-raised.ensures.fits c.loop-j.invariant.fits);
      so_far =
          rw (c.both-equal.ensures, c.first_number-first.ensures)
          (one_raised c.args.i c.args.width c.args.minimum c.args.k c.args.n c.loop-j.j
          c.in-Some.increment c.in-Some-raised.number (left c.args.reader.now)
          (left c.loop-j.reader) (left c.take.new.self) c.loop-j.first c.loop-j.equal
          c.loop-j-test.true c.loop-j.invariant.so_far c.in-Some.ensures.found
          c.in-Some-raised.ensures.value);
    }

pub returns-clause-ok : goal.returns-clause-ok
returns-clause-ok c =
    all_raised_so_far _ _ _ _ _ _ _ _ _ _ c.loop-j-test.false c.loop-j.invariant.so_far
