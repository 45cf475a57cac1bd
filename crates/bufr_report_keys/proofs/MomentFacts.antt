-- The time of a report, part by part: for `laws::moments_are_dates` and `day_of`.
use Rattle.std.proofs.Common.{◌≡◌, ℕ, ◌≤◌, Bool, true, false, cond, Option, Some, None, List, ℤ}
use Rattle.std.proofs.Common.{pos, negsuc, ◌≤ℤ◌, refl, ap, sym, ◌∙◌, subst, arith}
use Rattle.std.specs.Prelude.{◌&&◌, int_le, unsigned_abs}
use Rattle.jiff.specs.Words.{days_in_month}
use Rattle.jiff.proofs.SpanFacts.{signed_arith}
use Rattle.bufr_fields.specs.declared.field.Field.{Field}
use Rattle.bufr_entries.specs.declared.key.Moment.{Moment}
use Rattle.bufr_report_keys.specs.declared.elements.TheConstants.{YEAR, MONTH, DAY, HOUR, MINUTE}
use Rattle.bufr_report_keys.specs.declared.elements.TheConstants.{SECOND}
use Rattle.bufr_report_keys.specs.Usable.{◌>>=◌, element_number}
use Rattle.bufr_report_keys.specs.Keys.{greatest_year, from_to, sixtieth, moment}
use Rattle.bufr_report_keys.specs.Laws.{SaidOrZero, IsSaid}

-- ---- steps of a chain

bind_some : {A B : Type 0} (x : Option A) (f : A → Option B) (y : B) → (x >>= f) ≡ Some y
    → (a : A) × (x ≡ Some a) × (f a ≡ Some y)
bind_some (Some a) f y e = (a, refl, e)
bind_some None f y e = absurd cc

then_some : {A B : Type 0} (x : Option A) (f : A → Option B) (a : A) → x ≡ Some a → (x >>= f) ≡ f a
then_some x f a e = ap (λ o. o >>= f) e

tested_some : {A : Type 0} (b : Bool) (x y : A) → cond b (Some x) None ≡ Some y
    → (b ≡ true) × (x ≡ y)
tested_some true x y e = (refl, cc)
tested_some false x y e = absurd cc

both_true : (a b : Bool) → (a && b) ≡ true → (a ≡ true) × (b ≡ true)
both_true true b h = (refl, h)
both_true false b h = absurd cc

-- ---- numbers in a range

within : (low high : ℕ) (z : ℤ) (n : ℕ) → from_to low high z ≡ Some n
    → (z ≡ pos n) × (low ≤ n) × (n ≤ high)
within low high (pos k) n h =
    let t = tested_some (int_le (pos low) (pos k) && int_le (pos k) (pos high)) k n h in
    let b = both_true (int_le (pos low) (pos k)) (int_le (pos k) (pos high)) t.0 in
    let is = t.1 in
    let b0 = b.0 in
    let b1 = b.1 in
    (ap pos is, grind (arith, signed_arith, b0, b1, is), grind (arith, signed_arith, b0, b1, is))
within low high (negsuc k) n h =
    let t = tested_some (int_le (pos low) (negsuc k) && int_le (negsuc k) (pos high))
    (unsigned_abs (negsuc k)) n h in
    let b = both_true (int_le (pos low) (negsuc k)) (int_le (negsuc k) (pos high)) t.0 in
    let b0 = b.0 in
    absurd (grind (arith, signed_arith, b0))

in_range : (low high n : ℕ) → low ≤ n → n ≤ high → from_to low high (pos n) ≡ Some n
in_range low high n l h =
    let b0 : int_le (pos low) (pos n) ≡ true = grind (arith, signed_arith, l) in
    let b1 : int_le (pos n) (pos high) ≡ true = grind (arith, signed_arith, h) in
    rw (b0, b1) refl

sixtieth_is : (x : Option ℤ) (n : ℕ) → sixtieth x ≡ Some n → SaidOrZero x n × (n ≤ 59)
sixtieth_is None n h = let e : 0 ≡ n = cc in (cc, omega arith)
sixtieth_is (Some z) n h = let w = within 0 59 z n h in (w.0, w.2)

is_sixtieth : (x : Option ℤ) (n : ℕ) → SaidOrZero x n → n ≤ 59 → sixtieth x ≡ Some n
is_sixtieth None n h b = let e : 0 ≡ n = cc in ap Some e
is_sixtieth (Some z) n h b = ap (from_to 0 59) h ∙ in_range 0 59 n (omega arith) b

signed : (a b : ℕ) → a ≤ b → pos a ≤ℤ pos b
signed a b h = omega (arith, signed_arith)

unsigned : (a b : ℕ) → pos a ≤ℤ pos b → a ≤ b
unsigned a b h = omega (arith, signed_arith)

low_year : (n : ℕ) → negsuc 9998 ≤ℤ pos n
low_year n = omega (arith, signed_arith)

-- ---- days that each month has

pub in_short_month : (y : ℤ) (m : ℕ) → 28 ≤ days_in_month y m
in_short_month y m = grind arith

-- a day up to the 28th is one of any month
pub early_day : (y : ℤ) (m : ℕ) (z : ℤ) (n : ℕ) → from_to 1 28 z ≡ Some n
    → Some n ≡ from_to 1 (days_in_month y m) z
early_day y m z n h =
    let w = within 1 28 z n h in
    let days = in_short_month y m in
    let last = w.2 in
    sym (ap (from_to 1 (days_in_month y m)) w.0
    ∙ in_range 1 (days_in_month y m) n w.1 (omega (arith, days, last)))

-- ---- the time

pub moment_is_said : (fields : List Field) (m : Moment) → moment fields ≡ Some m → IsSaid fields m
moment_is_said fields m h =
    let year = bind_some (element_number YEAR fields >>= from_to 1 greatest_year) _ m h in
    let y0 = bind_some (element_number YEAR fields) (from_to 1 greatest_year) year.0 year.1 in
    let yr = within 1 greatest_year y0.0 year.0 y0.2 in
    let month = bind_some (element_number MONTH fields >>= from_to 1 12) _ m year.2 in
    let m0 = bind_some (element_number MONTH fields) (from_to 1 12) month.0 month.1 in
    let mo = within 1 12 m0.0 month.0 m0.2 in
    let days = days_in_month (pos year.0) month.0 in
    let day = bind_some (element_number DAY fields >>= from_to 1 days) _ m month.2 in
    let d0 = bind_some (element_number DAY fields) (from_to 1 days) day.0 day.1 in
    let da = within 1 days d0.0 day.0 d0.2 in
    let hour = bind_some (element_number HOUR fields >>= from_to 0 23) _ m day.2 in
    let h0 = bind_some (element_number HOUR fields) (from_to 0 23) hour.0 hour.1 in
    let ho = within 0 23 h0.0 hour.0 h0.2 in
    let minute = bind_some (sixtieth (element_number MINUTE fields)) _ m hour.2 in
    let second = bind_some (sixtieth (element_number SECOND fields)) _ m minute.2 in
    let mi = sixtieth_is (element_number MINUTE fields) minute.0 minute.1 in
    let se = sixtieth_is (element_number SECOND fields) second.0 second.1 in
    let said : Moment = record {
      year = year.0;
      month = month.0;
      day = day.0;
      hour = hour.0;
      minute = minute.0;
      second = second.0;
    } in
    let same : said ≡ m = cc in
    let facts : IsSaid fields said = record {
      year = y0.1 ∙ ap Some yr.0;
      month = m0.1 ∙ ap Some mo.0;
      day = d0.1 ∙ ap Some da.0;
      hour = h0.1 ∙ ap Some ho.0;
      minute = mi.0;
      second = se.0;
      date = (
        (low_year year.0, signed year.0 greatest_year yr.2),
        (signed 1 month.0 mo.1, signed month.0 12 mo.2),
        (signed 1 day.0 da.1, signed day.0 days da.2),
      );
      from_year_1 = yr.1;
      hours = ho.2;
      minutes = mi.1;
      seconds = se.1;
    } in
    subst (IsSaid fields) same facts

pub said_is_moment : (fields : List Field) (m : Moment) → IsSaid fields m → moment fields ≡ Some m
said_is_moment fields m s =
    let days = days_in_month (pos m.year) m.month in
    let year : (element_number YEAR fields >>= from_to 1 greatest_year) ≡ Some m.year =
    then_some (element_number YEAR fields) (from_to 1 greatest_year) (pos m.year) s.year
    ∙ in_range 1 greatest_year m.year s.from_year_1 (unsigned m.year greatest_year s.date.0.1) in
    let month : (element_number MONTH fields >>= from_to 1 12) ≡ Some m.month =
    then_some (element_number MONTH fields) (from_to 1 12) (pos m.month) s.month
    ∙ in_range 1 12 m.month (unsigned 1 m.month s.date.1.0) (unsigned m.month 12 s.date.1.1) in
    let day : (element_number DAY fields >>= from_to 1 days) ≡ Some m.day =
    then_some (element_number DAY fields) (from_to 1 days) (pos m.day) s.day
    ∙ in_range 1 days m.day (unsigned 1 m.day s.date.2.0) (unsigned m.day days s.date.2.1) in
    let hour : (element_number HOUR fields >>= from_to 0 23) ≡ Some m.hour =
    then_some (element_number HOUR fields) (from_to 0 23) (pos m.hour) s.hour
    ∙ in_range 0 23 m.hour (omega arith) s.hours in
    let minute = is_sixtieth (element_number MINUTE fields) m.minute s.minute s.minutes in
    let second = is_sixtieth (element_number SECOND fields) m.second s.second s.seconds in
    then_some (element_number YEAR fields >>= from_to 1 greatest_year) _ m.year year
    ∙ then_some (element_number MONTH fields >>= from_to 1 12) _ m.month month
    ∙ then_some (element_number DAY fields >>= from_to 1 days) _ m.day day
    ∙ then_some (element_number HOUR fields >>= from_to 0 23) _ m.hour hour
    ∙ then_some (sixtieth (element_number MINUTE fields)) _ m.minute minute
    ∙ then_some (sixtieth (element_number SECOND fields)) _ m.second second
