use Rattle.std.proofs.Common.{◌≡◌, ℕ, pos, arith, ◌≤◌, unsigned_abs, to_z, of_z, to_z-of_z, w8, w16, w32, FitsSigned, ℤ, ◌∙◌, ap, negsuc}
use Rattle.std.proofs.lemmas.Int.{ints}
use Rattle.jiff_core.proofs.SignedLemmas.{signed_arith, one_part}
use Rattle.jiff_core.specs.Date.{epoch_day}
use Rattle.jiff_core.specs.Calendar.{IsEpochDay, IsBetween}
use Rattle.civil_time.specs.LocalTime.{change_day}
use Rattle.civil_time.proofs.Changes.{change_day-date}
use Rattle.civil_time.proofs.zone.ChangeDate.day_in.Goals as goal
use Rattle.civil_time.proofs.zone.ChangeDate.day_in.Goals.{then-self-eq5, else-self-eq5}

small : (n x : ℕ) → pos n ≡ to_z w8 x → x ≤ 6 → n ≡ x
small n x e h = omega (arith, ints)

kept : (w : ℕ) → w ≤ 5 → to_z w8 w ≡ pos w
kept w h = omega (arith, ints)

year_is : (z : ℤ) → IsBetween (pos 1970) (pos 3999) z → (to_z w16 (of_z w16 z) ≡ pos (unsigned_abs z)) × (1970 ≤ unsigned_abs z) × (unsigned_abs z ≤ 3999)
year_is z h =
    let fits : FitsSigned w16 z = omega (arith, signed_arith) in
    (to_z-of_z fits ∙ omega (arith, signed_arith, one_part z), omega (arith, signed_arith), omega (arith, signed_arith, one_part z))

date_is : (c : goal.After-to_unix_epoch_day) → epoch_day c.unwrap-date.result ≡ pos (change_day c.args.self (unsigned_abs c.args.year))
date_is c =
    let self = c.args.self in
    let is = c.requires.date in
    let year = year_is c.args.year c.requires.year in
    let found = rw c.unwrap-date.ensures at c.nth_weekday_of_month.ensures.value in
    let w = rw c.unwrap-weekday.ensures at c.from_sunday_zero_offset.ensures.value in
    let last : self.week ≡ 5 → to_z w8 c.if-self-eq5.nth-bits ≡ negsuc 0 = λ e. elim c.if-self-eq5.branch [ then-self-eq5 w ↦ w.nth-is | else-self-eq5 w ↦ absurd (w.if-self-eq5.false e) ] in
    let other : ¬ (self.week ≡ 5) → to_z w8 c.if-self-eq5.nth-bits ≡ pos self.week = λ e. elim c.if-self-eq5.branch [ then-self-eq5 w ↦ absurd (e w.if-self-eq5.true) | else-self-eq5 w ↦ w.nth-is ∙ kept self.week is.week.1 ] in
    change_day-date self is c.constrain-first.result c.unwrap-date.result _ (unsigned_abs c.args.year) c.unwrap-weekday.result
    (c.constrain-first.ensures.year ∙ year.0) year.1 year.2 c.constrain-first.ensures.month (small _ self.weekday w is.weekday)
    last other found

number_is : (r e : ℤ) (n : ℕ) → r ≡ e → e ≡ pos n → IsEpochDay r → (r ≡ pos n) × (unsigned_abs (to_z w32 (of_z w32 r)) ≡ n) × (n ≤ 2_932_896)
number_is r e n a b h =
    let is : r ≡ pos n = a ∙ b in
    let limit : n ≤ 2_932_896 = omega (arith, signed_arith) in
    let fits : FitsSigned w32 r = omega (arith, signed_arith) in
    (is, ap unsigned_abs (to_z-of_z fits ∙ is), limit)

pub overflow_cast-result : goal.overflow_cast-result
overflow_cast-result c =
    let is = number_is _ _ _ c.to_unix_epoch_day.ensures.value (date_is c) c.to_unix_epoch_day.ensures.bound in
    rw is.0 (omega (arith, ints, c.to_unix_epoch_day.ensures.bound))

pub returns-clause-value : goal.returns-clause-value
returns-clause-value c = (number_is _ _ _ c.to_unix_epoch_day.ensures.value (date_is c) c.to_unix_epoch_day.ensures.bound).1

pub returns-clause-limit : goal.returns-clause-limit
returns-clause-limit c =
    let is = number_is _ _ _ c.to_unix_epoch_day.ensures.value (date_is c) c.to_unix_epoch_day.ensures.bound in
    rw is.1 is.2
