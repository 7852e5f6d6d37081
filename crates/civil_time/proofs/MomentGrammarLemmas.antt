-- A text is read as a moment where, and only where, it spells that moment.
use Rattle.std.proofs.Common.{◌≡◌, ◌↔◌, ℕ, ◌+◌, ◌*◌, ◌<◌, ◌≤◌, true, false, Bool, ◌&&◌, nat_le, nat_eq, cond, List, [], ◌∷◌, ◌++◌, length, take, drop, Option, None, Some, ℤ, pos, negsuc, neg_ℤ, ◌-ℤ◌, ◌*ℤ◌, ◌≤ℤ◌, int_le, refl, sym, ap, subst, ◌∙◌, arith, append-nil, length-append}
use Rattle.std.proofs.Math.Seq.{drop-append_seam}
use Rattle.std.proofs.lemmas.List.{take-append-drop}
use Rattle.std.proofs.lemmas.Bool.Decides.{nat_tests}
use Rattle.std.proofs.lemmas.Bool.{and_parts}
use Rattle.std.proofs.lemmas.Int.{ints}
use Rattle.jiff_core.proofs.SignedLemmas.{signed_arith}
use Rattle.civil_time.specs.Civil.{IsDayNumber}
use Rattle.civil_time.specs.DayText.{SpellsDay, day_of_text}
use Rattle.civil_time.specs.LocalTime.{IsMoment}
use Rattle.civil_time.specs.Reading.{◌>>=◌, after, two_digits_at, clock_at}
use Rattle.civil_time.specs.MomentText.{two_digits, clock_text, hours_text, date_at, whole_hours_at, offset_at, in_limits, moment_at}
use Rattle.civil_time.specs.MomentGrammar.{SpellsOffset, plus, minus, SpellsMoment}
use Rattle.civil_time.proofs.DayTexts.{spelled-is, day_text-length, day_of_text-means}
use Rattle.civil_time.proofs.ReadingLemmas.{bound, tested, after_sound, empty, two_digits_at-two_digits, two_digits_sound, clock_at-clock_text, clock_sound}

-- the day
ten_bytes : (date : List ℕ) (day : ℕ) → SpellsDay date day → length date ≡ 10
ten_bytes date day h = ap length (spelled-is date day h) ∙ day_text-length day

take_front : (date rest : List ℕ) → take (length date) (date ++ rest) ≡ date
take_front [] rest = refl
take_front (x ∷ xs) rest = ap (λ (t : List ℕ). x ∷ t) (take_front xs rest)

date_at-spelled : (date rest : List ℕ) (day : ℕ) → IsDayNumber day → SpellsDay date day → date_at (date ++ rest) ≡ Some (day, rest)
date_at-spelled date rest day limits h =
    let ten = ten_bytes date day h in
    let enough : nat_le 10 (length (date ++ rest)) ≡ true = (let k : 10 ≤ length (date ++ rest) = omega (arith, length-append date rest) in grind (arith, nat_tests)) in
    let front : take 10 (date ++ rest) ≡ date = ap (λ (n : ℕ). take n (date ++ rest)) (sym ten) ∙ take_front date rest in
    let back : drop 10 (date ++ rest) ≡ rest = ap (λ (n : ℕ). drop n (date ++ rest)) (sym ten) ∙ drop-append_seam date rest in
    let read : day_of_text date ≡ Some day = (day_of_text-means date day).1 (limits, h) in
    rw (enough, front, read, back) refl

date_sound : (text : List ℕ) (p : ℕ × List ℕ) → date_at text ≡ Some p → (date : List ℕ) × IsDayNumber p.0 × SpellsDay date p.0 × (text ≡ date ++ p.1)
date_sound text p h = go (nat_le 10 (length text)) refl h where
  go : (b : Bool) → nat_le 10 (length text) ≡ b → cond (nat_le 10 (length text)) (day_of_text (take 10 text) >>= λ day. Some (day, drop 10 text)) None ≡ Some p
      → (date : List ℕ) × IsDayNumber p.0 × SpellsDay date p.0 × (text ≡ date ++ p.1)
  go false e k = let none : None ≡ Some p = rw e at k in absurd (cc)
  go true e k =
      let a = bound (day_of_text (take 10 text)) (λ day. Some (day, drop 10 text)) p (rw e at k) in
      let same : Some (a.0, drop 10 text) ≡ Some p = a.2 in
      let is : a.0 ≡ p.0 = cc in
      let rest : drop 10 text ≡ p.1 = cc in
      let means = (day_of_text-means (take 10 text) a.0).0 a.1 in
      (take 10 text, subst IsDayNumber is means.0, subst (λ (d : ℕ). SpellsDay (take 10 text) d) is means.1, sym (take-append-drop 10 text) ∙ ap (λ (r : List ℕ). take 10 text ++ r) rest)

-- the offset
whole_hours_at-hours_text : (sign : ℕ → ℤ) (n : ℕ) (rest : List ℕ) → n ≤ 13 → whole_hours_at sign (hours_text n ++ rest) ≡ Some (sign n, rest)
whole_hours_at-hours_text sign n rest h =
    let digits = two_digits_at-two_digits n (58 ∷ 48 ∷ 48 ∷ rest) (omega arith) in
    let low : nat_le n 13 ≡ true = grind (arith, nat_tests) in
    rw (digits, low) refl

offset_at-spelled : (hours : ℤ) (text : List ℕ) → SpellsOffset hours text → offset_at text ≡ Some (hours, [])
offset_at-spelled hours text (plus n h e is) = rw (is, e) (ap (whole_hours_at pos) (sym (append-nil (hours_text n))) ∙ whole_hours_at-hours_text pos n [] h)
offset_at-spelled hours text (minus n h e is) =
    rw (is, e) (ap (whole_hours_at (λ k. neg_ℤ (pos k))) (sym (append-nil (hours_text n))) ∙ whole_hours_at-hours_text (λ k. neg_ℤ (pos k)) n [] h)

whole_hours_sound : (sign : ℕ → ℤ) (text : List ℕ) (p : ℤ × List ℕ) → whole_hours_at sign text ≡ Some p → (n : ℕ) × (n ≤ 13) × (p.0 ≡ sign n) × (text ≡ hours_text n ++ p.1)
whole_hours_sound sign text p h =
    let a = bound (two_digits_at text) _ p h in
    let b = bound (after 58 a.0.1) _ p a.2 in
    let d = bound (after 48 b.0) _ p b.2 in
    let e = bound (after 48 d.0) _ p d.2 in
    let t = tested (nat_le a.0.0 13) (sign a.0.0, e.0) p e.2 in
    let small : a.0.0 ≤ 13 = (let k = t.0 in grind (arith, nat_tests)) in
    let tail : a.0.1 ≡ 58 ∷ 48 ∷ 48 ∷ p.1 =
    after_sound 58 a.0.1 b.0 b.1 ∙ ap (λ (r : List ℕ). 58 ∷ r) (after_sound 48 b.0 d.0 d.1 ∙ ap (λ (r : List ℕ). 48 ∷ r) (after_sound 48 d.0 e.0 e.1 ∙ ap (λ (r : List ℕ). 48 ∷ r) (ap (λ (q : ℤ × List ℕ). q.1) t.1))) in
    (a.0.0, small, sym (ap (λ (q : ℤ × List ℕ). q.0) t.1), (two_digits_sound text a.0 a.1).1 ∙ ap (λ (r : List ℕ). two_digits a.0.0 ++ r) tail)

offset_sound : (text : List ℕ) (p : ℤ × List ℕ) → offset_at text ≡ Some p → p.1 ≡ [] → SpellsOffset p.0 text
offset_sound [] p h none = cc
offset_sound (x ∷ xs) p h none = go (nat_eq x 43) (nat_eq x 45) refl refl h where
  go : (is_plus is_minus : Bool) → nat_eq x 43 ≡ is_plus → nat_eq x 45 ≡ is_minus
      → cond (nat_eq x 43) (whole_hours_at pos xs) (cond (nat_eq x 45) (whole_hours_at (λ hours. neg_ℤ (pos hours)) xs) None) ≡ Some p → SpellsOffset p.0 (x ∷ xs)
  go true is_minus e f k =
      let is : x ≡ 43 = grind (arith, nat_tests) in
      let s = whole_hours_sound pos xs p (rw e at k) in
      plus s.0 s.1 s.2 (ap (λ (b : ℕ). b ∷ xs) is ∙ ap (λ (r : List ℕ). 43 ∷ r) (s.3 ∙ ap (λ (r : List ℕ). hours_text s.0 ++ r) none ∙ append-nil (hours_text s.0)))
  go false true e f k =
      let is : x ≡ 45 = grind (arith, nat_tests) in
      let s = whole_hours_sound (λ hours. neg_ℤ (pos hours)) xs p (rw (e, f) at k) in
      minus s.0 s.1 s.2 (ap (λ (b : ℕ). b ∷ xs) is ∙ ap (λ (r : List ℕ). 45 ∷ r) (s.3 ∙ ap (λ (r : List ℕ). hours_text s.0 ++ r) none ∙ append-nil (hours_text s.0)))
  go false false e f k = let nothing : None ≡ Some p = rw (e, f) at k in absurd (cc)

-- the limits
in_limits-moment : (at : ℤ) → IsMoment at → in_limits at ≡ Some at
in_limits-moment at h =
    let low : int_le (pos 315_705_600) at ≡ true = grind (arith, ints) in
    let high : int_le at (pos 64_060_329_600) ≡ true = grind (arith, ints) in
    rw (low, high) refl

within : (z : ℤ) → int_le (pos 315_705_600) z ≡ true → int_le z (pos 64_060_329_600) ≡ true → IsMoment z
within (pos n) low high =
    let a : pos 315_705_600 ≤ℤ pos n = grind (arith, ints) in
    let b : pos n ≤ℤ pos 64_060_329_600 = grind (arith, ints) in
    (omega (arith, signed_arith), omega (arith, signed_arith))
within (negsuc n) low high =
    let a : pos 315_705_600 ≤ℤ negsuc n = grind (arith, ints) in
    absurd (omega (arith, signed_arith))

in_limits_sound : (z at : ℤ) → in_limits z ≡ Some at → (at ≡ z) × IsMoment at
in_limits_sound z at h =
    let t = tested (int_le (pos 315_705_600) z && int_le z (pos 64_060_329_600)) z at h in
    let limits = and_parts (int_le (pos 315_705_600) z) (int_le z (pos 64_060_329_600)) t.0 in
    (sym t.1, subst IsMoment t.1 (within z limits.0 limits.1))

-- what spells a moment is read as it
pub moment_at-spelled : (at : ℤ) (text : List ℕ) → SpellsMoment at text → moment_at text ≡ Some at
moment_at-spelled at text h =
    let date = date_at-spelled h.date (84 ∷ (h.clock ++ h.offset)) h.day h.is_day.0 h.is_day.1 in
    let clock : clock_at (h.clock ++ h.offset) ≡ Some (h.minute, h.offset) =
    ap (λ (t : List ℕ). clock_at (t ++ h.offset)) h.is_clock.1 ∙ clock_at-clock_text h.minute h.offset h.is_clock.0 in
    let offset = offset_at-spelled h.hours h.offset h.is_offset in
    let limits : in_limits (pos (86_400 * h.day + 60 * h.minute) -ℤ pos 3600 *ℤ h.hours) ≡ Some at = ap in_limits (sym h.is_at) ∙ in_limits-moment at h.limits in
    rw (h.is, date, clock, offset) limits

-- and what is read as a moment spells it
pub moment_sound : (text : List ℕ) (at : ℤ) → moment_at text ≡ Some at → SpellsMoment at text
moment_sound text at h =
    let d = bound (date_at text) _ at h in
    let a = bound (after 84 d.0.1) _ at d.2 in
    let c = bound (clock_at a.0) _ at a.2 in
    let o = bound (offset_at c.0.1) _ at c.2 in
    end d.0 a.0 c.0 o.0 (date_sound text d.0 d.1) (after_sound 84 d.0.1 a.0 a.1) (clock_sound a.0 c.0 c.1) o.1 (nat_eq (length o.0.1) 0) refl o.2 where
      end : (d : ℕ × List ℕ) (a : List ℕ) (c : ℕ × List ℕ) (o : ℤ × List ℕ)
          → ((date : List ℕ) × IsDayNumber d.0 × SpellsDay date d.0 × (text ≡ date ++ d.1)) → d.1 ≡ 84 ∷ a → (c.0 < 1440) × (a ≡ clock_text c.0 ++ c.1) → offset_at c.1 ≡ Some o
          → (b : Bool) → nat_eq (length o.1) 0 ≡ b → cond (nat_eq (length o.1) 0) (in_limits (pos (86_400 * d.0 + 60 * c.0) -ℤ pos 3600 *ℤ o.0)) None ≡ Some at → SpellsMoment at text
      end d a c o date mark clock offset false e k = let none : None ≡ Some at = rw e at k in absurd (cc)
      end d a c o date mark clock offset true e k =
          let limits = in_limits_sound (pos (86_400 * d.0 + 60 * c.0) -ℤ pos 3600 *ℤ o.0) at (rw e at k) in
          record {
            day = d.0;
            minute = c.0;
            hours = o.0;
            date = date.0;
            clock = clock_text c.0;
            offset = c.1;
            is = date.3 ∙ ap (λ (r : List ℕ). date.0 ++ r) (mark ∙ ap (λ (r : List ℕ). 84 ∷ r) clock.1);
            is_day = (date.1, date.2);
            is_clock = (clock.0, refl);
            is_offset = offset_sound c.1 o offset (empty o.1 e);
            is_at = limits.0;
            limits = limits.1;
          }

-- so what is read is what the grammar has
pub moment_read_as_spelled : (text : List ℕ) (read : Option ℤ) → read ≡ moment_at text → (at : ℤ) → (read ≡ Some at) ↔ SpellsMoment at text
moment_read_as_spelled text read e at = (λ h. moment_sound text at (sym e ∙ h), λ spells. e ∙ moment_at-spelled at text spells)
