-- What the readers of a text's beginning return.
use Rattle.std.proofs.Common.{◌≡◌, ℕ, ◌+◌, ◌-◌, ◌*◌, ◌/◌, ◌%◌, ◌<◌, ◌≤◌, true, false, Bool, ◌&&◌, nat_le, nat_eq, cond, List, [], ◌∷◌, ◌++◌, length, Option, None, Some, refl, ap, ◌∙◌, arith}
use Rattle.std.proofs.lemmas.Bool.Decides.{nat_tests}
use Rattle.civil_time.specs.Reading.{◌>>=◌, is_digit, after, digit_at, two_digits_at, clock_at}
use Rattle.civil_time.specs.MomentText.{two_digits, clock_text}

-- where a chain of readers returns a value, each of them does
pub bound : {A B : Type 0} (o : Option A) (f : A → Option B) (b : B) → (o >>= f) ≡ Some b → (a : A) × (o ≡ Some a) × (f a ≡ Some b)
bound None f b h = cc
bound (Some a) f b h = (a, refl, h)

-- and so does a test
pub tested : {A : Type 0} (t : Bool) (a b : A) → (cond t (Some a) None) ≡ Some b → (t ≡ true) × (a ≡ b)
tested true a b h = (refl, cc)
tested false a b h = cc

pub digit_sound : (text : List ℕ) (p : ℕ × List ℕ) → digit_at text ≡ Some p → (p.0 ≤ 9) × (text ≡ (48 + p.0) ∷ p.1)
digit_sound [] p h = cc
digit_sound (x ∷ xs) p h =
    let t = tested (is_digit x) (x - 48, xs) p h in
    let first : x - 48 ≡ p.0 = ap (λ (q : ℕ × List ℕ). q.0) t.1 in
    let rest : xs ≡ p.1 = ap (λ (q : ℕ × List ℕ). q.1) t.1 in
    let range : (48 ≤ x) × (x ≤ 57) = (let k = t.0 in grind (arith, nat_tests)) in
    let x_is : x ≡ 48 + p.0 = omega arith in
    (omega arith, rw (x_is, rest) refl)

pub after_sound : (byte : ℕ) (text rest : List ℕ) → after byte text ≡ Some rest → text ≡ byte ∷ rest
after_sound byte [] rest h = cc
after_sound byte (x ∷ xs) rest h =
    let t = tested (nat_eq x byte) xs rest h in
    let is : x ≡ byte = (let k = t.0 in grind (arith, nat_tests)) in
    rw (is, t.1) refl

pub empty : (text : List ℕ) → nat_eq (length text) 0 ≡ true → text ≡ []
empty [] h = refl
empty (x ∷ xs) h = let e : length (x ∷ xs) ≡ 0 = (let k = h in grind (arith, nat_tests)) in absurd (omega (arith, e))

-- and a digit at the beginning is read
pub digit_at-digit : (d : ℕ) (rest : List ℕ) → d ≤ 9 → digit_at ((48 + d) ∷ rest) ≡ Some (d, rest)
digit_at-digit d rest h =
    let low : nat_le 48 (48 + d) ≡ true = grind (arith, nat_tests) in
    let high : nat_le (48 + d) 57 ≡ true = grind (arith, nat_tests) in
    let back : 48 + d - 48 ≡ d = omega arith in
    rw (low, high, back) refl

-- two digits
pub two_digits_at-two_digits : (n : ℕ) (rest : List ℕ) → n < 100 → two_digits_at (two_digits n ++ rest) ≡ Some (n, rest)
two_digits_at-two_digits n rest h =
    let tens = digit_at-digit (n / 10) ((48 + n % 10) ∷ rest) (omega arith) in
    let ones = digit_at-digit (n % 10) rest (omega arith) in
    let whole : 10 * (n / 10) + n % 10 ≡ n = omega arith in
    rw (tens, ones, whole) refl

both_digits : (tens ones n : ℕ) (rest rest' : List ℕ) → tens ≤ 9 → ones ≤ 9 → 10 * tens + ones ≡ n → rest ≡ rest' → (n < 100) × ((48 + tens) ∷ (48 + ones) ∷ rest ≡ two_digits n ++ rest')
both_digits tens ones n rest rest' a b e f =
    let first : tens ≡ n / 10 = omega arith in
    let second : ones ≡ n % 10 = omega arith in
    (omega arith, rw (first, second, f) refl)

pub two_digits_sound : (text : List ℕ) (p : ℕ × List ℕ) → two_digits_at text ≡ Some p → (p.0 < 100) × (text ≡ two_digits p.0 ++ p.1)
two_digits_sound text p h =
    let a = bound (digit_at text) _ p h in
    let b = bound (digit_at a.0.1) _ p a.2 in
    let first = digit_sound text a.0 a.1 in
    let second = digit_sound a.0.1 b.0 b.1 in
    let same : Some (10 * a.0.0 + b.0.0, b.0.1) ≡ Some p = b.2 in
    let n : 10 * a.0.0 + b.0.0 ≡ p.0 = cc in
    let r : b.0.1 ≡ p.1 = cc in
    let both = both_digits a.0.0 b.0.0 p.0 b.0.1 p.1 first.0 second.0 n r in
    (both.0, first.1 ∙ ap (λ (t : List ℕ). (48 + a.0.0) ∷ t) second.1 ∙ both.1)

-- a time of day
pub clock_at-clock_text : (minute : ℕ) (rest : List ℕ) → minute < 1440 → clock_at (clock_text minute ++ rest) ≡ Some (minute, rest)
clock_at-clock_text minute rest h =
    let hours = two_digits_at-two_digits (minute / 60) (58 ∷ (two_digits (minute % 60) ++ rest)) (omega arith) in
    let minutes = two_digits_at-two_digits (minute % 60) rest (omega arith) in
    let low : nat_le (minute / 60) 23 ≡ true = (let k : minute / 60 ≤ 23 = omega arith in grind (arith, nat_tests)) in
    let high : nat_le (minute % 60) 59 ≡ true = (let k : minute % 60 ≤ 59 = omega arith in grind (arith, nat_tests)) in
    let whole : 60 * (minute / 60) + minute % 60 ≡ minute = omega arith in
    rw (hours, minutes, low, high, whole) refl

both_parts : (hour minute n : ℕ) (rest rest' : List ℕ) → hour ≤ 23 → minute ≤ 59 → 60 * hour + minute ≡ n → rest ≡ rest' → (n < 1440) × (two_digits hour ++ (58 ∷ (two_digits minute ++ rest)) ≡ clock_text n ++ rest')
both_parts hour minute n rest rest' a b e f =
    let first : hour ≡ n / 60 = omega arith in
    let second : minute ≡ n % 60 = omega arith in
    (omega arith, rw (first, second, f) refl)

pub clock_sound : (text : List ℕ) (p : ℕ × List ℕ) → clock_at text ≡ Some p → (p.0 < 1440) × (text ≡ clock_text p.0 ++ p.1)
clock_sound text p h =
    let a = bound (two_digits_at text) _ p h in
    let b = bound (after 58 a.0.1) _ p a.2 in
    let d = bound (two_digits_at b.0) _ p b.2 in
    let t = tested (nat_le a.0.0 23 && nat_le d.0.0 59) (60 * a.0.0 + d.0.0, d.0.1) p d.2 in
    let range : (a.0.0 ≤ 23) × (d.0.0 ≤ 59) = (let k = t.0 in grind (arith, nat_tests)) in
    let both = both_parts a.0.0 d.0.0 p.0 d.0.1 p.1 range.0 range.1 (ap (λ (q : ℕ × List ℕ). q.0) t.1) (ap (λ (q : ℕ × List ℕ). q.1) t.1) in
    let first = two_digits_sound text a.0 a.1 in
    let second = two_digits_sound b.0 d.0 d.1 in
    let tail : a.0.1 ≡ 58 ∷ (two_digits d.0.0 ++ d.0.1) = after_sound 58 a.0.1 b.0 b.1 ∙ ap (λ (r : List ℕ). 58 ∷ r) second.1 in
    (both.0, first.1 ∙ ap (λ (r : List ℕ). two_digits a.0.0 ++ r) tail ∙ both.1)
