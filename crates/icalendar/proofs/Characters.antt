-- The octets of a character.
use Rattle.std.proofs.Common.{◌≡◌, inl, inr, ℕ, ◌+◌, ◌/◌, ◌%◌, ◌<◌, ◌≤◌, List, [], ◌∷◌, length, refl, arith}
use Rattle.std.proofs.lemmas.Bool.{cases_lt, lt-ltb, le-ltb}
use Rattle.std.specs.List.{AllByRecursion}
use Rattle.std.proofs.str.Laws.{one, two, three, four}
use lib.Utf8.{encode}
use Rattle.icalendar.specs.ContentLines.{octets_from}

abbrev pub IsWithin : ℕ → Type 0
IsWithin b = (128 ≤ b) × (b < 192)

-- a first octet, which shows how many there are, and those within the character
pub record Octets (c : ℕ) : Type 0 where
  pub first : ℕ
  pub rest : List ℕ
  pub whole : encode c ≡ first ∷ rest
  pub count : octets_from first ≡ length rest + 1
  pub within : AllByRecursion IsWithin rest
  pub low : c < 128 → first ≡ c
  pub high : 128 ≤ c → 192 ≤ first

pub octets_one : (b : ℕ) → b < 192 → octets_from b ≡ 1
octets_one b h = rw (lt-ltb b 192 h) refl

octets_two : (b : ℕ) → 192 ≤ b → b < 224 → octets_from b ≡ 2
octets_two b l h = rw (le-ltb b 192 l, lt-ltb b 224 h) refl

octets_three : (b : ℕ) → 224 ≤ b → b < 240 → octets_from b ≡ 3
octets_three b l h = let m : 192 ≤ b = omega arith in rw (le-ltb b 192 m, le-ltb b 224 l, lt-ltb b 240 h) refl

octets_four : (b : ℕ) → 240 ≤ b → octets_from b ≡ 4
octets_four b l =
    let m : 192 ≤ b = omega arith in
    let n : 224 ≤ b = omega arith in
    rw (le-ltb b 192 m, le-ltb b 224 n, le-ltb b 240 l) refl

within : (x : ℕ) → IsWithin (128 + x % 64)
within x = (omega arith, omega arith)

pub octets : (c : ℕ) → Octets c
octets c =
    elim (cases_lt c 128) [
      | inl small ↦ record { first = c; rest = []; whole = one c small; count = octets_one c (omega arith); within = tt; low = λ _. refl; high = λ h. absurd (omega arith) }
      | inr a ↦ elim (cases_lt c 2048) [
        | inl small ↦ record { first = 192 + c / 64; rest = (128 + c % 64) ∷ []; whole = two c a small; count = octets_two (192 + c / 64) (omega arith) (omega arith); within = (within _, tt); low = λ h. absurd (omega arith); high = λ _. omega arith }
        | inr b ↦ elim (cases_lt c 65536) [
          | inl small ↦ record { first = 224 + c / 4096; rest = (128 + c / 64 % 64) ∷ (128 + c % 64) ∷ []; whole = three c b small; count = octets_three (224 + c / 4096) (omega arith) (omega arith); within = (within _, (within _, tt)); low = λ h. absurd (omega arith); high = λ _. omega arith }
          | inr d ↦ record { first = 240 + c / 262144; rest = (128 + c / 4096 % 64) ∷ (128 + c / 64 % 64) ∷ (128 + c % 64) ∷ []; whole = four c d; count = octets_four (240 + c / 262144) (omega arith); within = (within _, (within _, (within _, tt))); low = λ h. absurd (omega arith); high = λ _. omega arith }
        ]
      ]
    ]
