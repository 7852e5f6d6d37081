-- Tests of a row, one after another, and a test of rows with one row more.
use Rattle.std.proofs.Common.{◌≡◌, Bool, true, false, not, ◌&&◌, ◌||◌, refl}
use Rattle.std.proofs.lemmas.Bool.{and_parts, not-true}

-- three tests that a row passes, and one that it does not
pub passed : (a b c d : Bool) → (a && b && c && not d) ≡ true → (a ≡ true) × (b ≡ true) × (c ≡ true) × (d ≡ false)
passed a b c d e =
    let fourth = and_parts (a && b && c) (not d) e in
    let third = and_parts (a && b) c fourth.0 in
    let first = and_parts a b third.0 in
    (first.0, first.1, third.1, not-true d fourth.1)

-- the new row, or the rows before it: the rows with the new one behind them
pub or_last : (new old : Bool) → (new || old) ≡ (old || (new || false))
or_last true true = refl
or_last true false = refl
or_last false true = refl
or_last false false = refl
