-- How many rows each case has, as a check counted them.
use Rattle.std.proofs.Common.{◌≡◌, ◌∙◌, ℕ, zero, suc, ◌==◌, false, List, [], ◌∷◌, length, refl, sym, ap, arith}
use Rattle.std.proofs.lemmas.Bool.Decides.{nat_tests}
use Rattle.std.proofs.lemmas.Option.{unwrap_or-slice_get}
use Rattle.std.specs.List.{AllByRecursion}
use Rattle.docket_sound.specs.Counted.{HasNumbered, counts_of}
use Rattle.docket_sound.specs.Deadlines.{parties_of}
use Rattle.docket_sound.specs.Numbers.{IsOfCase}
use Rattle.docket_sound.specs.declared.numbering.Key.{Key}
use Rattle.docket_sound.specs.declared.numbering.Numbering.{Numbering}
use Rattle.docket_sound.proofs.NumberLemmas.{number_elsewhere}
use Rattle.docket_scan.specs.Records.{count_in}

pub counted : (n : Numbering) (keys : List Key) → HasNumbered n keys → counts_of n ≡ count_in keys
counted n keys has = λ i k. has.counted k i

-- no row is of case 0
none_of_zero : (cases : ℕ) (keys : List Key) → AllByRecursion (IsOfCase cases) keys → 0 ≡ count_in keys 0
none_of_zero cases [] all = refl
none_of_zero cases (key ∷ keys) all =
    let other : (key.case == 0) ≡ false = grind (arith, nat_tests, all.0.0) in
    none_of_zero cases keys all.1 ∙ ap length (sym (number_elsewhere 0 key keys other))

pub parties_counted : (n : Numbering) (keys : List Key) → HasNumbered n keys → parties_of n ≡ count_in keys
parties_counted n keys has = λ i k. at k i
  where
    at : (k : ℕ) → parties_of n k ≡ count_in keys k
    at zero = none_of_zero _ keys has.numbered.met
    at (suc k) = unwrap_or-slice_get n.counts.items (suc k) 0 ∙ has.counted (suc k)
