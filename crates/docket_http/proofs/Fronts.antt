-- Fronts of what goes out in two parts.
use Rattle.std.proofs.Common.{◌+◌, ℕ, List, ◌++◌, Option, Result, Ok, Err, IsErrAnd, OnOk, OnErr, length, take, length-append, sym, subst, arith}
use Rattle.std.specs.Io.KnownBytes.{Appends}
use Rattle.std.proofs.KnownBytes.{Appends-trans}
use Rattle.std.proofs.Math.Seq.{take-append-add, take-append-le}
use Rattle.line_io.specs.Output.{AppendsFront}

-- the first part, and a front of the second
front_of_second : (a b c : Option (List ℕ)) (x y : List ℕ) → Appends a b x → AppendsFront b c y → AppendsFront a c (x ++ y)
front_of_second a b c x y whole f = record {
  count = length x + f.count;
  within = omega (arith, length-append x y, f.within);
  front = subst (λ (z : List ℕ). Appends a c z) (sym (take-append-add x y f.count)) (Appends-trans a b c x (take f.count y) whole f.front);
}

pub front_of_parts : {E : Type 0} (r : Result (Unit {0}) E) (a b c : Option (List ℕ)) (x y : List ℕ) → Appends a b x
    → OnErr r (AppendsFront b c y) → OnErr r (AppendsFront a c (x ++ y))
front_of_parts (Ok done) a b c x y whole front = tt
front_of_parts (Err e) a b c x y whole front = front_of_second a b c x y whole front

pub whole_of_parts : {E : Type 0} (r : Result (Unit {0}) E) (a b c : Option (List ℕ)) (x y : List ℕ) → Appends a b x → OnOk r (Appends b c y) → OnOk r (Appends a c (x ++ y))
whole_of_parts (Ok done) a b c x y first second = Appends-trans a b c x y first second
whole_of_parts (Err e) a b c x y first second = tt

-- a front of the first part
front_of_first : (a b : Option (List ℕ)) (x y : List ℕ) → AppendsFront a b x → AppendsFront a b (x ++ y)
front_of_first a b x y f = record {
  count = f.count;
  within = omega (arith, length-append x y, f.within);
  front = subst (λ (z : List ℕ). Appends a b z) (sym (take-append-le f.count x y f.within)) f.front;
}

pub first_cut : {T E : Type 0} (r : Result T E) (a b : Option (List ℕ)) (x y : List ℕ) → AppendsFront a b x → OnErr r (AppendsFront a b (x ++ y))
first_cut (Ok done) a b x y front = tt
first_cut (Err e) a b x y front = front_of_first a b x y front

pub not_whole : {T E : Type 0} (r : Result T E) (Q : E → Type 0) (P : Type 0) → IsErrAnd r Q → OnOk r P
not_whole (Ok done) Q P failed = absurd failed
not_whole (Err e) Q P failed = tt
