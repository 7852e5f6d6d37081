-- Fronts of what goes out in two parts.
use Rattle.std.proofs.Common.{ℕ, List, ◌++◌, Option, take, drop, take-append-drop, append_assoc, sym, ap, ◌∙◌}
use Rattle.std.specs.Io.KnownBytes.{Appends}
use Rattle.std.proofs.KnownBytes.{Appends-trans}
use Rattle.line_io.specs.Output.{AppendsFront, HasFront}

-- a front of the first part
pub front_of_first : (a b : Option (List ℕ)) (x y : List ℕ) → AppendsFront a b x → HasFront a b (x ++ y)
front_of_first a b x y front = record {
  out = take front.count x;
  lost = drop front.count x ++ y;
  whole = ap (λ z. z ++ y) (sym (take-append-drop front.count x)) ∙ append_assoc (take front.count x) (drop front.count x) y;
  appends = front.front;
}

-- the first part, and a front of the second
pub front_of_second : (a b c : Option (List ℕ)) (x y : List ℕ) → Appends a b x → AppendsFront b c y → HasFront a c (x ++ y)
front_of_second a b c x y whole front = record {
  out = x ++ take front.count y;
  lost = drop front.count y;
  whole = ap (λ z. x ++ z) (sym (take-append-drop front.count y)) ∙ sym (append_assoc x (take front.count y) (drop front.count y));
  appends = Appends-trans a b c x (take front.count y) whole front.front;
}
