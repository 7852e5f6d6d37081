-- What goes to a writer, part after part.
use Rattle.std.proofs.Common.{◌≡◌, ℕ, ◌+◌, ◌-◌, List, [], ◌++◌, length, take, drop, ap, sym, subst, ◌∙◌, append_assoc, append-nil, Option, Result, Ok, Err, OnOk, OnErr, arith}
use Rattle.std.proofs.Math.Seq.{take-add}
use Rattle.std.proofs.KnownBytes.{Appends-nil, Appends-trans}
use Rattle.std.proofs.lemmas.Grind.{common_steps}
use Rattle.std.proofs.lemmas.List.{take_all}
use Rattle.std.specs.Io.KnownBytes.{Appends}
use Rattle.line_io.specs.Output.{AppendsFront}
use Rattle.line_io.specs.Progress.{Sends}

-- what a slice from a place to the end holds
pub slice_from : (xs : List ℕ) (at : ℕ) → take (length xs - at) (drop at xs) ≡ drop at xs
slice_from xs at = grind (arith, common_steps)

-- writing on after the first done bytes
pub Appends-on : (a b c : Option (List ℕ)) (bytes : List ℕ) (done count : ℕ) → Appends a b (take done bytes)
    → Appends b c (take count (take (length bytes - done) (drop done bytes))) → Appends a c (take (done + count) bytes)
Appends-on a b c bytes done count h k =
    let P : List ℕ → Type 0 = λ x. Appends a c x in
    let Q : List ℕ → Type 0 = λ x. Appends b c (take count x) in
    subst P (sym (take-add done count bytes))
    (Appends-trans a b c (take done bytes) (take count (drop done bytes)) h (subst Q (slice_from bytes done) k))

-- one part, and then another
pub sends-then : (a b c : Option (List ℕ)) (p x q y r : List ℕ) → Sends a b p x q → Sends b c q y r → Sends a c p (x ++ y) r
sends-then a b c p x q y r h k = record {
  out = h.out ++ k.out;
  appends = Appends-trans a b c h.out k.out h.appends k.appends;
  same = sym (append_assoc p x y) ∙ ap (λ z. z ++ y) h.same ∙ append_assoc h.out q y ∙ ap (λ z. h.out ++ z) k.same ∙ sym (append_assoc h.out k.out r);
}

-- bytes that only joined what is pending
pub sends-later : (a : Option (List ℕ)) (p x q : List ℕ) → q ≡ p ++ x → Sends a a p x q
sends-later a p x q e = record { out = []; appends = Appends-nil a; same = sym e }

-- bytes that joined what was pending and went out with it
pub sends-now : (u v : Option (List ℕ)) (p x q r : List ℕ) → q ≡ p ++ x → Appends u v q → r ≡ [] → Sends u v p x r
sends-now u v p x q r e h none = record { out = q; appends = h; same = sym e ∙ sym (append-nil q) ∙ ap (λ z. q ++ z) (sym none) }

-- a write that may have failed
pub front-sent : {A E : Type 0} (r : Result A E) (u v : Option (List ℕ)) (q : List ℕ) → OnOk r (Appends u v q) → OnErr r (AppendsFront u v q) → AppendsFront u v q
front-sent (Ok x) u v q h k = record { count = length q; within = omega arith; front = subst (λ z. Appends u v z) (sym (take_all (length q) q (omega arith))) h }
front-sent (Err e) u v q h k = k
