-- Loops over rows: the text or the list so far, with that of the rows that are left, is the whole.
use Rattle.std.proofs.Common.{◌≡◌, ℕ, ◌+◌, ◌<◌, ◌≤◌, List, ◌++◌, length, get_or, drop, ap, sym, ◌∙◌, append_assoc, append-nil}
use Rattle.std.proofs.lemmas.List.{at_drop_more, at_drop_all}
use Rattle.std.specs.List.{flat_map}

module _ {X A : Type 0} (f : X → List A) (rows : List X) where
  -- one more row was added
  pub row-added : (i : ℕ) (row : X) (old new all : List A) → old ++ flat_map f (drop i rows) ≡ all → i < length rows → row ≡ get_or rows i row → new ≡ old ++ f row
      → new ++ flat_map f (drop (i + 1) rows) ≡ all
  row-added i row old new all whole below is grows =
      let rest = flat_map f (drop (i + 1) rows) in
      ap (λ z. z ++ rest) grows ∙ append_assoc old (f row) rest ∙ ap (λ x. old ++ (f x ++ rest)) is
      ∙ ap (λ z. old ++ z) (sym (at_drop_more (flat_map f) rows i row below)) ∙ whole

  -- no row is left
  pub rows-added : (i : ℕ) (made all : List A) → made ++ flat_map f (drop i rows) ≡ all → length rows ≤ i → made ≡ all
  rows-added i made all whole past = sym (append-nil made) ∙ ap (λ z. made ++ z) (sym (at_drop_all (flat_map f) rows i past)) ∙ whole
