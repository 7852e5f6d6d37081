-- The bytes that are written for a byte of a text, and the run of those that stay as they are.
use Rattle.std.proofs.Common.{◌≡◌, ℕ, Bool, ◌+◌, ◌-◌, ◌<◌, ◌≤◌, List, [], ◌∷◌, ◌++◌, length, get_or, take, drop, length-drop, get_or-drop, append_assoc, append-nil, take_all, arith}
use Rattle.std.proofs.lemmas.List.{drop_more, take_more, drop_all}
use Rattle.std.specs.List.{flat_map}
use Rattle.html_sheets.specs.Escapes.{written_byte}

-- whether the lines of the text stay
module _ (lines : Bool) where
  -- what is written for the text from a byte on
  escaped-drop : (s : List ℕ) (i : ℕ) → i < length s → flat_map (written_byte lines) (drop i s) ≡ written_byte lines (get_or s i 0) ++ flat_map (written_byte lines) (drop (i + 1) s)
  escaped-drop s i h = rw (drop_more s i 0 h)

  omega-add : (a b : ℕ) → a ≤ b → a + (b - a) ≡ b
  omega-add a b h = omega arith

  -- a byte that stays as it is joins the run
  pub keep_byte : (s done total : List ℕ) (start i : ℕ) → start ≤ i → i < length s → written_byte lines (get_or s i 0) ≡ get_or s i 0 ∷ []
      → done ++ (take (i - start) (drop start s) ++ flat_map (written_byte lines) (drop i s)) ≡ total
      → done ++ (take (i + 1 - start) (drop start s) ++ flat_map (written_byte lines) (drop (i + 1) s)) ≡ total
  keep_byte s done total start i low within plain whole =
      let at : get_or (drop start s) (i - start) 0 ≡ get_or s i 0 = rw (get_or-drop start s (i - start) 0, omega-add start i low) in
      let more = take_more (drop start s) (i - start) 0 (omega (arith, length-drop start s)) in
      let next : i + 1 - start ≡ i - start + 1 = omega arith in
      rw (next, more, at) (simp append_assoc (rw (escaped-drop s i within, plain) at whole))

  -- one that doesn't ends the run
  pub end_run : (s done total written : List ℕ) (start i : ℕ) → i < length s → written_byte lines (get_or s i 0) ≡ written
      → done ++ (take (i - start) (drop start s) ++ flat_map (written_byte lines) (drop i s)) ≡ total
      → (done ++ (take (i - start) (drop start s) ++ written)) ++ (take (i + 1 - (i + 1)) (drop (i + 1) s) ++ flat_map (written_byte lines) (drop (i + 1) s)) ≡ total
  end_run s done total written start i within is whole =
      let zero : i + 1 - (i + 1) ≡ 0 = omega arith in
      let read = rw (escaped-drop s i within, is) at whole in
      rw zero (simp append_assoc read)

  -- at the end of the text, what is left is the run
  pub run-end : (s done total : List ℕ) (start i : ℕ) → start ≤ i → i ≡ length s
      → done ++ (take (i - start) (drop start s) ++ flat_map (written_byte lines) (drop i s)) ≡ total
      → done ++ drop start s ≡ total
  run-end s done total start i low end whole =
      let all : take (i - start) (drop start s) ≡ drop start s = take_all _ _ (omega (arith, length-drop start s)) in
      let none : drop i s ≡ [] = drop_all i s (omega arith) in
      rw (all, none, append-nil) at whole

-- the end of the text
pub at_end : (i n size : ℕ) → n ≤ i → i ≤ n → n ≡ size → i ≡ size
at_end i n size above below same = omega arith
