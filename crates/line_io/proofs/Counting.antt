-- How many lines and bytes there are at most.
use Rattle.std.proofs.Common.{◌≡◌, ℕ, ◌+◌, ◌-◌, ◌*◌, ◌<◌, ◌≤◌, ◌^◌, List, [], ◌∷◌, ◌++◌, length, take, drop, Fits, w64, ap, sym, ◌∙◌, length-append, length-drop, arith}
use Rattle.std.proofs.lemmas.List.{length-take, length-take-le}
use Rattle.line_io.proofs.Sending.{slice_from}

-- a line that ends in the piece can be counted
pub line-counts : (lines old : ℕ) (piece done rest : List ℕ) (at : ℕ) → lines ≤ old + length done → piece ≡ done ++ rest → at < length rest → old + length piece < 2 ^ 64 → lines < 2 ^ 64 - 1
line-counts lines old piece done rest at below e here room = let size = ap length e ∙ length-append done rest in omega (arith, size)

-- lines that ended in a front of the piece are no more than its bytes
pub lines-within : (lines old : ℕ) (piece done rest : List ℕ) → lines ≤ old + length done → piece ≡ done ++ rest → lines ≤ old + length piece
lines-within lines old piece done rest below e = let size = ap length e ∙ length-append done rest in omega (arith, size)

-- behind a line less is left
pub less-behind : (rest : List ℕ) (at : ℕ) → at < length rest → length (take (length rest - (at + 1)) (drop (at + 1) rest)) < length rest
less-behind rest at below = let size = ap length (slice_from rest (at + 1)) ∙ length-drop (at + 1) rest in omega (arith, size)

-- the line before a line feed, and where the bytes behind it begin
pub front-len : (rest : List ℕ) (at : ℕ) → at < length rest → at ≡ length (take at rest)
front-len rest at below = sym (length-take-le at rest (omega (arith, below)))

pub next-within : (at n : ℕ) → at < n → at + 1 ≤ n
next-within at n below = omega arith

pub next-fits : (old at : ℕ) (piece done rest : List ℕ) → piece ≡ done ++ rest → at < length rest → old + length piece < 2 ^ 64 → Fits w64 (at + 1)
next-fits old at piece done rest e below room = let size = ap length e ∙ length-append done rest in omega (arith, size)

-- what is kept is within the limit
pub kept-within : (len n most : ℕ) (kept xs : List ℕ) → len ≡ length kept → kept ≡ take (n + 2) xs → n ≡ most → len ≤ most + 2
kept-within len n most kept xs is k same = let size = ap length k ∙ length-take (n + 2) xs in omega (arith, size)

-- with a line and its line feed it is longer by these
pub more-len : (done x : List ℕ) → length (done ++ (x ++ 10 ∷ [])) ≡ length done + (length x + 1)
more-len done x = length-append done (x ++ 10 ∷ []) ∙ ap (λ n. length done + n) (length-append x (10 ∷ []))

-- so many pieces hold no more lines than can be counted
pub pieces-count : (lines n : ℕ) → lines ≤ 16_384 * n → n < 2 ^ 32 - 1 → lines < 2 ^ 64 - 1
pieces-count lines n below few = omega arith

-- nor do they with one piece more
pub piece-counts : (lines n count : ℕ) (buf : List ℕ) → lines ≤ 16_384 * n → n < 2 ^ 32 - 1 → length buf ≡ 16_384 → lines + length (take count buf) < 2 ^ 64
piece-counts lines n count buf below few size = let taken = length-take count buf in omega (arith, taken)

-- nothing is within every bound
pub none-within : (xs : List ℕ) (most : ℕ) → xs ≡ [] → length xs ≤ most
none-within xs most none = rw none (omega arith)
