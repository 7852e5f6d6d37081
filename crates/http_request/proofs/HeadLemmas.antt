-- `found_over` over bytes that come in pieces.
use Rattle.std.proofs.Common.{◌≡◌, ℕ, ◌+◌, ◌≤◌, List, [], ◌∷◌, ◌++◌, length, refl, ap, sym, ◌∙◌, true, false, cond, ◌==◌, nat_lt, arith}
use Rattle.http_request.specs.declared.head.Scan.{Scan}
use Rattle.http_request.specs.declared.head.HeadSearch.{HeadSearch}
use Rattle.http_request.specs.declared.head.HeadSearch.TheVariants.{More, Head, TooLong}
use Rattle.http_request.specs.declared.head.Line.{Line}
use Rattle.http_request.specs.declared.head.Line.TheVariants.{Empty, Return, Filled}
use Rattle.http_request.specs.Head.{found_over, and_then, found_with, go_on, line_ended, grown}

pub and_then-assoc : (f : HeadSearch) (g h : Scan → HeadSearch) → and_then (and_then f g) h ≡ and_then f (λ s. and_then (g s) h)
and_then-assoc (More s) g h = refl
and_then-assoc (Head n) g h = refl
and_then-assoc TooLong g h = refl

pub and_then-same : (f : HeadSearch) (g h : Scan → HeadSearch) → ((s : Scan) → g s ≡ h s) → and_then f g ≡ and_then f h
and_then-same (More s) g h e = e s
and_then-same (Head n) g h e = refl
and_then-same TooLong g h e = refl

-- searching two pieces is searching the first, and then the second
pub found_over-append : (a : List ℕ) (s : Scan) (b : List ℕ) → found_over s (a ++ b) ≡ and_then (found_over s a) (λ t. found_over t b)
found_over-append [] s b = refl
found_over-append (x ∷ a) s b =
    and_then-same (found_with s x) (λ t. found_over t (a ++ b)) (λ t. and_then (found_over t a) (λ u. found_over u b)) (λ t. found_over-append a t b)
    ∙ sym (and_then-assoc (found_with s x) (λ t. found_over t a) (λ u. found_over u b))

-- a search that needs more goes on with the next piece
pub found_over-more : (a : List ℕ) (s t : Scan) (b : List ℕ) → found_over s a ≡ More t → found_over s (a ++ b) ≡ found_over t b
found_over-more a s t b e = found_over-append a s b ∙ ap (λ f. and_then f (λ u. found_over u b)) e

-- an end that was found stays, whatever comes after it
pub found_over-head : (a : List ℕ) (s : Scan) (n : ℕ) (b : List ℕ) → found_over s a ≡ Head n → found_over s (a ++ b) ≡ Head n
found_over-head a s n b e = found_over-append a s b ∙ ap (λ f. and_then f (λ u. found_over u b)) e

pub found_over-too_long : (a : List ℕ) (s : Scan) (b : List ℕ) → found_over s a ≡ TooLong → found_over s (a ++ b) ≡ TooLong
found_over-too_long a s b e = found_over-append a s b ∙ ap (λ f. and_then f (λ u. found_over u b)) e

-- a search that has come so far
abbrev pub ComesTo : ℕ → HeadSearch → Type 0
ComesTo len (More t) = t.len ≡ len
ComesTo len (Head m) = m ≡ len
ComesTo len TooLong = Unit {0}

go_on-len : (s : Scan) → ComesTo s.len (go_on s)
go_on-len s = elim (nat_lt s.len 8192) as (λ v. ComesTo s.len (cond v (More s) TooLong)) [ true ↦ refl | false ↦ tt ]

line_ended-len : (len lines : ℕ) (line : Line) → ComesTo len (line_ended len lines line)
line_ended-len len lines Filled =
    let s : Scan = record { len = len; lines = lines + 1; line = Empty } in
    elim (lines + 1 == 66) as (λ v. ComesTo len (cond v TooLong (go_on s))) [ true ↦ tt | false ↦ go_on-len s ]
line_ended-len len lines Empty =
    let s : Scan = record { len = len; lines = 0; line = Empty } in
    elim (lines == 0) as (λ v. ComesTo len (cond v (go_on s) (Head len))) [ true ↦ go_on-len s | false ↦ refl ]
line_ended-len len lines Return =
    let s : Scan = record { len = len; lines = 0; line = Empty } in
    elim (lines == 0) as (λ v. ComesTo len (cond v (go_on s) (Head len))) [ true ↦ go_on-len s | false ↦ refl ]

found_with-len : (s : Scan) (b : ℕ) → ComesTo (s.len + 1) (found_with s b)
found_with-len s b =
    let t : Scan = record { len = s.len + 1; lines = s.lines; line = grown s.line b } in
    elim (b == 10) as (λ v. ComesTo (s.len + 1) (cond v (line_ended (s.len + 1) s.lines s.line) (go_on t)))
    [ true ↦ line_ended-len (s.len + 1) s.lines s.line | false ↦ go_on-len t ]

within-step : (f : HeadSearch) (k n len : ℕ) (a : List ℕ) → ComesTo (k + 1) f → len ≡ length a
    → ((t : Scan) → found_over t a ≡ Head n → n ≤ t.len + len) → and_then f (λ t. found_over t a) ≡ Head n → n ≤ k + (len + 1)
within-step (More t) k n len a here is ih e = let below : n ≤ t.len + len = ih t e in omega arith
within-step (Head m) k n len a here is ih e = let same : m ≡ n = cc in omega arith
within-step TooLong k n len a here is ih e = absurd (cc)

-- an end that was found lies in the bytes
pub found_over-within : (a : List ℕ) (s : Scan) (n : ℕ) → found_over s a ≡ Head n → n ≤ s.len + length a
found_over-within [] s n e = absurd (cc)
found_over-within (x ∷ a) s n e =
    let step : n ≤ s.len + (length a + 1) = within-step (found_with s x) s.len n (length a) a (found_with-len s x) refl (λ t h. found_over-within a t n h) e in
    omega (arith, step)
