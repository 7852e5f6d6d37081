-- The physical lines of content lines, and unfolding.
use Rattle.std.proofs.Common.{◌≡◌, inl, inr, ℕ, ◌+◌, ◌≤◌, false, ◌==◌, ◌&&◌, List, [], ◌∷◌, ◌++◌, length, map, refl, sym, ap, ◌∙◌, append_assoc, arith}
use Rattle.std.proofs.lemmas.Bool.{cases_lt, cond-false, ne_eqb, and_left}
use Rattle.std.proofs.lemmas.Bool.Decides.{nat_tests}
use Rattle.std.proofs.lemmas.List.Elements.{All-from_recursion}
use Rattle.std.proofs.lemmas.List.Splits.{slice_split-cons_no}
use Rattle.std.specs.List.{flat_map, All, AllByRecursion, slice_split, onto_first}
use Rattle.icalendar.specs.ContentLines.{octets_from, folded_from, content_line, ended, is_blank, begins_blank, unfolded, without_return, physical_lines, IsLine}
use Rattle.icalendar.specs.Texts.{HasNoBreak}
use Rattle.icalendar.proofs.Folding.{folded_stays, folded_moves}
use Rattle.icalendar.proofs.Values.{Differs}

-- the parts that LF ends
abbrev pub parts : List ℕ → List (List ℕ)
parts text = slice_split (λ b. b == 10) text

pub parts-other : (b : ℕ) (text : List ℕ) → Differs 10 b → parts (b ∷ text) ≡ onto_first b (parts text)
parts-other b text h = slice_split-cons_no (λ b. b == 10) b text (ne_eqb b 10 h)

pub without_return-other : (b : ℕ) (part : List ℕ) → Differs 13 b → without_return (b ∷ part) ≡ b ∷ without_return part
without_return-other b part h = cond-false _ _ _ (and_left (b == 13) (length part == 0) (ne_eqb b 13 h))

pub octets_least : (b : ℕ) → 1 ≤ octets_from b
octets_least b = grind (arith, nat_tests)

octets_most : (b : ℕ) → octets_from b ≤ 4
octets_most b = grind (arith, nat_tests)

-- of each part what is without CR has P
abbrev pub Each : (List ℕ → Type 0) → List (List ℕ) → Type 0
Each P ps = AllByRecursion (λ part. P (without_return part)) ps

each_map : (P : List ℕ → Type 0) (ps : List (List ℕ)) → Each P ps → AllByRecursion P (map without_return ps)
each_map P [] h = tt
each_map P (p ∷ ps) h = (h.0, each_map P ps h.1)

pub each_physical : (P : List ℕ → Type 0) (text : List ℕ) → Each P (parts text) → All P (physical_lines text)
unfolding physical_lines
each_physical P text h = All-from_recursion P _ (each_map P (parts text) h)

-- at most 75 octets, where the first part has `at` before these
abbrev IsShort : List ℕ → Type 0
IsShort line = length line ≤ 75

abbrev ShortFrom : ℕ → List (List ℕ) → Type 0
ShortFrom at [] = at ≤ 75
ShortFrom at (p ∷ ps) = (at + length (without_return p) ≤ 75) × Each IsShort ps

short_each : (ps : List (List ℕ)) → ShortFrom 0 ps → Each IsShort ps
short_each [] h = tt
short_each (p ∷ ps) h = (omega (arith, h.0), h.1)

short_more : (at b : ℕ) (ps : List (List ℕ)) → Differs 13 b → ShortFrom (at + 1) ps → ShortFrom at (onto_first b ps)
short_more at b [] other h = let e = without_return-other b [] other in (rw e (omega arith), tt)
short_more at b (p ∷ ps) other h = let e = without_return-other b p other in (rw e (omega (arith, h.0)), h.1)

short_from : (at : ℕ) (line tail : List ℕ) → at ≤ 75 → HasNoBreak line → ShortFrom 0 (parts tail) → ShortFrom at (parts (folded_from at line ++ 13 ∷ 10 ∷ tail))
short_from at [] tail room clean rest = (omega arith, short_each (parts tail) rest)
short_from at (b ∷ line) tail room clean rest =
    let least = octets_least b in
    let feed = clean.0.0 in
    let return = clean.0.1 in
    elim (cases_lt 75 (at + octets_from b)) [
      | inl far ↦
          let later = short_from 2 line tail (omega arith) clean.1 rest in
          let text = folded_from 2 line ++ 13 ∷ 10 ∷ tail in
          let first : ShortFrom 1 (parts (b ∷ text)) = rw (parts-other b text feed) (short_more 1 b _ return later) in
          rw (folded_moves at b line far) (omega arith, short_each _ (short_more 0 32 _ (λ e. omega arith) first))
      | inr near ↦
          let later = short_from (at + 1) line tail (omega (arith, least)) clean.1 rest in
          rw (folded_stays at b line near, parts-other b (folded_from (at + 1) line ++ 13 ∷ 10 ∷ tail) feed) (short_more at b _ return later)
    ]

short_none : ShortFrom 0 (parts [])
short_none = (omega arith, tt)

pub line_short : (line : List ℕ) → HasNoBreak line → All (λ part. length part ≤ 75) (physical_lines (content_line line))
unfolding content_line
line_short line clean = each_physical IsShort _ (short_each _ (short_from 0 line [] (omega arith) clean short_none))

lines_short_from : (lines : List (List ℕ)) → AllByRecursion IsLine lines → ShortFrom 0 (parts (flat_map content_line lines))
unfolding content_line
lines_short_from [] h = short_none
lines_short_from (line ∷ lines) h =
    rw (append_assoc (folded_from 0 line) (13 ∷ 10 ∷ []) (flat_map content_line lines))
    (short_from 0 line (flat_map content_line lines) (omega arith) h.0.0 (lines_short_from lines h.1))

pub lines_short : (lines : List (List ℕ)) → AllByRecursion IsLine lines → All (λ part. length part ≤ 75) (physical_lines (flat_map content_line lines))
lines_short lines h = each_physical IsShort _ (short_each _ (lines_short_from lines h))

-- unfolding
unfolded-other : (a : ℕ) (text : List ℕ) → Differs 13 a → unfolded (a ∷ text) ≡ a ∷ unfolded text
unfolded-other a [] h = refl
unfolded-other a (b ∷ []) h = refl
unfolded-other a (b ∷ c ∷ text) h = cond-false _ _ _ (and_left (a == 13) (b == 10 && is_blank c) (ne_eqb a 13 h))

unfolded-end : (text : List ℕ) → begins_blank text ≡ false → unfolded (13 ∷ 10 ∷ text) ≡ 13 ∷ 10 ∷ unfolded text
unfolded-end [] h = refl
unfolded-end (c ∷ text) h = cond-false (is_blank c) _ _ h ∙ ap (λ l. 13 ∷ l) (unfolded-other 10 (c ∷ text) (λ e. omega arith))

unfolded_from : (at : ℕ) (line tail : List ℕ) → HasNoBreak line → begins_blank tail ≡ false → unfolded (folded_from at line ++ 13 ∷ 10 ∷ tail) ≡ line ++ 13 ∷ 10 ∷ unfolded tail
unfolded_from at [] tail clean dark = unfolded-end tail dark
unfolded_from at (b ∷ line) tail clean dark =
    let return = clean.0.1 in
    elim (cases_lt 75 (at + octets_from b)) [
      | inl far ↦
          rw (folded_moves at b line far)
          (unfolded-other b (folded_from 2 line ++ 13 ∷ 10 ∷ tail) return ∙ ap (λ l. b ∷ l) (unfolded_from 2 line tail clean.1 dark))
      | inr near ↦
          rw (folded_stays at b line near)
          (unfolded-other b (folded_from (at + 1) line ++ 13 ∷ 10 ∷ tail) return ∙ ap (λ l. b ∷ l) (unfolded_from (at + 1) line tail clean.1 dark))
    ]

pub line_unfolded : (line : List ℕ) → HasNoBreak line → unfolded (content_line line) ≡ ended line
unfolding content_line
line_unfolded line clean = unfolded_from 0 line [] clean refl

-- a content line begins as the line does
begins_alike : (line tail : List ℕ) → begins_blank line ≡ false → begins_blank (content_line line ++ tail) ≡ false
unfolding content_line
begins_alike [] tail h = refl
begins_alike (b ∷ line) tail h = let most = octets_most b in rw (folded_stays 0 b line (omega (arith, most))) h

begins_dark : (lines : List (List ℕ)) → AllByRecursion IsLine lines → begins_blank (flat_map content_line lines) ≡ false
begins_dark [] h = refl
begins_dark (line ∷ lines) h = begins_alike line (flat_map content_line lines) h.0.1

pub lines_unfolded : (lines : List (List ℕ)) → AllByRecursion IsLine lines → unfolded (flat_map content_line lines) ≡ flat_map ended lines
unfolding content_line
lines_unfolded [] h = refl
lines_unfolded (line ∷ lines) h =
    let rest = flat_map content_line lines in
    ap unfolded (append_assoc (folded_from 0 line) (13 ∷ 10 ∷ []) rest)
    ∙ (unfolded_from 0 line rest h.0.0 (begins_dark lines h.1)
    ∙ (ap (λ l. line ++ 13 ∷ 10 ∷ l) (lines_unfolded lines h.1) ∙ sym (append_assoc line (13 ∷ 10 ∷ []) (flat_map ended lines))))
