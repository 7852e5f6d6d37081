-- No fold is within a character: the physical lines of UTF-8 are UTF-8.
use Rattle.std.proofs.Common.{◌≡◌, inl, inr, ℕ, ◌+◌, true, List, [], ◌∷◌, ◌++◌, IsUtf8, refl, sym, ap, ◌∙◌, subst, append_assoc, arith}
use Rattle.std.proofs.lemmas.Bool.{cases_lt, and_parts}
use Rattle.std.proofs.lemmas.Str.{IsUtf8-append, IsUtf8-nil, IsUtf8-encode, encode_ascii}
use Rattle.std.specs.Char.{len_utf8}
use Rattle.std.specs.List.{flat_map, All, AllByRecursion, onto_first}
use lib.Utf8.{scalar, scalars, encode, encodes, low_scalar}
use Rattle.icalendar.specs.ContentLines.{folded_from, content_line, without_return, physical_lines, IsLine}
use Rattle.icalendar.specs.Texts.{IsInLine, HasNoBreak}
use Rattle.icalendar.proofs.Folding.{char_stays, char_moves}
use Rattle.icalendar.proofs.LineLaws.{parts, parts-other, without_return-other, Each, each_physical}
use Rattle.icalendar.proofs.ValueLaws.{all_front, all_back}

-- bytes before the first part
abbrev onto_all : List ℕ → List (List ℕ) → List (List ℕ)
onto_all [] ps = ps
onto_all (x ∷ xs) ps = onto_first x (onto_all xs ps)

onto_all-cons : (xs p : List ℕ) (ps : List (List ℕ)) → onto_all xs (p ∷ ps) ≡ (xs ++ p) ∷ ps
onto_all-cons [] p ps = refl
onto_all-cons (x ∷ xs) p ps = ap (onto_first x) (onto_all-cons xs p ps)

parts-append : (xs text : List ℕ) → HasNoBreak xs → parts (xs ++ text) ≡ onto_all xs (parts text)
parts-append [] text h = refl
parts-append (x ∷ xs) text h = parts-other x (xs ++ text) h.0.0 ∙ ap (onto_first x) (parts-append xs text h.1)

without_return-append : (xs part : List ℕ) → HasNoBreak xs → without_return (xs ++ part) ≡ xs ++ without_return part
without_return-append [] part h = refl
without_return-append (x ∷ xs) part h = without_return-other x (xs ++ part) h.0.1 ∙ ap (λ l. x ∷ l) (without_return-append xs part h.1)

-- there are parts, and each is UTF-8
abbrev AreUtf8 : List (List ℕ) → Type 0
AreUtf8 [] = ⊥
AreUtf8 (p ∷ ps) = IsUtf8 (without_return p) × Each IsUtf8 ps

utf8_each : (ps : List (List ℕ)) → AreUtf8 ps → Each IsUtf8 ps
utf8_each [] h = tt
utf8_each (p ∷ ps) h = (h.0, h.1)

utf8_onto : (xs : List ℕ) (ps : List (List ℕ)) → HasNoBreak xs → IsUtf8 xs → AreUtf8 ps → AreUtf8 (onto_all xs ps)
utf8_onto xs [] clean text h = absurd h
utf8_onto xs (p ∷ ps) clean text h =
    rw (onto_all-cons xs p ps) (rw (without_return-append xs p clean) (IsUtf8-append xs (without_return p) text h.0), h.1)

utf8_append : (xs text : List ℕ) → HasNoBreak xs → IsUtf8 xs → AreUtf8 (parts text) → AreUtf8 (parts (xs ++ text))
utf8_append xs text clean is h = rw (parts-append xs text clean) (utf8_onto xs (parts text) clean is h)

utf8_blank : IsUtf8 (32 ∷ [])
utf8_blank = subst IsUtf8 (encode_ascii 32 (omega arith)) (IsUtf8-encode 32 (low_scalar 32 (omega arith)))

blank_in_line : HasNoBreak (32 ∷ [])
blank_in_line = ((λ e. omega arith, λ e. omega arith), tt)

utf8_from : (at : ℕ) (cs tail : List ℕ) → scalars cs ≡ true → HasNoBreak (encodes cs) → AreUtf8 (parts tail) → AreUtf8 (parts (folded_from at (encodes cs) ++ 13 ∷ 10 ∷ tail))
utf8_from at [] tail valid clean rest = (IsUtf8-nil, utf8_each (parts tail) rest)
utf8_from at (c ∷ cs) tail valid clean rest =
    let both = and_parts (scalar c) (scalars cs) valid in
    let first = IsUtf8-encode c both.0 in
    let front = all_front IsInLine (encode c) (encodes cs) clean in
    let back = all_back IsInLine (encode c) (encodes cs) clean in
    elim (cases_lt 75 (at + len_utf8 c)) [
      | inl far ↦
          let text = folded_from (1 + len_utf8 c) (encodes cs) in
          let later = utf8_from (1 + len_utf8 c) cs tail both.1 back rest in
          let whole : AreUtf8 (parts (encode c ++ (text ++ 13 ∷ 10 ∷ tail))) = utf8_append (encode c) (text ++ 13 ∷ 10 ∷ tail) front first later in
          rw (char_moves at c (encodes cs) far, append_assoc (encode c) text (13 ∷ 10 ∷ tail))
          (IsUtf8-nil, utf8_each _ (utf8_append (32 ∷ []) (encode c ++ (text ++ 13 ∷ 10 ∷ tail)) blank_in_line utf8_blank whole))
      | inr near ↦
          let text = folded_from (at + len_utf8 c) (encodes cs) in
          let later = utf8_from (at + len_utf8 c) cs tail both.1 back rest in
          rw (char_stays at c (encodes cs) near, append_assoc (encode c) text (13 ∷ 10 ∷ tail))
          (utf8_append (encode c) (text ++ 13 ∷ 10 ∷ tail) front first later)
    ]

utf8_none : AreUtf8 (parts [])
utf8_none = (IsUtf8-nil, tt)

utf8_line : (line tail : List ℕ) → HasNoBreak line → IsUtf8 line → AreUtf8 (parts tail) → AreUtf8 (parts (folded_from 0 line ++ 13 ∷ 10 ∷ tail))
utf8_line line tail clean is rest =
    let P : List ℕ → Type 0 = λ l. AreUtf8 (parts (folded_from 0 l ++ 13 ∷ 10 ∷ tail)) in
    subst P is.1.1 (utf8_from 0 is.0 tail is.1.0 (subst HasNoBreak (sym is.1.1) clean) rest)

pub line_utf8 : (line : List ℕ) → HasNoBreak line → IsUtf8 line → All IsUtf8 (physical_lines (content_line line))
unfolding content_line
line_utf8 line clean is = each_physical IsUtf8 _ (utf8_each _ (utf8_line line [] clean is utf8_none))

lines_utf8_from : (lines : List (List ℕ)) → AllByRecursion IsLine lines → AllByRecursion IsUtf8 lines → AreUtf8 (parts (flat_map content_line lines))
unfolding content_line
lines_utf8_from [] h is = utf8_none
lines_utf8_from (line ∷ lines) h is =
    rw (append_assoc (folded_from 0 line) (13 ∷ 10 ∷ []) (flat_map content_line lines))
    (utf8_line line (flat_map content_line lines) h.0.0 is.0 (lines_utf8_from lines h.1 is.1))

pub lines_utf8 : (lines : List (List ℕ)) → AllByRecursion IsLine lines → AllByRecursion IsUtf8 lines → All IsUtf8 (physical_lines (flat_map content_line lines))
lines_utf8 lines h is = each_physical IsUtf8 _ (utf8_each _ (lines_utf8_from lines h is))
