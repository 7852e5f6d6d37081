-- The lines of events.
use Rattle.std.proofs.Common.{◌≡◌, ℕ, ◌+◌, ◌/◌, ◌%◌, Bool, true, false, ◌==◌, ◌&&◌, nat_lt, not, List, [], ◌∷◌, ◌++◌, codes, IsUtf8, ℤ, refl, arith}
use Rattle.std.proofs.lemmas.Bool.{and_parts}
use Rattle.std.proofs.lemmas.Bool.Decides.{nat_tests}
use Rattle.std.proofs.lemmas.List.Elements.{All-from_recursion}
use Rattle.std.proofs.lemmas.Str.{IsUtf8-append, IsUtf8-from_ascii}
use Rattle.std.specs.List.{All}
use Rattle.court_days.specs.declared.filing.End.{End}
use Rattle.court_days.specs.declared.filing.End.TheVariants.{LastDay, Moment}
use Rattle.civil_time.proofs.Written.{AreSmall, ascii_from}
use Rattle.icalendar.specs.ContentLines.{begins_blank, named, IsLine}
use Rattle.icalendar.specs.Events.{start_line, event_lines, head_lines, foot_lines}
use Rattle.icalendar.specs.Texts.{text_value, IsInLine, HasNoBreak}
use Rattle.icalendar.specs.Times.{date_value, told, digits_of_time, utc_value}
use Rattle.icalendar.proofs.TimeLemmas.{date_value-utf8, utc_value-utf8}
use Rattle.icalendar.proofs.ValueLaws.{all_append, named_in_line, value_in_line, value_utf8}

-- of a text that is written out: no byte ends a line, and each is ASCII
abbrev are_plain : List ℕ → Bool
are_plain [] = true
are_plain (x ∷ xs) = not (x == 10) && (not (x == 13) && nat_lt x 128) && are_plain xs

plain_in_line : (xs : List ℕ) → are_plain xs ≡ true → HasNoBreak xs
plain_in_line [] e = tt
plain_in_line (x ∷ xs) e =
    let p = and_parts (not (x == 10) && (not (x == 13) && nat_lt x 128)) _ e in
    let here : IsInLine x = (λ k. grind (arith, nat_tests), λ k. grind (arith, nat_tests)) in
    (here, plain_in_line xs p.1)

plain_utf8 : (xs : List ℕ) → are_plain xs ≡ true → AreSmall xs
plain_utf8 [] e = tt
plain_utf8 (x ∷ xs) e =
    let p = and_parts (not (x == 10) && (not (x == 13) && nat_lt x 128)) _ e in
    (grind (arith, nat_tests), plain_utf8 xs p.1)

literal : (xs : List ℕ) → are_plain xs ≡ true → begins_blank xs ≡ false → IsLine xs
literal xs e dark = (plain_in_line xs e, dark)

literal_utf8 : (xs : List ℕ) → are_plain xs ≡ true → IsUtf8 xs
literal_utf8 xs e = IsUtf8-from_ascii xs (ascii_from xs (plain_utf8 xs e))

named_line : (name value : List ℕ) → are_plain name ≡ true → begins_blank (named name value) ≡ false → HasNoBreak value → IsLine (named name value)
named_line name value e dark clean = (named_in_line name value (plain_in_line name e) clean, dark)

named_utf8 : (name value : List ℕ) → are_plain name ≡ true → IsUtf8 value → IsUtf8 (named name value)
named_utf8 name value e is = IsUtf8-append name (58 ∷ value) (literal_utf8 name e) (IsUtf8-append (58 ∷ []) value (literal_utf8 (58 ∷ []) refl) is)

-- digits
from_48 : (n : ℕ) → IsInLine (48 + n)
from_48 n = (λ e. omega arith, λ e. omega arith)

date_in_line : (day : ℕ) → HasNoBreak (date_value day)
unfolding date_value
date_in_line day = (from_48 _, (from_48 _, (from_48 _, (from_48 _, (from_48 _, (from_48 _, (from_48 _, (from_48 _, tt))))))))

time_in_line : (second : ℕ) → HasNoBreak (digits_of_time second ++ 90 ∷ [])
time_in_line second = (from_48 _, (from_48 _, (from_48 _, (from_48 _, (from_48 _, (from_48 _, ((λ e. omega arith, λ e. omega arith), tt)))))))

utc_in_line : (at : ℕ) → HasNoBreak (utc_value at)
unfolding utc_value
utc_in_line at =
    all_append IsInLine (date_value (at / 86_400)) (84 ∷ (digits_of_time (at % 86_400) ++ 90 ∷ []))
    (date_in_line (at / 86_400)) ((λ e. omega arith, λ e. omega arith), time_in_line (at % 86_400))

start_is_line : (end : End) → IsLine (start_line end)
start_is_line (LastDay day) = named_line (codes "DTSTART;VALUE=DATE") (date_value day) refl refl (date_in_line day)
start_is_line (Moment at) = named_line (codes "DTSTART") (utc_value (told at)) refl refl (utc_in_line (told at))

pub event_is_lines : (uid summary description : List ℕ) (stamp : ℤ) (end : End) → All IsLine (event_lines uid stamp end summary description)
event_is_lines uid summary description stamp end =
    All-from_recursion IsLine (event_lines uid stamp end summary description) (
      literal (codes "BEGIN:VEVENT") refl refl,
      (
        named_line (codes "UID") (text_value uid) refl refl (value_in_line uid),
        (
          named_line (codes "DTSTAMP") (utc_value (told stamp)) refl refl (utc_in_line (told stamp)),
          (
            start_is_line end,
            (
              named_line (codes "SUMMARY") (text_value summary) refl refl (value_in_line summary),
              (
                named_line (codes "DESCRIPTION") (text_value description) refl refl (value_in_line description),
                (
                  literal (codes "TRANSP:TRANSPARENT") refl refl,
                  (literal (codes "END:VEVENT") refl refl, tt),
                ),
              ),
            ),
          ),
        ),
      ),
    )

pub head_is_lines : All IsLine head_lines
head_is_lines =
    All-from_recursion IsLine head_lines (
      literal (codes "BEGIN:VCALENDAR") refl refl,
      (
        literal (codes "VERSION:2.0") refl refl,
        (
          literal (codes "PRODID:-//Wogzenay//docketctl//EN") refl refl,
          (
            literal (codes "CALSCALE:GREGORIAN") refl refl,
            (
              literal (codes "X-WR-CALNAME:Court deadlines") refl refl,
              (
                literal (codes "REFRESH-INTERVAL;VALUE=DURATION:PT1H") refl refl,
                (literal (codes "X-PUBLISHED-TTL:PT1H") refl refl, tt),
              ),
            ),
          ),
        ),
      ),
    )

pub foot_is_lines : All IsLine foot_lines
foot_is_lines = All-from_recursion IsLine foot_lines (literal (codes "END:VCALENDAR") refl refl, tt)

-- the lines are UTF-8 where the texts are
start_utf8 : (end : End) → IsUtf8 (start_line end)
start_utf8 (LastDay day) = named_utf8 (codes "DTSTART;VALUE=DATE") (date_value day) refl (date_value-utf8 day)
start_utf8 (Moment at) = named_utf8 (codes "DTSTART") (utc_value (told at)) refl (utc_value-utf8 (told at))

pub event_utf8 : (uid summary description : List ℕ) (stamp : ℤ) (end : End) → IsUtf8 uid → IsUtf8 summary → IsUtf8 description → All IsUtf8 (event_lines uid stamp end summary description)
event_utf8 uid summary description stamp end u s d =
    All-from_recursion IsUtf8 (event_lines uid stamp end summary description) (
      literal_utf8 (codes "BEGIN:VEVENT") refl,
      (
        named_utf8 (codes "UID") (text_value uid) refl (value_utf8 uid u),
        (
          named_utf8 (codes "DTSTAMP") (utc_value (told stamp)) refl (utc_value-utf8 (told stamp)),
          (
            start_utf8 end,
            (
              named_utf8 (codes "SUMMARY") (text_value summary) refl (value_utf8 summary s),
              (
                named_utf8 (codes "DESCRIPTION") (text_value description) refl (value_utf8 description d),
                (
                  literal_utf8 (codes "TRANSP:TRANSPARENT") refl,
                  (literal_utf8 (codes "END:VEVENT") refl, tt),
                ),
              ),
            ),
          ),
        ),
      ),
    )
