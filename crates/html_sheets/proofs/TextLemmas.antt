-- What a text is within a page, by what is written for each byte.
use Rattle.std.proofs.Common.{◌≡◌, ◌≢◌, ℕ, zero, suc, ◌==◌, Bool, true, false, List, [], ◌∷◌, ◌++◌, filter, map, get_or, drop, refl, ap, ◌∙◌, subst, ne_eqb, arith}
use Rattle.std.specs.Prelude.{codes, None}
use Rattle.std.proofs.lemmas.Bool.{cond_both}
use Rattle.std.proofs.lemmas.Bool.Decides.{nat_tests}
use Rattle.std.proofs.lemmas.List.Elements.{filter-append}
use Rattle.html_sheets.specs.Escapes.{is_control, blanked_byte, escaped_byte, escaped, lined_byte, lined}
use Rattle.html_sheets.specs.Marks.{is_mark, marks}
use Rattle.html_sheets.specs.Reading.{begins_reference, read_from, read_text}

-- a byte that stays as it is
pub record IsPlain (byte : ℕ) : Type 0 where
  pub less : byte ≢ 60
  pub greater : byte ≢ 62
  pub and : byte ≢ 38
  pub quote : byte ≢ 34
  pub apostrophe : byte ≢ 39
  pub control : is_control byte ≡ false

apart : (a b : ℕ) → (a == b) ≡ false → a ≢ b
apart a b h = grind (arith, nat_tests)

-- what holds of each reference, of a blank for a control byte, and of a byte that stays as it is, holds of what is written
module _ (P : ℕ → List ℕ → Type 0)
    (less : P 60 (codes "&lt;")) (greater : P 62 (codes "&gt;")) (and : P 38 (codes "&amp;")) (quote : P 34 (codes "&quot;")) (apostrophe : P 39 (codes "&#39;"))
    (blank : (byte : ℕ) → is_control byte ≡ true → P byte (32 ∷ []))
    (plain : (byte : ℕ) → IsPlain byte → P byte (byte ∷ [])) where
  at_last : (byte : ℕ) → byte ≢ 60 → byte ≢ 62 → byte ≢ 38 → byte ≢ 34 → byte ≢ 39 → P byte (blanked_byte byte ∷ [])
  unfolding blanked_byte
  at_last byte l g a q s =
      cond_both (is_control byte) 32 byte (λ (b : ℕ). P byte (b ∷ [])) (blank byte) (λ other.
      plain byte (record { less = l; greater = g; and = a; quote = q; apostrophe = s; control = other }))

  same : (n byte : ℕ) (text : List ℕ) → (byte == n) ≡ true → P n text → P byte text
  same n byte text e p = let is : n ≡ byte = grind (arith, nat_tests) in subst (λ (b : ℕ). P b text) is p

  pub by_byte : (byte : ℕ) → P byte (escaped_byte byte)
  unfolding escaped_byte
  by_byte byte =
      cond_both (byte == 60) _ _ (P byte) (λ e. same 60 byte _ e less) (λ l.
      cond_both (byte == 62) _ _ (P byte) (λ e. same 62 byte _ e greater) (λ g.
      cond_both (byte == 38) _ _ (P byte) (λ e. same 38 byte _ e and) (λ a.
      cond_both (byte == 34) _ _ (P byte) (λ e. same 34 byte _ e quote) (λ q.
      cond_both (byte == 39) _ _ (P byte) (λ e. same 39 byte _ e apostrophe) (λ s.
      at_last byte (apart _ _ l) (apart _ _ g) (apart _ _ a) (apart _ _ q) (apart _ _ s))))))

-- a filter that keeps nothing of what is written for any byte keeps nothing of a text
kept_none : (p : ℕ → Bool) → ((byte : ℕ) → filter p (escaped_byte byte) ≡ []) → (text : List ℕ) → filter p (escaped text) ≡ []
kept_none p none [] = refl
kept_none p none (byte ∷ text) = filter-append p (escaped_byte byte) (escaped text) ∙ rw (none byte, kept_none p none text) refl

plain_no_mark : (byte : ℕ) → IsPlain byte → is_mark byte ≡ false
unfolding is_mark
plain_no_mark byte is = grind (arith, nat_tests, is.less, is.greater, is.quote, is.apostrophe)

byte_marks : (byte : ℕ) → filter is_mark (escaped_byte byte) ≡ []
unfolding is_mark
byte_marks = by_byte (λ byte text. filter is_mark text ≡ []) refl refl refl refl refl (λ byte is. refl) (λ byte is. rw (plain_no_mark byte is) refl)

pub escaped-marks : (text : List ℕ) → marks (escaped text) ≡ []
escaped-marks = kept_none is_mark byte_marks

-- nor has a text of several lines
line_marks : (byte : ℕ) → filter is_mark (lined_byte byte) ≡ []
unfolding is_mark lined_byte
line_marks byte = cond_both (byte == 10) _ _ (λ text. filter is_mark text ≡ []) (λ _. refl) (λ _. byte_marks byte)

pub lined-marks : (text : List ℕ) → marks (lined text) ≡ []
lined-marks [] = refl
lined-marks (byte ∷ text) = filter-append is_mark (lined_byte byte) (lined text) ∙ rw (line_marks byte, lined-marks text) refl

byte_controls : (byte : ℕ) → filter is_control (escaped_byte byte) ≡ []
unfolding is_control
byte_controls = by_byte (λ byte text. filter is_control text ≡ []) refl refl refl refl refl (λ byte is. refl) (λ byte is. rw (is.control) refl)

pub escaped-controls : (text : List ℕ) → filter is_control (escaped text) ≡ []
escaped-controls = kept_none is_control byte_controls

-- each `&` begins a reference
abbrev pub AllRefer : List ℕ → Type 0
AllRefer [] = Unit {0}
AllRefer (byte ∷ bytes) = (byte ≡ 38 → begins_reference (byte ∷ bytes) ≡ true) × AllRefer bytes

byte_refers : (rest : List ℕ) → AllRefer rest → (byte : ℕ) → AllRefer (escaped_byte byte ++ rest)
byte_refers rest h = by_byte (λ byte text. AllRefer (text ++ rest))
    (λ _. refl, (λ e. absurd (omega arith), (λ e. absurd (omega arith), (λ e. absurd (omega arith), h))))
    (λ _. refl, (λ e. absurd (omega arith), (λ e. absurd (omega arith), (λ e. absurd (omega arith), h))))
    (λ _. refl, (λ e. absurd (omega arith), (λ e. absurd (omega arith), (λ e. absurd (omega arith), (λ e. absurd (omega arith), h)))))
    (λ _. refl, (λ e. absurd (omega arith), (λ e. absurd (omega arith), (λ e. absurd (omega arith), (λ e. absurd (omega arith), (λ e. absurd (omega arith), h))))))
    (λ _. refl, (λ e. absurd (omega arith), (λ e. absurd (omega arith), (λ e. absurd (omega arith), (λ e. absurd (omega arith), h)))))
    (λ byte is. (λ e. absurd (omega arith), h))
    (λ byte is. (λ e. absurd (is.and e), h))

text_refers : (text : List ℕ) → AllRefer (escaped text)
text_refers [] = tt
text_refers (byte ∷ text) = byte_refers (escaped text) (text_refers text) byte

refers_at : (bytes : List ℕ) → AllRefer bytes → (i : ℕ) → get_or bytes i 0 ≡ 38 → begins_reference (drop i bytes) ≡ true
refers_at [] h i e = absurd (omega arith)
refers_at (byte ∷ bytes) h zero e = h.0 e
refers_at (byte ∷ bytes) h (suc i) e = refers_at bytes h.1 i e

pub escaped-refers : (text : List ℕ) (i : ℕ) → get_or (escaped text) i 0 ≡ 38 → begins_reference (drop i (escaped text)) ≡ true
escaped-refers text = refers_at (escaped text) (text_refers text)

unlike : (a b : ℕ) → a ≢ b → (a == b) ≡ false
unlike a b h = ne_eqb a b h

-- what is read of what is written for a byte, and of what follows
byte_read : (rest : List ℕ) (byte : ℕ) → read_from None (escaped_byte byte ++ rest) ≡ blanked_byte byte ∷ read_from None rest
unfolding blanked_byte is_control
byte_read rest = by_byte (λ byte text. read_from None (text ++ rest) ≡ blanked_byte byte ∷ read_from None rest)
    refl refl refl refl refl
    (λ byte is. rw is refl)
    (λ byte is. rw (is.control, unlike byte 38 is.and) refl)

pub escaped-read : (text : List ℕ) → read_text (escaped text) ≡ map blanked_byte text
escaped-read [] = refl
escaped-read (byte ∷ text) = byte_read (escaped text) byte ∙ ap (λ (bytes : List ℕ). blanked_byte byte ∷ bytes) (escaped-read text)
