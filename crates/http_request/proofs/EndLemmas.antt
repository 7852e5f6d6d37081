-- The end that is found is that of a head.
use Rattle.std.proofs.Common.{◌≡◌, ◌≢◌, inl, inr, ℕ, ◌+◌, ◌<◌, ◌≤◌, List, [], ◌∷◌, ◌++◌, length, take, refl, ap, sym, subst, ◌∙◌, true, false, cond, ◌==◌, nat_lt, append_assoc, append-nil, length-append, take_at, Bool, if◌then◌else◌, arith}
use Rattle.std.proofs.lemmas.Bool.{ltb-true, eqb-false, eqb-true}
use Rattle.std.proofs.lemmas.Bool.Decides.{eqb_tells}
use Rattle.std.proofs.lemmas.List.{nil_from_length}
use Rattle.std.proofs.lemmas.Grind.{flat_map-append}
use Rattle.std.specs.List.{flat_map, AllByRecursion}
use Rattle.http_request.specs.declared.head.Scan.{Scan}
use Rattle.http_request.specs.declared.head.HeadSearch.{HeadSearch}
use Rattle.http_request.specs.declared.head.HeadSearch.TheVariants.{More, Head, TooLong}
use Rattle.http_request.specs.declared.head.Line.{Line}
use Rattle.http_request.specs.declared.head.Line.TheVariants.{Empty, Return, Filled}
use Rattle.http_request.specs.Head.{found_over, and_then, found_with, go_on, line_ended, grown, head_of, start}
use Rattle.http_request.specs.Lines.{IsEmptyLine, IsFilledLine, ended, IsHeadWithin}

-- what has come of a line
abbrev pub IsPart : Line → List ℕ → Type 0
IsPart Empty part = part ≡ []
IsPart Return part = part ≡ 13 ∷ []
IsPart Filled part = IsFilledLine part

-- the bytes that have come, in lines
pub record HasCome (s : Scan) (bytes : List ℕ) : Type 0 where
  pub leading : List (List ℕ)
  pub filled : List (List ℕ)
  pub part : List ℕ
  pub leading_empty : AllByRecursion IsEmptyLine leading
  pub filled_so : AllByRecursion IsFilledLine filled
  pub is_part : IsPart s.line part
  pub lines : bytes ≡ flat_map ended leading ++ (flat_map ended filled ++ part)
  pub count : s.lines ≡ length filled
  pub size : s.len ≡ length bytes
  pub short : s.len < 8192
  pub few : s.lines < 66

-- what the result of the search means for them
abbrev pub Tells : HeadSearch → List ℕ → Type 0
Tells (More s) bytes = HasCome s bytes
Tells (Head len) bytes = IsHeadWithin bytes × (len ≡ length bytes)
Tells TooLong bytes = Unit {0}

all_and : {X : Type 0} (P : X → Type 0) (xs : List X) (x : X) → AllByRecursion P xs → P x → AllByRecursion P (xs ++ x ∷ [])
all_and P [] x all is = (is, tt)
all_and P (y ∷ xs) x all is = (all.0, all_and P xs x all.1 is)

-- one more byte of the last part
part_and : (a b part : List ℕ) (x : ℕ) → (a ++ (b ++ part)) ++ x ∷ [] ≡ a ++ (b ++ (part ++ x ∷ []))
part_and a b part x = append_assoc a (b ++ part) (x ∷ []) ∙ ap (λ z. a ++ z) (append_assoc b part (x ∷ []))

-- a line more
line_and : (lines : List (List ℕ)) (line : List ℕ) → flat_map ended (lines ++ line ∷ []) ≡ flat_map ended lines ++ ended line
line_and lines line = flat_map-append ended lines (line ∷ []) ∙ ap (λ z. flat_map ended lines ++ z) (append-nil (ended line))

goes : (s : Scan) (bytes : List ℕ) → (s.len < 8192 → HasCome s bytes) → Tells (go_on s) bytes
goes s bytes come = at (nat_lt s.len 8192) refl where
  at : (v : Bool) → nat_lt s.len 8192 ≡ v → Tells (cond v (More s) TooLong) bytes
  at true e = come (ltb-true s.len 8192 e)
  at false e = tt

-- a filled line is longer than nothing
filled_some : (part : List ℕ) → IsFilledLine part → 0 < length part
filled_some [] filled = absurd (filled.not_empty (inl refl))
filled_some (b ∷ part) filled = omega arith

one_more : (part : List ℕ) (b : ℕ) → 0 < length part → ¬ IsEmptyLine (part ++ b ∷ [])
one_more part b some (inl e) = let size : length part + 1 ≡ 0 = sym (length-append part (b ∷ [])) ∙ ap length e in absurd (omega (arith, size))
one_more part b some (inr e) = let size : length part + 1 ≡ 1 = sym (length-append part (b ∷ [])) ∙ ap length e in absurd (omega (arith, size, some))

-- the part with one more byte that doesn't end it
part_grows : (line : Line) (part : List ℕ) (b : ℕ) → b ≢ 10 → IsPart line part → IsPart (grown line b) (part ++ b ∷ [])
part_grows Empty part b other is =
    elim (eqb_tells b 13) [
      | inl is_return ↦
          subst (λ v. IsPart (cond v Return Filled) (part ++ b ∷ [])) (sym is_return.0) (ap (λ p. p ++ b ∷ []) is ∙ ap (λ z. z ∷ []) is_return.1)
      | inr is_other ↦
          subst (λ v. IsPart (cond v Return Filled) (part ++ b ∷ [])) (sym is_other.0)
          (subst (λ p. IsFilledLine (p ++ b ∷ [])) (sym is) (record {
            no_feed = (other, tt);
            not_empty = λ empty. elim empty [
              | inl e ↦ absurd (cc)
              | inr e ↦ is_other.1 (cc)
            ];
          }))
    ]
part_grows Return part b other is =
    subst (λ p. IsFilledLine (p ++ b ∷ [])) (sym is) (record {
      no_feed = ((λ e. absurd (omega (arith, e))), (other, tt));
      not_empty = one_more (13 ∷ []) b (omega arith);
    })
part_grows Filled part b other is = record {
  no_feed = all_and (λ c. c ≢ 10) part b is.no_feed other;
  not_empty = one_more part b (filled_some part is);
}

-- a byte within a line
within : (s : Scan) (bytes : List ℕ) (b : ℕ) → HasCome s bytes → b ≢ 10 → Tells (go_on (record { len = s.len + 1; lines = s.lines; line = grown s.line b })) (bytes ++ b ∷ [])
within s bytes b come other =
    goes (record { len = s.len + 1; lines = s.lines; line = grown s.line b }) (bytes ++ b ∷ []) (λ less. record {
      leading = come.leading;
      filled = come.filled;
      part = come.part ++ b ∷ [];
      leading_empty = come.leading_empty;
      filled_so = come.filled_so;
      is_part = part_grows s.line come.part b other come.is_part;
      lines = ap (λ x. x ++ b ∷ []) come.lines ∙ part_and (flat_map ended come.leading) (flat_map ended come.filled) come.part b;
      count = come.count;
      size = ap (λ k. k + 1) come.size ∙ sym (length-append bytes (b ∷ []));
      short = less;
      few = come.few;
    })

-- the end of a line that is not empty
fills : (len lines : ℕ) (bytes : List ℕ) → HasCome (record { len = len; lines = lines; line = Filled }) bytes → Tells (line_ended (len + 1) lines Filled) (bytes ++ 10 ∷ [])
fills len lines bytes come = at (lines + 1 == 66) refl where
  at : (v : Bool) → (lines + 1 == 66) ≡ v → Tells (cond v TooLong (go_on (record { len = len + 1; lines = lines + 1; line = Empty }))) (bytes ++ 10 ∷ [])
  at true e = tt
  at false e =
      let few = come.few in
      let not_many = eqb-false (lines + 1) 66 e in
      goes (record { len = len + 1; lines = lines + 1; line = Empty }) (bytes ++ 10 ∷ []) (λ less. record {
        leading = come.leading;
        filled = come.filled ++ come.part ∷ [];
        part = [];
        leading_empty = come.leading_empty;
        filled_so = all_and IsFilledLine come.filled come.part come.filled_so come.is_part;
        is_part = refl;
        lines = ap (λ x. x ++ 10 ∷ []) come.lines ∙ part_and (flat_map ended come.leading) (flat_map ended come.filled) come.part 10
            ∙ ap (λ x. flat_map ended come.leading ++ x) (sym (append-nil (flat_map ended (come.filled ++ come.part ∷ [])) ∙ line_and come.filled come.part));
        count = ap (λ k. k + 1) come.count ∙ sym (length-append come.filled (come.part ∷ []));
        size = ap (λ k. k + 1) come.size ∙ sym (length-append bytes (10 ∷ []));
        short = less;
        few = omega (arith, few, not_many);
      })

-- the end of an empty line, in front of the others or behind them
empties : (s : Scan) (bytes : List ℕ) (c : HasCome s bytes) → IsEmptyLine c.part
    → Tells (if s.lines == 0 then go_on (record { len = s.len + 1; lines = 0; line = Empty }) else Head (s.len + 1)) (bytes ++ 10 ∷ [])
empties s bytes come empty = at (s.lines == 0) refl where
  at : (v : Bool) → (s.lines == 0) ≡ v → Tells (cond v (go_on (record { len = s.len + 1; lines = 0; line = Empty })) (Head (s.len + 1))) (bytes ++ 10 ∷ [])
  at true e =
      let none : come.filled ≡ [] = nil_from_length come.filled (sym come.count ∙ eqb-true s.lines 0 e) in
      goes (record { len = s.len + 1; lines = 0; line = Empty }) (bytes ++ 10 ∷ []) (λ less. record {
        leading = come.leading ++ come.part ∷ [];
        filled = [];
        part = [];
        leading_empty = all_and IsEmptyLine come.leading come.part come.leading_empty empty;
        filled_so = tt;
        is_part = refl;
        lines = ap (λ x. x ++ 10 ∷ []) (come.lines ∙ ap (λ f. flat_map ended come.leading ++ (flat_map ended f ++ come.part)) none)
            ∙ append_assoc (flat_map ended come.leading) come.part (10 ∷ [])
            ∙ sym (append-nil (flat_map ended (come.leading ++ come.part ∷ [])) ∙ line_and come.leading come.part);
        count = refl;
        size = ap (λ k. k + 1) come.size ∙ sym (length-append bytes (10 ∷ []));
        short = less;
        few = omega arith;
      })
  at false e =
      let size : length (bytes ++ 10 ∷ []) ≡ s.len + 1 = length-append bytes (10 ∷ []) ∙ ap (λ k. k + 1) (sym come.size) in
      let short = come.short in
      let few = come.few in
      let count = come.count in
      let some = eqb-false s.lines 0 e in (
        record {
          head = record {
            leading = come.leading;
            filled = come.filled;
            last = come.part;
            leading_empty = come.leading_empty;
            filled_so = come.filled_so;
            some_filled = omega (arith, count, some);
            last_empty = empty;
            lines = ap (λ x. x ++ 10 ∷ []) come.lines ∙ part_and (flat_map ended come.leading) (flat_map ended come.filled) come.part 10;
          };
          short = omega (arith, size, short);
          few = omega (arith, count, few);
        },
        sym size,
      )

line_ends : (len lines : ℕ) (line : Line) (bytes : List ℕ) → HasCome (record { len = len; lines = lines; line = line }) bytes
    → Tells (line_ended (len + 1) lines line) (bytes ++ 10 ∷ [])
line_ends len lines Filled bytes come = fills len lines bytes come
line_ends len lines Empty bytes come = empties (record { len = len; lines = lines; line = Empty }) bytes come (inl come.is_part)
line_ends len lines Return bytes come = empties (record { len = len; lines = lines; line = Return }) bytes come (inr come.is_part)

-- one more byte
next : (s : Scan) (bytes : List ℕ) (b : ℕ) → HasCome s bytes → Tells (found_with s b) (bytes ++ b ∷ [])
next s bytes b come =
    elim (eqb_tells b 10) [
      | inl is_feed ↦
          subst (λ v. Tells (cond v (line_ended (s.len + 1) s.lines s.line) (go_on (record { len = s.len + 1; lines = s.lines; line = grown s.line b }))) (bytes ++ b ∷ [])) (sym is_feed.0)
          (subst (λ c. Tells (line_ended (s.len + 1) s.lines s.line) (bytes ++ c ∷ [])) (sym is_feed.1) (line_ends s.len s.lines s.line bytes come))
      | inr is_other ↦
          subst (λ v. Tells (cond v (line_ended (s.len + 1) s.lines s.line) (go_on (record { len = s.len + 1; lines = s.lines; line = grown s.line b }))) (bytes ++ b ∷ [])) (sym is_other.0)
          (within s bytes b come is_other.1)
    ]

abbrev pub Ends : List ℕ → ℕ → Type 0
Ends bytes len = IsHeadWithin (take len bytes) × (len ≤ length bytes)

head_ends : (head rest : List ℕ) (len : ℕ) → IsHeadWithin head → len ≡ length head → Ends (head ++ rest) len
head_ends head rest len is same =
    let size = length-append head rest in
    (subst (λ x. IsHeadWithin x) (sym (take_at head rest len (sym same))) is, omega (arith, size, same))

goes_over : (bytes rest : List ℕ) (s : Scan) (len : ℕ) → HasCome s bytes → found_over s rest ≡ Head len → Ends (bytes ++ rest) len
goes_over bytes [] s len come e = absurd (cc)
goes_over bytes (b ∷ rest) s len come e =
    subst (λ x. Ends x len) (append_assoc bytes (b ∷ []) rest)
    (at (λ t more later. goes_over (bytes ++ b ∷ []) rest t len more later) (found_with s b) refl) where
      at : ((t : Scan) → HasCome t (bytes ++ b ∷ []) → found_over t rest ≡ Head len → Ends ((bytes ++ b ∷ []) ++ rest) len)
          → (f : HeadSearch) → found_with s b ≡ f → Ends ((bytes ++ b ∷ []) ++ rest) len
      at go (More t) same = go t (subst (λ f. Tells f (bytes ++ b ∷ [])) same (next s bytes b come))
          (sym (ap (λ f. and_then f (λ u. found_over u rest)) same) ∙ e)
      at go (Head n) same =
          let told = subst (λ f. Tells f (bytes ++ b ∷ [])) same (next s bytes b come) in
          let found : Head n ≡ Head len = sym (ap (λ f. and_then f (λ u. found_over u rest)) same) ∙ e in
          head_ends (bytes ++ b ∷ []) rest len told.0 (cc)
      at go TooLong same = let found : TooLong ≡ Head len = sym (ap (λ f. and_then f (λ u. found_over u rest)) same) ∙ e in absurd (cc)

pub end_of_head : (input : List ℕ) (len : ℕ) → head_of input ≡ Head len → Ends input len
end_of_head input len e = goes_over [] input start len (record {
  leading = [];
  filled = [];
  part = [];
  leading_empty = tt;
  filled_so = tt;
  is_part = refl;
  lines = refl;
  count = refl;
  size = refl;
  short = omega arith;
  few = omega arith;
}) e
