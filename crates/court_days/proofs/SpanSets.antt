-- Sets of spans.
use Rattle.std.proofs.Common.{◌≡◌, ℕ, ◌+◌, ◌<◌, Bool, true, false, ◌||◌, ◌&&◌, nat_lt, ◌==◌, List, [], ◌∷◌, ◌++◌, inl, inr, refl, sym, ap, ◌∙◌, arith, subst, ◌↔◌, eq-eqb, eqb-true}
use Rattle.std.proofs.lemmas.Bool.{or_cases, or_left, or_right, and_parts, and_from, true≢false}
use Rattle.std.proofs.lemmas.Bool.Decides.{nat_tests}
use Rattle.std.proofs.lemmas.List.{length-append}
use Rattle.std.specs.List.{list_any}
use Rattle.std.specs.Ordering.{nat_cmp, eq_by_cmp, is_eq, ordering_then}
use Rattle.std.specs.declared.cmp.Ordering.{Ordering}
use Rattle.std.specs.declared.cmp.Ordering.TheVariants.{Less, Equal, Greater}
use Rattle.std.specs.Cmp.{IsTotalOrder, nat_cmp_total, then_total, on_total, Equal-is, tied_itself}
use Rattle.std.specs.Cmp.{both_ways as same_answer}
use Rattle.std.specs.FinSet.{FinSet, IsAntisymmetric, contains, insert, len, items, from_list, contains-insert, contains-from_list, contains-items, from_list_push, len-insert, len-empty, nat_cmp-IsAntisymmetric}
use Rattle.court_days.specs.Spans.{span_cmp, IsEachOnce, Meets, meets}
use Rattle.court_days.specs.declared.span_set.Span.{Span}

pub span_cmp_total : IsTotalOrder span_cmp
span_cmp_total = then_total (on_total (λ (span : Span). span.start) nat_cmp_total) (on_total (λ (span : Span). span.end) nat_cmp_total)

then_equal : (r s : Ordering) → ordering_then r s ≡ Equal → (r ≡ Equal) × (s ≡ Equal)
then_equal Less s e = cc
then_equal Equal s e = (refl, e)
then_equal Greater s e = cc

-- only equal spans tie
same_parts : (x y : Span) → x.start ≡ y.start → x.end ≡ y.end → x ≡ y
same_parts x y p q = λ i. record { start = p i; end = q i }

pub span_cmp-IsAntisymmetric : IsAntisymmetric span_cmp
span_cmp-IsAntisymmetric x y e =
    let both = then_equal (nat_cmp x.start y.start) (nat_cmp x.end y.end) e in
    same_parts x y (nat_cmp-IsAntisymmetric x.start y.start both.0) (nat_cmp-IsAntisymmetric x.end y.end both.1)

tie_is : (q k : Span) → eq_by_cmp span_cmp q k ≡ true → q ≡ k
tie_is q k t = span_cmp-IsAntisymmetric q k ((Equal-is (span_cmp q k)).0 t)

tied : (q : Span) → eq_by_cmp span_cmp q q ≡ true
tied q = ap is_eq (tied_itself span_cmp_total q)

-- the test that a look-up makes
abbrev pub is_same : Span → Span → Bool
is_same span other = (other.start == span.start) && (other.end == span.end)

is_same-itself : (q : Span) → is_same q q ≡ true
is_same-itself q = and_from (q.start == q.start) (q.end == q.end) (eq-eqb q.start q.start refl) (eq-eqb q.end q.end refl)

tie_test : (q k : Span) → eq_by_cmp span_cmp q k ≡ is_same q k
tie_test q k =
    same_answer (eq_by_cmp span_cmp q k) (is_same q k)
    (λ t. subst (λ (x : Span). is_same q x ≡ true) (tie_is q k t) (is_same-itself q))
    (λ t. let both = and_parts (k.start == q.start) (k.end == q.end) t in
    subst (λ (x : Span). eq_by_cmp span_cmp q x ≡ true) (same_parts q k (sym (eqb-true k.start q.start both.0)) (sym (eqb-true k.end q.end both.1))) (tied q))

any_same : (p q : Span → Bool) → ((x : Span) → p x ≡ q x) → (spans : List Span) → list_any p spans ≡ list_any q spans
any_same p q same [] = refl
any_same p q same (x ∷ xs) = ap (λ b. b || list_any p xs) (same x) ∙ ap (λ b. q x || b) (any_same p q same xs)

-- a look-up finds whether the span is a member
pub contains-any : (spans : List Span) (span : Span) → list_any (is_same span) spans ≡ contains (from_list {R = span_cmp} spans) span
contains-any spans span =
    sym (contains-from_list span_cmp_total spans span ∙ any_same (eq_by_cmp span_cmp span) (is_same span) (tie_test span) spans)

-- a list with one more span at its end, as a set
pub from_list-push : (spans : List Span) (span : Span) → from_list {R = span_cmp} (spans ++ span ∷ []) ≡ insert (from_list spans) span
from_list-push spans span = from_list_push span_cmp_total span_cmp-IsAntisymmetric spans span

pub spans_inserted : (s : FinSet span_cmp) (span : Span) → contains s span ≡ false → len (insert s span) ≡ len s + 1
spans_inserted s span new = len-insert span_cmp_total s span ∙ rw new refl

pub once-push : (spans : List Span) (span : Span) → IsEachOnce spans → contains (from_list {R = span_cmp} spans) span ≡ false → IsEachOnce (spans ++ span ∷ [])
once-push spans span once new =
    ap len (from_list-push spans span) ∙ spans_inserted (from_list spans) span new ∙ omega (arith, once, length-append spans (span ∷ []))

pub none_once : (spans : List Span) → spans ≡ [] → IsEachOnce spans
none_once spans e = rw e (len-empty span_cmp)

-- what holds of the members and of a new one holds of the members with it
pub span_insert_keeps : (P : Span → Type 0) (s : FinSet span_cmp) (span : Span) → ((q : Span) → contains s q ≡ true → P q) → P span → (q : Span) → contains (insert s span) q ≡ true → P q
span_insert_keeps P s span each here q h =
    elim (or_cases (eq_by_cmp span_cmp q span) (contains s q) (sym (contains-insert span_cmp_total s span q) ∙ h)) [
      | inl t ↦ subst P (sym (tie_is q span t)) here
      | inr in_s ↦ each q in_s
    ]

-- a test that some of the list pass
any_member : (p : Span → Bool) (spans : List Span) → list_any p spans ≡ true → (span : Span) × (list_any (eq_by_cmp span_cmp span) spans ≡ true) × (p span ≡ true)
any_member p [] t = absurd (true≢false (sym t))
any_member p (x ∷ xs) t =
    elim (or_cases (p x) (list_any p xs) t) [
      | inl here ↦ (x, or_left (eq_by_cmp span_cmp x x) (list_any (eq_by_cmp span_cmp x) xs) (tied x), here)
      | inr later ↦ let rest = any_member p xs later in
          (rest.0, or_right (eq_by_cmp span_cmp rest.0 x) (list_any (eq_by_cmp span_cmp rest.0) xs) rest.1, rest.2)
    ]

member_any : (p : Span → Bool) (spans : List Span) (span : Span) → list_any (eq_by_cmp span_cmp span) spans ≡ true → p span ≡ true → list_any p spans ≡ true
member_any p [] span t h = t
member_any p (x ∷ xs) span t h =
    elim (or_cases (eq_by_cmp span_cmp span x) (list_any (eq_by_cmp span_cmp span) xs) t) [
      | inl here ↦ or_left (p x) (list_any p xs) (subst (λ (s : Span). p s ≡ true) (tie_is span x here) h)
      | inr later ↦ or_right (p x) (list_any p xs) (member_any p xs span later h)
    ]

both_below : (a b c d : ℕ) → (nat_lt a b && nat_lt c d) ≡ true → (a < b) × (c < d)
both_below a b c d t = let both = and_parts (nat_lt a b) (nat_lt c d) t in (grind (arith, nat_tests), grind (arith, nat_tests))

below_both : (a b c d : ℕ) → a < b → c < d → (nat_lt a b && nat_lt c d) ≡ true
below_both a b c d h k = and_from (nat_lt a b) (nat_lt c d) (grind (arith, nat_tests)) (grind (arith, nat_tests))

-- the code's test
pub any-meets : (spans : List Span) (start end : ℕ) → (list_any (λ (span : Span). nat_lt span.start end && nat_lt start span.end) spans ≡ true) ↔ Meets (from_list spans) start end
any-meets spans start end = (
  λ t. let found = any_member (λ (span : Span). nat_lt span.start end && nat_lt start span.end) spans t in
      let lie = both_below found.0.start end start found.0.end found.2 in
      (found.0, contains-from_list span_cmp_total spans found.0 ∙ found.1, lie.0, lie.1),
  λ m. member_any (λ (span : Span). nat_lt span.start end && nat_lt start span.end) spans m.0 (sym (contains-from_list span_cmp_total spans m.0) ∙ m.1)
      (below_both m.0.start end start m.0.end m.2 m.3),
)

-- and that of specs/
pub meets-means : (spans : FinSet span_cmp) (start end : ℕ) → (meets spans start end ≡ true) ↔ Meets spans start end
unfolding meets
meets-means spans start end = (
  λ t. let found = any_member (λ (span : Span). nat_lt span.start end && nat_lt start span.end) (items spans) t in
      let lie = both_below found.0.start end start found.0.end found.2 in
      (found.0, contains-items spans found.0 ∙ found.1, lie.0, lie.1),
  λ m. member_any (λ (span : Span). nat_lt span.start end && nat_lt start span.end) (items spans) m.0 (sym (contains-items spans m.0) ∙ m.1)
      (below_both m.0.start end start m.0.end m.2 m.3),
)
