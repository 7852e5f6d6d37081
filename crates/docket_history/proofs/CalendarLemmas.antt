-- Items that are there, and those of new rows.
use Rattle.std.proofs.Common.{◌≡◌, ℕ, ◌+◌, ◌≤◌, Bool, true, false, cond, ◌||◌, List, [], ◌∷◌, ◌++◌, map, refl, sym, ap, subst, ◌∙◌, arith}
use Rattle.std.specs.List.{list_any}
use Rattle.std.specs.Ordering.{eq_by_cmp}
use Rattle.std.specs.declared.cmp.Ordering.{Ordering}
use Rattle.std.specs.Cmp.{IsTotalOrder, nat_cmp_total, Equal-is}
use Rattle.std.specs.FinMap as map
use Rattle.std.specs.FinSet.{FinSet, IsAntisymmetric, contains, insert, len, same_set, contains-insert, len-insert, nat_cmp-IsAntisymmetric}
use Rattle.court_days.specs.Calendar.{Entered, Holds, HoldsSpan, with_day, with_span, with_short, rows_of}
use Rattle.court_days.specs.declared.calendar.DayKind.{DayKind}
use Rattle.court_days.specs.declared.calendar.DayKind.TheVariants.{Federal, State, Closed}
use Rattle.court_days.proofs.SpanSets.{span_cmp_total, span_cmp-IsAntisymmetric}

-- one of two lists has it, the second seen through a function
pub list_any-map : {A B : Type 0} (p : B → Bool) (f : A → B) (xs : List B) (ys : List A) → list_any p (xs ++ map f ys) ≡ (list_any p xs || list_any (λ y. p (f y)) ys)
list_any-map p f [] [] = refl
list_any-map p f [] (y ∷ ys) = ap (λ b. p (f y) || b) (list_any-map p f [] ys)
list_any-map p f (x ∷ xs) ys = or_left (p x) _ _ _ (list_any-map p f xs ys)
  where
    or_left : (a b c d : Bool) → b ≡ (c || d) → (a || b) ≡ ((a || c) || d)
    or_left true b c d e = refl
    or_left false b c d e = e

-- what a set holds already, and how long it is with one more
absorbed : (b c : Bool) → (b ≡ true → c ≡ true) → (b || c) ≡ c
absorbed true c h = sym (h refl)
absorbed false c h = refl

pub insert_held : {K : Type 0} {R : K → K → Ordering} (o : IsTotalOrder R) (a : IsAntisymmetric R) (s : FinSet R) (k : K) → contains s k ≡ true → insert s k ≡ s
insert_held {K} {R} o a s k held =
    same_set o a (insert s k) s (λ q. contains-insert o s k q
    ∙ absorbed (eq_by_cmp R q k) (contains s q) (λ t. subst (λ (x : K). contains s x ≡ true) (sym (a q k ((Equal-is (R q k)).0 t))) held))

one_more : (b : Bool) (n : ℕ) → cond b n (n + 1) ≤ n + 1
one_more true n = omega arith
one_more false n = omega arith

len_inserted : {K : Type 0} {R : K → K → Ordering} (o : IsTotalOrder R) (s : FinSet R) (k : K) → len (insert s k) ≤ len s + 1
len_inserted o s k = subst (λ (n : ℕ). n ≤ len s + 1) (sym (len-insert o s k)) (one_more (contains s k) (len s))

-- a calendar that holds the day already, or the span
pub day_held : (entered : Entered) (kind : DayKind) (day : ℕ) → Holds entered kind day → with_day entered kind day ≡ entered
day_held entered Federal day held = ap (λ s. record entered { federal = s }) (insert_held nat_cmp_total nat_cmp-IsAntisymmetric entered.federal day held)
day_held entered State day held = ap (λ s. record entered { state = s }) (insert_held nat_cmp_total nat_cmp-IsAntisymmetric entered.state day held)
day_held entered Closed day held = ap (λ s. record entered { closed = s }) (insert_held nat_cmp_total nat_cmp-IsAntisymmetric entered.closed day held)

pub span_held : (entered : Entered) (start end : ℕ) → HoldsSpan entered start end → with_span entered start end ≡ entered
span_held entered start end held = ap (λ s. record entered { spans = s }) (insert_held span_cmp_total span_cmp-IsAntisymmetric entered.spans (record { start = start; end = end }) held)

pub rows_with_day : (entered : Entered) (kind : DayKind) (day : ℕ) → rows_of (with_day entered kind day) ≤ rows_of entered + 1
rows_with_day entered Federal day = omega (arith, len_inserted nat_cmp_total entered.federal day)
rows_with_day entered State day = omega (arith, len_inserted nat_cmp_total entered.state day)
rows_with_day entered Closed day = omega (arith, len_inserted nat_cmp_total entered.closed day)

pub rows_with_span : (entered : Entered) (start end : ℕ) → rows_of (with_span entered start end) ≤ rows_of entered + 1
rows_with_span entered start end = omega (arith, len_inserted span_cmp_total entered.spans (record { start = start; end = end }))

pub rows_with_short : (entered : Entered) (day minute : ℕ) → rows_of (with_short entered day minute) ≤ rows_of entered + 1
rows_with_short entered day minute = omega (arith, few (map.contains_key entered.short day) refl)
  where
    few : (b : Bool) → map.contains_key entered.short day ≡ b → map.len (cond b entered.short (map.insert entered.short day minute)) ≤ map.len entered.short + 1
    few true e = omega arith
    few false e = subst (λ (n : ℕ). n ≤ map.len entered.short + 1) (sym (map.len-insert nat_cmp_total entered.short day minute)) (one_more (map.contains_key entered.short day) (map.len entered.short))
