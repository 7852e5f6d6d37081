-- Rows that come numbered, one more at a time.
use Rattle.std.proofs.Common.{◌≡◌, ◌∙◌, ◌≢◌, ℕ, zero, suc, ◌+◌, ◌-◌, ◌<◌, ◌≤◌, ◌==◌, Bool, true, false, cond, List, [], ◌∷◌, ◌++◌, map, length, get_or, set, replicate, refl, sym, ap, subst, arith, inl, inr, IsTrue, ◌&&◌, nat_lt}
use Rattle.std.proofs.lemmas.Bool.{cases_Bool, false≢true}
use Rattle.std.proofs.lemmas.Bool.Decides.{nat_tests}
use Rattle.std.proofs.lemmas.List.{length-append, length-set, get_or-set_same, get_or-set_other}
use Rattle.std.proofs.lemmas.Option.{slice_get_past, slice_get-get_or}
use Rattle.std.specs.Prelude.{filter}
use Rattle.std.specs.List.{AllByRecursion}
use Rattle.sqlite_trees.proofs.ListLemmas.{filter-map, map-map, all-append}
use Rattle.docket_decisions.proofs.ListLemmas.{all_later}
use Rattle.docket_sound.specs.Numbers.{RunsFrom, numbers_in, IsOfCase, AreNumbered}
use Rattle.docket_sound.specs.Counted.{HasNumbered, cases_of, most_of, count_at, follows, is_next}
use Rattle.docket_sound.specs.declared.numbering.Key.{Key}
use Rattle.docket_sound.specs.declared.numbering.Numbering.{Numbering}

-- numbers that run
pub runs_more : (n : ℕ) (xs : List ℕ) (m : ℕ) → RunsFrom n xs → m ≡ n + length xs → RunsFrom n (xs ++ m ∷ [])
runs_more n [] m runs is = (omega (arith, is), tt)
runs_more n (x ∷ xs) m runs is = (runs.0, runs_more (suc n) xs m runs.1 (omega (arith, is)))

pub runs_next : (n : ℕ) (xs : List ℕ) (m : ℕ) (more : List ℕ) → RunsFrom n (xs ++ m ∷ more) → m ≡ n + length xs
runs_next n [] m more runs = omega (arith, runs.0)
runs_next n (x ∷ xs) m more runs = let next = runs_next (suc n) xs m more runs.1 in omega (arith, next)

-- the numbers of a case
numbers_left : (k : ℕ) (b : Bool) (key : Key) (xs ys : List Key) → numbers_in k (xs ++ ys) ≡ numbers_in k xs ++ numbers_in k ys
    → map (λ (x : Key). x.number) (cond b (key ∷ filter (λ x. x.case == k) (xs ++ ys)) (filter (λ x. x.case == k) (xs ++ ys)))
    ≡ map (λ (x : Key). x.number) (cond b (key ∷ filter (λ x. x.case == k) xs) (filter (λ x. x.case == k) xs)) ++ numbers_in k ys
numbers_left k true key xs ys e = ap (λ ns. key.number ∷ ns) e
numbers_left k false key xs ys e = e

pub numbers_both : (k : ℕ) (xs ys : List Key) → numbers_in k (xs ++ ys) ≡ numbers_in k xs ++ numbers_in k ys
numbers_both k [] ys = refl
numbers_both k (x ∷ xs) ys = numbers_left k (x.case == k) x xs ys (numbers_both k xs ys)

pub number_here : (k : ℕ) (key : Key) (ys : List Key) → (key.case == k) ≡ true → numbers_in k (key ∷ ys) ≡ key.number ∷ numbers_in k ys
number_here k key ys here = ap (λ b. map (λ (x : Key). x.number) (cond b (key ∷ filter (λ x. x.case == k) ys) (filter (λ x. x.case == k) ys))) here

pub number_elsewhere : (k : ℕ) (key : Key) (ys : List Key) → (key.case == k) ≡ false → numbers_in k (key ∷ ys) ≡ numbers_in k ys
number_elsewhere k key ys there = ap (λ b. map (λ (x : Key). x.number) (cond b (key ∷ filter (λ x. x.case == k) ys) (filter (λ x. x.case == k) ys))) there

pub numbers_with_here : (k : ℕ) (xs : List Key) (key : Key) (ys : List Key) → (key.case == k) ≡ true → numbers_in k (xs ++ key ∷ ys) ≡ numbers_in k xs ++ key.number ∷ numbers_in k ys
numbers_with_here k xs key ys here = numbers_both k xs (key ∷ ys) ∙ ap (λ ns. numbers_in k xs ++ ns) (number_here k key ys here)

pub numbers_with_elsewhere : (k : ℕ) (xs : List Key) (key : Key) → (key.case == k) ≡ false → numbers_in k (xs ++ key ∷ []) ≡ numbers_in k xs
numbers_with_elsewhere k xs key there = numbers_both k xs (key ∷ []) ∙ ap (λ ns. numbers_in k xs ++ ns) (number_elsewhere k key [] there) ∙ plain (numbers_in k xs)
  where
    plain : (ns : List ℕ) → ns ++ [] ≡ ns
    plain [] = refl
    plain (n ∷ ns) = ap (λ ms. n ∷ ms) (plain ns)

same_case : (k : ℕ) → (k == k) ≡ true
same_case k = grind (arith, nat_tests)

-- the numbers of the rows of a case
pub numbers_are : {R : Type 0} (key : R → Key) (k : ℕ) (rows : List R) → numbers_in k (map key rows) ≡ map (λ r. (key r).number) (filter (λ r. (key r).case == k) rows)
numbers_are key k rows =
    ap (map (λ (x : Key). x.number)) (filter-map (λ (x : Key). x.case == k) key rows) ∙ map-map (λ (x : Key). x.number) key (filter (λ r. (key r).case == k) rows)

-- what a row that comes next has to meet
pub record IsNext (cases most : ℕ) (keys : List Key) (key : Key) : Type 0 where
  pub met : IsOfCase cases key
  pub next : key.number ≡ 1 + length (numbers_in key.case keys)
  pub room : length (numbers_in key.case keys) < most

pub asks_next : (cases most : ℕ) (keys : List Key) (key : Key) (more : List Key) → AreNumbered cases most (keys ++ key ∷ more) → IsNext cases most keys key
asks_next cases most keys key more all =
    let here = numbers_with_here key.case keys key more (same_case key.case) in
    let count : length (numbers_in key.case (keys ++ key ∷ more)) ≡ length (numbers_in key.case keys) + suc (length (numbers_in key.case more)) =
    ap length here ∙ length-append (numbers_in key.case keys) (key.number ∷ numbers_in key.case more) in
    record {
      met = (all_later (IsOfCase cases) keys (key ∷ more) all.met).0;
      next = runs_next 1 (numbers_in key.case keys) key.number (numbers_in key.case more) (subst (RunsFrom 1) here (all.run key.case));
      room = omega (arith, count, all.few key.case);
    }

-- and it is enough
module _ (cases most : ℕ) (keys : List Key) (key : Key) (all : AreNumbered cases most keys) (is : IsNext cases most keys key) where
  run_next : (k : ℕ) → RunsFrom 1 (numbers_in k (keys ++ key ∷ []))
  run_next k = elim (cases_Bool (key.case == k)) [
    | inl here ↦ let same : key.case ≡ k = grind (arith, nat_tests, here) in
        subst (RunsFrom 1) (sym (numbers_with_here k keys key [] here))
        (runs_more 1 (numbers_in k keys) key.number (all.run k) (subst (λ j. key.number ≡ 1 + length (numbers_in j keys)) same is.next))
    | inr there ↦ subst (RunsFrom 1) (sym (numbers_with_elsewhere k keys key there)) (all.run k)
  ]

  few_next : (k : ℕ) → length (numbers_in k (keys ++ key ∷ [])) ≤ most
  few_next k = elim (cases_Bool (key.case == k)) [
    | inl here ↦ let same : key.case ≡ k = grind (arith, nat_tests, here) in
        let room : length (numbers_in k keys) < most = subst (λ j. length (numbers_in j keys) < most) same is.room in
        let count = ap length (numbers_with_here k keys key [] here) ∙ length-append (numbers_in k keys) (key.number ∷ []) in
        omega (arith, room, count)
    | inr there ↦ subst (λ ns. length ns ≤ most) (sym (numbers_with_elsewhere k keys key there)) (all.few k)
  ]

  pub numbered_next : AreNumbered cases most (keys ++ key ∷ [])
  numbered_next = record { met = all-append (IsOfCase cases) keys (key ∷ []) all.met (is.met, tt); run = run_next; few = few_next }

  pub counted_next : (counts : List ℕ) → length counts ≡ cases + 1 → ((k : ℕ) → get_or counts k 0 ≡ length (numbers_in k keys))
      → (k : ℕ) → get_or (set counts key.case key.number) k 0 ≡ length (numbers_in k (keys ++ key ∷ []))
  counted_next counts made counted k = elim (cases_Bool (key.case == k)) [
    | inl here ↦ let same : key.case ≡ k = grind (arith, nat_tests, here) in
        let within : key.case < length counts = omega (arith, made, is.met.1) in
        let count = ap length (numbers_with_here k keys key [] here) ∙ length-append (numbers_in k keys) (key.number ∷ []) in
        let next : key.number ≡ 1 + length (numbers_in k keys) = subst (λ j. key.number ≡ 1 + length (numbers_in j keys)) same is.next in
        subst (λ j. get_or (set counts key.case key.number) j 0 ≡ key.number) same (get_or-set_same counts key.case key.number 0 within) ∙ omega (arith, next, count)
    | inr there ↦ let apart : k ≢ key.case = λ same. absurd (grind (arith, nat_tests, there, same)) in
        get_or-set_other counts key.case k key.number 0 apart ∙ counted k ∙ ap length (sym (numbers_with_elsewhere k keys key there))
  ]

pub none_numbered : (cases most : ℕ) → AreNumbered cases most []
none_numbered cases most = record { met = tt; run = λ k. tt; few = λ k. omega arith }

pub none_counted : (n k : ℕ) → get_or (replicate {A = ℕ} n 0) k 0 ≡ 0
none_counted zero k = refl
none_counted (suc n) zero = refl
none_counted (suc n) (suc k) = none_counted n k

-- the test of it
module _ (n : Numbering) (keys : List Key) (key : Key) (has : HasNumbered n keys) where
  passes : (k : ℕ) → key.case ≡ k → follows n.most key.number (count_at n.counts.items k) ≡ true → IsNext (cases_of n) (most_of n) keys key
  passes zero is pass = absurd cc
  passes (suc k) is pass = elim (cases_Bool (nat_lt (suc k) (length n.counts.items))) [
    | inl low ↦
        let within : suc k < length n.counts.items = grind (arith, nat_tests, low) in
        let found = slice_get-get_or n.counts.items (suc k) 0 within in
        let tested : (nat_lt (get_or n.counts.items (suc k) 0) n.most && key.number == get_or n.counts.items (suc k) 0 + 1) ≡ true = subst (λ f. follows n.most key.number f ≡ true) found pass in
        let counted : get_or n.counts.items (suc k) 0 ≡ length (numbers_in key.case keys) = has.counted (suc k) ∙ ap (λ j. length (numbers_in j keys)) (sym is) in
        let room : get_or n.counts.items (suc k) 0 < n.most = grind (arith, nat_tests, tested) in
        let next : key.number ≡ get_or n.counts.items (suc k) 0 + 1 = grind (arith, nat_tests, tested) in
        record { met = (omega (arith, is), omega (arith, is, within, has.made)); next = omega (arith, next, counted); room = omega (arith, room, counted) }
    | inr high ↦
        let past : length n.counts.items ≤ suc k = grind (arith, nat_tests, high) in
        absurd (let e = subst (λ f. follows n.most key.number f ≡ true) (slice_get_past n.counts.items (suc k) past) pass in cc)
  ]

  pub next_passes : is_next n key ≡ true → IsNext (cases_of n) (most_of n) keys key
  next_passes = passes key.case refl

  fails : (k : ℕ) → key.case ≡ k → follows n.most key.number (count_at n.counts.items k) ≡ false → IsNext (cases_of n) (most_of n) keys key → ⊥
  fails zero is fail next = absurd (omega (arith, is, next.met.0))
  fails (suc k) is fail next =
      let within : suc k < length n.counts.items = omega (arith, is, next.met.1, has.made) in
      let found = slice_get-get_or n.counts.items (suc k) 0 within in
      let tested : (nat_lt (get_or n.counts.items (suc k) 0) n.most && key.number == get_or n.counts.items (suc k) 0 + 1) ≡ false = subst (λ f. follows n.most key.number f ≡ false) found fail in
      let counted : get_or n.counts.items (suc k) 0 ≡ length (numbers_in key.case keys) = has.counted (suc k) ∙ ap (λ j. length (numbers_in j keys)) (sym is) in
      let room : get_or n.counts.items (suc k) 0 < n.most = omega (arith, counted, next.room) in
      let number : key.number ≡ get_or n.counts.items (suc k) 0 + 1 = omega (arith, counted, next.next) in
      absurd (grind (arith, nat_tests, tested, room, number))

  pub next_fails : is_next n key ≡ false → IsNext (cases_of n) (most_of n) keys key → ⊥
  next_fails = fails key.case refl

  pub taken_next : (new : Numbering) → new.most ≡ n.most → new.counts.items ≡ set n.counts.items key.case key.number → is_next n key ≡ true → HasNumbered new (keys ++ key ∷ [])
  taken_next new most items pass =
      let is = next_passes pass in
      let long : length new.counts.items ≡ length n.counts.items = ap length items ∙ length-set n.counts.items key.case key.number in
      let cases : cases_of new ≡ cases_of n = ap (λ l. l - 1) long in
      record {
        made = omega (arith, long, has.made, cases);
        numbered = subst (λ c. AreNumbered c new.most (keys ++ key ∷ [])) (sym cases) (subst (λ m. AreNumbered (cases_of n) m (keys ++ key ∷ [])) (sym most) (numbered_next (cases_of n) (most_of n) keys key has.numbered is));
        counted = λ k. ap (λ l. get_or l k 0) items ∙ counted_next (cases_of n) (most_of n) keys key has.numbered is n.counts.items has.made has.counted k;
      }

some_within : (most number : ℕ) (counts : List ℕ) (k : ℕ) → follows most number (count_at counts k) ≡ true → k < length counts
some_within most number counts zero pass = absurd cc
some_within most number counts (suc k) pass = elim (cases_Bool (nat_lt (suc k) (length counts))) [
  | inl low ↦ grind (arith, nat_tests, low)
  | inr high ↦
      let past : length counts ≤ suc k = grind (arith, nat_tests, high) in
      absurd (let e = subst (λ f. follows most number f ≡ true) (slice_get_past counts (suc k) past) pass in cc)
]

-- the place of the count is there
pub next_within : (n : Numbering) (key : Key) → is_next n key ≡ true → key.case < length n.counts.items
next_within n key = some_within n.most key.number n.counts.items key.case

-- a row that fails the test is in no list whose rows pass it
pub one_fails : {X : Type 0} (test : X → Bool) (xs : List X) (x : X) (more : List X) → AllByRecursion (λ y. IsTrue (test y)) (xs ++ x ∷ more) → test x ≡ false → ⊥
one_fails test xs x more all fail = false≢true (sym fail ∙ (all_later (λ y. IsTrue (test y)) xs (x ∷ more) all).0)
