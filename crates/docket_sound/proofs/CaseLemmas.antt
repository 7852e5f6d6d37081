-- Cases that come one after another.
use Rattle.std.proofs.Common.{◌≡◌, ◌∙◌, ◌≢◌, ℕ, suc, ◌+◌, ◌==◌, ◌||◌, nat_lt, Bool, true, false, IsTrue, List, [], ◌∷◌, ◌++◌, map, length, refl, sym, ap, subst, arith}
use Rattle.std.proofs.lemmas.Bool.{false≢true}
use Rattle.std.proofs.lemmas.Bool.Decides.{nat_tests}
use Rattle.std.proofs.lemmas.List.{length-append, map-append}
use Rattle.std.proofs.lemmas.List.Folds.{list_any-append}
use Rattle.std.proofs.lemmas.Slice.Eq.{bytes_eq-Decides}
use Rattle.std.specs.List.{AllByRecursion, list_any}
use Rattle.std.specs.Str.{bytes_eq}
use Rattle.docket_history.specs.declared.row.CaseRow.{CaseRow}
use Rattle.sqlite_trees.proofs.ListLemmas.{all-append}
use Rattle.docket_decisions.proofs.ListLemmas.{all_later}
use Rattle.docket_sound.specs.KnownTexts.{is_known}
use Rattle.docket_sound.specs.Numbers.{RunsFrom}
use Rattle.docket_sound.specs.Cases.{AreApart, is_sound_case, AreSoundCases, HasTakenCases, may_follow}
use Rattle.docket_sound.specs.declared.cases.CaseCheck.{CaseCheck}
use Rattle.docket_sound.proofs.NumberLemmas.{runs_more, runs_next}
use Rattle.docket_sound.proofs.TestLemmas.{or_last, passed}

-- texts apart, one more
pub apart_more : (xs : List (List ℕ)) (x : List ℕ) → AreApart xs → AllByRecursion (λ y. x ≢ y) xs → AreApart (xs ++ x ∷ [])
apart_more [] x apart other = (tt, tt)
apart_more (y ∷ ys) x apart other = (all-append (λ z. z ≢ y) ys (x ∷ []) apart.0 (other.0, tt), apart_more ys x apart.1 other.1)

pub apart_from : (xs : List (List ℕ)) (x : List ℕ) (more : List (List ℕ)) → AreApart (xs ++ x ∷ more) → AllByRecursion (λ y. x ≢ y) xs
apart_from [] x more apart = tt
apart_from (y ∷ ys) x more apart = ((all_later (λ z. z ≢ y) ys (x ∷ more) apart.0).0, apart_from ys x more apart.1)

is_equal : (x y : List ℕ) → bytes_eq x y ≡ true → x ≡ y
is_equal x y e = (bytes_eq-Decides x y).0 e

is_same : (x y : List ℕ) → x ≡ y → bytes_eq x y ≡ true
is_same x y e = (bytes_eq-Decides x y).1 e

-- no case has the label
pub none_labelled : (label : List ℕ) (rows : List CaseRow) → list_any (λ (row : CaseRow). bytes_eq row.label label) rows ≡ false → AllByRecursion (λ y. label ≢ y) (map (λ (row : CaseRow). row.label) rows)
none_labelled label [] none = tt
none_labelled label (row ∷ rows) none = at (bytes_eq row.label label) refl none (none_labelled label rows)
  where
    at : (b : Bool) → bytes_eq row.label label ≡ b → (b || list_any (λ (r : CaseRow). bytes_eq r.label label) rows) ≡ false
        → (list_any (λ (r : CaseRow). bytes_eq r.label label) rows ≡ false → AllByRecursion (λ y. label ≢ y) (map (λ (r : CaseRow). r.label) rows))
        → AllByRecursion (λ y. label ≢ y) (map (λ (r : CaseRow). r.label) (row ∷ rows))
    at true is none rest = absurd cc
    at false is none rest = ((λ same. false≢true (sym is ∙ is_same row.label label (sym same))), rest none)

apart_labelled : (label : List ℕ) (rows : List CaseRow) → AllByRecursion (λ y. label ≢ y) (map (λ (row : CaseRow). row.label) rows) → list_any (λ (row : CaseRow). bytes_eq row.label label) rows ≡ false
apart_labelled label [] apart = refl
apart_labelled label (row ∷ rows) apart = at (bytes_eq row.label label) refl (apart_labelled label rows apart.1)
  where
    at : (b : Bool) → bytes_eq row.label label ≡ b → list_any (λ (r : CaseRow). bytes_eq r.label label) rows ≡ false → (b || list_any (λ (r : CaseRow). bytes_eq r.label label) rows) ≡ false
    at true is rest = absurd (apart.0 (sym (is_equal row.label label is)))
    at false is rest = rest

pub long_numbers : (rows : List CaseRow) → length (map (λ (r : CaseRow). r.number) rows) ≡ length rows
long_numbers [] = refl
long_numbers (row ∷ rows) = ap suc (long_numbers rows)

module _ (check : CaseCheck) (rows : List CaseRow) (row : CaseRow) (has : HasTakenCases check rows) where
  pub case_fails : (more : List CaseRow) → may_follow check row ≡ false → AreSoundCases (rows ++ row ∷ more) → ⊥
  case_fails more fail all =
      let count : length (rows ++ row ∷ more) ≡ length rows + suc (length more) = length-append rows (row ∷ more) in
      let room : nat_lt check.count 100_000 ≡ true = grind (arith, nat_tests, count, all.few, has.counted) in
      let run = subst (RunsFrom 1) (map-append (λ (r : CaseRow). r.number) rows (row ∷ more)) all.numbered in
      let number : row.number ≡ 1 + length (map (λ (r : CaseRow). r.number) rows) = runs_next 1 (map (λ (r : CaseRow). r.number) rows) row.number (map (λ (r : CaseRow). r.number) more) run in
      let next : (row.number == check.count + 1) ≡ true = grind (arith, nat_tests, number, has.counted, long_numbers rows) in
      let within : is_sound_case row ≡ true = (all_later (λ r. IsTrue (is_sound_case r)) rows (row ∷ more) all.within).0 in
      let apart = apart_from (map (λ (r : CaseRow). r.label) rows) row.label (map (λ (r : CaseRow). r.label) more) (subst AreApart (map-append (λ (r : CaseRow). r.label) rows (row ∷ more)) all.apart) in
      let unknown : is_known check.labels row.label ≡ false = has.known row.label ∙ apart_labelled row.label rows apart in
      let passes : may_follow check row ≡ true = rw (room, next, within, unknown) refl in
      false≢true (sym fail ∙ passes)

  pub case_taken : (new : CaseCheck) → new.count ≡ check.count + 1 → ((text : List ℕ) → is_known new.labels text ≡ (bytes_eq row.label text || is_known check.labels text))
      → may_follow check row ≡ true → HasTakenCases new (rows ++ row ∷ [])
  case_taken new count known pass =
      let parts = passed (nat_lt check.count 100_000) (row.number == check.count + 1) (is_sound_case row) (is_known check.labels row.label) pass in
      let long : length (rows ++ row ∷ []) ≡ length rows + 1 = length-append rows (row ∷ []) in
      let number : row.number ≡ 1 + length (map (λ (r : CaseRow). r.number) rows) = grind (arith, nat_tests, parts.1, has.counted, long_numbers rows) in
      record {
        counted = omega (arith, count, long, has.counted);
        known = λ text. known text ∙ ap (λ b. bytes_eq row.label text || b) (has.known text) ∙ or_last (bytes_eq row.label text) (list_any (λ (r : CaseRow). bytes_eq r.label text) rows)
            ∙ sym (list_any-append (λ (r : CaseRow). bytes_eq r.label text) rows (row ∷ []));
        sound = record {
          numbered = subst (RunsFrom 1) (sym (map-append (λ (r : CaseRow). r.number) rows (row ∷ []))) (runs_more 1 (map (λ (r : CaseRow). r.number) rows) row.number has.sound.numbered number);
          few = grind (arith, nat_tests, parts.0, has.counted, long);
          apart = subst AreApart (sym (map-append (λ (r : CaseRow). r.label) rows (row ∷ [])))
              (apart_more (map (λ (r : CaseRow). r.label) rows) row.label has.sound.apart (none_labelled row.label rows (sym (has.known row.label) ∙ parts.3)));
          within = all-append (λ r. IsTrue (is_sound_case r)) rows (row ∷ []) has.sound.within (parts.2, tt);
        };
      }
