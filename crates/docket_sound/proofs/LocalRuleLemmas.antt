-- Local rules that come one after another.
use Rattle.std.proofs.Common.{◌≡◌, ◌∙◌, ◌≢◌, ℕ, suc, ◌+◌, ◌==◌, ◌||◌, nat_lt, Bool, true, false, IsTrue, List, [], ◌∷◌, ◌++◌, map, length, refl, sym, ap, subst, arith}
use Rattle.std.proofs.lemmas.Bool.{false≢true}
use Rattle.std.proofs.lemmas.Bool.Decides.{nat_tests}
use Rattle.std.proofs.lemmas.List.{length-append, length-map, map-append}
use Rattle.std.proofs.lemmas.List.Folds.{list_any-append}
use Rattle.std.proofs.lemmas.Slice.Eq.{bytes_eq-Decides}
use Rattle.std.specs.List.{AllByRecursion}
use Rattle.std.specs.Str.{bytes_eq}
use Rattle.docket_history.specs.declared.row.LocalRuleRow.{LocalRuleRow}
use Rattle.sqlite_trees.proofs.ListLemmas.{all-append}
use Rattle.docket_decisions.proofs.ListLemmas.{all_later}
use Rattle.docket_sound.specs.Cases.{AreApart}
use Rattle.docket_sound.specs.KnownTexts.{is_known, is_one_of}
use Rattle.docket_sound.specs.LocalRules.{AreSoundLocalRules, HasTakenLocalRules, is_sound_local_rule, may_follow, rule_names}
use Rattle.docket_sound.specs.Numbers.{RunsFrom}
use Rattle.docket_sound.specs.declared.local_rule.LocalRuleCheck.{LocalRuleCheck}
use Rattle.docket_sound.proofs.CaseLemmas.{apart_more, apart_from}
use Rattle.docket_sound.proofs.NumberLemmas.{runs_more, runs_next}
use Rattle.docket_sound.proofs.TestLemmas.{or_last, passed}

abbrev pub rule_numbers : List LocalRuleRow → List ℕ
rule_numbers rows = map (λ row. row.number) rows

-- a text that is none of those differs from each
pub other_than : (text : List ℕ) (texts : List (List ℕ)) → is_one_of texts text ≡ false → AllByRecursion (λ y. text ≢ y) texts
other_than text [] none = tt
other_than text (y ∷ ys) none = at (bytes_eq y text) refl none (other_than text ys)
  where
    at : (b : Bool) → bytes_eq y text ≡ b → (b || is_one_of ys text) ≡ false → (is_one_of ys text ≡ false → AllByRecursion (λ z. text ≢ z) ys) → AllByRecursion (λ z. text ≢ z) (y ∷ ys)
    at true is none rest = absurd cc
    at false is none rest = ((λ same. false≢true (sym is ∙ (bytes_eq-Decides y text).1 (sym same))), rest none)

none_of : (text : List ℕ) (texts : List (List ℕ)) → AllByRecursion (λ y. text ≢ y) texts → is_one_of texts text ≡ false
none_of text [] apart = refl
none_of text (y ∷ ys) apart = at (bytes_eq y text) refl (none_of text ys apart.1)
  where
    at : (b : Bool) → bytes_eq y text ≡ b → is_one_of ys text ≡ false → (b || is_one_of ys text) ≡ false
    at true is rest = absurd (apart.0 (sym ((bytes_eq-Decides y text).0 is)))
    at false is rest = rest

-- the names of more rules
pub names_more : (rows more : List LocalRuleRow) (text : List ℕ) → is_one_of (rule_names (rows ++ more)) text ≡ (is_one_of (rule_names rows) text || is_one_of (rule_names more) text)
names_more rows more text =
    ap (λ names. is_one_of names text) (map-append (λ (row : LocalRuleRow). row.rule.name) rows more)
    ∙ list_any-append (λ other. bytes_eq other text) (rule_names rows) (rule_names more)

-- the rules are numbered, and no two have one name
pub record AreListed (rows : List LocalRuleRow) : Type 0 where
  pub numbered : RunsFrom 1 (rule_numbers rows)
  pub apart : AreApart (rule_names rows)

pub listed_more : (rows : List LocalRuleRow) (row : LocalRuleRow) → AreListed rows → row.number ≡ length rows + 1 → is_one_of (rule_names rows) row.rule.name ≡ false → AreListed (rows ++ row ∷ [])
listed_more rows row listed number new = record {
  numbered = subst (RunsFrom 1) (sym (map-append (λ (r : LocalRuleRow). r.number) rows (row ∷ [])))
      (runs_more 1 (rule_numbers rows) row.number listed.numbered (omega (arith, number, length-map rows (λ (r : LocalRuleRow). r.number))));
  apart = subst AreApart (sym (map-append (λ (r : LocalRuleRow). r.rule.name) rows (row ∷ []))) (apart_more (rule_names rows) row.rule.name listed.apart (other_than row.rule.name (rule_names rows) new));
}

module _ (check : LocalRuleCheck) (rows : List LocalRuleRow) (row : LocalRuleRow) (has : HasTakenLocalRules check rows) where
  pub rule_fails : (more : List LocalRuleRow) → may_follow check row ≡ false → AreSoundLocalRules (rows ++ row ∷ more) → ⊥
  rule_fails more fail all =
      let count : length (rows ++ row ∷ more) ≡ length rows + suc (length more) = length-append rows (row ∷ more) in
      let room : nat_lt check.count 1000 ≡ true = grind (arith, nat_tests, count, all.few, has.counted) in
      let run = subst (RunsFrom 1) (map-append (λ (r : LocalRuleRow). r.number) rows (row ∷ more)) all.numbered in
      let number = runs_next 1 (rule_numbers rows) row.number (rule_numbers more) run in
      let next : (row.number == check.count + 1) ≡ true = grind (arith, nat_tests, number, has.counted, length-map rows (λ (r : LocalRuleRow). r.number)) in
      let within : is_sound_local_rule row ≡ true = (all_later (λ (r : LocalRuleRow). IsTrue (is_sound_local_rule r)) rows (row ∷ more) all.within).0 in
      let apart = apart_from (rule_names rows) row.rule.name (rule_names more) (subst AreApart (map-append (λ (r : LocalRuleRow). r.rule.name) rows (row ∷ more)) all.apart) in
      let unknown : is_known check.names row.rule.name ≡ false = has.known row.rule.name ∙ none_of row.rule.name (rule_names rows) apart in
      let passes : may_follow check row ≡ true = rw (room, next, within, unknown) refl in
      false≢true (sym fail ∙ passes)

  pub rule_taken : (new : LocalRuleCheck) → new.count ≡ check.count + 1 → ((text : List ℕ) → is_known new.names text ≡ (bytes_eq row.rule.name text || is_known check.names text))
      → may_follow check row ≡ true → HasTakenLocalRules new (rows ++ row ∷ [])
  rule_taken new count known pass =
      let parts = passed (nat_lt check.count 1000) (row.number == check.count + 1) (is_sound_local_rule row) (is_known check.names row.rule.name) pass in
      let number : row.number ≡ length rows + 1 = grind (arith, nat_tests, parts.1, has.counted) in
      let long : length (rows ++ row ∷ []) ≡ length rows + 1 = length-append rows (row ∷ []) in
      let listed = listed_more rows row (record { numbered = has.sound.numbered; apart = has.sound.apart }) number (sym (has.known row.rule.name) ∙ parts.3) in
      record {
        counted = omega (arith, count, long, has.counted);
        known = λ text. known text ∙ ap (λ b. bytes_eq row.rule.name text || b) (has.known text) ∙ or_last (bytes_eq row.rule.name text) (is_one_of (rule_names rows) text) ∙ sym (names_more rows (row ∷ []) text);
        sound = record {
          numbered = listed.numbered;
          few = grind (arith, nat_tests, parts.0, has.counted, long);
          apart = listed.apart;
          within = all-append (λ (r : LocalRuleRow). IsTrue (is_sound_local_rule r)) rows (row ∷ []) has.sound.within (parts.2, tt);
        };
      }
