-- The acts of a deadline before the last.
use Rattle.std.proofs.Common.{◌≡◌, ◌∙◌, ℕ, ◌-◌, ◌≤◌, ◌&&◌, Bool, true, false, true≢false, to_z, of_z, w64, FitsSigned, to_z-of_z, List, [], ◌∷◌, ◌++◌, length, take, Option, Some, None, is_some, ℤ, pos, negsuc, refl, sym, ap, ap₂, subst, arith, length-append}
use Rattle.std.proofs.Math.Seq.{take-append_seam}
use Rattle.std.proofs.lemmas.Bool.{and_parts}
use Rattle.std.proofs.lemmas.Bool.Decides.{nat_tests}
use Rattle.std.proofs.lemmas.List.Folds.{list_all-append}
use Rattle.std.specs.List.{list_all}
use Rattle.std.specs.Option.{option_and_then}
use Rattle.std.specs.Prelude.{nat_le, slice_get}
use Rattle.court_days.specs.Calendar.{Entered}
use Rattle.court_days.specs.Court.{CourtSettings}
use Rattle.court_days.specs.LocalTime.{IsMoment}
use Rattle.court_days.specs.Zone.{ZoneRules}
use Rattle.court_days.specs.declared.filing.Way.{Way}
use Rattle.court_rules.specs.Acts.{acts_ok, is_instant, is_within, phase_after, phase_through}
use Rattle.court_rules.specs.Standings.{AreActs, begins_on_entered_day}
use Rattle.court_rules.specs.declared.act.Act.{Act}
use Rattle.court_rules.specs.declared.act.Act.TheVariants.{Done}
use Rattle.html_sheets.specs.declared.filed.Filed.TheVariants.{Unfiled}
use Rattle.docket_questions.specs.Filings.{filed, filed_by}

-- acts may come if those and more may come
module _ {P : Type 0} (through : P → List Act → Option P) (after : P → Act → Option P) (ends : (p : P) → through p [] ≡ Some p)
    (goes_on : (p : P) (act : Act) (acts : List Act) → through p (act ∷ acts) ≡ option_and_then (λ q. through q acts) (after p act)) where
  fewer_come : (p : P) (acts more : List Act) → is_some (through p (acts ++ more)) ≡ true → is_some (through p acts) ≡ true
  fewer_come p [] more come = ap is_some (ends p)
  fewer_come p (act ∷ acts) more come = ap is_some (goes_on p act acts) ∙ on (after p act) (λ q. fewer_come q acts more) (sym (ap is_some (goes_on p act (acts ++ more))) ∙ come)
    where
      on : (found : Option P) → ((q : P) → is_some (through q (acts ++ more)) ≡ true → is_some (through q acts) ≡ true)
          → is_some (option_and_then (λ q. through q (acts ++ more)) found) ≡ true → is_some (option_and_then (λ q. through q acts) found) ≡ true
      on None rest come = come
      on (Some q) rest come = rest q come

  -- acts may be those of a deadline, as `acts_ok` tests it
  abbrev may_be : P → List Act → Bool
  may_be p acts = (nat_le 1 (length acts) && nat_le (length acts) 100) && list_all is_within acts && is_some (through p acts)

  with_few : (p : P) (acts more : List Act) → 1 ≤ length acts → may_be p (acts ++ more) ≡ true → is_some (through p acts) ≡ true → may_be p acts ≡ true
  with_few p acts more some ok come = grind (arith, nat_tests, ok, some, come, length-append acts more, list_all-append is_within acts more)

  fewer_may_be : (p : P) (acts more : List Act) → 1 ≤ length acts → may_be p (acts ++ more) ≡ true → may_be p acts ≡ true
  fewer_may_be p acts more some ok = with_few p acts more some ok (fewer_come p acts more (and_parts _ _ ok).1)

within_instants : (at : ℤ) → is_instant at ≡ true → IsMoment at
within_instants (pos n) is = grind (arith, nat_tests, is)
within_instants (negsuc n) is = absurd (cc)

-- an instant as it is stored
pub same_moment : (at : ℤ) → IsMoment at → to_z w64 (of_z w64 at) ≡ at
same_moment at is = to_z-of_z (fits at is)
  where
    fits : (z : ℤ) → IsMoment z → FitsSigned w64 z
    fits (pos n) within = omega (arith, within)
    fits (negsuc n) within = absurd (omega (arith, within))

module _ (zone : ZoneRules) (at : ℤ) (way : Way) (before : List Act) where
  -- nothing is filed by the first act
  some_before : (acts : List Act) → acts_ok (acts ++ Done at way ∷ []) ≡ true → 1 ≤ length acts
  some_before [] ok = let come : false ≡ true = (and_parts _ _ ok).1 in absurd (true≢false (sym come))
  some_before (act ∷ acts) ok = omega arith

  lawful_before : acts_ok (before ++ Done at way ∷ []) ≡ true → acts_ok before ≡ true
  lawful_before ok = fewer_may_be phase_through phase_after (λ p. refl) (λ p act more. refl) _ before (Done at way ∷ []) (some_before before ok) ok

  module _ (acts : List Act) (is : acts ≡ before ++ Done at way ∷ []) (are : AreActs zone acts) where
    here : AreActs zone (before ++ Done at way ∷ [])
    here = subst (AreActs zone) is are

    -- the acts before a filing are those of a deadline
    pub acts_before : AreActs zone before
    acts_before = (lawful_before here.0, grind (arith, list_all-append (begins_on_entered_day zone) before (Done at way ∷ []), here.1))

    -- it is filed at an instant
    pub moment_of : IsMoment at
    moment_of =
        let all : (list_all is_within before && list_all is_within (Done at way ∷ [])) ≡ true =
        sym (list_all-append is_within before (Done at way ∷ [])) ∙ (and_parts _ _ (and_parts _ _ here.0).0).1 in
        within_instants at (and_parts _ _ (and_parts _ _ all).1).0

last_of : (before : List Act) (last : Act) → slice_get (before ++ last ∷ []) (length before) ≡ Some last
last_of [] last = refl
last_of (act ∷ acts) last = last_of acts last

-- what was filed, by the last act
pub filed_last : (court : CourtSettings) (calendar : Entered) (acts before : List Act) (last : Act) → acts ≡ before ++ last ∷ [] → filed court calendar acts ≡ filed_by court calendar before (Some last)
filed_last court calendar acts before last is =
    let count : length (before ++ last ∷ []) - 1 ≡ length before = omega (arith, length-append before (last ∷ [])) in
    ap (filed court calendar) is
    ∙ ap₂ (filed_by court calendar)
    (ap (λ (n : ℕ). take n (before ++ last ∷ [])) count ∙ take-append_seam before (last ∷ []))
    (ap (slice_get (before ++ last ∷ [])) count ∙ last_of before last)

pub filed_none : (court : CourtSettings) (calendar : Entered) (acts : List Act) → length acts ≡ 0 → filed court calendar acts ≡ filed court calendar []
filed_none court calendar [] none = refl
filed_none court calendar (act ∷ acts) none = absurd (omega (arith, none))

pub unfiled : (court : CourtSettings) (calendar : Entered) (before : List Act) (last : Act) → ((at : ℤ) (way : Way) → last ≡ Done at way → ⊥) → Unfiled ≡ filed_by court calendar before (Some last)
unfiled court calendar before (Done at way) other = absurd (other at way refl)
unfiled court calendar before last other = refl
