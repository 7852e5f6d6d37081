-- The deadlines of a history, by an induction on it.
use Rattle.std.proofs.Common.{◌≡◌, ◌∙◌, ℕ, zero, suc, ◌+◌, ◌≤◌, ◌==◌, ◌&&◌, ◌||◌, nat_le, Bool, true, false, IsTrue, Option, Some, None, List, [], ◌∷◌, ◌++◌, map, length, refl, sym, ap, subst, arith, inl, inr, ⊎_elim}
use Rattle.std.proofs.lemmas.Bool.Decides.{nat_tests}
use Rattle.std.proofs.lemmas.Bool.{or_parts}
use Rattle.std.proofs.lemmas.List.{length-append, length-map}
use Rattle.std.proofs.lemmas.List.Elements.{filter-append}
use Rattle.std.specs.Prelude.{nat_lt, is_none, is_some, unwrap_or, option_to_list, ◌⊎◌, if◌then◌else◌}
use Rattle.std.specs.List.{AllByRecursion, list_any}
use Rattle.std.specs.Option.{option_and_then, option_map}
use Rattle.court_days.specs.Court.{CourtSettings}
use Rattle.court_rules.specs.declared.act.Act.{Act}
use Rattle.court_rules.specs.declared.deadline_rule.DeadlineRule.{DeadlineRule}
use Rattle.court_rules.specs.declared.deadline_rule.DeadlineRule.TheVariants.{Listed, Local}
use Rattle.court_rules.specs.declared.method.Method.{Method}
use Rattle.court_rules.specs.declared.method.Method.TheVariants as method
use Rattle.court_rules.specs.declared.rule.Rule.{Rule}
use Rattle.court_rules.specs.declared.rule.Rule.TheVariants.{ReplyToAnswer, MoreDefiniteStatement}
use Rattle.docket_command.specs.Conversions.{method_of}
use Rattle.docket_command.specs.declared.choice.Basis.{Basis}
use Rattle.docket_command.specs.declared.choice.Basis.TheVariants.{Private, UnitedStates, Officer}
use Rattle.docket_command.specs.declared.choice.PleadingKind.{PleadingKind}
use Rattle.docket_command.specs.declared.choice.PleadingKind.TheVariants.{Counterclaim, Crossclaim, Unanswered}
use Rattle.docket_command.specs.declared.choice.Ruling.{Ruling}
use Rattle.docket_command.specs.declared.choice.Ruling.TheVariants.{Denied, Postponed, Statement}
use Rattle.docket_command.specs.declared.command.Action.{Action}
use Rattle.docket_command.specs.declared.command.Action.TheVariants as action
use Rattle.docket_command.specs.declared.command.Command.{Command}
use Rattle.docket_command.specs.declared.local_action.LocalPeriod as local_period
use Rattle.docket_history.specs.Actions.{FoundRule, case_named, local_rule_named, deadlines_made, asks_parties, if_asked, party_ordered}
use Rattle.docket_history.specs.DeadlinesMade.{answer_rule, waiver_rule, pleading_rule, timed_or_set, statement_ordered, ordered, court_ordered, local_time}
use Rattle.docket_history.specs.Histories.{History, case_number, case_rows, party_rows, deadline_rows, parties_of_case, deadlines_of_case, new_party, new_deadlines, deadline_rows_from, local_rule_rows, rule_found}
use Rattle.docket_history.specs.InOrder.{asked_in_order, gathered, made_in}
use Rattle.docket_decisions.specs.Outcomes.{IsHistory, shown, shown_fresh, case_of_number}
use Rattle.docket_decisions.specs.Refusals.{is_no_party, lacks_party}
use Rattle.docket_history.specs.Views.{parties_in}
use Rattle.docket_history.specs.declared.row.DeadlineRow.{DeadlineRow}
use Rattle.docket_history.specs.declared.row.PartyRow.{PartyRow}
use Rattle.docket_history.specs.declared.view.View.{View}
use Rattle.docket_decisions.proofs.InOrderLemmas.{deadlines_in_order}
use Rattle.docket_history.proofs.Asked.{none_made}
use Rattle.docket_decisions.proofs.Leading.{seen}
use Rattle.docket_decisions.proofs.LimitsKept.{within_limits}
use Rattle.docket_decisions.proofs.Passed.{IsFree}
use Rattle.sqlite_trees.proofs.ListLemmas.{all-append}
use Rattle.docket_sound.specs.Deadlines.{is_sound_deadline, has_party, deadline_key, AreSoundDeadlines}
use Rattle.docket_sound.specs.KnownTexts.{is_one_of}
use Rattle.docket_sound.specs.LocalRules.{rule_names}
use Rattle.docket_sound.specs.Numbers.{RunsFrom, IsOfCase}
use Rattle.docket_sound.proofs.AcceptedLemmas.{IsLawful, freed, is_lawful}
use Rattle.docket_sound.proofs.HistoryLemmas.{is_case, no_fewer_cases}
use Rattle.docket_sound.proofs.HistoryLocalRules.{NamedStands, found_stands, still_stands}
use Rattle.docket_history.specs.declared.row.NewDeadline.{NewDeadline}
use Rattle.docket_sound.proofs.NumberLemmas.{numbers_are}

-- how many parties each case of a history has
abbrev pub parties_at : History → ℕ → ℕ
parties_at h k = length (parties_of_case k (party_rows h))

-- the names of its local rules
abbrev pub standing_at : History → List ℕ → Bool
standing_at h name = is_one_of (rule_names (local_rule_rows h)) name

-- by the names of the local rules that stand
module _ (stands : List ℕ → Bool) where
  -- a deadline may have the rule, as an initial one or not
  abbrev is_sound_rule : DeadlineRule → Bool → Bool
  is_sound_rule rule initial = is_sound_deadline stands (record { case = 0; number = 0; party = 0; rule = rule; initial = initial })

  -- a deadline that is made: its party is one of so many, and its rule is sound
  abbrev IsSoundMade : ℕ → NewDeadline → Type 0
  IsSoundMade parties d = (nat_le d.party parties ≡ true) × (is_sound_rule d.rule d.initial ≡ true)

  abbrev AreSoundMade : ℕ → List NewDeadline → Type 0
  AreSoundMade parties ds = AllByRecursion (IsSoundMade parties) ds

  -- every party
  every : (parties : ℕ) → nat_le 0 parties ≡ true
  every parties = grind (arith, nat_tests)

  -- a party that is named
  one_party : (v : View) (party : ℕ) (rest : Bool) → (is_no_party v party || rest) ≡ false → nat_le party (parties_in v.case) ≡ true
  one_party v party rest e =
      let low = (or_parts (nat_lt party 1) (nat_lt (parties_in v.case) party) (or_parts (is_no_party v party) rest e).0).1 in
      grind (arith, nat_tests, low)

  answer_sound : (b : Basis) → is_sound_rule (Listed (answer_rule b)) true ≡ true
  answer_sound Private = refl
  answer_sound UnitedStates = refl
  answer_sound Officer = refl

  waiver_sound : (b : Bool) → is_sound_rule (Listed (waiver_rule b)) true ≡ true
  waiver_sound false = refl
  waiver_sound true = refl

  pleading_sound : (k : PleadingKind) (b : Basis) → is_sound_rule (Listed (pleading_rule k b)) false ≡ true
  pleading_sound Unanswered b = refl
  pleading_sound Counterclaim Private = refl
  pleading_sound Counterclaim UnitedStates = refl
  pleading_sound Counterclaim Officer = refl
  pleading_sound Crossclaim Private = refl
  pleading_sound Crossclaim UnitedStates = refl
  pleading_sound Crossclaim Officer = refl

  timed_sound : (parties party : ℕ) (rule : Rule) (by : Method) (day : ℕ) (due : Option ℕ) → nat_le party parties ≡ true → is_sound_rule (Listed rule) false ≡ true → IsSoundMade parties (timed_or_set party rule by day due)
  timed_sound parties party rule by day None there sound = (there, sound)
  timed_sound parties party rule by day (Some due) there sound = (there, sound)

  statement_sound : (v : View) (outcome : Ruling) (party : Option ℕ) (notice : ℕ) (due : Option ℕ) → list_any (is_no_party v) (option_to_list party) ≡ false → AreSoundMade (parties_in v.case) (statement_ordered outcome party notice due)
  statement_sound v Statement (Some party) notice due named = (timed_sound (parties_in v.case) party MoreDefiniteStatement method.Nothing notice due (one_party v party false named) refl, tt)
  statement_sound v Statement None notice due named = tt
  statement_sound v Denied party notice due named = tt
  statement_sound v Postponed party notice due named = tt

  ordered_sound : (v : View) (party : ℕ) (first : Option Act) → list_any (is_no_party v) (party_ordered party) ≡ false → AreSoundMade (parties_in v.case) (option_to_list (option_map (court_ordered party) first))
  ordered_sound v party None named = tt
  ordered_sound v zero (Some first) named = ((every (parties_in v.case), refl), tt)
  ordered_sound v (suc party) (Some first) named = ((one_party v (suc party) false named, refl), tt)

  local_sound : (v : View) (a : local_period.LocalPeriod) (found : FoundRule) → nat_le a.party (parties_in v.case) ≡ true → NamedStands stands (Some a.rule) found → AreSoundMade (parties_in v.case) (option_to_list (option_map (local_time a) found))
  local_sound v a None there stood = tt
  local_sound v a (Some rule) there stood = ((there, ap (λ b. b && true) stood), tt)

  made_sound : (v : View) (found : FoundRule) (a : Action) → lacks_party v a ≡ false → NamedStands stands (local_rule_named a) found → AreSoundMade (parties_in v.case) (deadlines_made found a)
  made_sound v found (action.ServeSummons a) named stood = ((one_party v a.party false named, answer_sound a.basis), tt)
  made_sound v found (action.FileWaiver a) named stood = ((one_party v a.party false named, waiver_sound a.abroad), tt)
  made_sound v found (action.ServePleading a) named stood = ((one_party v a.party false named, pleading_sound a.kind a.basis), tt)
  made_sound v found (action.OrderReply a) named stood = (timed_sound (parties_in v.case) a.party ReplyToAnswer (method_of a.method) a.served a.due (one_party v a.party false named) refl, tt)
  made_sound v found (action.Dispose a) named stood = statement_sound v a.outcome a.party a.notice a.due named
  made_sound v found (action.NoticeHearing a) named stood =
      let other = (or_parts (is_no_party v a.party) (is_no_party v a.opponent || false) named).1 in
      ((one_party v a.party (is_no_party v a.opponent || false) named, refl), ((one_party v a.opponent false other, refl), tt))
  made_sound v found (action.OrderPeriod a) named stood = ordered_sound v a.party (ordered a.unit a) named
  made_sound v found (action.EnterJudgment a) named stood =
      let all = every (parties_in v.case) in
      ((all, refl), ((all, refl), ((all, refl), ((all, refl), ((all, refl), ((all, refl), ((all, refl), tt)))))))
  made_sound v found (action.LocalPeriod a) named stood = local_sound v a found (one_party v a.party false named) stood
  made_sound v found _ named stood = tt

  -- what is sound by no parties, where the action doesn't ask about them, is sound by those that there are
  by_all : (asked : Bool) (parties : ℕ) (ds : List NewDeadline) → AreSoundMade (if_asked asked parties) ds → AreSoundMade parties ds
  by_all asked parties [] all = tt
  by_all true parties ds all = all
  by_all false parties (d ∷ ds) all = let none = all.0.0 in ((grind (arith, nat_tests, none), all.0.1), by_all false parties ds all.1)

  -- the row of a deadline is of a case, its party is there, and its values are sound
  record IsSoundAt (cases : ℕ) (parties : ℕ → ℕ) (row : DeadlineRow) : Type 0 where
    of_case : IsOfCase cases (deadline_key row)
    party : has_party parties row ≡ true
    within : is_sound_deadline stands row ≡ true

  rows_at : (cases : ℕ) (parties : ℕ → ℕ) (k n : ℕ) (ds : List NewDeadline) → (1 ≤ k) × (k ≤ cases) → AreSoundMade (parties k) ds → AllByRecursion (IsSoundAt cases parties) (deadline_rows_from k n ds)
  rows_at cases parties k n [] place all = tt
  rows_at cases parties k n (d ∷ ds) place all = (record { of_case = place; party = all.0.0; within = all.0.1 }, rows_at cases parties k (n + 1) ds place all.1)

-- what was sound is so where more local rules stand
still_within : (stood stands : List ℕ → Bool) → ((name : List ℕ) → stood name ≡ true → stands name ≡ true) → (row : DeadlineRow) → is_sound_deadline stood row ≡ true → is_sound_deadline stands row ≡ true
still_within stood stands still row within = at row.rule within
  where
    at : (rule : DeadlineRule) → is_sound_deadline stood (record row { rule = rule }) ≡ true → is_sound_deadline stands (record row { rule = rule }) ≡ true
    at (Listed rule) was = was
    at (Local name) was = both (stood name) (stands name) (if row.initial then false else true) (still name) was
      where
        both : (a b c : Bool) → (a ≡ true → b ≡ true) → (a && c) ≡ true → (b && c) ≡ true
        both true b c more e = ap (λ x. x && c) (more refl) ∙ e
        both false b c more e = absurd (cc)

wider : (old new : ℕ) (were are : ℕ → ℕ) (stood stands : List ℕ → Bool) → old ≤ new → ((k : ℕ) → were k ≤ are k) → ((name : List ℕ) → stood name ≡ true → stands name ≡ true)
    → (rows : List DeadlineRow) → AllByRecursion (IsSoundAt stood old were) rows → AllByRecursion (IsSoundAt stands new are) rows
wider old new were are stood stands low more still [] all = tt
wider old new were are stood stands low more still (row ∷ rows) all =
    let few = more row.case in
    let within = all.0.party in (
      record { of_case = (all.0.of_case.0, omega (arith, all.0.of_case.1, low)); party = grind (arith, nat_tests, few, within); within = still_within stood stands still row all.0.within },
      wider old new were are stood stands low more still rows all.1,
    )

-- the case that is named, if one is
place : (h : History) (a : Action) (o : Option ℕ) → (is_some o && is_none (option_and_then (case_of_number h a) o)) ≡ false → (o ≡ None) ⊎ ((1 ≤ unwrap_or o 0) × (unwrap_or o 0 ≤ length (case_rows h)))
place h a None there = inl refl
place h a (Some k) there = inr (is_case h a k there)

module _ (court : CourtSettings) (h : History) (c : Command) (free : IsFree court (shown court h c) c) (lawful : IsLawful (shown court h c) c) where
  abbrev count : ℕ
  count = length (deadlines_of_case (case_number c.action) (deadline_rows h))

  abbrev AreAt : List NewDeadline → Type 0
  AreAt ds = AllByRecursion (IsSoundAt (standing_at h) (length (case_rows h)) (parties_at h)) (deadline_rows_from (case_number c.action) (count + 1) ds)

  abbrev new : List NewDeadline
  new = deadlines_made (rule_found h c.action) c.action

  none_at : case_named c.action ≡ None → AreAt new
  none_at none = subst AreAt (sym (none_made (rule_found h c.action) c.action none)) tt

  new_at : AreAt new
  new_at = ⊎_elim none_at
      (λ there. ⊎_elim none_at
      (λ found. rows_at (standing_at h) (length (case_rows h)) (parties_at h) (case_number c.action) (count + 1) new there
      (by_all (standing_at h) (asks_parties c.action) (parties_at h (case_number c.action)) new
      (subst (λ (m : ℕ). AreSoundMade (standing_at h) m new) (ap parties_in found) (made_sound (standing_at h) (shown_fresh h c.action) (rule_found h c.action) c.action lawful.parties (found_stands h c.action)))))
      (seen h c.action free.case))
      (place h c.action (case_named c.action) free.case)

no_fewer_parties : (h : History) (c : Command) (k : ℕ) → parties_at h k ≤ parties_at (c ∷ h) k
no_fewer_parties h c k =
    let new = new_party (length (parties_of_case (case_number c.action) (party_rows h))) c.action in
    omega (arith, ap length (filter-append (λ (row : PartyRow). row.case == k) (party_rows h) new), length-append (parties_of_case k (party_rows h)) (parties_of_case k new))

all_at : (court : CourtSettings) (h : History) → IsHistory court h → AllByRecursion (IsSoundAt (standing_at h) (length (case_rows h)) (parties_at h)) (deadline_rows h)
all_at court [] is = tt
all_at court (c ∷ h) is =
    let new = new_deadlines (rule_found h c.action) (length (deadlines_of_case (case_number c.action) (deadline_rows h))) c.action in
    let here = new_at court h c (freed court h c is.0.0 is.0.1) (is_lawful court h c is.0.0 is.0.1) in
    wider (length (case_rows h)) (length (case_rows (c ∷ h))) (parties_at h) (parties_at (c ∷ h)) (standing_at h) (standing_at (c ∷ h))
    (no_fewer_cases h c) (no_fewer_parties h c) (still_stands h c) (deadline_rows h ++ new)
    (all-append (IsSoundAt (standing_at h) (length (case_rows h)) (parties_at h)) (deadline_rows h) new (all_at court h is.1) here)

made_runs : (k n : ℕ) (ds : List NewDeadline) → RunsFrom n (map (λ (r : DeadlineRow). r.number) (deadline_rows_from k n ds))
made_runs k n [] = tt
made_runs k n (d ∷ ds) =
    let next : n + 1 ≡ suc n = omega arith in
    (refl, subst (λ m. RunsFrom m (map (λ (r : DeadlineRow). r.number) (deadline_rows_from k (n + 1) ds))) next (made_runs k (n + 1) ds))

module _ (stands : List ℕ → Bool) (cases : ℕ) (parties : ℕ → ℕ) where
  of_cases : (rows : List DeadlineRow) → AllByRecursion (IsSoundAt stands cases parties) rows → AllByRecursion (IsOfCase cases) (map deadline_key rows)
  of_cases [] all = tt
  of_cases (row ∷ rows) all = (all.0.of_case, of_cases rows all.1)

  have_parties : (rows : List DeadlineRow) → AllByRecursion (IsSoundAt stands cases parties) rows → AllByRecursion (λ row. IsTrue (has_party parties row)) rows
  have_parties [] all = tt
  have_parties (row ∷ rows) all = (all.0.party, have_parties rows all.1)

  are_within : (rows : List DeadlineRow) → AllByRecursion (IsSoundAt stands cases parties) rows → AllByRecursion (λ row. IsTrue (is_sound_deadline stands row)) rows
  are_within [] all = tt
  are_within (row ∷ rows) all = (all.0.within, are_within rows all.1)

pub sound_deadlines : (court : CourtSettings) (h : History) → IsHistory court h → AreSoundDeadlines (length (case_rows h)) (parties_at h) (standing_at h) (deadline_rows h)
sound_deadlines court h is =
    let cases = length (case_rows h) in
    let all = all_at court h is in
    record {
      numbered = record {
        met = of_cases (standing_at h) cases (parties_at h) (deadline_rows h) all;
        run = λ k. subst (RunsFrom 1) (sym (numbers_are deadline_key k (deadline_rows h) ∙ ap (map (λ (r : DeadlineRow). r.number)) (deadlines_in_order k h))) (made_runs k 1 (gathered (made_in k) (asked_in_order h)));
        few = λ k. omega (arith, ap length (numbers_are deadline_key k (deadline_rows h)), length-map (deadlines_of_case k (deadline_rows h)) (λ (r : DeadlineRow). r.number), (within_limits court h is).deadlines k);
      };
      met = have_parties (standing_at h) cases (parties_at h) (deadline_rows h) all;
      within = are_within (standing_at h) cases (parties_at h) (deadline_rows h) all;
    }
