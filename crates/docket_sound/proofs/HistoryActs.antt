-- The acts of a history, by an induction on it: in each deadline they are numbered from 1, each is on a deadline that is there,
-- and what was done was done on a day that a court may enter.
use Rattle.std.proofs.Common.{◌≡◌, ◌∙◌, ◌⊎◌, inl, inr, ⊎_elim, ℕ, ◌+◌, ◌<◌, ◌≤◌, ◌==◌, ◌&&◌, nat_le, Bool, true, false, cond, Option, Some, None, List, [], ◌∷◌, ◌++◌, map, filter, length, pos, refl, sym, ap, subst, arith, append-nil, append_assoc}
use Rattle.std.proofs.lemmas.Bool.Decides.{nat_tests}
use Rattle.std.proofs.lemmas.Bool.{and_from, and_parts, not-false}
use Rattle.std.proofs.lemmas.List.{length-append, length-map, map-append}
use Rattle.std.proofs.lemmas.List.Elements.{filter-append}
use Rattle.std.specs.List.{AllByRecursion, list_all}
use Rattle.sqlite_trees.proofs.ListLemmas.{all-append, all-filter, all-map}
use Rattle.civil_time.specs.LocalTime.{local_day, seconds}
use Rattle.civil_time.specs.Zone.{ZoneRules}
use Rattle.court_days.specs.Court.{CourtSettings, zone_of}
use Rattle.court_rules.specs.Acts.{acts_ok, is_within, is_instant, is_entered_day}
use Rattle.court_rules.specs.Rules.{adds_three}
use Rattle.court_rules.specs.Standings.{AreActs, begins_on_entered_day, may_begin}
use Rattle.court_rules.specs.declared.act.Act.{Act}
use Rattle.court_rules.specs.declared.act.Act.TheVariants as act
use Rattle.court_rules.specs.declared.act.Start.TheVariants as start
use Rattle.court_rules.specs.declared.method.Method.TheVariants as method
use Rattle.court_rules.specs.declared.rule.Rule.TheVariants.{AnswerAfterStatement, MoreDefiniteStatement}
use Rattle.docket_command.specs.Conversions.{method_of}
use Rattle.docket_command.specs.declared.choice.Ruling.{Ruling}
use Rattle.docket_command.specs.declared.choice.Ruling.TheVariants.{Denied, Postponed, Statement}
use Rattle.docket_command.specs.declared.command.Action.{Action}
use Rattle.docket_command.specs.declared.command.Action.TheVariants as action
use Rattle.docket_history.specs.Actions.{deadlines_made, acts_made}
use Rattle.docket_history.specs.DeadlinesMade.{statement_ordered, timed_or_set, ruled, extension}
use Rattle.docket_history.specs.Histories.{History, act_rows, deadline_rows, deadlines_of_case, acts_of_deadline, case_number, deadline_number, new_deadlines, deadline_rows_from, first_acts, first_acts_from, later_acts, act_rows_on, rule_found}
use Rattle.docket_decisions.specs.Outcomes.{IsHistory}
use Rattle.docket_values.specs.Values.{first_bad, bad_values, is_entered_at}
use Rattle.docket_history.specs.declared.row.ActRow.{ActRow}
use Rattle.docket_history.specs.declared.row.DeadlineRow.{DeadlineRow}
use Rattle.docket_decisions.proofs.ActsKept.{IsKept, count_more}
use Rattle.docket_decisions.proofs.FirstActs.{AreFirst, made_first}
use Rattle.docket_decisions.proofs.GoodValues.{all_good}
use Rattle.docket_decisions.proofs.InOrderLemmas.{same_number}
use Rattle.docket_decisions.proofs.LimitsKept.{all_kept, found_lawful}
use Rattle.docket_sound.specs.Acts.{are_lawful, is_on_entered_day}
use Rattle.docket_sound.specs.Numbers.{RunsFrom}
use Rattle.docket_sound.proofs.AcceptedLemmas.{freed}
use Rattle.docket_history.specs.declared.row.NewDeadline.{NewDeadline}
use Rattle.docket_sound.proofs.NumberLemmas.{runs_more}

-- the acts on deadline n of case k
abbrev pub is_on_deadline : ℕ → ℕ → ActRow → Bool
is_on_deadline k n row = row.case == k && row.deadline == n

abbrev pub rows_on : ℕ → ℕ → List ActRow → List ActRow
rows_on k n rows = filter (is_on_deadline k n) rows

abbrev numbers : List ActRow → List ℕ
numbers rows = map (λ (row : ActRow). row.number) rows

abbrev pub AreNumberedOn : List ActRow → Type 0
AreNumberedOn rows = (k n : ℕ) → RunsFrom 1 (numbers (rows_on k n rows))

-- the act has the next number on its deadline
abbrev IsNextOn : List ActRow → ActRow → Type 0
IsNextOn rows row = row.number ≡ length (rows_on row.case row.deadline rows) + 1

one_more : (rows : List ActRow) (row : ActRow) → AreNumberedOn rows → IsNextOn rows row → AreNumberedOn (rows ++ row ∷ [])
one_more rows row runs next k n = subst (λ (l : List ActRow). RunsFrom 1 (numbers l)) (sym (filter-append (is_on_deadline k n) rows (row ∷ []))) (at (is_on_deadline k n row) refl)
  where
    at : (b : Bool) → is_on_deadline k n row ≡ b → RunsFrom 1 (numbers (rows_on k n rows ++ cond b (row ∷ []) []))
    at true e =
        let case : row.case ≡ k = same_number row.case k (and_parts (row.case == k) (row.deadline == n) e).0 in
        let deadline : row.deadline ≡ n = same_number row.deadline n (and_parts (row.case == k) (row.deadline == n) e).1 in
        let number : row.number ≡ length (rows_on k n rows) + 1 = next ∙ (λ i. length (rows_on (case i) (deadline i) rows) + 1) in
        subst (RunsFrom 1) (sym (map-append (λ (r : ActRow). r.number) (rows_on k n rows) (row ∷ [])))
        (runs_more 1 (numbers (rows_on k n rows)) row.number (runs k n) (omega (arith, number, length-map (rows_on k n rows) (λ (r : ActRow). r.number))))
    at false e = subst (λ (l : List ActRow). RunsFrom 1 (numbers l)) (sym (append-nil (rows_on k n rows))) (runs k n)

-- with the first acts of new deadlines
abbrev first_row : ℕ → ℕ → Act → ActRow
first_row k n first = record { case = k; deadline = n; number = 1; act = first }

module _ (k : ℕ) where
  other_deadline : (n m : ℕ) → n < m → (k == k && n == m) ≡ false
  other_deadline n m lt = grind (arith, nat_tests, lt)

  still_none : (rows : List ActRow) (n m : ℕ) (first : Act) → n < m → rows_on k m rows ≡ [] → rows_on k m (rows ++ first_row k n first ∷ []) ≡ []
  still_none rows n m first lt none =
      filter-append (is_on_deadline k m) rows (first_row k n first ∷ [])
      ∙ ap (λ l. l ++ cond (k == k && n == m) (first_row k n first ∷ []) []) none
      ∙ ap (λ b. cond b (first_row k n first ∷ []) []) (other_deadline n m lt)

  with_firsts : (made : List NewDeadline) (rows : List ActRow) (n : ℕ) → AreNumberedOn rows → ((m : ℕ) → n ≤ m → rows_on k m rows ≡ []) → AreNumberedOn (rows ++ first_acts_from k n made)
  with_firsts [] rows n runs none = subst AreNumberedOn (sym (append-nil rows)) runs
  with_firsts (d ∷ made) rows n runs none =
      let row = first_row k n d.first in
      subst AreNumberedOn (append_assoc rows (row ∷ []) (first_acts_from k (n + 1) made))
      (with_firsts made (rows ++ row ∷ []) (n + 1) (one_more rows row runs (sym (ap (λ (l : List ActRow). length l + 1) (none n (omega arith)))))
      (λ m high. still_none rows n m d.first (omega (arith, high)) (none m (omega (arith, high)))))

pub no_rows : (rows : List ActRow) → map (λ (row : ActRow). row.act) rows ≡ [] → rows ≡ []
no_rows [] e = refl
no_rows (row ∷ rows) e = absurd (cc)

-- what begins a deadline is no act that awaits a statement after it
never : (b : Bool) → (b && false) ≡ true → ⊥
never true e = cc
never false e = cc

not_begun : (first : Act) (notice : ℕ) → acts_ok (first ∷ act.AwaitStatement notice ∷ []) ≡ true → ⊥
not_begun (act.Start s) notice ok = never _ ok
not_begun (act.Fixed day) notice ok = never _ ok
not_begun _ notice ok = never _ ok

-- with what one action adds
module _ (court : CourtSettings) (h : History) (is : IsHistory court h) (runs : AreNumberedOn (act_rows h)) where
  abbrev count : ℕ → ℕ
  count k = length (deadlines_of_case k (deadline_rows h))

  abbrev size : ℕ → ℕ → ℕ
  size k n = length (acts_of_deadline k n (act_rows h))

  none_past : (k m : ℕ) → count k < m → rows_on k m (act_rows h) ≡ []
  none_past k m past = no_rows (rows_on k m (act_rows h)) ((all_kept court h is k m).absent (inr past))

  made : (k : ℕ) (ds : List NewDeadline) → AreNumberedOn (act_rows h ++ first_acts_from k (count k + 1) ds)
  made k ds = with_firsts k ds (act_rows h) (count k + 1) runs (λ m high. none_past k m (omega (arith, high)))

  acted : (k n : ℕ) (new : Act) → AreNumberedOn (act_rows h ++ act_rows_on k n (size k n + 1) (new ∷ []))
  acted k n new = one_more (act_rows h) (record { case = k; deadline = n; number = size k n + 1; act = new }) runs (ap (λ m. m + 1) (length-map (rows_on k n (act_rows h)) (λ (row : ActRow). row.act)))

  extended : (k n : ℕ) (days until : Option ℕ) → AreNumberedOn (act_rows h ++ act_rows_on k n (size k n + 1) (extension days until))
  extended k n (Some days) None = acted k n (act.ExtendBy days)
  extended k n None (Some until) = acted k n (act.ExtendTo until)
  extended k n (Some days) (Some until) = subst AreNumberedOn (sym (append-nil (act_rows h))) runs
  extended k n None None = subst AreNumberedOn (sym (append-nil (act_rows h))) runs

  -- a deadline is made for the statement that another awaits
  module _ (k n : ℕ) (notice : ℕ) (d : NewDeadline) (kept : IsKept (zone_of court) (deadline_rows h ++ deadline_rows_from k (count k + 1) (d ∷ [])) (act_rows h ++ (first_acts_from k (count k + 1) (d ∷ []) ++ act_rows_on k n (size k n + 1) (act.AwaitStatement notice ∷ []))) k n) where
    abbrev first : ActRow
    first = first_row k (count k + 1) d.first

    abbrev later : ActRow
    later = record { case = k; deadline = n; number = size k n + 1; act = act.AwaitStatement notice }

    own_case : (k == k) ≡ true
    own_case = grind (arith, nat_tests)

    not_new : (count k + 1 == n) ≡ true → ⊥
    not_new same =
        let place : count k + 1 ≡ n = same_number (count k + 1) n same in
        let row : DeadlineRow = record { case = k; number = count k + 1; party = d.party; rule = d.rule; initial = d.initial } in
        let counted : length (deadlines_of_case k (deadline_rows h ++ row ∷ [])) ≡ count k + 1 = count_more (deadline_rows h) row k ∙ ap (λ b. count k + cond b 1 0) own_case in
        let on : (k == k && n == n) ≡ true = grind (arith, nat_tests) in
        let on_first : (k == k && count k + 1 == n) ≡ true = grind (arith, nat_tests, same) in
        let rows : rows_on k n (act_rows h ++ first ∷ later ∷ []) ≡ first ∷ later ∷ [] =
        filter-append (is_on_deadline k n) (act_rows h) (first ∷ later ∷ [])
        ∙ ap (λ l. l ++ rows_on k n (first ∷ later ∷ [])) (none_past k n (omega (arith, place)))
        ∙ (λ i. cond (on_first i) (first ∷ cond (on i) (later ∷ []) []) (cond (on i) (later ∷ []) [])) in
        let acts = ap (map (λ (row : ActRow). row.act)) rows in
        let sound = kept.sound (omega (arith, place)) (omega (arith, place, counted)) in
        not_begun d.first notice (subst (λ l. acts_ok l ≡ true) acts sound.lawful.0)

    is_next : (b : Bool) → (count k + 1 == n) ≡ b → IsNextOn (act_rows h ++ first ∷ []) later
    is_next true e = absurd (not_new e)
    is_next false e =
        let off : (k == k && count k + 1 == n) ≡ false = grind (arith, nat_tests, e) in
        let same : rows_on k n (act_rows h ++ first ∷ []) ≡ rows_on k n (act_rows h) =
        filter-append (is_on_deadline k n) (act_rows h) (first ∷ []) ∙ ap (λ b. rows_on k n (act_rows h) ++ cond b (first ∷ []) []) off ∙ append-nil (rows_on k n (act_rows h)) in
        omega (arith, ap length same, length-map (rows_on k n (act_rows h)) (λ (row : ActRow). row.act))

    awaited : AreNumberedOn (act_rows h ++ first ∷ later ∷ [])
    awaited = subst AreNumberedOn (append_assoc (act_rows h) (first ∷ []) (later ∷ [])) (one_more (act_rows h ++ first ∷ []) later (made k (d ∷ [])) (is_next (count k + 1 == n) refl))

  disposed : (k n : ℕ) (outcome : Ruling) (party : Option ℕ) (notice : ℕ) (due : Option ℕ)
      → IsKept (zone_of court) (deadline_rows h ++ deadline_rows_from k (count k + 1) (statement_ordered outcome party notice due))
      (act_rows h ++ (first_acts_from k (count k + 1) (statement_ordered outcome party notice due) ++ act_rows_on k n (size k n + 1) (ruled outcome notice due ∷ []))) k n
      → AreNumberedOn (act_rows h ++ (first_acts_from k (count k + 1) (statement_ordered outcome party notice due) ++ act_rows_on k n (size k n + 1) (ruled outcome notice due ∷ [])))
  disposed k n Statement (Some party) notice due kept = awaited k n notice (timed_or_set party MoreDefiniteStatement method.Nothing notice due) kept
  disposed k n Statement None notice due kept = acted k n (act.AwaitStatement notice)
  disposed k n Denied party notice due kept = acted k n (ruled Denied notice due)
  disposed k n Postponed party notice due kept = acted k n (ruled Postponed notice due)

  step : (a : Action) → ((k n : ℕ) → IsKept (zone_of court) (deadline_rows h ++ new_deadlines (rule_found h a) (count (case_number a)) a) (act_rows h ++ (first_acts (rule_found h a) (count (case_number a)) a ++ later_acts (size (case_number a) (deadline_number a)) a)) k n)
      → AreNumberedOn (act_rows h ++ (first_acts (rule_found h a) (count (case_number a)) a ++ later_acts (size (case_number a) (deadline_number a)) a))
  step (action.RuleMotion a) kept = acted a.case a.deadline (act.Motion a.served a.kind)
  step (action.Dispose a) kept = disposed a.case a.deadline a.outcome a.party a.notice a.due (kept a.case a.deadline)
  step (action.StatementServed a) kept = acted a.case a.deadline (act.Resume a.served (adds_three AnswerAfterStatement (method_of a.method)))
  step (action.Extend a) kept = extended a.case a.deadline a.days a.until
  step (action.Satisfy a) kept = acted a.case a.deadline (act.Done (pos a.at) a.way)
  step (action.Vacate a) kept = acted a.case a.deadline act.Vacated
  step a kept =
      let firsts = first_acts (rule_found h a) (count (case_number a)) a in
      subst AreNumberedOn (ap (λ l. act_rows h ++ l) (sym (append-nil firsts))) (made (case_number a) (deadlines_made (rule_found h a) a))

pub acts_numbered : (court : CourtSettings) (h : History) → IsHistory court h → AreNumberedOn (act_rows h)
acts_numbered court [] is = λ k n. tt
acts_numbered court (c ∷ h) is = step court h is.1 (acts_numbered court h is.1) c.action (λ k n. all_kept court (c ∷ h) is k n)

-- each act is on a deadline that is there
abbrev pub IsThere : List DeadlineRow → ActRow → Type 0
IsThere ds row = (1 ≤ row.deadline) × (row.deadline ≤ length (deadlines_of_case row.case ds))

placed : (n most : ℕ) → ((n ≡ 0) ⊎ (most < n)) ⊎ ((1 ≤ n) × (n ≤ most))
placed n most = at (nat_le 1 n) (nat_le n most) refl refl
  where
    at : (b c : Bool) → nat_le 1 n ≡ b → nat_le n most ≡ c → ((n ≡ 0) ⊎ (most < n)) ⊎ ((1 ≤ n) × (n ≤ most))
    at true true low high = inr (grind (arith, nat_tests, low), grind (arith, nat_tests, high))
    at true false low high = inl (inr (grind (arith, nat_tests, high)))
    at false c low high = inl (inl (grind (arith, nat_tests, low)))

not_none : (done : List ActRow) (row : ActRow) (more : List ActRow) → acts_of_deadline row.case row.deadline (done ++ row ∷ more) ≡ [] → ⊥
not_none done row more none =
    let k = row.case in
    let n = row.deadline in
    let own : (row.case == k && row.deadline == n) ≡ true = grind (arith, nat_tests) in
    let all : rows_on k n (done ++ row ∷ more) ≡ rows_on k n done ++ (row ∷ rows_on k n more) =
    filter-append (is_on_deadline k n) done (row ∷ more) ∙ ap (λ b. rows_on k n done ++ cond b (row ∷ rows_on k n more) (rows_on k n more)) own in
    absurd (omega (arith, ap length (sym all ∙ no_rows (rows_on k n (done ++ row ∷ more)) none), length-append (rows_on k n done) (row ∷ rows_on k n more)))

are_there : (zone : ZoneRules) (ds : List DeadlineRow) (done more : List ActRow) → ((k n : ℕ) → IsKept zone ds (done ++ more) k n) → AllByRecursion (IsThere ds) more
are_there zone ds done [] kept = tt
are_there zone ds done (row ∷ more) kept = (
  ⊎_elim (λ none. absurd (not_none done row more ((kept row.case row.deadline).absent none))) (λ there. there) (placed row.deadline (length (deadlines_of_case row.case ds))),
  are_there zone ds (done ++ row ∷ []) more (λ k n. subst (λ (l : List ActRow). IsKept zone ds l k n) (sym (append_assoc done (row ∷ []) more)) (kept k n)),
)

pub acts_there : (court : CourtSettings) (h : History) → IsHistory court h → AllByRecursion (IsThere (deadline_rows h)) (act_rows h)
acts_there court h is = are_there (zone_of court) (deadline_rows h) [] (act_rows h) (all_kept court h is)

-- what was done was done on a day that a court may enter
abbrev is_done_in_range : ZoneRules → Act → Bool
is_done_in_range zone (act.Done at way) = is_entered_day (local_day zone (seconds at))
is_done_in_range zone _ = true

abbrev IsDone : ZoneRules → Act → Type 0
IsDone zone a = is_done_in_range zone a ≡ true

first_done : (zone : ZoneRules) (first : Act) → may_begin first ≡ true → IsDone zone first
first_done zone (act.Done at way) may = absurd (cc)
first_done zone _ may = refl

firsts_done : (zone : ZoneRules) (k n : ℕ) (ds : List NewDeadline) → AreFirst zone ds → AllByRecursion (λ (row : ActRow). IsDone zone row.act) (first_acts_from k n ds)
firsts_done zone k n [] are = tt
firsts_done zone k n (d ∷ ds) are = (first_done zone d.first are.0.may, firsts_done zone k (n + 1) ds are.1)

rows_done : (zone : ZoneRules) (k n m : ℕ) (acts : List Act) → AllByRecursion (IsDone zone) acts → AllByRecursion (λ (row : ActRow). IsDone zone row.act) (act_rows_on k n m acts)
rows_done zone k n m [] done = tt
rows_done zone k n m (a ∷ acts) done = (done.0, rows_done zone k n (m + 1) acts done.1)

ruled_done : (zone : ZoneRules) (outcome : Ruling) (notice : ℕ) (due : Option ℕ) → IsDone zone (ruled outcome notice due)
ruled_done zone Statement notice due = refl
ruled_done zone Denied notice None = refl
ruled_done zone Denied notice (Some day) = refl
ruled_done zone Postponed notice None = refl
ruled_done zone Postponed notice (Some day) = refl

extension_done : (zone : ZoneRules) (days until : Option ℕ) → AllByRecursion (IsDone zone) (extension days until)
extension_done zone (Some days) None = (refl, tt)
extension_done zone None (Some until) = (refl, tt)
extension_done zone (Some days) (Some until) = tt
extension_done zone None None = tt

made_done : (court : CourtSettings) (a : Action) → first_bad (bad_values court a) ≡ None → AllByRecursion (IsDone (zone_of court)) (acts_made a)
made_done court (action.RuleMotion a) good = (refl, tt)
made_done court (action.Dispose a) good = (ruled_done (zone_of court) a.outcome a.notice a.due, tt)
made_done court (action.StatementServed a) good = (refl, tt)
made_done court (action.Extend a) good = extension_done (zone_of court) a.days a.until
made_done court (action.Satisfy a) good = (not-false (is_entered_at court a.at) (all_good (bad_values court (action.Satisfy a)) good).0, tt)
made_done court (action.Vacate a) good = (refl, tt)
made_done court _ good = tt

acts_done : (court : CourtSettings) (h : History) → IsHistory court h → AllByRecursion (λ (row : ActRow). IsDone (zone_of court) row.act) (act_rows h)
acts_done court [] is = tt
acts_done court (c ∷ h) is =
    let a = c.action in
    let k = case_number a in
    let zone = zone_of court in
    let good = (freed court h c is.0.0 is.0.1).values in
    let made = length (deadlines_of_case k (deadline_rows h)) in
    let acts = length (acts_of_deadline k (deadline_number a) (act_rows h)) in
    all-append (λ (row : ActRow). IsDone zone row.act) (act_rows h) (first_acts (rule_found h a) made a ++ later_acts acts a) (acts_done court h is.1)
    (all-append (λ (row : ActRow). IsDone zone row.act) (first_acts (rule_found h a) made a) (later_acts acts a)
    (firsts_done zone k (made + 1) (deadlines_made (rule_found h a) a) (made_first court (rule_found h a) a (found_lawful court h is.1 a) good)) (rows_done zone k (deadline_number a) (acts + 1) (acts_made a) (made_done court a good)))

-- so the acts of each deadline are lawful
on_entered_day : (zone : ZoneRules) (a : Act) → is_within a ≡ true → begins_on_entered_day zone a ≡ true → IsDone zone a → is_on_entered_day zone a ≡ true
on_entered_day zone (act.Start (start.Hours hours)) within begins done =
    and_from (is_instant hours.at) (is_entered_day (local_day zone (seconds hours.at))) (and_parts (is_instant hours.at) (nat_le 1 hours.hours && nat_le hours.hours 8760) within).0 begins
on_entered_day zone (act.Done at way) within begins done = and_from (is_instant at) (is_entered_day (local_day zone (seconds at))) within done
on_entered_day zone (act.Start (start.Days days)) within begins done = refl
on_entered_day zone _ within begins done = refl

on_entered_days : (zone : ZoneRules) (acts : List Act) → list_all is_within acts ≡ true → list_all (begins_on_entered_day zone) acts ≡ true → AllByRecursion (IsDone zone) acts → list_all (is_on_entered_day zone) acts ≡ true
on_entered_days zone [] within begins done = refl
on_entered_days zone (a ∷ acts) within begins done =
    and_from (is_on_entered_day zone a) (list_all (is_on_entered_day zone) acts)
    (on_entered_day zone a (and_parts (is_within a) (list_all is_within acts) within).0 (and_parts (begins_on_entered_day zone a) (list_all (begins_on_entered_day zone) acts) begins).0 done.0)
    (on_entered_days zone acts (and_parts (is_within a) (list_all is_within acts) within).1 (and_parts (begins_on_entered_day zone a) (list_all (begins_on_entered_day zone) acts) begins).1 done.1)

lawful_by : (zone : ZoneRules) (acts : List Act) → AreActs zone acts → AllByRecursion (IsDone zone) acts → are_lawful zone acts ≡ true
lawful_by zone acts are done =
    let within : ((nat_le 1 (length acts) && nat_le (length acts) 100) && list_all is_within acts) ≡ true = (and_parts ((nat_le 1 (length acts) && nat_le (length acts) 100) && list_all is_within acts) _ are.0).0 in
    and_from (acts_ok acts) (list_all (is_on_entered_day zone) acts) are.0 (on_entered_days zone acts (and_parts (nat_le 1 (length acts) && nat_le (length acts) 100) (list_all is_within acts) within).1 are.1 done)

pub acts_lawful : (court : CourtSettings) (h : History) → IsHistory court h → (k n : ℕ) → 1 ≤ n → n ≤ length (deadlines_of_case k (deadline_rows h)) → are_lawful (zone_of court) (acts_of_deadline k n (act_rows h)) ≡ true
acts_lawful court h is k n low high =
    let zone = zone_of court in
    lawful_by zone (acts_of_deadline k n (act_rows h)) ((all_kept court h is k n).sound low high).lawful
    (all-map (IsDone zone) (λ (row : ActRow). row.act) (rows_on k n (act_rows h)) (all-filter (λ (row : ActRow). IsDone zone row.act) (is_on_deadline k n) (act_rows h) (acts_done court h is)))
