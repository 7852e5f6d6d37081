-- Rows of running deadlines that come one after another.
use Rattle.std.proofs.Common.{◌≡◌, ◌∙◌, ℕ, ◌+◌, true, List, [], ◌∷◌, ◌++◌, length, slice_get, Some, refl, sym, ap, subst, arith}
use Rattle.std.proofs.lemmas.Bool.{and_parts}
use Rattle.std.proofs.lemmas.List.{length-append, append_assoc}
use Rattle.std.specs.List.{list_all}
use Rattle.std.specs.Prelude.{Vec}
use Rattle.std.specs.declared.alloc.Global.{Global}
use Rattle.civil_time.specs.LocalTime.{local_day, seconds}
use Rattle.civil_time.specs.Zone.{ZoneRules}
use Rattle.court_rules.specs.Acts.{acts_ok, is_instant, is_entered_day}
use Rattle.court_rules.specs.Standings.{AreActs, begins_on_entered_day}
use Rattle.court_rules.specs.declared.act.Act.{Act}
use Rattle.court_rules.specs.declared.act.Act.TheVariants as act
use Rattle.court_rules.specs.declared.act.Start.TheVariants as start
use Rattle.docket_sound.specs.Acts.{are_lawful, is_on_entered_day}
use Rattle.docket_sound.specs.Dues.{HasTakenDues}
use Rattle.docket_sound.specs.declared.due.DueCheck.{DueCheck}
use Rattle.docket_decisions.specs.declared.end_row.StoredEnd.{StoredEnd}

begins_so : (zone : ZoneRules) (a : Act) → is_on_entered_day zone a ≡ true → begins_on_entered_day zone a ≡ true
begins_so zone (act.Start (start.Hours hours)) on = (and_parts (is_instant hours.at) (is_entered_day (local_day zone (seconds hours.at))) on).1
begins_so zone (act.Start (start.Days days)) on = refl
begins_so zone (act.Fixed day) on = refl
begins_so zone (act.ExtendBy days) on = refl
begins_so zone (act.ExtendTo day) on = refl
begins_so zone (act.Motion served kind) on = refl
begins_so zone (act.Resume day three) on = refl
begins_so zone (act.AwaitStatement notice) on = refl
begins_so zone (act.Done at way) on = refl
begins_so zone act.Vacated on = refl

all_begin : (zone : ZoneRules) (acts : List Act) → list_all (is_on_entered_day zone) acts ≡ true → list_all (begins_on_entered_day zone) acts ≡ true
all_begin zone [] all = refl
all_begin zone (a ∷ acts) all =
    let here = begins_so zone a (and_parts (is_on_entered_day zone a) (list_all (is_on_entered_day zone) acts) all).0 in
    let rest = all_begin zone acts (and_parts (is_on_entered_day zone a) (list_all (is_on_entered_day zone) acts) all).1 in
    rw (here, rest) refl

-- lawful acts have a standing
pub lawful_acts : (zone : ZoneRules) (acts : List Act) → are_lawful zone acts ≡ true → AreActs zone acts
lawful_acts zone acts lawful =
    ((and_parts (acts_ok acts) (list_all (is_on_entered_day zone) acts) lawful).0, all_begin zone acts (and_parts (acts_ok acts) (list_all (is_on_entered_day zone) acts) lawful).1)

record Next (rest : List StoredEnd) (x : StoredEnd) : Type 0 where
  more : List StoredEnd
  is : rest ≡ x ∷ more

next_of : (rows rest : List StoredEnd) (x : StoredEnd) → slice_get (rows ++ rest) (length rows) ≡ Some x → Next rest x
next_of [] [] x e = absurd cc
next_of [] (y ∷ ys) x e = let same : y ≡ x = cc in record { more = ys; is = ap (λ z. z ∷ ys) same }
next_of (r ∷ rs) rest x e = next_of rs rest x e

pub due_taken : (check new : DueCheck) (rows : List StoredEnd) (row : StoredEnd) → HasTakenDues check rows → slice_get check.expected.items check.at ≡ Some row → new.expected ≡ check.expected → new.at ≡ check.at + 1
    → HasTakenDues new (rows ++ row ∷ [])
due_taken check new rows row has found expected at =
    let here : slice_get (rows ++ has.rest) (length rows) ≡ Some row = subst (λ (n : ℕ). slice_get (rows ++ has.rest) n ≡ Some row) has.counted (subst (λ (l : List StoredEnd). slice_get l check.at ≡ Some row) has.begins found) in
    let next = next_of rows has.rest row here in
    record {
      rest = next.more;
      begins = ap (λ (v : Vec StoredEnd Global). v.items) expected ∙ has.begins ∙ ap (λ l. rows ++ l) next.is ∙ sym (append_assoc rows (row ∷ []) next.more);
      counted = omega (arith, at, has.counted, length-append rows (row ∷ []));
    }
