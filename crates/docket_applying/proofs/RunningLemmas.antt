-- Whether a time runs does not depend on the calendar.
use Rattle.std.proofs.Common.{◌≡◌, ◌∙◌, ◌+◌, ℕ, List, [], ◌∷◌, ◌++◌, Option, Some, None, refl, sym, ap}
use Rattle.civil_time.specs.Zone.{ZoneRules}
use Rattle.court_days.specs.Calendar.{Entered}
use Rattle.court_rules.specs.Standings.{standing}
use Rattle.docket_decisions.specs.EndRows.{end_running, end_row, end_rows_from, ends_running}
use Rattle.docket_decisions.specs.declared.end_row.EndTime.{EndTime}
use Rattle.docket_history.specs.declared.view.DeadlineView.{DeadlineView}
use Rattle.docket_decisions.proofs.AlikeStandings.{same_standing}

-- deadlines of which none runs by one calendar have none that runs by another
pub none_by_another : (zone : ZoneRules) (before after : Entered) (k n : ℕ) (deadlines : List DeadlineView)
    → end_rows_from k n (ends_running zone before deadlines) ≡ [] → end_rows_from k n (ends_running zone after deadlines) ≡ []
none_by_another zone before after k n [] none = refl
none_by_another zone before after k n (d ∷ deadlines) none = at (end_running zone (standing zone before d.acts)) refl none (none_by_another zone before after k (n + 1) deadlines)
  where
    at : (end : Option EndTime) → end_running zone (standing zone before d.acts) ≡ end → end_row k n end ++ end_rows_from k (n + 1) (ends_running zone before deadlines) ≡ []
        → (end_rows_from k (n + 1) (ends_running zone before deadlines) ≡ [] → end_rows_from k (n + 1) (ends_running zone after deadlines) ≡ [])
        → end_row k n (end_running zone (standing zone after d.acts)) ++ end_rows_from k (n + 1) (ends_running zone after deadlines) ≡ []
    at (Some end) is some more = absurd (let no = some in cc)
    at None is rest more =
        ap (λ end. end_row k n end ++ end_rows_from k (n + 1) (ends_running zone after deadlines)) (ap (end_running zone) (sym (same_standing zone before after d.acts is)) ∙ is) ∙ more rest
