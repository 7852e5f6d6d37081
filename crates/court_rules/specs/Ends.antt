-- The last day of the time that a rule sets.
use Rattle.std.specs.Prelude.{◌≡◌, ℕ, Bool, true, false, Option, Some, None}
use Rattle.court_days.specs.Calendar.{Entered}
use Rattle.court_days.specs.Ends.{end_of_days, end_of_months, service_end}
use Rattle.court_days.specs.Period.{IsEndOfDays, IsEndOfMonths}
use Rattle.court_days.specs.declared.calendar.Direction.{Direction}
use Rattle.court_days.specs.declared.calendar.Direction.TheVariants.{Forward}
use Rattle.court_rules.specs.declared.method.Method.{Method}
use Rattle.court_rules.specs.declared.rule.Rule.{Rule}
use Rattle.court_rules.specs.declared.table.Period.{Period}
use Rattle.court_rules.specs.declared.table.Period.TheVariants.{Days, Months}
use Rattle.court_rules.specs.Rules.{period_of, direction_of, adds_three}

-- Fed. R. Civ. P. 6(a)(1), (3), (5): the day is the end of the period
abbrev pub IsEndOfPeriod : Entered → Direction → ℕ → Period → ℕ → Type 0
IsEndOfPeriod entered direction trigger (Days count) day = IsEndOfDays entered direction trigger count day
IsEndOfPeriod entered direction trigger (Months count) day = IsEndOfMonths entered direction trigger count day

-- Fed. R. Civ. P. 6(d): where three days are added, the day is the end of three days more from the end of the period
abbrev pub IsEndAfterService : Entered → Bool → ℕ → ℕ → Type 0
IsEndAfterService entered true end day = IsEndOfDays entered Forward end 3 day
IsEndAfterService entered false end day = day ≡ end

-- the day is the last of the time that the rule sets, from the trigger, for a party that was served by the method
pub record IsEndByRule (entered : Entered) (rule : Rule) (trigger : ℕ) (method : Method) (day : ℕ) : Type 0 where
  pub period : Period
  pub direction : Direction
  pub end : ℕ
  pub lasts : period_of rule ≡ Some period
  pub runs : direction_of rule ≡ Some direction
  pub ends : IsEndOfPeriod entered direction trigger period end
  pub served : IsEndAfterService entered (adds_three rule method) end day

-- the same as functions
abbrev pub end_of_period : Entered → Direction → ℕ → Period → ℕ
end_of_period entered direction trigger (Days count) = end_of_days entered direction trigger count
end_of_period entered direction trigger (Months count) = end_of_months entered direction trigger count

abbrev pub end_after_service : Entered → Bool → ℕ → ℕ
end_after_service entered true end = service_end entered end
end_after_service entered false end = end

abbrev pub end_by_line : Entered → Option Period → Option Direction → Bool → ℕ → Option ℕ
end_by_line entered (Some period) (Some direction) three trigger =
    Some (end_after_service entered three (end_of_period entered direction trigger period))
end_by_line entered _ _ three trigger = None

-- the last day of the time that a rule sets; none where its period is as entered
abbrev pub end_by_rule : Entered → Rule → ℕ → Method → Option ℕ
end_by_rule entered rule trigger method =
    end_by_line entered (period_of rule) (direction_of rule) (adds_three rule method) trigger
