-- The court's own rules: named periods beside the table.
use Rattle.std.specs.Prelude.{◌≡◌, ℕ, Bool, true, false, not, ◌&&◌, ◌||◌, nat_le, eqb, List, length, codes, Option, Some, None}
use Rattle.std.specs.List.{list_all, starts_with}
use Rattle.court_rules.specs.Acts.{is_forward, is_period}
use Rattle.court_rules.specs.Methods.{gives_additional_time}
use Rattle.court_rules.specs.Rules.{name_of, rule_named}
use Rattle.court_rules.specs.declared.deadline_rule.DeadlineRule.{DeadlineRule}
use Rattle.court_rules.specs.declared.deadline_rule.DeadlineRule.TheVariants.{Listed, Local}
use Rattle.court_rules.specs.declared.local_rule.LocalRule.{LocalRule}
use Rattle.court_rules.specs.declared.method.Method.{Method}
use Rattle.court_rules.specs.declared.rule.Rule.{Rule}
use Rattle.court_rules.specs.declared.table.Period.TheVariants.{Days}

-- a byte of ASCII that shows
abbrev pub is_visible : ℕ → Bool
is_visible byte = nat_le 0x21 byte && nat_le byte 0x7E

-- 3 to 16 such bytes that begin with `LR`: no rule of the table has such a name
unfoldable pub is_local_name : List ℕ → Bool
is_local_name text =
    (nat_le 3 (length text) && nat_le (length text) 16)
    && (list_all is_visible text && starts_with eqb text (codes "LR"))

-- from a day to 3650 days; service adds three days to a time that is counted forward alone (Fed. R. Civ. P. 6(d))
unfoldable pub is_local_rule : LocalRule → Bool
is_local_rule rule =
    is_local_name rule.name && (is_period (Days rule.days) && (not rule.three || is_forward rule.direction))

-- Fed. R. Civ. P. 6(d): a party that was served so has three more days, where the local rule says that service adds them
abbrev pub local_adds_three : LocalRule → Method → Bool
local_adds_three rule method = rule.three && gives_additional_time method

-- the name of a deadline's rule
abbrev pub deadline_rule_name : DeadlineRule → List ℕ
deadline_rule_name (Listed rule) = name_of rule
deadline_rule_name (Local name) = name

-- a rule of the table, or a name that a local rule may have
abbrev pub IsDeadlineRule : DeadlineRule → Type 0
IsDeadlineRule (Listed rule) = Unit {0}
IsDeadlineRule (Local name) = is_local_name name ≡ true

abbrev pub named_locally : Bool → List ℕ → Option DeadlineRule
named_locally true text = Some (Local text)
named_locally false text = None

abbrev pub listed_or : Option Rule → Option DeadlineRule → Option DeadlineRule
listed_or (Some rule) other = Some (Listed rule)
listed_or None other = other

-- the rule of a deadline of that name: one of the table, or else a local one, if it may have that name
abbrev pub deadline_rule_named : List ℕ → Option DeadlineRule
deadline_rule_named text = listed_or (rule_named text) (named_locally (is_local_name text) text)
