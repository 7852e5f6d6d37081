-- The table of local rules, and the names in it.
use Rattle.std.proofs.Common.{◌≡◌, ◌∙◌, ℕ, true, IsTrue, List, [], ◌∷◌, map, Some, refl, sym, ap, subst, arith}
use Rattle.std.proofs.lemmas.Bool.{and_parts}
use Rattle.std.specs.List.{AllByRecursion, cons_option}
use Rattle.sqlite.specs.State.{State}
use Rattle.court_days.specs.Court.{CourtSettings}
use Rattle.court_rules.specs.LocalRules.{is_local_name, is_local_rule}
use Rattle.court_rules.specs.declared.local_rule.LocalRule.{LocalRule}
use Rattle.docket_history.specs.declared.row.LocalRuleRow.{LocalRuleRow}
use Rattle.docket_columns.specs.Cells.{local_name_at, local_rule_cells}
use Rattle.docket_columns.specs.declared.version.Version.TheVariants.{Second}
use Rattle.docket_sound.specs.LocalRules.{is_sound_local_rule, rule_names}
use Rattle.docket_tables.specs.declared.table.Table.TheVariants as table
use Rattle.sqlite.specs.declared.types.Value.TheVariants.{Text}
use Rattle.docket_scan.specs.Judging.{Holds, Rows}
use Rattle.docket_scan.specs.Names.{names_of}
use Rattle.docket_scan.specs.Records.{AreLocalRuleRows}
use Rattle.docket_scan.specs.Scans.{AreRowsOf}
use Rattle.docket_scan.specs.Shapes.{has_table}

-- a lawful rule has a local name
local_name : (rule : LocalRule) → is_local_rule rule ≡ true → local_name_at (Text rule.name) ≡ Some rule.name
unfolding is_local_rule
local_name rule lawful = let is = (and_parts (is_local_name rule.name) _ lawful).0 in rw is refl

-- the names in the table are those of its rules, where these are lawful
pub names_are : (rows : List LocalRuleRow) → AllByRecursion (λ row. IsTrue (is_sound_local_rule row)) rows → names_of (map local_rule_cells rows) ≡ rule_names rows
names_are [] all = refl
names_are (row ∷ rows) all =
    ap (λ found. cons_option found (names_of (map local_rule_cells rows))) (local_name row.rule all.0) ∙ ap (λ l. row.rule.name ∷ l) (names_are rows all.1)

-- a table of local rules without a row is sound
pub no_local_rules : (s : State) (court : CourtSettings) (next : ℕ) (r : Rows) → r.local_rules ≡ [] → has_table s.now.schema table.LocalRules ≡ true → AreRowsOf table.LocalRules s []
    → Holds Second s court next r table.LocalRules
no_local_rules s court next r none there read = (
  there,
  subst (λ l. AreRowsOf table.LocalRules s (map local_rule_cells l)) (sym none) read,
  subst (λ l. AreLocalRuleRows (map local_rule_cells l)) (sym none) (record {
    records = [];
    are = record { held = tt; same = refl };
    sound = record { numbered = tt; few = omega arith; apart = tt; within = tt };
  }),
)
