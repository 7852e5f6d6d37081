-- The table of deadlines, behind those before it.
use Rattle.std.proofs.Common.{◌≡◌, ◌∙◌, ℕ, List, ap, length, map}
use Rattle.sqlite.specs.Order.{Row}
use Rattle.court_days.specs.Court.{CourtSettings}
use Rattle.docket_sound.specs.Deadlines.{deadlines_checked, parties_of, rules_standing}
use Rattle.docket_sound.specs.KnownTexts.{is_known, is_one_of}
use Rattle.docket_sound.specs.Parties.{party_key}
use Rattle.docket_sound.specs.declared.deadline.DeadlineCheck.{DeadlineCheck}
use Rattle.docket_scan.specs.Judging.{Rows}
use Rattle.docket_scan.specs.Reading.{Says}
use Rattle.docket_scan.specs.Records.{AreDeadlineRows, count_in}
use Rattle.docket_scan.specs.Taken.{DeadlineContext, deadline_context}
use Rattle.docket_scan.specs.declared.reading.TablesRead.{TablesRead}

abbrev pub AreRowsOfContext : DeadlineContext → List Row → Type 0
AreRowsOfContext k = AreDeadlineRows k.0 k.1 k.2

-- the check was made of what was read
pub begun : (court : CourtSettings) (next : ℕ) (r : Rows) (read : TablesRead) → Says court next r read → (check : DeadlineCheck)
    → deadlines_checked check ≡ read.cases → check.parties ≡ read.parties → rules_standing check ≡ is_known read.names
    → deadline_context check ≡ (length r.cases, count_in (map party_key r.parties), is_one_of r.names)
begun court next r read said check of_cases of_parties of_names =
    let parties = ap parties_of of_parties ∙ said.parties in
    let names : rules_standing check ≡ is_one_of r.names = of_names ∙ (λ i text. said.names text i) in
    λ i. ((of_cases ∙ said.cases) i, parties i, names i)
