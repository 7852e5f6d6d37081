use Rattle.std.proofs.Common.{◌≢◌, ◌∙◌, List, ℕ, subst}
use Rattle.day_tables.specs.CalendarCsv.{HasFault}
use Rattle.day_tables.specs.declared.csv_fault.CsvFault.TheVariants.{NoMemory}
use Rattle.file_changes.proofs.RunLemmas.{some_map}
use Rattle.job_runs.proofs.import.read_import.Goals as goal

pub returns-clause-refused : goal.returns-clause-refused
returns-clause-refused g c =
    let fault = c.in-Err-read_calendar_csv in
    c.refuse.ensures (g.R.Read.remaining c.args.r.now) (some_map (g.R.Read.remaining c.args.r.now) _ _ (λ input is.
    subst (λ (bytes : List ℕ). fault.fault ≢ NoMemory → HasFault bytes fault.fault) (c.as_slice.ensures.value ∙ is) fault.ensures.fault) c.in-Ok.ensures)
