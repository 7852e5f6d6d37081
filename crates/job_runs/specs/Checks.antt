-- The report on a docket whose tables are sound.
use Rattle.std.specs.Prelude.{ℕ, List, [], ◌∷◌, ◌++◌, codes, decimal}
use Rattle.civil_time.specs.MomentText.{clock_text}
use Rattle.court_days.specs.Court.{CourtSettings}
use Rattle.docket_scan.specs.declared.holdings.Holdings.{Holdings}
use Rattle.docket_sound.specs.declared.standings.Standings.{Standings}
use Rattle.docket_text.specs.Lines.{line}

abbrev pub court_line : List ℕ → ℕ → List ℕ
court_line zone close = line (codes "court" ∷ zone ∷ codes "closes" ∷ clock_text close ∷ [])

-- a number behind what is counted, and what follows
abbrev pub counted : List ℕ → ℕ → List ℕ → List ℕ
counted what count more = what ++ (decimal count ++ more)

abbrev pub calendar_lines : Holdings → List ℕ
calendar_lines held = counted (codes "version ") 2 (counted (codes "\ncalendar rows ") held.calendar_rows (counted (codes "\nlocal rules ") held.local_rules (codes "\n")))

abbrev pub case_lines : Holdings → List ℕ
case_lines held = counted (codes "cases ") held.cases (counted (codes "\nparties ") held.parties (counted (codes "\nentries ") held.entries (codes "\n")))

abbrev pub standings_text : Standings → List ℕ
standings_text stand =
    counted (codes "running ") stand.running (counted (codes ", suspended ") stand.suspended (counted (codes ", awaiting ") stand.awaiting
    (counted (codes ", done ") stand.done (counted (codes ", vacated ") stand.vacated []))))

abbrev pub held_lines : Holdings → List ℕ
held_lines held =
    calendar_lines held ++ (case_lines held
    ++ counted (codes "deadlines ") held.deadlines (codes ": " ++ (standings_text held.standings ++ (codes "\n" ++ counted (codes "receipts ") held.receipts (codes "\n")))))

-- the whole report
abbrev pub check_text : CourtSettings → Holdings → List ℕ
check_text court held = codes "sound\n" ++ (court_line court.zone_text court.close_minute ++ held_lines held)
