-- The report on a docket whose tables are sound.
use Rattle.std.specs.Prelude.{◌≡◌, IfOk, Result, string_bytes}
use Rattle.std.specs.declared.alloc.AllocError.{AllocError}
use Rattle.court_days.specs.Court.{CourtSettings}
use Rattle.docket_scan.specs.declared.holdings.Holdings.{Holdings}
use Rattle.file_questions.specs.declared.checking.Sound.{Sound}

-- its court, and so much in its tables, unless memory ran out
abbrev pub IsSoundDocket : CourtSettings → Holdings → Result Sound AllocError → Type 0
IsSoundDocket court held told =
    IfOk told (λ sound. (string_bytes sound.zone ≡ court.zone_text) × (sound.close ≡ court.close_minute) × (sound.held ≡ held))
