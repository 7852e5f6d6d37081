use Rattle.std.proofs.Common.{◌≡◌, ◌++◌, string_bytes}
use Rattle.court_days.specs.Holiday.{is_statutory}
use Rattle.docket_text.specs.HolidayTexts.{holiday_line}
use Rattle.docket_text.proofs.HolidayLemmas.{lines_from}
use Rattle.docket_text.proofs.holiday.push_holidays.Given as goal

abbrev pub invariant-loop-n : goal.invariant-loop-n
invariant-loop-n l =
    string_bytes l.text ++ lines_from holiday_line is_statutory l.first l.days l.n
    ≡ string_bytes l.initial.text ++ lines_from holiday_line is_statutory l.first l.days 0
