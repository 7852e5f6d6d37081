use Rattle.std.proofs.Common.{sym, ap, ◌∙◌, Err}
use Rattle.civil_time.specs.Reading.{time_of_day_at}
use Rattle.count_lines.proofs.CourtTexts.{no_zone_text, no_close, no_close_text}
use Rattle.count_lines.proofs.request.read_court.Goals as goal

pub returns-in_default : goal.returns-in_default
returns-in_default c = no_zone_text c.args.zone.now c.args.close.now c.in_default.ensures.cases.0

pub returns-in_default-from_utf8 : goal.returns-in_default-from_utf8
returns-in_default-from_utf8 c = no_close_text c.args.zone.now c.args.close.now c.in_default-from_utf8.ensures.cases.0

pub returns-in-Err-BadClose : goal.returns-in-Err-BadClose
returns-in-Err-BadClose c =
    no_close c.args.zone.now c.args.close.now
    (sym (ap time_of_day_at (sym c.in-Ok-from_utf8.ensures.cases.0) ∙ (c.in-Err-BadClose.ensures.bad_close.0 (ap Err c.in-Err-BadClose.field-0-is)).1))
