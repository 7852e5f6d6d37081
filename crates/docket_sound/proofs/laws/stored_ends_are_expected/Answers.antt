use Rattle.docket_sound.proofs.SortedEnds.{ends_expected, ends_stored}
use Rattle.docket_sound.proofs.laws.stored_ends_are_expected.Goals as goal

pub returns : goal.returns
returns c = record {
  in_order = λ court h days acts is of_calendar of_acts. ends_expected court h is days acts of_calendar of_acts;
  stored = λ court h days acts ends is of_calendar of_acts order. ends_stored court h is days acts of_calendar of_acts ends order;
}
