-- The tables of a docket are orderly.
use Rattle.std.specs.List.{AllByRecursion}
use Rattle.court_days.specs.Court.{CourtSettings}
use Rattle.docket_history.specs.Histories.{History}
use Rattle.docket_decisions.specs.Outcomes.{IsHistory}
use Rattle.docket_decisions.specs.Tables.{rows_of}
use Rattle.docket_decisions.proofs.LimitsKept.{within_limits}
use Rattle.docket_wire.specs.Valid.{IsCommand}
use Rattle.docket_orderly.specs.Orderly.{IsCourtSettings, IsOrderly}
use Rattle.docket_orderly.proofs.ActLemmas.{acts_held, acts_run}
use Rattle.docket_orderly.proofs.CalendarLemmas.{calendar_held, short_days_held, calendar_rises}
use Rattle.docket_orderly.proofs.EndLemmas.{ends_held}
use Rattle.docket_orderly.proofs.LabelLemmas.{one_case}
use Rattle.docket_orderly.proofs.LocalRuleLemmas.{local_rules_held, local_rules_run, one_local_rule}
use Rattle.docket_orderly.proofs.ReceiptLemmas.{receipts_held, one_receipt}
use Rattle.docket_orderly.proofs.RowLemmas.{cases_held, cases_run, parties_held, parties_run, entries_held, entries_run, deadlines_held, deadlines_run}

pub orderly : (court : CourtSettings) (h : History) → IsCourtSettings court → IsHistory court h → AllByRecursion IsCommand h → IsOrderly court (rows_of court h)
orderly court h held is all =
    let next = (within_limits court h is).next_row in
    record {
      court = (held.0, held.1, next);
      calendar = calendar_held h next all;
      short_days = short_days_held h next all;
      calendar_rises = calendar_rises h;
      cases = cases_held court h is all;
      cases_run = cases_run h;
      one_case = one_case court h is;
      parties = parties_held court h is all;
      parties_run = parties_run h;
      entries = entries_held court h is all;
      entries_run = entries_run h;
      deadlines = deadlines_held court h is all;
      deadlines_run = deadlines_run h;
      acts = acts_held court h is all;
      acts_run = acts_run court h is;
      ends = ends_held court h is all;
      receipts = receipts_held court h is all;
      one_receipt = one_receipt court h is;
      local_rules = local_rules_held court h is all;
      local_rules_run = local_rules_run h;
      one_local_rule = one_local_rule court h is;
    }
