-- What a question to a docket leaves, by what a question to its connection left.
use Rattle.std.proofs.Common.{◌≡◌, ◌↔◌, ◌∙◌, true, false, Option, Some, List, Result, Err, true≢false, refl, sym, arith}
use Rattle.std.specs.Prelude.{is_some}
use Rattle.sqlite.specs.Held.{Held, state}
use Rattle.sqlite.specs.State.{Survives}
use Rattle.sqlite.specs.Store.{Ghosts}
use Rattle.sqlite.specs.declared.error.Error.{Error}
use Rattle.docket_history.specs.declared.item.CalendarItem.{CalendarItem}
use Rattle.docket_tables.specs.Asking.{OnlyAsks}
use Rattle.docket_tables.specs.Layouts.{Rows}
use Rattle.docket_tables.specs.Readings.{Stays}
use Rattle.docket_tables.specs.declared.fault.ReadFault.{ReadFault}
use Rattle.docket_tables.specs.declared.fault.ReadFault.TheVariants.{Store}
use Rattle.docket_tables.proofs.NothingLemmas.{clean_before, nothing_then}
use Rattle.docket_applying.specs.AnyRows.{Preserves}
use Rattle.docket_applying.specs.Asking.{LeavesIdle}
use Rattle.docket_applying.specs.Dockets.{Docket}
use Rattle.docket_applying.specs.declared.fault.Fault.{Fault}
use Rattle.docket_applying.specs.declared.fault.Fault.TheVariants.{StoreFailed}
use Rattle.docket_applying.proofs.FailureLemmas.{failed_caused, told_cause}
use Rattle.docket_store.specs.Asking.{OnlyAnswers}

module _ {S : Type 0} (g : Ghosts S) {X : Type 0} (old : Docket S) (new : Held S) (kept : Option (List CalendarItem)) (by : Option Error) (result : Result X Fault) (unclosed : old.closed ≡ false)
    (closes : (is_some by ≡ true) ↔ (result ≡ Err StoreFailed)) where
  abbrev left : Docket S
  left = record { conn = new; court = old.court; closed = is_some by; closed_by = by; calendar = kept }

  -- a question to the tables, and its result for the docket
  pub told_only : (mid : Held S) (answer : Result X ReadFault) → OnlyAsks g old.conn mid answer → Survives (state g mid) (state g new) (λ _. ⊥)
      → ((rows : Rows) → Stays g mid rows answer → Preserves g new rows result)
      → (result ≡ Err StoreFailed → (e : Error) × (answer ≡ Err (Store e)) × (by ≡ Some e)) → OnlyAnswers g old left result
  told_only mid answer one nothing stays blames = record {
    court = refl;
    closed = λ is. absurd (true≢false (sym is ∙ unclosed));
    stays = λ rows holds. stays rows (one.stays rows holds);
    writes_nothing = nothing_then one.writes_nothing nothing;
    clean = omega (arith, one.writes_nothing.clean, nothing.clean);
    closes = λ _. closes;
    cause = λ rows holds settled failed. told_cause (state g old.conn) (state g mid) (state g new) answer by nothing.counts (blames failed) (one.cause rows holds (clean_before nothing settled));
  }

  -- the error of its connection closed the docket
  pub closed_only : (failure : Option Error) → LeavesIdle g old.conn new failure result → (result ≡ Err StoreFailed → by ≡ failure) → OnlyAnswers g old left result
  closed_only failure one is = record {
    court = refl;
    closed = λ closed. absurd (true≢false (sym closed ∙ unclosed));
    stays = one.stays;
    writes_nothing = one.writes_nothing;
    clean = one.writes_nothing.clean;
    closes = λ _. closes;
    cause = λ rows holds settled failed.
        let cause = failed_caused (state g old.conn) (state g new) failure result failed (one.cause rows holds settled) in
        (cause.0, is failed ∙ cause.1, cause.2);
  }
