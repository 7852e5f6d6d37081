-- What an accepted command may write.
use Rattle.std.proofs.Common.{◌≤◌, ◌<◌, ◌^◌, ◌⊎◌, inl, inr, ◌∷◌, ℕ, List, length, sym, subst, arith}
use Rattle.std.specs.Prelude.{nat_le}
use Rattle.std.specs.List.{AllByRecursion}
use Rattle.std.proofs.lemmas.Bool.{cases_Bool}
use Rattle.std.proofs.lemmas.Bool.Decides.{nat_tests}
use Rattle.court_days.specs.Court.{CourtSettings}
use Rattle.docket_command.specs.declared.command.Command.{Command}
use Rattle.docket_decisions.specs.EndRows.{end_rows}
use Rattle.docket_decisions.specs.Outcomes.{IsHistory}
use Rattle.docket_decisions.specs.Tables.{Tables, rows_of}
use Rattle.docket_decisions.specs.declared.decision.Changes.{Changes}
use Rattle.docket_history.specs.Histories.{History}
use Rattle.docket_history.specs.declared.row.Change.{Change}
use Rattle.docket_orderly.specs.Additions.{MayAddAll}
use Rattle.docket_orderly.proofs.AdditionLemmas.{additions}
use Rattle.docket_tables.specs.Additions.{AreStorable, values_added}
use Rattle.docket_wire.specs.Valid.{IsCommand}
use Rattle.docket_wire.specs.Writing.{canonical}
use Rattle.docket_applying.specs.Sound.{AreSound}
use Rattle.docket_applying.specs.Writing.{MayAddEnds, MayWrite}
use Rattle.docket_applying.proofs.DocketLemmas.{sound_docket}
use Rattle.docket_applying.proofs.HistoryLemmas.{update_added}
use Rattle.docket_applying.proofs.StorableLemmas.{changes_storable, receipt_storable}
use Rattle.docket_applying.specs.Applying.{IsDocket, IsAccepted}

pub lengths : (n limit : ℕ) → (n ≤ limit) ⊎ (limit < n)
lengths n limit = elim (cases_Bool (nat_le n limit)) [ inl low ↦ inl (grind (arith, nat_tests, low)) | inr high ↦ inr (grind (arith, nat_tests, high)) ]

pub may_write : (court : CourtSettings) (h : History) (c : Command) (changes : Changes) → IsDocket court h → IsCommand c → IsAccepted court h c changes → length (canonical c) ≤ 10 ^ 7
    → MayWrite court c changes (rows_of court h) (end_rows court (rows_of court h))
may_write court h c changes is lawful accepts short =
    let history : IsHistory court (c ∷ h) = ((changes.reply, accepts.0), is.history) in
    let all : AllByRecursion IsCommand (c ∷ h) = (lawful, is.commands) in
    let t : Tables = rows_of court h in
    let may = additions court h c history in
    record {
      added = subst (λ (xs : List Change). MayAddAll xs t) (sym accepts.2) may.0;
      received = may.1;
      storable = subst (λ (xs : List Change). AllByRecursion (λ x. AreStorable (values_added x)) xs) (sym accepts.2) (changes_storable court h c is.settings history all);
      kept = receipt_storable court h c changes.reply is.settings history all accepts.0 short;
      ends = subst (λ (next : Tables). MayAddEnds changes.ends next (end_rows court t)) (sym accepts.1)
          (update_added court h c changes.reply changes.rows.items changes.ends history accepts.1 accepts.3);
      sound = subst (λ (next : Tables). AreSound court next) (sym accepts.1) (sound_docket court (c ∷ h) history);
    }
