-- How a run over lines is reported, and what it leaves.
use Rattle.std.proofs.Common.{◌≡◌, ◌≢◌, ◌∙◌, ℕ, zero, suc, List, Option, Some, None, Result, Ok, Err, IfOk, IfSome, IsErr, IsOkAnd, MatchOption, MatchResult, refl, sym, ap, subst, subst₂, arith}
use Rattle.std.proofs.lemmas.Bool.{false≢true}
use Rattle.std.specs.Io.KnownBytes.{Appends}
use Rattle.std.proofs.KnownBytes.{Appends-nil}
use Rattle.docket_scan.specs.declared.fault.AdoptFault.{AdoptFault}
use Rattle.docket_tables.specs.Layouts.{Rows}
use Rattle.line_io.specs.Output.{AppendsFront, HasFront}
use Rattle.line_io.specs.declared.ending.CountEnd.{CountEnd}
use Rattle.docket_applying.specs.CourtDockets.{CourtDocket as Docket}
use Rattle.command_lines.specs.Lines.{bad_answers, run_text}
use Rattle.command_lines.specs.declared.fault.RunFault.{RunFault}
use Rattle.command_lines.specs.declared.fault.RunFault.TheVariants as run
use Rattle.file_changes.specs.Runs.{Answers, AnswersAll, LeavesPrefix}
use Rattle.file_dockets.specs.Works.{WorksTo}
use Rattle.job_runs.specs.Tells.{last_line}
use Rattle.job_runs.specs.Jobs.{Runs, RunsInMemory}
use Rattle.job_runs.specs.Runs.{TellsEnd}
use Rattle.job_ends.specs.declared.status.Status.{Status}
use Rattle.job_ends.specs.declared.status.Status.TheVariants.{Done, SomeBad, Failed}
use Rattle.job_runs.proofs.AskLemmas.{none_out}
use Rattle.job_runs.proofs.EndLemmas.{some_left}

module _ (Left : Rows → Rows → Type 0) (docket : Docket) (input : List ℕ) (before : Option (List ℕ)) where
  -- all lines were answered: the status shows whether one of the answers is bad
  whole : (mid after : Option (List ℕ)) (end : CountEnd) (bad : ℕ) (status : Status) → end.bad ≡ bad → AnswersAll Left docket input before mid end
      → (after ≡ mid) × (bad ≡ 0 → status ≡ Done) × (bad ≢ 0 → status ≡ SomeBad) → Runs Left docket input before after status
  whole mid after end zero status is all told =
      subst (Runs Left docket input before after) (sym (told.1 refl)) (subst (λ a. Appends before a (run_text docket input)) (sym told.0) all.text, omega (arith, is, all.bad), all.left)
  whole mid after end (suc n) status is all told =
      let some : suc n ≢ 0 = λ none. omega (arith, none) in
      subst (Runs Left docket input before after) (sym (told.2 some)) (subst (λ a. Appends before a (run_text docket input)) (sym told.0) all.text, (λ none. omega (arith, is, all.bad, none)), all.left)

  -- how it ended is reported
  pub told_end : (mid after : Option (List ℕ)) (end : Result CountEnd RunFault) (status : Status) → Answers Left docket input before mid end → LeavesPrefix Left docket input before mid
      → TellsEnd end mid after status → Runs Left docket input before after status
  told_end mid after (Ok end) status answers prefix told = whole mid after end end.bad status refl answers told
  told_end mid after (Err fault) status answers prefix told = subst (Runs Left docket input before after) (sym told.0) (mid, prefix, fault, told.1)

  -- the docket was not adopted
  pub untold : (after : Option (List ℕ)) (status : Status) → LeavesPrefix Left docket input before after → status ≡ Failed → Runs Left docket input before after status
  untold after status prefix is =
      subst (Runs Left docket input before after) (sym is) (after, prefix, run.WriteFailed, record { count = 0; within = omega arith; front = Appends-nil after })

-- for a run on files that were opened, `outcome` is its outcome and `left_of` what is left of them
module _ {X Y L : Type 0} where
  pub ran : (ended : Result X Y) (left_of : X → L) (Clean : L → Type 0) (outcome : X → Result (Result CountEnd RunFault) AdoptFault) (LeftOf : L → Rows → Rows → Type 0) (docket : Docket)
      (remaining before mid after : Option (List ℕ)) (end : Result CountEnd RunFault) (left : L) (o : Option L) (N : Type 0) (told status : Status)
      → IfOk ended (λ it. Clean (left_of it) → IfSome remaining (λ input. WorksTo (Answers (LeftOf (left_of it)) docket input before mid) (outcome it)))
      → IfOk ended (λ it. Clean (left_of it) → IfSome remaining (λ input. LeavesPrefix (LeftOf (left_of it)) docket input before mid))
      → IsOkAnd ended (λ it. (outcome it ≡ Ok end) × (left_of it ≡ left)) → TellsEnd end mid after told → status ≡ told → o ≡ Some left
      → IfSome remaining (λ input. MatchOption o N (λ left. Clean left → Runs (LeftOf left) docket input before after status))
  ran (Ok it) left_of Clean outcome LeftOf docket None before mid after end left o N told status works prefix is tells same some = tt
  ran (Ok it) left_of Clean outcome LeftOf docket (Some input) before mid after end left o N told status works prefix is tells same some =
      some_left o left N _ some (λ clean.
      let was = subst Clean (sym is.1) clean in
      subst (Runs (LeftOf left) docket input before after) (sym same)
      (told_end (LeftOf left) docket input before mid after end told
      (subst₂ (λ l found. WorksTo (Answers (LeftOf l) docket input before mid) found) is.1 is.0 (works was)) (subst (λ l. LeavesPrefix (LeftOf l) docket input before mid) is.1 (prefix was)) tells))
  ran (Err y) left_of Clean outcome LeftOf docket remaining before mid after end left o N told status works prefix is tells same some = absurd is

  pub not_run : (ended : Result X Y) (left_of : X → L) (Clean : L → Type 0) (outcome : X → Result (Result CountEnd RunFault) AdoptFault) (LeftOf : L → Rows → Rows → Type 0) (docket : Docket)
      (remaining before after : Option (List ℕ)) (o : Option L) (N : Type 0) (status : Status)
      → IfOk ended (λ it. Clean (left_of it) → IfSome remaining (λ input. LeavesPrefix (LeftOf (left_of it)) docket input before after))
      → MatchResult ended (λ it. (o ≡ Some (left_of it)) × IsErr (outcome it)) (λ _. o ≡ None) → N → status ≡ Failed
      → IfSome remaining (λ input. MatchOption o N (λ left. Clean left → Runs (LeftOf left) docket input before after status))
  not_run ended left_of Clean outcome LeftOf docket None before after o N status prefix is none failed = tt
  not_run (Ok it) left_of Clean outcome LeftOf docket (Some input) before after o N status prefix is none failed =
      some_left o (left_of it) N _ is.0 (λ clean. untold (LeftOf (left_of it)) docket input before after status (prefix clean) failed)
  not_run (Err y) left_of Clean outcome LeftOf docket (Some input) before after o N status prefix is none failed =
      subst (λ o. MatchOption o N (λ left. Clean left → Runs (LeftOf left) docket input before after status)) (sym is) none

-- how a run in memory is reported

abbrev bad_in : Result CountEnd RunFault → ℕ
bad_in (Ok e) = e.bad
bad_in (Err fault) = 0

module _ (docket : Docket) (input : List ℕ) (before : Option (List ℕ)) where
  whole_in_memory : (mid after : Option (List ℕ)) (bad : ℕ) (status : Status) → bad ≡ bad_answers docket input → Appends before mid (run_text docket input)
      → (after ≡ mid) × (bad ≡ 0 → status ≡ Done) × (bad ≢ 0 → status ≡ SomeBad) → RunsInMemory docket input before after status
  whole_in_memory mid after zero status is all told =
      subst (RunsInMemory docket input before after) (sym (told.1 refl)) (subst (λ a. Appends before a (run_text docket input)) (sym told.0) all, sym is)
  whole_in_memory mid after (suc n) status is all told =
      let some : suc n ≢ 0 = λ none. omega (arith, none) in
      subst (RunsInMemory docket input before after) (sym (told.2 some)) (subst (λ a. Appends before a (run_text docket input)) (sym told.0) all, (λ none. omega (arith, is, none)))

  -- how it ended is reported
  pub told_in_memory : (mid after : Option (List ℕ)) (end told : Result CountEnd RunFault) (status : Status)
      → MatchResult end (λ e. Appends before mid (run_text docket input) × (e.bad ≡ bad_answers docket input)) (λ _. HasFront before mid (run_text docket input))
      → MatchResult told (λ e. end ≡ Ok e) (λ _. IsErr end) → TellsEnd told mid after status → RunsInMemory docket input before after status
  told_in_memory mid after (Ok e) (Ok shown) status answers same told = whole_in_memory mid after shown.bad status (ap (λ (x : Result CountEnd RunFault). bad_in x) (sym same) ∙ answers.1) answers.0 told
  told_in_memory mid after (Ok e) (Err fault) status answers same told = absurd (false≢true same)
  told_in_memory mid after (Err e) (Ok shown) status answers same told = absurd (cc)
  told_in_memory mid after (Err e) (Err fault) status answers same told = subst (RunsInMemory docket input before after) (sym told.0) (mid, answers, fault, told.1)

  -- it was not begun
  pub not_begun : (after : Option (List ℕ)) (fault : RunFault) (status : Status) → status ≡ Failed → AppendsFront before after (last_line fault) → RunsInMemory docket input before after status
  not_begun after fault status is front = subst (RunsInMemory docket input before after) (sym is) (before, none_out before before (run_text docket input) refl, fault, front)
