-- The outcome of a question to the docket in files, and how its job ends.
use Rattle.std.proofs.Common.{◌≡◌, inl, inr, ℕ, List, [], Option, Some, None, Result, Ok, Err, IfErr, IfOk, IsErr, IsOkAnd, MatchOption, MatchResult, refl, sym, ap, subst, subst₂, unwrap_or}
use Rattle.std.proofs.lemmas.Bool.{false≢true}
use Rattle.std.proofs.lemmas.Result.{IfErr-weaker}
use Rattle.std.proofs.lemmas.Option.{none-some}
use Rattle.std.proofs.KnownBytes.{Appends-nil}
use Rattle.std.specs.Cow.{cow_str_bytes}
use Rattle.std.specs.Io.KnownBytes.{Appends}
use Rattle.sqlite_disk.specs.declared.Disk.{Ghosts}
use Rattle.sqlite_wal.specs.Recovery.{Image}
use Rattle.sqlite.specs.Files.{IsCleanLeft}
use Rattle.sqlite.specs.declared.error.Error.{Error}
use Rattle.sqlite.specs.declared.file.Leftover.{Leftover}
use Rattle.docket_applying.specs.CourtDockets.{CourtDocket as Docket}
use Rattle.docket_scan.specs.declared.fault.AdoptFault.{AdoptFault}
use Rattle.docket_store.specs.Left.{LeavesRows}
use Rattle.file_dockets.specs.Adopting.{IsJudged}
use Rattle.file_dockets.specs.Keeping.{rows_told}
use Rattle.file_dockets.specs.Works.{WorksTo}
use Rattle.file_dockets.specs.declared.ended.Ended.{Ended}
use Rattle.file_questions.specs.Asking.{OnlyAsks}
use Rattle.line_io.specs.Output.{HasFront}
use Rattle.job_ends.specs.Ends.{SaysFault, TellsNothing, unadopted_at}
use Rattle.job_ends.specs.declared.end.JobEnd.{JobEnd}
use Rattle.job_ends.specs.declared.status.Status.{Status}
use Rattle.job_ends.specs.declared.status.Status.TheVariants.{Done, SomeBad, BadLine, Failed}
use Rattle.job_runs.specs.Asked.{IsAnswered}
use Rattle.job_runs.specs.Jobs.{FailsOr, TellsOf}
use Rattle.job_runs.specs.Spares.{FailsBy, RowsStay, SparesAsked, WereAsked, WereJudged}
use Rattle.job_runs.specs.Tells.{TellsIfAny, TellsText}
use Rattle.job_runs.proofs.EndLemmas.{err_holds, some_left}

-- what follows from a fact of whatever is left holds of it too
pub left_map : {L : Type 0} (o : Option L) (N : Type 0) (P Q : L → Type 0) → ((left : L) → P left → Q left) → MatchOption o N P → MatchOption o N Q
left_map None N P Q then is = is
left_map (Some left) N P Q then is = then left is

-- what holds anyway holds where no files were opened
pub if_unopened : {L : Type 0} (o : Option L) (P : Type 0) → P → MatchOption o P (λ _. Unit {0})
if_unopened None P holds = holds
if_unopened (Some left) P holds = tt

-- where nothing went out, a prefix of any text did
pub none_out : (before after : Option (List ℕ)) (wanted : List ℕ) → after ≡ before → HasFront before after wanted
none_out before after wanted same = record { out = []; lost = wanted; whole = refl; appends = subst (λ a. Appends before a []) (sym same) (Appends-nil before) }

-- a text that is always there is printed
told_text : (wanted text : List ℕ) (status : Status) → TellsIfAny (Some wanted) text status → TellsText wanted text status
told_text wanted text Done is = sym (ap (λ found. unwrap_or found []) is)
told_text wanted text SomeBad is = absurd (none-some wanted (sym is.0))
told_text wanted text BadLine is = is
told_text wanted text Failed is = is

if_ok : {T E : Type 0} (r : Result T E) → IfOk r (λ _. Unit {0})
if_ok (Ok x) = tt
if_ok (Err e) = tt

if_both : {T E : Type 0} (r : Result T E) (S : E → Type 0) (P W : Type 0) → P → IfErr r S → IfErr r (λ _. W) → IfErr r (λ fault. (P × S fault) × W)
if_both (Ok x) S P W p said same = tt
if_both (Err e) S P W p said same = ((p, said), same)

module _ {D : Type 0} {g : Ghosts D} where
  -- files that were checked, by the outcome of the work on them: it was done
  pub judged_done : {T : Type 0} (files : Image) (V : Type 0) (R : AdoptFault → Type 0) (left : Leftover D g) (failure : Option Error) (outcome : Result T AdoptFault) (done : T)
      → IsJudged files left failure outcome → outcome ≡ Ok done → V → WereJudged files V R left
  judged_done files V R left failure (Ok x) done is same worked = record { opened = is.opened; shows = is.shows; judged = inl (is.sound, worked) }
  judged_done files V R left failure (Err fault) done is same worked = absurd (cc)

  -- or it was not
  pub judged_undone : {T : Type 0} (files : Image) (V : Type 0) (R : AdoptFault → Type 0) (left : Leftover D g) (failure : Option Error) (outcome : Result T AdoptFault)
      → IsJudged files left failure outcome → IsErr outcome → IfErr outcome R → WereJudged files V R left
  judged_undone files V R left failure (Ok done) is failed refused = absurd (false≢true failed)
  judged_undone files V R left failure (Err fault) is failed refused = record { opened = is.opened; shows = is.shows; judged = inr (fault, is.found, refused, is.spared) }

  -- a work that was done was not refused
  pub judged_so : (files : Image) (V : Type 0) (R : AdoptFault → Type 0) (left : Leftover D g) → WereJudged files V (λ fault. ⊥) left → WereJudged files V R left
  judged_so files V R left is = record {
    opened = is.opened;
    shows = is.shows;
    judged = elim is.judged [
      | inl sound ↦ inl sound
      | inr none ↦ absurd none.2
    ];
  }

  -- the outcome of a work, by the answer and what is left, or by the end of its job
  abbrev pub Comes : {T Y : Type 0} → Result (Ended D T AdoptFault g) Y → Result (T × Leftover D g) (JobEnd D g) → Type 0
  Comes ended result =
      MatchResult result (λ found. IsOkAnd ended (λ it. (it.outcome ≡ Ok found.0) × (it.left ≡ found.1)))
      (λ end. TellsNothing (cow_str_bytes end.text) end.status × MatchResult ended (λ it. (end.left ≡ Some it.left) × IsErr it.outcome) (λ _. end.left ≡ None))

  -- where no files were opened
  closed : (end : JobEnd D g) (P : Leftover D g → Type 0) → end.left ≡ None → TellsNothing (cow_str_bytes end.text) end.status
      → MatchOption end.left (TellsNothing (cow_str_bytes end.text) end.status) P
  closed end P none fails = subst (λ o. MatchOption o (TellsNothing (cow_str_bytes end.text) end.status) P) (sym none) fails

  -- a question was answered, or not
  pub answered : {T Y : Type 0} (docket : Docket) (P : T → Type 0) (ended : Result (Ended D T AdoptFault g) Y) (result : Result (T × Leftover D g) (JobEnd D g))
      → IfOk ended (λ it. IsCleanLeft it.left → WorksTo P it.outcome) → IfOk ended (λ it. IsCleanLeft it.left → LeavesRows it.left (rows_told docket) (rows_told docket))
      → Comes ended result → IsAnswered docket P result
  answered docket P (Ok it) (Ok found) works kept is = λ clean.
      let was = subst IsCleanLeft (sym is.1) clean in
      (subst (WorksTo P) is.0 (works was), subst (λ left. LeavesRows left (rows_told docket) (rows_told docket)) is.1 (kept was))
  answered docket P (Ok it) (Err end) works kept is =
      some_left end.left it.left _ (λ left. IsCleanLeft left → TellsNothing (cow_str_bytes end.text) end.status × LeavesRows left (rows_told docket) (rows_told docket)) is.1.0
      (λ clean. (is.0, kept clean))
  answered docket P (Err y) (Ok found) works kept is = absurd is
  answered docket P (Err y) (Err end) works kept is =
      closed end (λ left. IsCleanLeft left → TellsNothing (cow_str_bytes end.text) end.status × LeavesRows left (rows_told docket) (rows_told docket)) is.1 is.0

  -- and the files were checked
  pub spared : {T : Type 0} (path : List ℕ) (files : Image) (before after : Option (List ℕ)) (ended : Result (Ended D T AdoptFault g) (Error × Option (Leftover D g)))
      (result : Result (T × Leftover D g) (JobEnd D g)) → OnlyAsks files ended → IfOk ended (λ it. IfErr it.outcome (λ fault. SaysFault (unadopted_at path fault) before after))
      → Comes ended result → MatchResult result (WereAsked files) (SparesAsked path files before after)
  spared path files before after (Ok it) (Ok found) only said is = λ clean.
      let was = subst IsCleanLeft (sym is.1) clean in
      subst (λ left. WereJudged files (RowsStay files left) (λ fault. ⊥) left) is.1
      (judged_done files (RowsStay files it.left) (λ fault. ⊥) it.left it.failure it.outcome found.0 (only.judged was) is.0 (λ rows held. only.stays rows held was))
  spared path files before after (Ok it) (Err end) only said is =
      some_left end.left it.left _ (λ left. IsCleanLeft left → WereJudged files (RowsStay files left) (FailsBy path end.status before after) left) is.1.0
      (λ clean. judged_undone files (RowsStay files it.left) (FailsBy path end.status before after) it.left it.failure it.outcome (only.judged clean) is.1.1
      (IfErr-weaker it.outcome _ _ (λ fault says. (is.0.0, says)) said))
  spared path files before after (Err y) (Ok found) only said is = absurd is
  spared path files before after (Err y) (Err end) only said is =
      closed end (λ left. IsCleanLeft left → WereJudged files (RowsStay files left) (FailsBy path end.status before after) left) is.1 is.0

  -- a job that may change the docket: where the work was done
  pub worked : {T Y : Type 0} (files : Image) (K : Leftover D g → T → Type 0) (V : Leftover D g → Type 0) (R : AdoptFault → Type 0) (ended : Result (Ended D T AdoptFault g) Y) (found : T)
      (left : Leftover D g) (end : JobEnd D g) → end.left ≡ Some left → IfOk ended (λ it. IsCleanLeft it.left → IsJudged files it.left it.failure it.outcome)
      → IfOk ended (λ it. IsCleanLeft it.left → IfOk it.outcome (K it.left)) → IsOkAnd ended (λ it. (it.outcome ≡ Ok found) × (it.left ≡ left))
      → ((rest : Leftover D g) → K rest found → V rest) → FailsOr end (λ left. WereJudged files (V left) R left)
  worked files K V R (Ok it) found left end same is kept done then =
      some_left end.left left _ (λ left. IsCleanLeft left → WereJudged files (V left) R left) same (λ clean.
      let was = subst IsCleanLeft (sym done.1) clean in
      subst (λ left. WereJudged files (V left) R left) done.1
      (judged_done files (V it.left) R it.left it.failure it.outcome found (is was) done.0 (then it.left (subst (λ o. IfOk o (K it.left)) done.0 (kept was)))))
  worked files K V R (Err y) found left end same is kept done then = absurd done

  -- and where it was not
  pub refused : {T Y : Type 0} (files : Image) (V : Leftover D g → Type 0) (R : AdoptFault → Type 0) (ended : Result (Ended D T AdoptFault g) Y) (end : JobEnd D g)
      → IfOk ended (λ it. IsCleanLeft it.left → IsJudged files it.left it.failure it.outcome) → MatchResult ended (λ it. (end.left ≡ Some it.left) × IsErr it.outcome) (λ _. end.left ≡ None)
      → IfOk ended (λ it. IfErr it.outcome R) → TellsNothing (cow_str_bytes end.text) end.status → FailsOr end (λ left. WereJudged files (V left) R left)
  refused files V R (Ok it) end is none said fails =
      some_left end.left it.left _ (λ left. IsCleanLeft left → WereJudged files (V left) R left) none.0
      (λ clean. judged_undone files (V it.left) R it.left it.failure it.outcome (is clean) none.1 said)
  refused files V R (Err y) end is none said fails = closed end (λ left. IsCleanLeft left → WereJudged files (V left) R left) none fails

  -- nothing more is to show of a work that was done
  pub no_more : {T Y : Type 0} (ended : Result (Ended D T AdoptFault g) Y) → IfOk ended (λ it. IsCleanLeft it.left → IfOk it.outcome (λ _. Unit {0}))
  no_more (Ok it) = λ clean. if_ok it.outcome
  no_more (Err y) = tt

  -- what holds of a fault, with what holds anyway
  pub said_with : {T Y : Type 0} (ended : Result (Ended D T AdoptFault g) Y) (S : AdoptFault → Type 0) (P Q : Type 0) → P → Q → IfOk ended (λ it. IfErr it.outcome S)
      → IfOk ended (λ it. IfErr it.outcome (λ fault. (P × S fault) × Q))
  said_with (Ok it) S P Q p q said = IfErr-weaker it.outcome _ _ (λ fault says. ((p, says), q)) said
  said_with (Err y) S P Q p q said = tt

  -- and where nothing was written
  pub said_unwritten : {T Y : Type 0} (ended : Result (Ended D T AdoptFault g) Y) (S : AdoptFault → Type 0) (P W : Type 0) → P → IfOk ended (λ it. IfErr it.outcome S)
      → MatchResult ended (λ it. IfErr it.outcome (λ _. W)) (λ _. W) → IfOk ended (λ it. IfErr it.outcome (λ fault. (P × S fault) × W))
  said_unwritten (Ok it) S P W p said same = if_both it.outcome S P W p said same
  said_unwritten (Err y) S P W p said same = tt

  -- how a job ends that was not answered
  pub failed : {T Y : Type 0} (ended : Result (Ended D T AdoptFault g) Y) (result : Result (T × Leftover D g) (JobEnd D g))
      → Comes ended result → IfErr result (λ end. TellsNothing (cow_str_bytes end.text) end.status)
  failed ended (Ok found) is = tt
  failed ended (Err end) is = is.0

  -- where it was not, nothing was written
  pub unwritten : {T Y : Type 0} (ended : Result (Ended D T AdoptFault g) Y) (result : Result (T × Leftover D g) (JobEnd D g)) (W : Type 0)
      → MatchResult ended (λ it. IfErr it.outcome (λ _. W)) (λ _. W) → Comes ended result → IfErr result (λ _. W)
  unwritten ended (Ok found) W same is = tt
  unwritten (Ok it) (Err end) W same is = err_holds it.outcome W same is.1.1
  unwritten (Err y) (Err end) W same is = same

  -- a job that was answered ends so, with what is left of the files
  module _ (end : JobEnd D g) (left : Leftover D g) (same : end.left ≡ Some left) where
    pub tells : (docket : Docket) (Answered : Type 0) (Q : List ℕ → Status → Type 0) (text : List ℕ) (status : Status) → cow_str_bytes end.text ≡ text → end.status ≡ status
        → (IsCleanLeft left → Answered × LeavesRows left (rows_told docket) (rows_told docket)) → (Answered → Q text status) → TellsOf docket Q end
    tells docket Answered Q text status shown ended answer then =
        some_left end.left left _ (λ left. IsCleanLeft left → Q (cow_str_bytes end.text) end.status × LeavesRows left (rows_told docket) (rows_told docket)) same
        (λ clean. let found = answer clean in (subst₂ Q (sym shown) (sym ended) (then found.0), found.1))

    pub spares : (path : List ℕ) (files : Image) (before after : Option (List ℕ)) → (IsCleanLeft left → WereJudged files (RowsStay files left) (λ fault. ⊥) left)
        → SparesAsked path files before after end
    spares path files before after is =
        some_left end.left left _ (λ left. IsCleanLeft left → WereJudged files (RowsStay files left) (FailsBy path end.status before after) left) same
        (λ clean. judged_so files (RowsStay files left) (FailsBy path end.status before after) left (is clean))

  -- one that was not answered printed nothing
  pub fails : (end : JobEnd D g) (docket : Docket) (Q : List ℕ → Status → Type 0) → Q [] Failed → TellsOf docket TellsNothing end → TellsOf docket Q end
  fails end docket Q holds is =
      left_map end.left _ (λ left. IsCleanLeft left → TellsNothing (cow_str_bytes end.text) end.status × LeavesRows left (rows_told docket) (rows_told docket))
      (λ left. IsCleanLeft left → Q (cow_str_bytes end.text) end.status × LeavesRows left (rows_told docket) (rows_told docket))
      (λ left was clean. let it = was clean in (subst₂ Q (sym it.0.1) (sym it.0.0) holds, it.1)) is

  -- one that asked for a text that is always there
  pub whole_told : (end : JobEnd D g) (docket : Docket) (wanted : List ℕ) → TellsOf docket (TellsIfAny (Some wanted)) end → TellsOf docket (TellsText wanted) end
  whole_told end docket wanted is =
      left_map end.left _ (λ left. IsCleanLeft left → TellsIfAny (Some wanted) (cow_str_bytes end.text) end.status × LeavesRows left (rows_told docket) (rows_told docket))
      (λ left. IsCleanLeft left → TellsText wanted (cow_str_bytes end.text) end.status × LeavesRows left (rows_told docket) (rows_told docket))
      (λ left was clean. let it = was clean in (told_text wanted (cow_str_bytes end.text) end.status it.0, it.1)) is
