-- What a run over lines leaves, from a docket to its connection, and from there to the files.
use Rattle.std.proofs.Common.{◌≡◌, ◌∙◌, inl, inr, ℕ, ◌≤◌, List, [], ◌∷◌, ◌++◌, length, take, drop, Option, Some, None, Result, Ok, Err, IfOk, IfErr, OnErr, IfSome, IsOkAnd, refl, sym, ap, subst, append-nil, append_assoc, arith}
use Rattle.std.proofs.Math.Seq.{take-append_seam}
use Rattle.std.proofs.lemmas.List.{take-append-le, take-append-drop}
use Rattle.std.specs.Io.KnownBytes.{Appends}
use Rattle.std.proofs.KnownBytes.{Appends-nil}
use Rattle.sqlite_disk.specs.declared.Disk.{Ghosts as Disk}
use Rattle.sqlite_wal.specs.Recovery.{Image}
use Rattle.sqlite.specs.Store.{Ghosts}
use Rattle.sqlite.specs.Files.{IsCleanLeft, over_files}
use Rattle.sqlite.specs.Held.{Held, state}
use Rattle.sqlite.specs.State.{HasCleanDisk}
use Rattle.sqlite.specs.declared.error.Error.{Error}
use Rattle.sqlite.specs.declared.file.Leftover.{Leftover}
use Rattle.docket_columns.specs.declared.version.Version.TheVariants.{Second}
use Rattle.docket_scan.specs.declared.fault.AdoptFault.{AdoptFault}
use Rattle.docket_tables.specs.Layouts.{Rows}
use Rattle.docket_applying.specs.Applying.{IsDocket, StandsFor}
use Rattle.docket_applying.specs.Dockets.{Docket as Stored}
use Rattle.docket_applying.specs.declared.fault.Fault.TheVariants.{Refused, NoMemory, StoreFailed, Closed, Damaged}
use Rattle.line_io.specs.Ending.{BreaksOff}
use Rattle.line_io.specs.Lines.{lines_of}
use Rattle.line_io.specs.Output.{HasFront}
use Rattle.line_io.specs.Report.{LineAnswer, after_of, text_of}
use Rattle.line_io.specs.declared.ending.CountEnd.{CountEnd}
use Rattle.docket_applying.specs.CourtDockets.{StandsAs}
use Rattle.command_lines.specs.Ending.{Leaves}
use Rattle.docket_applying.specs.CourtDockets.{CourtDocket as Docket}
use Rattle.command_lines.specs.Lines.{bad_answers, docket_after, answer_to_line, run_text}
use Rattle.command_lines.specs.declared.fault.RunFault.{RunFault}
use Rattle.command_lines.specs.declared.fault.RunFault.TheVariants as run
use Rattle.docket_store.specs.Left.{LeavesRows}
use Rattle.docket_store.specs.Opening.{IsNotAdopted}
use Rattle.docket_store.specs.Reopening.{HoldDocket}
use Rattle.file_dockets.specs.Adopting.{AdoptsOver}
use Rattle.file_dockets.specs.Keeping.{HoldsBetween, Keeps, rows_told}
use Rattle.file_dockets.specs.Working.{IsDoneOn}
use Rattle.file_dockets.specs.Works.{WorksTo}
use Rattle.file_changes.specs.Runs.{Answers, LeavesPrefix, LeftBetween, RunsTo}
use Rattle.file_changes.specs.Works.{RunsOver}
use Rattle.file_dockets.proofs.KeepLemmas.{either, first, second}
use Rattle.file_dockets.proofs.WorkLemmas.{unadopted_keeps, unadopted_works, works_map}
use Rattle.file_changes.proofs.StandLemmas.{keeps_held}

-- of bytes that are known
pub some_map : {X : Type 0} (known : Option X) (P Q : X → Type 0) → ((x : X) → P x → Q x) → IfSome known P → IfSome known Q
some_map None P Q then is = tt
some_map (Some x) P Q then is = then x is

pub some_all : {X : Type 0} (known : Option X) (P : X → Type 0) → ((x : X) → P x) → IfSome known P
some_all None P all = tt
some_all (Some x) P all = all x

some_both : {X : Type 0} (known : Option X) (P Q R : X → Type 0) → ((x : X) → P x → Q x → R x) → IfSome known P → IfSome known Q → IfSome known R
some_both None P Q R then p q = tt
some_both (Some x) P Q R then p q = then x p q

-- the answers to lines and to those behind them
text_append : (s : Docket) (xs ys : List (List ℕ)) → text_of answer_to_line s (xs ++ ys) ≡ text_of answer_to_line s xs ++ text_of answer_to_line (after_of answer_to_line s xs) ys
text_append s [] ys = refl
text_append s (x ∷ xs) ys =
    ap (λ rest. (answer_to_line s x).text ++ rest) (text_append (answer_to_line s x).after xs ys) ∙ sym (append_assoc (answer_to_line s x).text _ _)

-- bytes that begin two ways begin with the shorter one
front : (a ys out lost : List ℕ) → a ++ ys ≡ out ++ lost → length a ≤ length out → out ≡ a ++ drop (length a) out
front a ys out lost same within =
    let is : a ≡ take (length a) out = sym (take-append_seam a ys) ∙ ap (take (length a)) same ∙ take-append-le (length a) out lost within in
    sym (take-append-drop (length a) out) ∙ ap (λ t. t ++ drop (length a) out) (sym is)

breaks_map : {S : Type 0} {answer_to : S → List ℕ → LineAnswer S} (L M : S → S → Type 0) → ((before next : S) → L before next → M before next)
    → (most : ℕ) (s : S) (lines : List (List ℕ)) (old new : Option (List ℕ)) → BreaksOff answer_to L most s lines old new → BreaksOff answer_to M most s lines old new
breaks_map L M more most s lines old new b = record {
  answered = b.answered;
  more = b.more;
  rest = b.rest;
  whole = b.whole;
  one_more = b.one_more;
  left = more _ _ b.left;
  out = b.out;
  lost = b.lost;
  text = b.text;
  appends = b.appends;
  missing = b.missing;
}

module _ {S : Type 0} (g : Ghosts S) (stored : Stored S) where
  left_between : (fault : RunFault) (before next : Docket) → Leaves g stored fault before next → LeftBetween (HoldsBetween g stored.conn) fault before next
  left_between run.ReadFailed before next left = keeps_held g stored before left
  left_between run.WriteFailed before next left = keeps_held g stored next left
  left_between run.NoMemory before next (inl was) = inl (keeps_held g stored before was)
  left_between run.NoMemory before next (inr is) = inr (keeps_held g stored next is)
  left_between (run.Store StoreFailed) before next left = either g stored.conn (rows_told before) (rows_told next) left
  left_between (run.Store (Refused r)) before next left = left
  left_between (run.Store NoMemory) before next left = left
  left_between (run.Store Closed) before next left = left
  left_between (run.Store Damaged) before next left = left

  module _ (old : Stored S) (known before after : Option (List ℕ)) where
    -- the answers of a run by a docket, whose connection is left
    pub answers_of : (r : Result CountEnd RunFault)
        → IfOk r (λ end. (docket : Docket) → StandsAs g old docket → HasCleanDisk (state g stored.conn) → IfSome known (λ input.
        Appends before after (run_text docket input) × (end.lines ≡ length (lines_of input)) × (end.bad ≡ bad_answers docket input) × StandsAs g stored (docket_after docket input)))
        → OnErr r ((docket : Docket) → StandsAs g old docket → HasCleanDisk (state g stored.conn) → IfSome known (λ input. HasFront before after (run_text docket input)))
        → IfErr r (λ fault. (docket : Docket) → StandsAs g old docket → HasCleanDisk (state g stored.conn) → IfSome known (λ input.
        BreaksOff answer_to_line (Leaves g stored fault) 0 docket (lines_of input) before after))
        → (docket : Docket) → StandsAs g old docket → HasCleanDisk (state g stored.conn)
        → IfSome known (λ input. Answers (HoldsBetween g stored.conn) docket input before after r)
    answers_of (Ok end) whole part left docket stands clean =
        some_map known _ _ (λ input is. record {
          text = is.0;
          lines = is.1;
          bad = is.2;
          left = keeps_held g stored (docket_after docket input) is.3;
        }) (whole docket stands clean)
    answers_of (Err fault) whole part left docket stands clean =
        some_both known _ _ _ (λ input text breaks. record {
          text = text;
          left = breaks_map _ _ (left_between fault) 0 docket (lines_of input) before after breaks;
        }) (part docket stands clean) (left docket stands clean)

-- The same of whatever else is left by that.
module _ (L M : Rows → Rows → Type 0) (more : (rows next : Rows) → L rows next → M rows next) where
  pub keeps_map : (docket : Docket) → Keeps L docket → Keeps M docket
  keeps_map docket keeps = (keeps.0, more (rows_told docket) (rows_told docket) keeps.1)

  between_map : (fault : RunFault) (before next : Docket) → LeftBetween L fault before next → LeftBetween M fault before next
  between_map run.ReadFailed before next left = keeps_map before left
  between_map run.WriteFailed before next left = keeps_map next left
  between_map run.NoMemory before next (inl was) = inl (keeps_map before was)
  between_map run.NoMemory before next (inr is) = inr (keeps_map next is)
  between_map (run.Store StoreFailed) before next left = more (rows_told before) (rows_told next) left
  between_map (run.Store (Refused r)) before next left = left
  between_map (run.Store NoMemory) before next left = left
  between_map (run.Store Closed) before next left = left
  between_map (run.Store Damaged) before next left = left

  module _ (docket : Docket) (input : List ℕ) (before after : Option (List ℕ)) where
    pub answers_map : (r : Result CountEnd RunFault) → Answers L docket input before after r → Answers M docket input before after r
    answers_map (Ok end) all = record { text = all.text; lines = all.lines; bad = all.bad; left = keeps_map (docket_after docket input) all.left }
    answers_map (Err fault) part = record { text = part.text; left = breaks_map _ _ (between_map fault) 0 docket (lines_of input) before after part.left }

    pub prefix_map : LeavesPrefix L docket input before after → LeavesPrefix M docket input before after
    prefix_map is = record {
      answered = is.answered;
      more = is.more;
      rest = is.rest;
      whole = is.whole;
      one_more = is.one_more;
      out = is.out;
      appends = is.appends;
      begun = is.begun;
      acknowledged = is.acknowledged;
      lost = is.lost;
      no_further = is.no_further;
      left = more _ _ is.left;
    }

module _ {S : Type 0} (g : Ghosts S) (conn : Held S) where
  prefix_left : (fault : RunFault) (before next : Docket) → LeftBetween (HoldsBetween g conn) fault before next → HoldsBetween g conn (rows_told before) (rows_told next)
  prefix_left run.ReadFailed before next left = first g conn (rows_told before) (rows_told next) left.1
  prefix_left run.WriteFailed before next left = second g conn (rows_told before) (rows_told next) left.1
  prefix_left run.NoMemory before next (inl was) = first g conn (rows_told before) (rows_told next) was.1
  prefix_left run.NoMemory before next (inr is) = second g conn (rows_told before) (rows_told next) is.1
  prefix_left (run.Store StoreFailed) before next left = left
  prefix_left (run.Store (Refused r)) before next left = absurd left
  prefix_left (run.Store NoMemory) before next left = absurd left
  prefix_left (run.Store Closed) before next left = absurd left
  prefix_left (run.Store Damaged) before next left = absurd left

  module _ (docket : Docket) (input : List ℕ) (before after : Option (List ℕ)) where
    -- whatever its outcome, a run leaves what it promised
    prefix_of : (r : Result CountEnd RunFault) → Answers (HoldsBetween g conn) docket input before after r
        → LeavesPrefix (HoldsBetween g conn) docket input before after
    prefix_of (Ok end) all =
        let nothing_more : List (List ℕ) → Type 0 = λ lines. HoldsBetween g conn (rows_told (docket_after docket input)) (rows_told (after_of answer_to_line docket lines)) in
        record {
          answered = lines_of input;
          more = [];
          rest = [];
          whole = sym (append-nil _ ∙ append-nil _);
          one_more = omega arith;
          out = run_text docket input;
          appends = all.text;
          begun = [];
          acknowledged = sym (append-nil _);
          lost = [];
          no_further = ap (text_of answer_to_line docket) (append-nil (lines_of input)) ∙ sym (append-nil _);
          left = subst nothing_more (sym (append-nil (lines_of input))) all.left.1;
        }
    prefix_of (Err fault) part =
        let b = part.left in
        record {
          answered = b.answered;
          more = b.more;
          rest = b.rest;
          whole = b.whole;
          one_more = b.one_more;
          out = b.out;
          appends = b.appends;
          begun = drop (length (text_of answer_to_line docket b.answered)) b.out;
          acknowledged = front _ _ b.out b.lost (sym (text_append docket b.answered b.more) ∙ b.text) (omega (arith, b.missing));
          lost = b.lost;
          no_further = b.text;
          left = prefix_left fault _ _ b.left;
        }

    pub prefix_done : (outcome : Result (Result CountEnd RunFault) AdoptFault) → IsOkAnd outcome (Answers (HoldsBetween g conn) docket input before after)
        → LeavesPrefix (HoldsBetween g conn) docket input before after
    prefix_done (Ok r) answers = prefix_of r answers
    prefix_done (Err fault) answers = absurd answers

-- where no line was answered nothing went out, and the docket is as it was
module _ (Left : Rows → Rows → Type 0) (docket : Docket) (input : List ℕ) (before after : Option (List ℕ)) where
  pub prefix_none : Left (rows_told docket) (rows_told docket) → after ≡ before → LeavesPrefix Left docket input before after
  prefix_none left same = record {
    answered = [];
    more = [];
    rest = lines_of input;
    whole = refl;
    one_more = omega arith;
    out = [];
    appends = subst (λ now. Appends before now []) (sym same) (Appends-nil before);
    begun = [];
    acknowledged = refl;
    lost = [];
    no_further = refl;
    left = left;
  }

works_of : {T : Type 0} (P : T → Type 0) (outcome : Result T AdoptFault) → IsOkAnd outcome P → WorksTo P outcome
works_of P (Ok done) is = is
works_of P (Err fault) is = absurd is

module _ {S : Type 0} (g : Ghosts S) (old new : Held S) (known before after : Option (List ℕ)) (failure : Option Error) where
  -- the docket was adopted, and answered the lines
  pub ran : (outcome : Result (Result CountEnd RunFault) AdoptFault) → AdoptsOver g old new failure outcome
      → ((told : Docket) → IsDocket told.court told.history → StandsFor g old told.court told.history → HasCleanDisk (state g new)
      → IfSome known (λ input. IsOkAnd outcome (Answers (HoldsBetween g new) told input before after)))
      → RunsOver g old new known before after failure outcome
  ran outcome adopts answers = record {
    adopts = adopts;
    runs = λ told is stands clean. some_map known _ _ (λ input. works_of _ outcome) (answers told is stands clean);
    prefix = λ told is stands clean. some_map known _ _ (λ input. prefix_done g new told input before after outcome) (answers told is stands clean);
  }

  -- it was not adopted, and nothing went out
  pub unran : (fault : AdoptFault) → AdoptsOver g old new failure {T = Result CountEnd RunFault} (Err fault) → after ≡ before
      → ((told : Docket) → IsDocket told.court told.history → StandsFor g old told.court told.history → IsNotAdopted g new (rows_told told) fault)
      → RunsOver g old new known before after failure (Err fault)
  unran fault adopts same unadopted = record {
    adopts = adopts;
    runs = λ told is stands clean. some_all known _ (λ input. unadopted_works g new (rows_told told) (Answers (HoldsBetween g new) told input before after) fault (unadopted told is stands) clean);
    prefix = λ told is stands clean. some_all known _ (λ input. prefix_none (HoldsBetween g new) told input before after (unadopted_keeps g new (rows_told told) fault (unadopted told is stands)) same);
  }

module _ {D : Type 0} {g : Disk D} (start : Image) (known before after : Option (List ℕ)) (failure : Option Error) (outcome : Result (Result CountEnd RunFault) AdoptFault) (rest : Leftover D g)
    (told : Docket) (done : IsDoneOn start (λ old new. RunsOver over_files old new known before after failure) outcome rest) (is : IsDocket told.court told.history)
    (files : HoldDocket start told.court told.history) (clean : IsCleanLeft rest) where
  left_of : (rows next : Rows) → HoldsBetween over_files done.back rows next → LeavesRows rest rows next
  left_of rows next holds = done.left rows next holds clean

  -- from a connection to the files that it leaves
  pub runs_on : IfSome known (λ input. RunsTo (LeavesRows rest) told input before after outcome)
  runs_on =
      some_map known _ _ (λ input. works_map _ _ (answers_map (HoldsBetween over_files done.back) (LeavesRows rest) left_of told input before after) outcome)
      (done.comes.runs told is (done.holds Second (rows_told told) files) (done.trust clean))

  pub prefix_on : IfSome known (λ input. LeavesPrefix (LeavesRows rest) told input before after)
  prefix_on =
      some_map known _ _ (λ input. prefix_map (HoldsBetween over_files done.back) (LeavesRows rest) left_of told input before after)
      (done.comes.prefix told is (done.holds Second (rows_told told) files) (done.trust clean))
