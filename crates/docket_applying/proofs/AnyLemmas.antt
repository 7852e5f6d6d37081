-- The rows of any docket, after a question, after a check of its database and after a command.
use Rattle.std.proofs.Common.{◌≡◌, ◌∙◌, ◌⊎◌, inl, inr, ℕ, false, Ok, Err, Result, IsErrAnd, IfErr, IfOk, MatchResult, sym, ap, subst}
use Rattle.std.specs.List.{Contains}
use Rattle.std.proofs.lemmas.List.Elements.{Contains-push}
use Rattle.sqlite.specs.Store.{Ghosts}
use Rattle.sqlite.specs.Held.{Held}
use Rattle.court_days.specs.Court.{CourtSettings}
use Rattle.docket_command.specs.declared.command.Command.{Command}
use Rattle.docket_command.specs.declared.refusal.Refusal.{Refusal}
use Rattle.docket_command.specs.declared.refusal.Reply.{Reply}
use Rattle.docket_columns.specs.Cells.{receipt_cells}
use Rattle.docket_decisions.specs.Decisions.{IsKeptReply}
use Rattle.docket_decisions.specs.declared.decision.Decision.{Decision}
use Rattle.docket_decisions.specs.declared.decision.Decision.TheVariants.{Change as Changed, Repeat}
use Rattle.docket_history.specs.declared.row.Receipt.{Receipt}
use Rattle.docket_history.specs.declared.view.View.{View}
use Rattle.docket_tables.specs.AnyRows.{HasReceipt}
use Rattle.docket_tables.specs.Layouts.{Rows}
use Rattle.docket_tables.specs.Stands.{HoldsRows, Lasts}
use Rattle.docket_tables.specs.declared.table.Table.TheVariants.{Receipts}
use Rattle.docket_tables.proofs.AnyLemmas.{receipt_behind}
use Rattle.docket_applying.specs.AnyRows.{AnswersWhole, IsNext, IsRecorded, PreservesAt, Preserves, RepeatsReceipt, ShowsReceipt, WritesOne, WritesWhole}
use Rattle.docket_applying.specs.Applying.{FailsAs}
use Rattle.docket_applying.specs.Dockets.{Docket}
use Rattle.docket_applying.specs.declared.fault.Fault.{Fault}
use Rattle.docket_applying.specs.declared.fault.Fault.TheVariants.{Refused, NoMemory, StoreFailed, Closed, Damaged}

-- the rows that a command leads to have its receipt
pub next_has : (court : CourtSettings) (n : ℕ) (rows : Rows) (c : Command) (reply : Reply) (next : Rows) → IsNext court n rows c reply next → HasReceipt c reply next
next_has court n rows c reply next it =
    let receipt : Receipt = record { command = c; reply = reply } in
    subst (λ all. Contains all (receipt_cells receipt)) (sym (ap (λ (r : Rows). r Receipts) it.is ∙ receipt_behind court n it.stored c reply it.changes rows)) (Contains-push (rows Receipts) (receipt_cells receipt))

pub repeat_has : (rows : Rows) (c : Command) (v : View) (d : Decision) → ShowsReceipt rows c v → IsKeptReply v d → RepeatsReceipt rows c d
repeat_has rows c v (Repeat reply) shows same = shows reply same
repeat_has rows c v (Changed changes) shows same = tt

-- an error has no value of which anything has to hold
pub err_ok : {T E : Type 0} (res : Result T E) (P : T → Type 0) (Q : E → Type 0) → IsErrAnd res Q → IfOk res P
err_ok (Ok x) P Q told = absurd told
err_ok (Err e) P Q told = tt

module _ {S : Type 0} (g : Ghosts S) (conn : Held S) (rows : Rows) where
  pub lasting : HoldsRows g conn rows → Lasts g conn rows
  lasting holds = (holds.0, λ clean. record { images = (holds.1 clean).images; settled = λ _. holds.1 clean })

  -- whatever the fault, where the rows are held
  pub held_at : (fault : Fault) → HoldsRows g conn rows → PreservesAt g conn rows fault
  held_at (Refused r) holds = holds
  held_at NoMemory holds = holds
  held_at StoreFailed holds = lasting holds
  held_at Closed holds = holds
  held_at Damaged holds = holds

  pub held_after : {X : Type 0} (res : Result X Fault) → HoldsRows g conn rows → Preserves g conn rows res
  held_after (Ok x) holds = holds
  held_after (Err fault) holds = held_at fault holds

  pub lasts_at : (fault : Fault) → PreservesAt g conn rows fault → Lasts g conn rows
  lasts_at (Refused r) holds = lasting holds
  lasts_at NoMemory holds = lasting holds
  lasts_at StoreFailed lasts = lasts
  lasts_at Closed holds = lasting holds
  lasts_at Damaged holds = lasting holds

  pub lasts_after : {X : Type 0} (res : Result X Fault) → Preserves g conn rows res → Lasts g conn rows
  lasts_after (Ok x) holds = lasting holds
  lasts_after (Err fault) left = lasts_at fault left

  -- what a fault of one question leaves, the fault of the whole leaves
  pub err_preserves : {X : Type 0} (fault : Fault) (res : Result X Fault) → IsErrAnd res (λ f. f ≡ fault) → PreservesAt g conn rows fault → Preserves g conn rows res
  err_preserves fault (Ok x) same left = absurd same
  err_preserves fault (Err f) same left = subst (PreservesAt g conn rows) (sym same) left

  -- a command

  module _ (court : CourtSettings) (n : ℕ) (c : Command) where
    pub unwritten_at : (fault : Fault) → PreservesAt g conn rows fault → WritesWhole g conn court n rows c (Err fault)
    unwritten_at (Refused r) holds = holds
    unwritten_at NoMemory holds = holds
    unwritten_at StoreFailed lasts = inl lasts
    unwritten_at Closed holds = holds
    unwritten_at Damaged holds = holds

    pub unwritten : (fault : Fault) (res : Result Reply Fault) → IsErrAnd res (λ f. f ≡ fault) → PreservesAt g conn rows fault → WritesWhole g conn court n rows c res
    unwritten fault (Ok x) same left = absurd same
    unwritten fault (Err f) same left = unwritten_at f (subst (PreservesAt g conn rows) (sym same) left)

    -- a write under way that failed
    pub written_or_not : (reply : Reply) (next : Rows) → IsNext court n rows c reply next → conn.in_transaction ≡ false → (fault : Fault) → FailsAs g conn rows next fault
        → WritesWhole g conn court n rows c (Err fault)
    written_or_not reply next is idle (Refused r) fails = absurd fails
    written_or_not reply next is idle NoMemory fails = fails
    written_or_not reply next is idle StoreFailed fails = inr (next, reply, is, fails)
    written_or_not reply next is idle Closed fails = absurd fails
    written_or_not reply next is idle Damaged fails = (idle, λ clean. absurd (fails clean))

    -- nothing is written, or one command
    pub one_at_most : (res : Result Reply Fault) → WritesWhole g conn court n rows c res → Lasts g conn rows ⊎ WritesOne g conn court n rows
    one_at_most (Ok reply) (inl it) = inl (lasting it.0)
    one_at_most (Ok reply) (inr it) = inr (record { command = c; reply = reply; next = it.0; is = it.1; left = inl it.2 })
    one_at_most (Err (Refused r)) holds = inl (lasting holds)
    one_at_most (Err NoMemory) holds = inl (lasting holds)
    one_at_most (Err StoreFailed) (inl lasts) = inl lasts
    one_at_most (Err StoreFailed) (inr it) = inr (record { command = c; reply = it.1; next = it.0; is = it.2; left = inr it.3 })
    one_at_most (Err Closed) holds = inl (lasting holds)
    one_at_most (Err Damaged) holds = inl (lasting holds)

    pub answered_one : (said : Result (Result Reply Refusal) Fault) → AnswersWhole g conn court n rows c said → Lasts g conn rows ⊎ WritesOne g conn court n rows
    answered_one (Ok (Ok reply)) it = one_at_most (Ok reply) it
    answered_one (Ok (Err r)) holds = inl (lasting holds)
    answered_one (Err fault) it = one_at_most (Err fault) it

-- if a command has a reply, its receipt stands
module _ {S : Type 0} (g : Ghosts S) (d : Docket S) where
  pub whole_recorded : (court : CourtSettings) (n : ℕ) (rows : Rows) (c : Command) (reply : Reply) → WritesWhole g d.conn court n rows c (Ok reply) → IsRecorded g d c reply
  whole_recorded court n rows c reply (inl it) = (rows, it.0, it.1)
  whole_recorded court n rows c reply (inr it) = (it.0, it.2, λ _. next_has court n rows c reply it.0 it.1)

-- an error that is passed on
pub err_match : {T E : Type 0} (res : Result T E) (P : T → Type 0) (Q : E → Type 0) (e : E) → IsErrAnd res (λ f. f ≡ e) → Q e → MatchResult res P Q
err_match (Ok x) P Q e same q = absurd same
err_match (Err f) P Q e same q = subst Q (sym same) q

pub err_if : {T E : Type 0} (res : Result T E) (Q : E → Type 0) (e : E) → IsErrAnd res (λ f. f ≡ e) → Q e → IfErr res Q
err_if (Ok x) Q e same q = absurd same
err_if (Err f) Q e same q = subst Q (sym same) q
