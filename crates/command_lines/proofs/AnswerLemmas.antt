-- The reply to a command determines the answer to its line; and what a fault leaves.
use Rattle.std.proofs.Common.{◌≡◌, ◌⊎◌, inl, inr, Result, Ok, Err, is_err, sym, ap, subst}
use Rattle.sqlite.specs.Store.{Ghosts}
use Rattle.sqlite.specs.Held.{state}
use Rattle.sqlite.specs.State.{HasCleanDisk}
use Rattle.docket_command.specs.declared.command.Command.{Command}
use Rattle.docket_command.specs.declared.refusal.Refusal.{Refusal}
use Rattle.docket_command.specs.declared.refusal.Reply.{Reply}
use Rattle.docket_decisions.specs.Outcomes.{Answer, accepted, after, after_answer, outcome, refused, repeated}
use Rattle.docket_tables.specs.Stands.{LastsAsEither}
use Rattle.docket_applying.specs.AnyRows.{WritesAtMostOne}
use Rattle.docket_applying.specs.Applying.{Applies, Faults, Stands, docket_rows}
use Rattle.docket_applying.proofs.AnyLemmas.{lasting}
use Rattle.docket_applying.specs.Dockets.{Docket as Stored}
use Rattle.docket_applying.specs.declared.fault.Fault.{Fault}
use Rattle.docket_applying.specs.declared.fault.Fault.TheVariants.{Refused, NoMemory, StoreFailed, Closed, Damaged}
use Rattle.docket_wire.specs.Texts.{reply_text}
use Rattle.docket_applying.specs.CourtDockets.{StandsAs}
use Rattle.command_lines.specs.Ending.{FailsAt}
use Rattle.docket_applying.specs.CourtDockets.{CourtDocket as Docket}
use Rattle.command_lines.specs.Lines.{answer_text, docket_with, is_refused, IsSaid}

-- its text, and whether it is a refusal
pub said_is : (said : Result Reply Refusal) (answer : Answer) → IsSaid said answer → (reply_text said ≡ answer_text answer) × (is_err said ≡ is_refused answer)
said_is (Ok reply) answer (inl repeats) = (sym (ap answer_text repeats), sym (ap is_refused repeats))
said_is (Ok reply) answer (inr accepts) = (sym (ap answer_text accepts), sym (ap is_refused accepts))
said_is (Err refusal) answer refuses = (sym (ap answer_text refuses), sym (ap is_refused refuses))

abbrev pub IsNoRefusal : Fault → Type 0
IsNoRefusal (Refused r) = ⊥
IsNoRefusal _ = Unit {0}

-- a command that got neither a reply nor a refusal
pub left_by : {S : Type 0} (g : Ghosts S) (new : Stored S) (docket : Docket) (c : Command) → new.court ≡ docket.court → HasCleanDisk (state g new.conn) → (fault : Fault) → IsNoRefusal fault
    → Faults g new docket.history c fault → FailsAt g new fault docket (docket_with docket c)
left_by g new docket c same clean (Refused r) plain faults = absurd plain
left_by g new docket c same clean NoMemory plain faults = inl (record { court = same; stands = faults })
left_by g new docket c same clean StoreFailed plain faults =
    subst (λ court. LastsAsEither g new.conn (docket_rows court docket.history) (docket_rows court (after court docket.history c))) same faults
left_by g new docket c same clean Closed plain faults = absurd faults
left_by g new docket c same clean Damaged plain faults = absurd (faults clean)

-- the answer that a reply is, and the docket that it leaves
pub says : {S : Type 0} (g : Ghosts S) (new : Stored S) (docket : Docket) (c : Command) → new.court ≡ docket.court → HasCleanDisk (state g new.conn) → (reply : Reply) → Applies g new docket.history c (Ok reply)
    → IsSaid (Ok reply) (outcome docket.court docket.history c) × StandsAs g new (docket_with docket c)
says g new docket c same clean reply it = (
  elim (subst (λ court. (outcome court docket.history c ≡ accepted reply) ⊎ (outcome court docket.history c ≡ repeated reply)) same (it.1 clean)) [ inl accepts ↦ inr accepts | inr repeats ↦ inl repeats ],
  record { court = same; stands = subst (λ court. Stands g new (after court docket.history c)) same it.0 },
)

-- and a refusal, which leaves the docket as it was
pub refuses : {S : Type 0} (g : Ghosts S) (new : Stored S) (docket : Docket) (c : Command) → new.court ≡ docket.court → HasCleanDisk (state g new.conn) → (refusal : Refusal) → Faults g new docket.history c (Refused refusal)
    → IsSaid (Err refusal) (outcome docket.court docket.history c) × StandsAs g new (docket_with docket c)
refuses g new docket c same clean refusal it =
    let is = subst (λ court. outcome court docket.history c ≡ refused refusal) same (it.1 clean) in
    (is, record { court = same; stands = subst (Stands g new) (sym (ap (λ a. after_answer a docket.history c) is)) it.0 })

-- a line that spells no command writes nothing
pub nothing_written : {S : Type 0} (g : Ghosts S) (d : Stored S) → WritesAtMostOne g d d
nothing_written g d rows n stored are small holds = inl (lasting g d.conn rows holds)
