-- A docket in vectors, as a history of commands.
use Rattle.std.specs.Prelude.{◌≡◌, List, [], ◌∷◌, map, reverse, Result, Ok, Err, ◌⊎◌}
use Rattle.court_days.specs.Court.{CourtSettings}
use Rattle.docket_command.specs.declared.command.Command.{Command}
use Rattle.docket_command.specs.declared.refusal.Reply.{Reply}
use Rattle.docket_history.specs.Histories.{History}
use Rattle.docket_decisions.specs.Outcomes.{Answer, repeated, refused, accepted, after, IsHistory}
use Rattle.docket_decisions.specs.Tables.{rows_of}
use Rattle.docket_decisions.specs.declared.decision.DecideFault.{DecideFault}
use Rattle.docket_decisions.specs.declared.decision.DecideFault.TheVariants.{Refused, NoMemory}
use Rattle.docket_history.specs.declared.row.Receipt.{Receipt}
use Rattle.docket_plain.specs.Vectors.{lists_of}
use Rattle.docket_plain.specs.declared.vectors.Vectors.{Vectors}

-- a docket: its court and its history
pub record Docket : Type 0 where
  pub court : CourtSettings
  pub history : History

-- the commands of receipts, the newest first
abbrev pub history_of : List Receipt → History
history_of rs = reverse (map (λ r. r.command) rs)

-- the vectors are the tables of the history in their receipts
pub record IsDocket (court : CourtSettings) (v : Vectors) : Type 0 where
  pub same : lists_of v ≡ rows_of court (history_of v.receipts.items)
  pub accepted : IsHistory court (history_of v.receipts.items)

-- the reply is this answer, unless memory ran out
abbrev pub IsReply : Result Reply DecideFault → Answer → Type 0
IsReply (Ok reply) answer = (answer ≡ repeated reply) ⊎ (answer ≡ accepted reply)
IsReply (Err (Refused r)) answer = answer ≡ refused r
IsReply (Err NoMemory) answer = Unit {0}

-- the history after a reply: running out of memory leaves it as it was
abbrev pub history_after : Result Reply DecideFault → CourtSettings → History → Command → History
history_after (Err NoMemory) court h c = h
history_after _ court h c = after court h c

abbrev pub docket_after : Result Reply DecideFault → Docket → Command → Docket
docket_after reply docket c =
    record { court = docket.court; history = history_after reply docket.court docket.history c }

-- the reply is this answer, and memory did not run out
abbrev pub IsSaid : Result Reply DecideFault → Answer → Type 0
IsSaid (Err NoMemory) answer = ⊥
IsSaid reply answer = IsReply reply answer

-- the replies are these answers, in order
abbrev pub AreReplies : List (Result Reply DecideFault) → List Answer → Type 0
AreReplies [] [] = Unit {0}
AreReplies (r ∷ rs) (a ∷ others) = IsSaid r a × AreReplies rs others
AreReplies _ _ = ⊥
