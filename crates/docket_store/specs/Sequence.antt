-- Commands in order.
use Rattle.std.specs.Prelude.{◌≡◌, ◌⊎◌, ◌+◌, ℕ, List, [], ◌∷◌, take, Result, Ok, Err}
use Rattle.sqlite.specs.Store.{Ghosts}
use Rattle.sqlite.specs.State.{HasCleanDisk}
use Rattle.sqlite.specs.Held.{state}
use Rattle.docket_command.specs.declared.command.Command.{Command}
use Rattle.docket_command.specs.declared.refusal.Refusal.{Refusal}
use Rattle.docket_command.specs.declared.refusal.Reply.{Reply}
use Rattle.docket_history.specs.Histories.{History}
use Rattle.docket_decisions.specs.Outcomes.{Answer, repeated, refused, accepted, outcome, after, run, answers}
use Rattle.docket_tables.specs.Stands.{LastsAsEither}
use Rattle.docket_applying.specs.Applying.{Stands, docket_rows}
use Rattle.docket_applying.specs.Dockets.{Docket}
use Rattle.docket_applying.specs.declared.fault.Fault.{Fault}
use Rattle.docket_applying.specs.declared.fault.Fault.TheVariants.{NoMemory, StoreFailed, Damaged}

-- the reply or the refusal is this answer
abbrev pub IsSaid : Result Reply Refusal → Answer → Type 0
IsSaid (Ok reply) answer = (answer ≡ accepted reply) ⊎ (answer ≡ repeated reply)
IsSaid (Err r) answer = answer ≡ refused r

-- the replies are these answers, in order
abbrev pub AreReplies : List (Result Reply Refusal) → List Answer → Type 0
AreReplies [] [] = Unit {0}
AreReplies (r ∷ rs) (a ∷ others) = IsSaid r a × AreReplies rs others
AreReplies _ _ = ⊥

-- a command was answered, and the docket is the one after it
abbrev pub Answers : {S : Type 0} → Ghosts S → Docket S → History → Command → Result Reply Refusal → Type 0
Answers g d h c said =
    HasCleanDisk (state g d.conn) → Stands g d (after d.court h c) × IsSaid said (outcome d.court h c)

-- commands in order were answered, and the docket is the one that they leave
abbrev pub AnswersAll : {S : Type 0} → Ghosts S → Docket S → History → List Command → List (Result Reply Refusal) → Type 0
AnswersAll g d h cs replies =
    HasCleanDisk (state g d.conn) → Stands g d (run d.court h cs) × AreReplies replies (answers d.court h cs)

-- a command got neither a reply nor a refusal: out of memory leaves the docket as it was. If the database failed, a power failure
-- leaves it without the command or with it
abbrev pub Halts : {S : Type 0} → Ghosts S → Docket S → History → Command → Fault → Type 0
Halts g d h c NoMemory = Stands g d h
Halts g d h c StoreFailed = LastsAsEither g d.conn (docket_rows d.court h) (docket_rows d.court (after d.court h c))
Halts g d h c Damaged = HasCleanDisk (state g d.conn) → ⊥
Halts g d h c _ = ⊥

-- commands in order broke off after the first n
abbrev pub HaltsAfter : {S : Type 0} → Ghosts S → Docket S → History → List Command → ℕ → Fault → Type 0
HaltsAfter g d h cs n NoMemory = Stands g d (run d.court h (take n cs))
HaltsAfter g d h cs n StoreFailed =
    LastsAsEither g d.conn (docket_rows d.court (run d.court h (take n cs))) (docket_rows d.court (run d.court h (take (n + 1) cs)))
HaltsAfter g d h cs n _ = ⊥

-- commands in order broke off
abbrev pub BreaksOff : {S : Type 0} → Ghosts S → Docket S → History → List Command → Fault → Type 0
BreaksOff g d h cs fault = HasCleanDisk (state g d.conn) → (n : ℕ) × HaltsAfter g d h cs n fault
