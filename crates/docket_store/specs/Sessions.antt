-- A session: commands in order, on the docket that a database holds.
use Rattle.std.specs.Prelude.{◌≡◌, ◌<◌, ◌≤◌, ◌+◌, ℕ, List, length, take, Option, Some, None, Result}
use Rattle.sqlite.specs.Store.{Ghosts}
use Rattle.sqlite.specs.State.{HasCleanDisk}
use Rattle.sqlite.specs.Held.{Held, state}
use Rattle.court_days.specs.Court.{CourtSettings}
use Rattle.docket_command.specs.declared.command.Command.{Command}
use Rattle.docket_command.specs.declared.refusal.Refusal.{Refusal}
use Rattle.docket_command.specs.declared.refusal.Reply.{Reply}
use Rattle.docket_history.specs.Histories.{History}
use Rattle.docket_decisions.specs.Outcomes.{run, answers}
use Rattle.docket_tables.specs.Stands.{LastsAsEither}
use Rattle.docket_applying.specs.Applying.{IsDocket, StandsFor, docket_rows}
use Rattle.docket_store.specs.Sequence.{AreReplies}
use Rattle.docket_applying.specs.declared.fault.Fault.{Fault}
use Rattle.docket_applying.specs.declared.fault.Fault.TheVariants.{NoMemory, StoreFailed}

-- the first commands were answered, in order: the replies are the first of the answers
abbrev pub AnswersFirst : CourtSettings → History → List Command → List (Result Reply Refusal) → Type 0
AnswersFirst court h cs replies =
    (length replies ≤ length cs) × AreReplies replies (take (length replies) (answers court h cs))

module _ {S : Type 0} (g : Ghosts S) (conn : Held S) (court : CourtSettings) where
  -- the connection holds the docket of a history
  abbrev pub HoldsDocket : History → Type 0
  HoldsDocket h = IsDocket court h × StandsFor g conn court h

  -- what a command without an answer leaves, after n that were answered: out of memory leaves the docket of those. If the database
  -- failed, a power failure leaves it without the command or with it. No other fault comes
  abbrev pub LeftAt : History → List Command → ℕ → Fault → Type 0
  LeftAt h cs n NoMemory = HoldsDocket (run court h (take n cs))
  LeftAt h cs n StoreFailed =
      IsDocket court (run court h (take n cs))
      × LastsAsEither g conn (docket_rows court (run court h (take n cs))) (docket_rows court (run court h (take (n + 1) cs)))
  LeftAt h cs n _ = ⊥

  -- what a session leaves after n answers: the docket that all its commands lead to, or what the next command left, whose place is
  -- returned
  abbrev pub LeftBy : History → List Command → ℕ → Option (ℕ × Fault) → Type 0
  LeftBy h cs n None = (n ≡ length cs) × HoldsDocket (run court h cs)
  LeftBy h cs n (Some at) = (at.0 ≡ n) × (n < length cs) × LeftAt h cs n at.1

  -- a session ended: its first commands were answered in order, and the connection holds what they led to
  abbrev pub EndsSession : History → List Command → List (Result Reply Refusal) → Option (ℕ × Fault) → Type 0
  EndsSession h cs replies end =
      HasCleanDisk (state g conn) → AnswersFirst court h cs replies × LeftBy h cs (length replies) end
