-- When the rows of receipts are sound.
use Rattle.std.specs.Prelude.{◌≡◌, ℕ, Bool, true, List, [], ◌∷◌, map, Option, Some, None}
use Rattle.std.specs.List.{AllByRecursion}
use Rattle.std.specs.Ordering.{is_lt, nat_cmp}
use Rattle.std.specs.Cmp.Lexicographic.{slice_cmp}
use Rattle.docket_command.specs.declared.command.Action.{Action}
use Rattle.docket_command.specs.declared.command.Action.TheVariants.{DeclareDay, CloseDay, CloseSpan, ShortDay, WithdrawCalendar, ImportCalendar, OpenCase, AddParty, FileEntry, ServeSummons, FileWaiver, ServePleading, OrderReply, RuleMotion, Dispose, StatementServed, NoticeHearing, OrderPeriod, EnterJudgment, Extend, Satisfy, Vacate, LocalRule, LocalPeriod}
use Rattle.docket_command.specs.declared.command.Command.{Command}
use Rattle.docket_values.specs.Values.{is_word}
use Rattle.docket_history.specs.declared.row.Receipt.{Receipt}
use Rattle.docket_wire.specs.Valid.{IsCommand}
use Rattle.docket_wire.specs.Writing.{canonical}
use Rattle.docket_sound.specs.declared.receipt.ReceiptRecord.{ReceiptRecord}
use Rattle.docket_sound.specs.declared.receipt.ReceiptCheck.{ReceiptCheck}

abbrev pub key_of : Receipt → List ℕ
key_of receipt = receipt.command.key

-- a receipt as it is kept: the key of the command, and its canonical text
abbrev pub receipt_row : Receipt → ReceiptRecord
receipt_row receipt = record { key = key_of receipt; body = canonical receipt.command }

-- whether the kind of command is known: some came later than version 1 of the tables
abbrev pub is_known_kind : (later : Bool) → Action → Bool
is_known_kind later (DeclareDay a) = true
is_known_kind later (CloseDay a) = true
is_known_kind later (CloseSpan a) = true
is_known_kind later (ShortDay a) = later
is_known_kind later (WithdrawCalendar a) = true
is_known_kind later (ImportCalendar a) = true
is_known_kind later (OpenCase a) = true
is_known_kind later (AddParty a) = true
is_known_kind later (FileEntry a) = true
is_known_kind later (ServeSummons a) = true
is_known_kind later (FileWaiver a) = true
is_known_kind later (ServePleading a) = true
is_known_kind later (OrderReply a) = true
is_known_kind later (RuleMotion a) = true
is_known_kind later (Dispose a) = true
is_known_kind later (StatementServed a) = true
is_known_kind later (NoticeHearing a) = true
is_known_kind later (OrderPeriod a) = true
is_known_kind later (EnterJudgment a) = true
is_known_kind later (Extend a) = true
is_known_kind later (Satisfy a) = true
is_known_kind later (Vacate a) = true
is_known_kind later (LocalRule a) = later
is_known_kind later (LocalPeriod a) = later

-- each command is of such a kind
abbrev pub AreOfKnownKinds : (later : Bool) → List Command → Type 0
AreOfKnownKinds later h = AllByRecursion (λ c. is_known_kind later c.action ≡ true) h

-- the body is the canonical text of a command of a known kind under the key
pub record IsBodyUnder (later : Bool) (key body : List ℕ) : Type 0 where
  pub command : Command
  pub lawful : IsCommand command
  pub known : is_known_kind later command.action ≡ true
  pub named : command.key ≡ key
  pub written : canonical command ≡ body

-- the key has 1 to 64 bytes that show; the command's values and the reply are not judged
pub record IsSoundReceipt (later : Bool) (r : ReceiptRecord) : Type 0 where
  pub key : is_word 64 r.key ≡ true
  pub body : IsBodyUnder later r.key r.body

-- the key comes after the one before it, byte by byte
abbrev pub follows_key : Option (List ℕ) → List ℕ → Bool
follows_key None key = true
follows_key (Some before) key = is_lt (slice_cmp nat_cmp before key)

-- no key repeats: each comes after the one before it
abbrev pub KeysAscend : Option (List ℕ) → List (List ℕ) → Type 0
KeysAscend before [] = Unit {0}
KeysAscend before (key ∷ more) = (follows_key before key ≡ true) × KeysAscend (Some key) more

-- the keys rise, and each receipt is sound
pub record AreSoundReceipts (later : Bool) (rows : List ReceiptRecord) : Type 0 where
  pub apart : KeysAscend None (map (λ row. row.key) rows)
  pub within : AllByRecursion (IsSoundReceipt later) rows

-- the last key
abbrev pub key_before : Option (List ℕ) → List (List ℕ) → Option (List ℕ)
key_before before [] = before
key_before before (key ∷ more) = key_before (Some key) more

-- these rows were taken
pub record HasTakenReceipts (check : ReceiptCheck) (rows : List ReceiptRecord) : Type 0 where
  pub last : check.last ≡ key_before None (map (λ row. row.key) rows)
  pub sound : AreSoundReceipts check.later rows
