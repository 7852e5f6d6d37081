-- The value that a member of an object means, and the fault where it means none.
use Rattle.std.specs.Prelude.{◌≡◌, ◌^◌, ℕ, List, Option, Some, None, option_map, option_and_then, Result, Ok, Err, nat_lt, if◌then◌else◌}
use Rattle.serde_json.specs.Data.{unsigned, Data, null, boolean, number, string, array, object}
use Rattle.serde_json.specs.Find.{get, as_number, as_str, as_u64}
use Rattle.docket_command.specs.declared.field.Field.{Field}
use Rattle.docket_wire.specs.declared.fault.WireFault.{WireFault}
use Rattle.docket_wire.specs.declared.fault.WireFault.TheVariants.{NotJson, NotAnObject, UnknownCommand, MissingField, WrongField, UnknownField, NoMemory}
use Rattle.civil_time.specs.DayText.{day_text, day_of_text}
use Rattle.civil_time.specs.MomentText.{clock_text}
use Rattle.civil_time.specs.Reading.{time_of_day_at}
use Rattle.docket_command.specs.Moments.{utc_text, moment_named}
use Rattle.docket_command.specs.Fields.{field_name}

infixl 10 ◌>>=◌
abbrev pub ◌>>=◌ : {A B : Type 0} → Result A WireFault → (A → Result B WireFault) → Result B WireFault
(Ok x) >>= f = f x
(Err e) >>= f = Err e

-- The result is what reading returns, unless memory ran out.
abbrev pub Gives : {A : Type 0} → Result A WireFault → Result A WireFault → Type 0
Gives (Ok x) read = read ≡ Ok x
Gives (Err NoMemory) read = Unit {0}
Gives (Err NotJson) read = read ≡ Err NotJson
Gives (Err NotAnObject) read = read ≡ Err NotAnObject
Gives (Err UnknownCommand) read = read ≡ Err UnknownCommand
Gives (Err (MissingField f)) read = read ≡ Err (MissingField f)
Gives (Err (WrongField f)) read = read ≡ Err (WrongField f)
Gives (Err UnknownField) read = read ≡ Err UnknownField

abbrev pub not_null : Data → Option Data
not_null null = None
not_null (boolean b) = Some (boolean b)
not_null (number n) = Some (number n)
not_null (string s) = Some (string s)
not_null (array ds) = Some (array ds)
not_null (object ms) = Some (object ms)

-- the member, unless it is absent or null
abbrev pub present : Field → Data → Option Data
present f d = option_and_then not_null (get (field_name f) d)

abbrev pub or_fault : {A : Type 0} → WireFault → Option A → Result A WireFault
or_fault e None = Err e
or_fault e (Some x) = Ok x

-- a field that must be there
abbrev pub required : {A : Type 0} → (Data → Option A) → Field → Data → Result A WireFault
required meaning f d = or_fault (MissingField f) (present f d) >>= (λ v. or_fault (WrongField f) (meaning v))

-- a field that may be absent
abbrev pub optional_of : {A : Type 0} → (Data → Option A) → Field → Option Data → Result (Option A) WireFault
optional_of meaning f None = Ok None
optional_of meaning f (Some v) = or_fault (WrongField f) (option_map Some (meaning v))

abbrev pub optional : {A : Type 0} → (Data → Option A) → Field → Data → Result (Option A) WireFault
optional meaning f d = optional_of meaning f (present f d)

-- ---- what the value of a member means

abbrev pub below_2_32 : ℕ → Option ℕ
below_2_32 n = if nat_lt n (2 ^ 32) then Some n else None

abbrev pub a_number : Data → Option ℕ
a_number d = option_and_then below_2_32 (option_and_then as_u64 (as_number d))

abbrev pub a_day : Data → Option ℕ
a_day d = option_and_then day_of_text (as_str d)

abbrev pub a_moment : Data → Option ℕ
a_moment d = option_and_then moment_named (as_str d)

abbrev pub a_time : Data → Option ℕ
a_time d = option_and_then time_of_day_at (as_str d)

abbrev pub a_word : {A : Type 0} → (List ℕ → Option A) → Data → Option A
a_word named d = option_and_then named (as_str d)

-- ---- what is written for it

abbrev pub written_number : ℕ → Data
written_number n = number (unsigned n)

abbrev pub written_day : ℕ → Data
written_day n = string (day_text n)

abbrev pub written_moment : ℕ → Data
written_moment n = string (utc_text n)

abbrev pub written_time : ℕ → Data
written_time n = string (clock_text n)

abbrev pub written_word : {A : Type 0} → (A → List ℕ) → A → Data
written_word word x = string (word x)
