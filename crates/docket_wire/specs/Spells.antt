-- When a text spells a command: it is an object; its `do` names the kind and its `key` is the key; each field of the kind's row in
-- Schema.antt has its value, or is absent or null where it may be; and there is no other member.
use Rattle.std.specs.Prelude.{◌≡◌, ℕ, List, [], ◌∷◌, true, Option, Some, None}
use Rattle.serde_json.specs.Data.{Data, Members}
use Rattle.serde_json.specs.Find.{as_str, as_object}
use Rattle.docket_command.specs.declared.field.Field.{Field}
use Rattle.docket_command.specs.declared.field.Field.TheVariants as field
use Rattle.docket_command.specs.declared.command.Command.{Command}
use Rattle.docket_command.specs.declared.command.Action.{Action}
use Rattle.docket_command.specs.Names.{name_of}
use Rattle.docket_command.specs.Schema.{FieldSpec, must, may, ValueIn, Values, fields_of, values_of}
use Rattle.docket_wire.specs.Tables.{known_fields}
use Rattle.docket_wire.specs.Members.{present}
use Rattle.docket_wire.specs.Reading.{json_of, only_known, name_of_object, meaning_of}

-- the member is there, and means this value
abbrev pub Says : {A : Type 0} → (Data → Option A) → Field → Data → A → Type 0
Says meaning f d x = (v : Data) × (present f d ≡ Some v) × (meaning v ≡ Some x)

-- the member is absent or null, or means this value
abbrev pub MaySay : {A : Type 0} → (Data → Option A) → Field → Data → Option A → Type 0
MaySay meaning f d None = present f d ≡ None
MaySay meaning f d (Some x) = Says meaning f d x

-- each member is there as its field requires, and means the field's value
abbrev pub SaysField : Data → (s : FieldSpec) → ValueIn s → Type 0
SaysField d (must f t) x = Says (meaning_of t) f d x
SaysField d (may f t) x = MaySay (meaning_of t) f d x

abbrev pub SaysFields : Data → (ss : List FieldSpec) → Values ss → Type 0
SaysFields d [] x = Unit {0}
SaysFields d (s ∷ ss) x = SaysField d s x.0 × SaysFields d ss x.1

-- the fields of the action's kind are there, and mean the values of the action
abbrev pub HasFields : Data → Action → Type 0
HasFields d a = SaysFields d (fields_of (name_of a)) (values_of a)

-- ---- the whole

-- the members of an object are those of the command, and no other
pub record IsCommandObject (d : Data) (c : Command) : Type 0 where
  pub members : Members
  pub is_object : as_object d ≡ Some members
  pub is_named : name_of_object d ≡ Some (name_of c.action)
  pub has_key : Says as_str field.Key d c.key
  pub has_fields : HasFields d c.action
  pub has_no_other : only_known (known_fields (name_of c.action)) d ≡ true

-- the text is the JSON of such an object
abbrev pub Spells : List ℕ → Command → Type 0
Spells bytes c = (d : Data) × (json_of bytes ≡ Some d) × IsCommandObject d c
