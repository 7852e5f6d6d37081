-- The pairs of a form, and the JSON object that they spell: each is a member, and of a name that comes twice the last pair counts.
use Rattle.std.specs.Prelude.{ℕ, List, [], ◌∷◌, map, string_bytes, Result}
use Rattle.std.specs.Str.Lossy.{utf8_lossy}
use Rattle.form_urlencoded.specs.Form.{decode, raw_pairs}
use Rattle.serde_json.specs.Data.{Data, object, Members, no_members, put}
use Rattle.serde_json.specs.Written.{compact_text}
use Rattle.docket_command.specs.declared.command.Command.{Command}
use Rattle.docket_wire.specs.Reading.{command_of}
use Rattle.docket_wire.specs.declared.fault.WireFault.{WireFault}
use Rattle.command_forms.specs.declared.pair.Pair.{Pair}
use Rattle.command_forms.specs.Values.{data_of}

-- the text of a name or a value (URL Standard, section 5.1): what is no UTF-8 in it is read as U+FFFD
abbrev pub text_of : List ℕ → List ℕ
text_of bytes = utf8_lossy (decode bytes)

-- the pairs that the bytes of a form write, in their order
abbrev pub pairs_in : List ℕ → List (List ℕ × List ℕ)
pairs_in form = map (λ pair. (text_of pair.0, text_of pair.1)) (raw_pairs form)

-- the texts of pairs that were read
abbrev pub texts_of : List Pair → List (List ℕ × List ℕ)
texts_of pairs = map (λ pair. (string_bytes pair.name, string_bytes pair.text)) pairs

-- the members with one more pair
abbrev pub with_pair : List ℕ × List ℕ → Members → Members
with_pair pair members = put pair.0 (data_of pair.0 pair.1) members

-- the members with these pairs
abbrev pub with_pairs : List (List ℕ × List ℕ) → Members → Members
with_pairs [] members = members
with_pairs (pair ∷ pairs) members = with_pairs pairs (with_pair pair members)

-- the object that pairs spell
abbrev pub object_of : List (List ℕ × List ℕ) → Data
object_of pairs = object (with_pairs pairs no_members)

-- its text, compact
abbrev pub line_of : List (List ℕ × List ℕ) → List ℕ
line_of pairs = compact_text (object_of pairs)

-- the command that pairs spell, or the fault of their object
abbrev pub command_of_pairs : List (List ℕ × List ℕ) → Result Command WireFault
command_of_pairs pairs = command_of (object_of pairs)

-- the command that the bytes of a form spell
abbrev pub command_in_form : List ℕ → Result Command WireFault
command_in_form form = command_of_pairs (pairs_in form)
