-- The JSON value that the text of a member stands for.
use Rattle.std.specs.Prelude.{ℕ, List, [], ◌∷◌, length, Bool, true, false, ◌&&◌, Option, Some, None, if◌then◌else◌, nat_lt, nat_le, bytes_eq, codes}
use Rattle.std.specs.Char.{is_ascii_digit}
use Rattle.std.specs.List.{list_all}
use Rattle.std.specs.Option.{option_map_or}
use Rattle.std.specs.Str.Parse.{digits_value}
use Rattle.serde_json.specs.Data.{Data, null, boolean, number, string, unsigned}
use Rattle.command_forms.specs.declared.shape.Shape.{Shape}
use Rattle.command_forms.specs.declared.shape.Shape.TheVariants.{Number, Flag, Text}
use Rattle.command_forms.specs.Shapes.{shape_named}

-- 1 to 10 digits
abbrev pub are_digits : List ℕ → Bool
are_digits text = nat_lt 0 (length text) && nat_le (length text) 10 && list_all is_ascii_digit text

-- the number that 1 to 10 digits write
abbrev pub number_of : List ℕ → Option ℕ
number_of text = if are_digits text then Some (digits_value 10 text) else None

abbrev pub number_data : List ℕ → Data
number_data text = option_map_or (λ n. number (unsigned n)) (number_of text) (string text)

abbrev pub flag_data : List ℕ → Data
flag_data text = if bytes_eq text (codes "true") then boolean true else if bytes_eq text (codes "false") then boolean false else string text

-- a text that is no number, or neither true nor false, stays one, and means nothing for such a field
abbrev pub data_as : Shape → List ℕ → Data
data_as Number text = number_data text
data_as Flag text = flag_data text
data_as Text text = string text

-- the value of a member; an empty text is null, so that the field counts as absent
abbrev pub data_of : List ℕ → List ℕ → Data
data_of name [] = null
data_of name (byte ∷ text) = data_as (shape_named name) (byte ∷ text)
