-- Rows of numbers and texts.
use Rattle.std.specs.Prelude.{Bool, true, false}
use Rattle.std.specs.List.{list_all}
use Rattle.sqlite_value.specs.declared.value.Value.{Value}
use Rattle.sqlite_value.specs.declared.value.Value.TheVariants.{Int, Text}
use Rattle.sqlite_value.specs.Order.{Row}

abbrev pub is_plain : Value → Bool
is_plain (Int n) = true
is_plain (Text t) = true
is_plain _ = false

abbrev pub are_plain : Row → Bool
are_plain = list_all is_plain
