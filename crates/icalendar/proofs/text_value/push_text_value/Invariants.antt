use Rattle.std.proofs.Common.{◌≡◌, ◌++◌, string_bytes}
use Rattle.std.specs.Str.Iter.{chars_rest}
use Rattle.icalendar.specs.Texts.{text_value}
use Rattle.icalendar.proofs.Values.{value_behind}
use Rattle.icalendar.proofs.text_value.push_text_value.Given as goal

abbrev pub invariant-loop-character : goal.invariant-loop-character
invariant-loop-character l =
    string_bytes l.text ++ value_behind l.returned (chars_rest l.character-iterator) ≡ string_bytes l.fn.text ++ text_value l.value
