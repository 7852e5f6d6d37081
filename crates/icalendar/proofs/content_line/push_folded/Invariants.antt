use Rattle.std.proofs.Common.{◌≡◌, ◌≤◌, ◌++◌, string_bytes}
use Rattle.std.specs.Str.Iter.{chars_rest}
use Rattle.icalendar.specs.ContentLines.{folded_from}
use Rattle.icalendar.proofs.content_line.push_folded.Given as goal

abbrev pub invariant-loop-character : goal.invariant-loop-character
invariant-loop-character l = record {
  limit : l.at ≤ 75;
  told : string_bytes l.text ++ folded_from l.at (chars_rest l.character-iterator) ≡ string_bytes l.fn.text ++ folded_from 0 l.line;
}
