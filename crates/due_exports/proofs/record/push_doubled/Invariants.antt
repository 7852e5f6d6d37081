use Rattle.std.proofs.Common.{◌≡◌, ◌++◌, string_bytes}
use Rattle.std.specs.Str.Iter.{chars_rest}
use Rattle.csv.specs.Writing.{escaped}
use Rattle.due_exports.specs.Records.{record_writer}
use Rattle.due_exports.proofs.record.push_doubled.Given as goal

abbrev pub invariant-loop-character : goal.invariant-loop-character
invariant-loop-character l =
    string_bytes l.text ++ escaped record_writer (chars_rest l.character-iterator) ≡ string_bytes l.fn.text ++ escaped record_writer l.field
