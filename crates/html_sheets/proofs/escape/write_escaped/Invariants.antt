use Rattle.std.proofs.Common.{◌≡◌, ◌-◌, ◌≤◌, List, ℕ, ◌++◌, take, drop}
use Rattle.std.specs.Fmt.{HasWritten, IsPlainFormatter}
use Rattle.std.specs.Str.{IsCharBoundary}
use Rattle.std.specs.List.{flat_map}
use Rattle.html_sheets.specs.Escapes.{written_byte}
use Rattle.html_sheets.proofs.escape.write_escaped.Given as goal

abbrev pub invariant-bytes : goal.invariant-bytes
invariant-bytes g l =
    (l.start ≤ l.at) × IsCharBoundary l.fn.text l.start × (done : List ℕ)
    × (done ++ (take (l.at - l.start) (drop l.start l.fn.text) ++ flat_map (written_byte l.lines) (drop l.at l.fn.text)) ≡ flat_map (written_byte l.lines) l.fn.text)
    × (IsPlainFormatter l.initial.f → HasWritten g.W.Write.write_str_gives l.initial.f done l.f)
