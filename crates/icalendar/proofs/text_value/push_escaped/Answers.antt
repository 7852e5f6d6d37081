use Rattle.std.proofs.Common.{arith}
use Rattle.std.proofs.lemmas.Grind.{common_steps}
use Rattle.icalendar.proofs.Values.{Stands, char_stands}
use Rattle.icalendar.proofs.text_value.push_escaped.Goals as goal

pub returns-in_default : goal.returns-in_default
returns-in_default c =
    let stands : Stands c.args.character = record { no_control = omega arith; no_delete = λ e. omega arith; no_backslash = λ e. omega arith; no_semicolon = λ e. omega arith; no_comma = λ e. omega arith } in
    let same = char_stands c.args.character stands in
    rw same (grind (arith, common_steps))
