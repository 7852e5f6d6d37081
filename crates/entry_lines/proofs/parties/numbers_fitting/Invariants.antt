use Rattle.std.proofs.Common.{◌≡◌, ◌++◌, drop}
use Rattle.entry_lines.specs.Names.{numbers_fitting}
use Rattle.entry_lines.proofs.parties.numbers_fitting.Given as goal

-- those before this one are found
abbrev pub invariant-loop-party : goal.invariant-loop-party
invariant-loop-party l = l.numbers.items ++ numbers_fitting l.fit l.words (drop l.party-index l.parties) ≡ numbers_fitting l.fit l.words l.parties
