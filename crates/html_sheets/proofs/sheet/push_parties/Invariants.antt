use Rattle.std.proofs.Common.{◌≡◌, ◌++◌, drop, string_bytes}
use Rattle.std.specs.List.{flat_map}
use Rattle.html_sheets.specs.Sheets.{party_row}
use Rattle.html_sheets.proofs.sheet.push_parties.Given as goal

abbrev pub invariant-loop-party : goal.invariant-loop-party
invariant-loop-party l = string_bytes l.text ++ flat_map (party_row l.links l.case) (drop l.party-index l.parties) ≡ string_bytes l.initial.text ++ flat_map (party_row l.links l.case) l.parties
