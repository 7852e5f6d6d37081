use Rattle.docket_text.specs.CaseTexts.{party_line}
use Rattle.docket_text.proofs.LoopLemmas.{row-added, rows-added}
use Rattle.docket_text.proofs.case.push_parties.Goals as goal

pub loop-party-preserved : goal.loop-party-preserved
loop-party-preserved c =
    row-added party_line c.args.parties.now c.loop-party.party-index c.party-item.result _ _ _
    c.loop-party.invariant c.loop-party-test.true c.party-item.is (rw (c.word-role.ensures, c.as_str-name.ensures) at c.in_ok-writeln.ensures.bytes)

pub returns : goal.returns
returns c = rows-added party_line c.args.parties.now c.loop-party.party-index _ _ c.loop-party.invariant c.loop-party-test.false
