use Rattle.std.proofs.Common.{sym}
use Rattle.civil_time.proofs.ZoneGrammarSound.{zone_sound}
use Rattle.court_days.proofs.CourtLemmas.{zone_of-spelled}
use Rattle.court_days.proofs.court.Court.read.Goals as goal

pub returns-clause-zone : goal.returns-clause-zone
returns-clause-zone c =
    let spelled = rw c.as_bytes.ensures.value at c.in-Some.ensures.value in
    zone_of-spelled c.args.zone.now _ _ c.in-Some.read (sym spelled) c.in_ok-zone_text.ensures.ok

pub returns-clause-zone_grammar : goal.returns-clause-zone_grammar
returns-clause-zone_grammar c = zone_sound c.args.zone.now _ (returns-clause-zone c)
