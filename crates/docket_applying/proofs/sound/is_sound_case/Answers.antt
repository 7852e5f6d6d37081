use Rattle.std.proofs.Common.{◌∙◌, sym}
use Rattle.docket_applying.proofs.SoundLemmas.{case_told, case_passed}
use Rattle.docket_applying.proofs.sound.is_sound_case.Goals as goal

pub returns : goal.returns
returns c =
    let court = c.args.court.now in
    let ds = c.args.deadlines.now in (
      λ e. case_told court ds c.if-deadlines-gt-MOST_DEADLINES.false (sym c.are_lawful.ensures ∙ e),
      λ is. c.are_lawful.ensures ∙ case_passed court ds is,
    )
