use Rattle.std.proofs.Common.{◌∙◌, sym}
use Rattle.docket_applying.proofs.SoundLemmas.{items_told, items_passed}
use Rattle.docket_applying.proofs.sound.is_sound_calendar.Goals as goal

pub returns : goal.returns
returns c =
    let items = c.args.items.now in (
      λ e. (items_told items (sym c.are_entered_items.ensures ∙ e), c.if-items-gt-MOST_ROWS.false),
      λ is. c.are_entered_items.ensures ∙ items_passed items is.0,
    )
