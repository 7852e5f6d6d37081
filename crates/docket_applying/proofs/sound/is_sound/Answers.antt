use Rattle.std.proofs.Common.{◌∙◌, sym}
use Rattle.docket_applying.proofs.SoundLemmas.{acts_lawful, sound_told, lawful_passed, room_passed, rule_passed}
use Rattle.docket_applying.proofs.sound.is_sound.Goals as goal

pub has_room-requires : goal.has_room-requires
has_room-requires c = acts_lawful c.args.court.now c.args.view.now (sym c.is_lawful.ensures ∙ c.if-not-is_lawful.false)

pub returns-then-not-is_lawful : goal.returns-then-not-is_lawful
returns-then-not-is_lawful c = (
  λ e. absurd (let no = e in cc),
  λ is. absurd (let no = c.if-not-is_lawful.true in let yes = c.is_lawful.ensures ∙ lawful_passed c.args.court.now c.args.view.now is in cc),
)

pub returns-then-not-has_room : goal.returns-then-not-has_room
returns-then-not-has_room c = (
  λ e. absurd (let no = e in cc),
  λ is. absurd (let no = c.if-not-has_room.true in let yes = c.has_room.ensures ∙ room_passed c.args.court.now c.args.view.now is.room in cc),
)

pub returns : goal.returns
returns c =
    let v = c.args.view.now in (
      λ e. sound_told c.args.court.now v c.as_slice-items.ensures.entered c.as_slice-items.ensures.rows c.if-view-gt-LAST_ROW.false (sym c.is_lawful.ensures ∙ c.if-not-is_lawful.false)
          (sym c.has_room.ensures ∙ c.if-not-has_room.false) (sym c.is_lawful_rule.ensures ∙ e),
      λ is. c.is_lawful_rule.ensures ∙ rule_passed v.local is.local,
    )
