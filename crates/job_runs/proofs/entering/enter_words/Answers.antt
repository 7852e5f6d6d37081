use Rattle.std.proofs.Common.{Bool, to_z, of_z, w64, refl, sym, subst}
use Rattle.sqlite_wal.specs.Files.{image_at}
use Rattle.entry_lines.specs.declared.entry.Entry.{Entry}
use Rattle.job_runs.specs.Jobs.{DoesEntry}
use Rattle.job_runs.proofs.entering.enter_words.Goals as goal

pub returns-then-shows-clause-does : goal.returns-then-shows-clause-does
returns-then-shows-clause-does g c =
    let entry : Entry = record { kind = c.args.kind; key = c.args.key; given = c.args.given; clock = to_z w64 (of_z w64 c.seconds_now.result) } in
    let before = g.W.Write.contents c.args.w.now in
    (entry, (refl, refl, refl), subst (λ (shows : Bool). DoesEntry shows (image_at g.S.Start) entry before before c.show.result) (sym c.if-shows.true) (c.show.ensures.told, refl))

pub returns-clause-does : goal.returns-clause-does
returns-clause-does g c =
    let entry : Entry = record { kind = c.args.kind; key = c.args.key; given = c.args.given; clock = to_z w64 (of_z w64 c.seconds_now.result) } in
    let before = g.W.Write.contents c.args.w.now in
    let after = g.W.Write.contents c.enter.new.w in (
      entry,
      (refl, refl, refl),
      subst (λ (shows : Bool). DoesEntry shows (image_at g.S.Start) entry before after c.enter.result) (sym c.if-shows.false)
          (c.enter.ensures.unopened, c.enter.ensures.enters, c.enter.ensures.untold),
    )
