use Rattle.std.proofs.Common.{Bool, refl, subst, sym}
use Rattle.sqlite_wal.specs.Files.{image_at}
use Rattle.job_runs.specs.Jobs.{DoesCalendar}
use Rattle.job_runs.proofs.AskLemmas.{whole_told}
use Rattle.job_runs.proofs.calendar.tell_days.Goals as goal

pub returns-then-long-clause-does : goal.returns-then-long-clause-does
returns-then-long-clause-does g c =
    let output = g.W.Write.contents c.args.w.now in
    let told = c.tell_text.ensures.told in
    subst (λ (long : Bool). DoesCalendar long (image_at g.S.Start) c.args.from c.args.to output output c.tell_text.result) (sym c.if-long.true)
    ((λ docket is files. whole_told c.tell_text.result docket _ (told docket is files)), refl)

pub returns-clause-does : goal.returns-clause-does
returns-clause-does g c =
    let before = g.W.Write.contents c.args.w.now in
    let after = g.W.Write.contents c.tell_calendar.new.w in
    subst (λ (long : Bool). DoesCalendar long (image_at g.S.Start) c.args.from c.args.to before after c.tell_calendar.result) (sym c.if-long.false)
    (c.tell_calendar.ensures.unopened, c.tell_calendar.ensures.told)
