use Rattle.std.proofs.Common.{subst}
use Rattle.court_days.specs.Court.{CourtSettings}
use Rattle.file_questions.specs.Tells.{ListsTo}
use Rattle.file_questions.proofs.TellLemmas.{kept_calendar, listed}
use Rattle.file_questions.proofs.calendar.CalendarLinesInquiry.ask.Goals as goal

pub returns-clause-told : goal.returns-clause-told
returns-clause-told g c h stands held clean =
    let asked_of = c.calendar in
    subst (λ (court : CourtSettings). ListsTo court h c.args.self.now.from c.args.self.now.to (g.W.Write.contents c.args.out.now) (g.W.Write.contents asked_of.new.writer) asked_of.result) asked_of.ensures.court
    (listed g.S.Store asked_of.new.self h c.args.self.now.from c.args.self.now.to _ _ asked_of.result (asked_of.ensures.answer h stands) clean)

pub returns-clause-stays : goal.returns-clause-stays
returns-clause-stays g c rows holds = kept_calendar g.S.Store c.calendar.new.self.conn rows c.calendar.result (c.calendar.ensures.stays rows holds)

pub returns-clause-clean : goal.returns-clause-clean
returns-clause-clean g c = c.calendar.ensures.clean
