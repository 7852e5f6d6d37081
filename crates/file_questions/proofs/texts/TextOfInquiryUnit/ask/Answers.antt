use Rattle.file_questions.proofs.TellLemmas.{asked, kept}
use Rattle.file_questions.proofs.texts.TextOfInquiryUnit.ask.Goals as goal

pub returns-clause-told : goal.returns-clause-told
returns-clause-told g c h stands held clean = asked g.S.Store c.ask.new.docket h _ c.ask.result (c.ask.ensures.answer h stands) clean

pub returns-clause-stays : goal.returns-clause-stays
returns-clause-stays g c rows holds = kept g.S.Store c.ask.new.docket.conn rows c.ask.result (c.ask.ensures.only.stays rows holds)

pub returns-clause-clean : goal.returns-clause-clean
returns-clause-clean g c = c.ask.ensures.only.clean
