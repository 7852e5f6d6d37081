use Rattle.file_questions.proofs.TellLemmas.{asked, kept}
use Rattle.file_questions.proofs.entering.EntryInquiryUnit.ask.Goals as goal

pub returns-clause-told : goal.returns-clause-told
returns-clause-told g c h stands held clean = asked g.S.Store c.prepared.new.docket h _ c.prepared.result (c.prepared.ensures.answer h stands) clean

pub returns-clause-stays : goal.returns-clause-stays
returns-clause-stays g c rows holds = kept g.S.Store c.prepared.new.docket.conn rows c.prepared.result (c.prepared.ensures.only.stays rows holds)

pub returns-clause-clean : goal.returns-clause-clean
returns-clause-clean g c = c.prepared.ensures.only.clean
