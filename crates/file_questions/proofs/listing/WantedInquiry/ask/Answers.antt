use Rattle.file_questions.proofs.ListLemmas.{listed_cases}
use Rattle.file_questions.proofs.TellLemmas.{kept_calendar}
use Rattle.file_questions.proofs.listing.WantedInquiry.ask.Goals as goal

pub returns-clause-told : goal.returns-clause-told
returns-clause-told g c h stands held clean = listed_cases g.S.Store c.list_cases.new.docket h _ _ _ c.list_cases.result (c.list_cases.ensures.lists h stands) clean

pub returns-clause-stays : goal.returns-clause-stays
returns-clause-stays g c rows holds = kept_calendar g.S.Store c.list_cases.new.docket.conn rows c.list_cases.result (c.list_cases.ensures.stays rows holds)

pub returns-clause-clean : goal.returns-clause-clean
returns-clause-clean g c = c.list_cases.ensures.clean
