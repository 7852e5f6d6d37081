use Rattle.html_sheets.proofs.TagLemmas.{page_heads, case_rows, days_heads, week_heads, due_rows, named_rows, case_sheets, cases_pages, search_pages, case_pages, days_pages, days_feet, text_pages, printed_pages, reasons_pages, court_days_pages}
use Rattle.html_sheets.proofs.laws.tags_are_the_pages_own.Goals as goal

pub returns-clause-heads : goal.returns-clause-heads
returns-clause-heads c = λ title other. (page_heads title other).is

pub returns-clause-cases : goal.returns-clause-cases
returns-clause-cases c = λ case other. (case_rows case other).is

pub returns-clause-weeks : goal.returns-clause-weeks
returns-clause-weeks c = λ list other court place from to day later weeks. (week_heads list other court place from to day later weeks).is

pub returns-clause-days : goal.returns-clause-days
returns-clause-days c = λ from to day later. (days_heads from to day later).is

pub returns-clause-dues : goal.returns-clause-dues
returns-clause-dues c = λ links court place due other label word caption name. (due_rows links court place due other label word caption name).is

pub returns-clause-named : goal.returns-clause-named
returns-clause-named c = λ court place due other label word party who caption name. (named_rows court place due other label word party who caption name).is

pub returns-clause-sheets : goal.returns-clause-sheets
returns-clause-sheets c = λ links court place case other deadlines lines parties entries count. (case_sheets links court place case other deadlines lines parties entries count).is

pub returns-clause-lists : goal.returns-clause-lists
returns-clause-lists c = λ cases others newer later older earlier count n o day night. (cases_pages cases others newer later older earlier count n o day night).is

pub returns-clause-searches : goal.returns-clause-searches
returns-clause-searches c = λ words text cases others more count day night. (search_pages words text cases others more count day night).is

pub returns-clause-pages : goal.returns-clause-pages
returns-clause-pages c = λ court place case other deadlines lines parties entries count day night. (case_pages court place case other deadlines lines parties entries count day night).is

pub returns-clause-calendars : goal.returns-clause-calendars
returns-clause-calendars c = λ list other court place from to day later weeks. (days_pages list other court place from to day later weeks).is

pub returns-clause-feet : goal.returns-clause-feet
returns-clause-feet c = λ from to first last day night. (days_feet from to first last day night).is

pub returns-clause-texts : goal.returns-clause-texts
returns-clause-texts c = λ title other text words. (text_pages title other text words).is

pub returns-clause-printed : goal.returns-clause-printed
returns-clause-printed c = λ title other text words day night. (printed_pages title other text words day night).is

pub returns-clause-reasons : goal.returns-clause-reasons
returns-clause-reasons c = λ case other deadline last text words filed day night. (reasons_pages case other deadline last text words filed day night).is

pub returns-clause-courts : goal.returns-clause-courts
returns-clause-courts c = λ court place rows others count day night. (court_days_pages court place rows others count day night).is
