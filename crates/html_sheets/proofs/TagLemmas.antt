-- Pieces whose marks are the same, whatever texts they hold.
use Rattle.std.proofs.Common.{◌≡◌, ℕ, List, [], ◌∷◌, ◌++◌, length, true, false, true≢false, refl, sym, ◌∙◌, arith}
use Rattle.std.specs.Prelude.{Bool, codes, decimal, Option, Some, None as none, is_some}
use Rattle.std.specs.List.{flat_map}
use Rattle.std.proofs.lemmas.List.Elements.{filter-append}
use Rattle.civil_time.specs.Civil.{weekday}
use Rattle.civil_time.specs.DayText.{day_text}
use Rattle.court_days.specs.Court.{CourtSettings}
use Rattle.court_days.specs.declared.filing.End.{End}
use Rattle.court_days.specs.declared.filing.End.TheVariants.{LastDay, Moment}
use Rattle.court_rules.specs.Rules.{rule_named}
use Rattle.court_rules.specs.declared.rule.Rule.{Rule}
use Rattle.docket_history.specs.declared.record.CaseRecord.{CaseRecord}
use Rattle.docket_history.specs.declared.record.DeadlineLine.{DeadlineLine}
use Rattle.docket_history.specs.declared.record.DueRow.{DueRow}
use Rattle.docket_command.specs.Names.{command_word}
use Rattle.docket_command.specs.declared.command_name.CommandName.{CommandName}
use Rattle.docket_command.specs.declared.command_name.CommandName.TheVariants.{ServeSummons, ServePleading}
use Rattle.docket_history.specs.declared.row.CalendarRow.{CalendarRow}
use Rattle.docket_history.specs.declared.row.CaseRow.{CaseRow}
use Rattle.docket_history.specs.declared.row.EntryRow.{EntryRow}
use Rattle.docket_history.specs.declared.row.PartyRow.{PartyRow}
use Rattle.docket_text.specs.HolidayNames.{weekday_word}
use Rattle.docket_text.specs.Parties.{party_text}
use Rattle.html_sheets.specs.Elements.{element, told, day_told, weekday_told, link, nav, case_link, case_number, deadline_number, cell, number_cell, head_cell, row, table_foot}
use Rattle.html_sheets.specs.Entering.{about_text, enter_link, enter_line, enter_nav, daily_kinds, deadline_kinds, calendar_kinds, serve_links}
use Rattle.html_sheets.specs.Escapes.{escaped}
use Rattle.html_sheets.specs.Marks.{is_mark, marks}
use Rattle.html_sheets.specs.Pages.{page_head, page_foot, cases_head, case_row, cases_foot}
use Rattle.html_sheets.specs.RuleWords.{rule_words, worded, rule_told}
use Rattle.html_sheets.specs.Sheets.{said, case_head, entering, parties_head, party_row, party_named, party_told, name_of, party_at, parties_table, entries_head, entry_row, entries_table, deadlines_head, deadline_row, deadlines_table, case_sheet}
use Rattle.html_sheets.specs.Sites.{site_nav, printed_on, site_foot, cases_link, more_nav, more_cases, cases_page, words_told, found_told, more_told, search_page, case_page, days_page_head, export_link, exports_nav, days_page_foot, text_told, text_page, printed_page, reasons_title, case_back, filed_told, reasons_page, calendar_told, calendar_row, calendar_head, court_days_page}
use Rattle.html_sheets.specs.Styles.{style_text}
use Rattle.html_sheets.specs.Titles.{title_of}
use Rattle.html_sheets.specs.declared.due_list.DueList.{DueList}
use Rattle.html_sheets.specs.Weeks.{list_title, week_before, week_after, days_link, due_columns, days_told, days_head, zone_told, has_weeks, weeks_nav, week_head, week_foot, end_cells, end_of_row, due_cells, due_row, named_row}
use Rattle.html_sheets.specs.declared.about.About.{About}
use Rattle.html_sheets.specs.declared.about.About.TheVariants.{Nothing, Case, Party, Deadline}
use Rattle.html_sheets.specs.declared.filed.Filed.{Filed}
use Rattle.html_sheets.specs.declared.links.Links.{Links}
use Rattle.html_sheets.specs.declared.links.Links.TheVariants.{Pages, None}
use Rattle.html_sheets.proofs.MarkLemmas.{IsBare, decimal_bare, day_bare, close_bare, local_bare, party_bare, role_bare, rule_bare, weekday_bare, standing_bare}
use Rattle.html_sheets.proofs.TextLemmas.{escaped-marks, lined-marks}

-- the marks are the same
pub record Same (xs ys : List ℕ) : Type 0 where
  pub is : marks xs ≡ marks ys

same : {xs : List ℕ} → Same xs xs
same = record { is = refl }

bare : {xs ys : List ℕ} → IsBare xs → IsBare ys → Same xs ys
bare a b = record { is = a.is ∙ sym b.is }

both : (xs ys zs ws : List ℕ) → Same xs ys → Same zs ws → Same (xs ++ zs) (ys ++ ws)
both xs ys zs ws s t = record { is = filter-append is_mark xs zs ∙ rw (s.is, t.is) (sym (filter-append is_mark ys ws)) }

-- behind a text without marks
behind_bare : (xs ys : List ℕ) → IsBare xs → Same (xs ++ ys) ys
behind_bare xs ys s = record { is = filter-append is_mark xs ys ∙ rw (s.is) refl }

-- behind the same bytes, and before them
behind : (xs zs ws : List ℕ) → Same zs ws → Same (xs ++ zs) (xs ++ ws)
behind xs zs ws t = both xs xs zs ws same t

before : (xs ys zs : List ℕ) → Same xs ys → Same (xs ++ zs) (ys ++ zs)
before xs ys zs s = both xs ys zs zs s same

within : (name a b xs ys : List ℕ) → Same a b → Same xs ys → Same (element name a xs) (element name b ys)
unfolding element
within name a b xs ys s t =
    behind (60 ∷ name) _ _ (both a b _ _ s (behind (62 ∷ []) _ _ (before xs ys (codes "</" ++ (name ++ 62 ∷ [])) t)))

texts : (a b : List ℕ) → Same (escaped a) (escaped b)
texts a b = record { is = escaped-marks a ∙ sym (escaped-marks b) }

tolds : (a b : List ℕ) → Same (told a) (told b)
tolds a b = within (codes "bdi") [] [] _ _ same (texts a b)

-- the words before the name of a rule have no mark
named : (found : Option Rule) (name : List ℕ) → Same (worded found name) name
unfolding is_mark
named none name = same
named (Some rule) name = record { is = (behind_bare (rule_words rule) (codes ", " ++ name) (rule_bare rule)).is }

rules_told : (a b : List ℕ) → Same (rule_told a) (rule_told b)
rules_told a b = record { is = (named (rule_named a) (told a)).is ∙ ((tolds a b).is ∙ sym (named (rule_named b) (told b)).is) }

days : (a b : ℕ) → Same (day_told a) (day_told b)
days a b = within (codes "time") [] [] _ _ same (bare (day_bare a) (day_bare b))

weekdays : (a b : ℕ) → Same (weekday_told a) (weekday_told b)
weekdays a b = both (day_told a) (day_told b) _ _ (days a b) (behind (32 ∷ []) _ _ (bare (weekday_bare (weekday a)) (weekday_bare (weekday b))))

links : (a b xs ys : List ℕ) → Same a b → Same xs ys → Same (link a xs) (link b ys)
links a b xs ys s t = within (codes "a") _ _ xs ys (behind (codes " href=\"") _ _ (before a b (codes "\"") s)) t

navs : (label a b : List ℕ) → Same a b → Same (nav label a) (nav label b)
navs label a b = within (codes "nav") _ _ a b same

case_links : (a b : ℕ) → Same (case_link a) (case_link b)
case_links a b =
    let numbers = bare (decimal_bare a) (decimal_bare b) in
    links _ _ _ _ (behind (codes "/pages/cases/") (decimal a) (decimal b) numbers) numbers

case_numbers : (lead : Links) (a b : ℕ) → Same (case_number lead a) (case_number lead b)
case_numbers Pages a b = case_links a b
case_numbers None a b = bare (decimal_bare a) (decimal_bare b)

deadline_numbers : (lead : Links) (c d a b : ℕ) → Same (deadline_number lead c a) (deadline_number lead d b)
deadline_numbers Pages c d a b =
    let numbers = bare (decimal_bare a) (decimal_bare b) in
    links _ _ _ _ (behind (codes "/pages/cases/") _ _ (both (decimal c) (decimal d) _ _ (bare (decimal_bare c) (decimal_bare d)) (behind (codes "/deadlines/") _ _ numbers))) numbers
deadline_numbers None c d a b = bare (decimal_bare a) (decimal_bare b)

-- links to the same forms, whatever they are filled in with
cases_about : (c d : ℕ) → Same (about_text (Case c)) (about_text (Case d))
cases_about c d = behind (codes "?case=") _ _ (bare (decimal_bare c) (decimal_bare d))

parties_about : (c d p q : ℕ) → Same (about_text (Party c p)) (about_text (Party d q))
parties_about c d p q =
    behind (codes "?case=") _ _ (both (decimal c) (decimal d) _ _ (bare (decimal_bare c) (decimal_bare d)) (behind (codes "&amp;party=") _ _ (bare (decimal_bare p) (decimal_bare q))))

deadlines_about : (c d p q : ℕ) → Same (about_text (Deadline c p)) (about_text (Deadline d q))
deadlines_about c d p q =
    behind (codes "?case=") _ _ (both (decimal c) (decimal d) _ _ (bare (decimal_bare c) (decimal_bare d)) (behind (codes "&amp;deadline=") _ _ (bare (decimal_bare p) (decimal_bare q))))

enter_links : (a b : About) (kind : CommandName) → Same (about_text a) (about_text b) → Same (enter_link a kind) (enter_link b kind)
enter_links a b kind s = links _ _ (title_of kind) (title_of kind) (behind (codes "/pages/enter/") _ _ (behind (command_word kind) _ _ s)) same

enter_lines : (a b : About) (kinds : List CommandName) → Same (about_text a) (about_text b) → Same (flat_map (enter_line a) kinds) (flat_map (enter_line b) kinds)
enter_lines a b [] s = same
enter_lines a b (kind ∷ kinds) s = both (enter_line a kind) (enter_line b kind) _ _ (before _ _ (codes "\n") (enter_links a b kind s)) (enter_lines a b kinds s)

enter_navs : (a b : About) (kinds : List CommandName) → Same (about_text a) (about_text b) → Same (enter_nav a kinds) (enter_nav b kinds)
unfolding enter_nav
enter_navs a b kinds s = before _ _ (codes "\n") (navs (codes "Enter") _ _ (behind (codes "\n") _ _ (enter_lines a b kinds s)))

serves : (lead : Links) (c d p q : ℕ) → Same (serve_links lead c p) (serve_links lead d q)
serves Pages c d p q =
    let about = parties_about c d p q in
    behind (codes " ") _ _ (within (codes "span") _ _ _ _ same (
    both _ _ _ _ (enter_links (Party c p) (Party d q) ServeSummons about)
    (behind (codes " ") _ _ (enter_links (Party c p) (Party d q) ServePleading about))))
serves None c d p q = same

enterings : (lead : Links) (c d : ℕ) → Same (entering lead c) (entering lead d)
enterings Pages c d = enter_navs (Case c) (Case d) daily_kinds (cases_about c d)
enterings None c d = same

cells : (a b : List ℕ) → Same a b → Same (cell a) (cell b)
cells a b = within (codes "td") [] [] a b same

number_cells : (a b : List ℕ) → Same a b → Same (number_cell a) (number_cell b)
number_cells a b = within (codes "td") (codes " class=\"number\"") (codes " class=\"number\"") a b same

head_cells : (a b : List ℕ) → Same a b → Same (head_cell a) (head_cell b)
head_cells a b = within (codes "th") (codes " scope=\"row\" class=\"number\"") (codes " scope=\"row\" class=\"number\"") a b same

rows : (a b : List ℕ) → Same a b → Same (row a) (row b)
rows a b s = before (element (codes "tr") [] a) (element (codes "tr") [] b) (codes "\n") (within (codes "tr") [] [] a b same s)

pub case_rows : (a b : CaseRow) → Same (case_row a) (case_row b)
unfolding case_row
case_rows a b = rows _ _ (
    both _ _ _ _ (head_cells _ _ (case_links a.number b.number))
    (both _ _ _ _ (cells _ _ (tolds a.label b.label))
    (both _ _ _ _ (cells _ _ (days a.filed b.filed)) (cells _ _ (tolds a.caption b.caption)))))

pub page_heads : (a b : List ℕ) → Same (page_head a) (page_head b)
page_heads a b =
    behind (codes "<!DOCTYPE html>\n<html lang=\"en\">\n<head>\n<meta charset=\"utf-8\">\n") _ _
    (behind (codes "<meta name=\"viewport\" content=\"width=device-width, initial-scale=1\">\n") _ _
    (both _ _ _ _ (within (codes "title") [] [] _ _ same (texts a b))
    (behind (codes "\n") _ _
    (behind (element (codes "style") [] style_text) _ _
    (behind (codes "\n</head>\n<body>\n<main>\n") _ _
    (before _ _ (codes "\n") (within (codes "h1") [] [] _ _ same (tolds a b))))))))

pub party_rows : (lead : Links) (c d : ℕ) (a b : PartyRow) → Same (party_row lead c a) (party_row lead d b)
unfolding party_row
party_rows lead c d a b = rows _ _ (
    both _ _ _ _ (head_cells _ _ (bare (decimal_bare a.number) (decimal_bare b.number)))
    (both _ _ _ _ (cells _ _ (bare (role_bare a.role) (role_bare b.role)))
    (cells _ _ (both _ _ _ _ (tolds a.name b.name) (serves lead c d a.number b.number)))))

pub entry_rows : (a b : EntryRow) → Same (entry_row a) (entry_row b)
unfolding entry_row
entry_rows a b = rows _ _ (
    both _ _ _ _ (head_cells _ _ (bare (decimal_bare a.number) (decimal_bare b.number)))
    (both _ _ _ _ (cells _ _ (days a.day b.day)) (cells _ _ (tolds a.text b.text))))

parties_named : (a b : ℕ) (name other : List ℕ) → Same (party_named a name) (party_named b other)
parties_named a b name other = both (party_text a) (party_text b) _ _ (bare (party_bare a) (party_bare b)) (behind (codes " ") _ _ (tolds name other))

parties_told : (xs ys : List PartyRow) (a b : ℕ) → Same (party_told xs a) (party_told ys b)
parties_told xs ys a b = parties_named a b (name_of (party_at xs a)) (name_of (party_at ys b))

pub deadline_rows : (lead : Links) (court place : CourtSettings) (case other : CaseRecord) (a b : DeadlineLine)
    → Same (deadline_row lead court case a) (deadline_row lead place other b)
unfolding deadline_row
deadline_rows lead court place case other a b = rows _ _ (
    both _ _ _ _ (head_cells _ _ (deadline_numbers lead case.number other.number a.number b.number))
    (both _ _ _ _ (cells _ _ (parties_told case.parties other.parties a.party b.party))
    (both _ _ _ _ (cells _ _ (rules_told a.rule b.rule))
    (number_cells _ _ (bare (standing_bare court a.close a.standing) (standing_bare place b.close b.standing))))))

-- as many rows on both sides
all_rows : {A : Type 0} (f g : A → List ℕ) → ((a b : A) → Same (f a) (g b)) → (xs ys : List A) → length xs ≡ length ys → Same (flat_map f xs) (flat_map g ys)
all_rows f g h [] [] e = same
all_rows f g h [] (y ∷ ys) e = absurd (omega arith)
all_rows f g h (x ∷ xs) [] e = absurd (omega arith)
all_rows f g h (x ∷ xs) (y ∷ ys) e = both (f x) (g y) _ _ (h x y) (all_rows f g h xs ys (omega arith))

saids : (word a b : List ℕ) → Same a b → Same (said word a) (said word b)
saids word a b s = behind (element (codes "dt") [] word) _ _ (before _ _ (codes "\n") (within (codes "dd") [] [] a b same s))

case_heads : (a b : CaseRecord) → Same (case_head a) (case_head b)
unfolding case_head
case_heads a b =
    behind (codes "<dl>\n") _ _
    (both _ _ _ _ (saids (codes "Case") _ _ (bare (decimal_bare a.number) (decimal_bare b.number)))
    (both _ _ _ _ (saids (codes "Docket number") _ _ (tolds a.label b.label))
    (both _ _ _ _ (saids (codes "Caption") _ _ (tolds a.caption b.caption))
    (before _ _ (codes "</dl>\n") (saids (codes "Filed") _ _ (days a.filed b.filed))))))

party_tables : (lead : Links) (case other : CaseRecord) → length case.parties ≡ length other.parties → Same (parties_table lead case) (parties_table lead other)
unfolding parties_table
party_tables lead case other e =
    behind parties_head _ _ (before _ _ _ (all_rows (party_row lead case.number) (party_row lead other.number) (party_rows lead case.number other.number) case.parties other.parties e))

entry_tables : (xs ys : List EntryRow) → length xs ≡ length ys → Same (entries_table xs) (entries_table ys)
unfolding entries_table
entry_tables xs ys e = behind entries_head _ _ (before _ _ _ (all_rows entry_row entry_row entry_rows xs ys e))

deadline_tables : (lead : Links) (court place : CourtSettings) (case other : CaseRecord) (xs ys : List DeadlineLine) → length xs ≡ length ys
    → Same (deadlines_table lead court case xs) (deadlines_table lead place other ys)
unfolding deadlines_table
deadline_tables lead court place case other xs ys e =
    behind deadlines_head _ _ (before _ _ _ (all_rows (deadline_row lead court case) (deadline_row lead place other) (deadline_rows lead court place case other) xs ys e))

pub case_sheets : (lead : Links) (court place : CourtSettings) (case other : CaseRecord) (deadlines lines : List DeadlineLine)
    → length case.parties ≡ length other.parties → length case.entries ≡ length other.entries → length deadlines ≡ length lines
    → Same (case_sheet lead court case deadlines) (case_sheet lead place other lines)
case_sheets lead court place case other deadlines lines parties entries count =
    both _ _ _ _ (case_heads case other)
    (both _ _ _ _ (enterings lead case.number other.number)
    (both _ _ _ _ (party_tables lead case other parties)
    (both _ _ _ _ (entry_tables case.entries other.entries entries) (deadline_tables lead court place case other deadlines lines count))))

days_links : (a b c d : ℕ) (words : List ℕ) → Same (days_link a b words) (days_link c d words)
days_links a b c d words =
    links _ _ words words
    (behind (codes "/pages/calendar/") _ _ (both (day_text a) (day_text c) _ _ (bare (day_bare a) (day_bare c)) (behind (codes "/") _ _ (bare (day_bare b) (day_bare d)))))
    same

days_said : (a b c d : ℕ) → Same (days_told a b) (days_told c d)
days_said a b c d = within (codes "p") [] [] _ _ same (both _ _ _ _ (weekdays a c) (behind (codes " to ") _ _ (weekdays b d)))

pub days_heads : (a b c d : ℕ) → Same (days_head a b) (days_head c d)
days_heads a b c d = before _ _ (codes "\n" ++ due_columns) (days_said a b c d)

zones_told : (court place : CourtSettings) → Same (zone_told court) (zone_told place)
zones_told court place = within (codes "p") [] [] _ _ same (behind (codes "Times are local, in the zone ") _ _ (tolds court.zone_text place.zone_text))

-- as many links to other weeks on both sides
weeks_same : (shown other : Bool) (a b c d : ℕ) → shown ≡ other → Same (weeks_nav shown a b) (weeks_nav other c d)
weeks_same false false a b c d e = same
weeks_same true true a b c d e =
    before _ _ (codes "\n") (navs (codes "Other weeks") _ _ (
    both _ _ _ _ (days_links (week_before a) (week_before b) (week_before c) (week_before d) (codes "Week before"))
    (behind (codes " ") _ _ (days_links (week_after a) (week_after b) (week_after c) (week_after d) (codes "Week after")))))
weeks_same false true a b c d e = absurd (true≢false (sym e))
weeks_same true false a b c d e = absurd (true≢false e)

pub week_heads : (list other : DueList) (court place : CourtSettings) (a b c d : ℕ) → has_weeks list ≡ has_weeks other → Same (week_head list court a b) (week_head other place c d)
week_heads list other court place a b c d e =
    both _ _ _ _ (days_said a b c d)
    (behind (codes "\n") _ _
    (both _ _ _ _ (zones_told court place)
    (behind (codes "\n") _ _ (before _ _ due_columns (weeks_same (has_weeks list) (has_weeks other) a b c d e)))))

-- two ends
ends : (day other : ℕ) (time hour closing close : List ℕ) → Same time hour → Same closing close → Same (end_cells day time closing) (end_cells other hour close)
ends day other time hour closing close s t =
    both _ _ _ _ (head_cells _ _ (weekdays day other)) (both _ _ _ _ (number_cells _ _ s) (number_cells _ _ t))

midnight : IsBare (codes "24:00")
unfolding is_mark
midnight = record { is = refl }

no_closing : IsBare (codes "--:--")
unfolding is_mark
no_closing = record { is = refl }

ends_same : (court place : CourtSettings) (close late : ℕ) (a b : End) → Same (end_of_row court close a) (end_of_row place late b)
ends_same court place close late (LastDay day) (LastDay other) = ends _ _ _ _ _ _ (bare midnight midnight) (bare (close_bare close) (close_bare late))
ends_same court place close late (LastDay day) (Moment at) = ends _ _ _ _ _ _ (bare midnight (local_bare _ _)) (bare (close_bare close) no_closing)
ends_same court place close late (Moment at) (LastDay day) = ends _ _ _ _ _ _ (bare (local_bare _ _) midnight) (bare no_closing (close_bare late))
ends_same court place close late (Moment at) (Moment other) = ends _ _ _ _ _ _ (bare (local_bare _ _) (local_bare _ _)) (bare no_closing no_closing)

dues : (lead : Links) (court place : CourtSettings) (a b : DueRow) (label word : List ℕ) → Same (due_cells lead court a label) (due_cells lead place b word)
dues lead court place a b label word =
    both _ _ _ _ (ends_same court place a.close b.close a.end b.end)
    (both _ _ _ _ (number_cells _ _ (case_numbers lead a.case b.case))
    (both _ _ _ _ (number_cells _ _ (tolds label word))
    (both _ _ _ _ (number_cells _ _ (deadline_numbers lead a.case b.case a.number b.number)) (cells _ _ (rules_told a.rule b.rule)))))

pub due_rows : (lead : Links) (court place : CourtSettings) (a b : DueRow) (label word caption name : List ℕ)
    → Same (due_row lead court a label caption) (due_row lead place b word name)
due_rows lead court place a b label word caption name = rows _ _ (
    both _ _ _ _ (dues lead court place a b label word)
    (both _ _ _ _ (number_cells _ _ (bare (party_bare a.party) (party_bare b.party))) (cells _ _ (tolds caption name))))

pub named_rows : (court place : CourtSettings) (a b : DueRow) (label word party who caption name : List ℕ)
    → Same (named_row court a label party caption) (named_row place b word who name)
named_rows court place a b label word party who caption name = rows _ _ (
    both _ _ _ _ (dues Pages court place a b label word)
    (both _ _ _ _ (cells _ _ (parties_named a.party b.party party who)) (cells _ _ (tolds caption name))))

-- two days of printing, and the feet of their pages
printed : (a b : ℕ) → Same (printed_on a) (printed_on b)
printed a b =
    within (codes "p") (codes " class=\"printed\"") (codes " class=\"printed\"") _ _ same (
    behind (codes "Printed on ") _ _ (
    both (day_text a) (day_text b) _ _ (bare (day_bare a) (day_bare b))
    (behind (codes " ") (weekday_word (weekday a)) (weekday_word (weekday b)) (bare (weekday_bare (weekday a)) (weekday_bare (weekday b))))))

site_feet : (a b : ℕ) → Same (site_foot a) (site_foot b)
site_feet a b = before (printed_on a) (printed_on b) (codes "\n" ++ page_foot) (printed a b)

cases_links : (a b : ℕ) (words : List ℕ) → Same (cases_link a words) (cases_link b words)
cases_links a b words = links _ _ words words (behind (codes "/pages/cases?before=") _ _ (bare (decimal_bare a) (decimal_bare b))) same

more_navs : (a b : List ℕ) → Same a b → Same (more_nav a) (more_nav b)
more_navs a b s = before _ _ (codes "\n") (navs (codes "More cases") a b s)

-- as many links on both sides
more_same : (newer later older earlier : Option ℕ) → is_some newer ≡ is_some later → is_some older ≡ is_some earlier
    → Same (more_cases newer older) (more_cases later earlier)
more_same none none none none e l = same
more_same (Some a) (Some b) none none e l = more_navs _ _ (cases_links a b (codes "Newer cases"))
more_same none none (Some a) (Some b) e l = more_navs _ _ (cases_links a b (codes "Older cases"))
more_same (Some a) (Some b) (Some c) (Some d) e l =
    more_navs _ _ (both _ _ _ _ (cases_links a b (codes "Newer cases")) (behind (codes " ") _ _ (cases_links c d (codes "Older cases"))))
more_same none (Some b) older earlier e l = absurd (true≢false (sym e))
more_same (Some a) none older earlier e l = absurd (true≢false e)
more_same none none none (Some d) e l = absurd (true≢false (sym l))
more_same none none (Some c) none e l = absurd (true≢false l)
more_same (Some a) (Some b) none (Some d) e l = absurd (true≢false (sym l))
more_same (Some a) (Some b) (Some c) none e l = absurd (true≢false l)

pub cases_pages : (cases others : List CaseRow) (newer later older earlier : Option ℕ) → length cases ≡ length others
    → is_some newer ≡ is_some later → is_some older ≡ is_some earlier → (day night : ℕ)
    → Same (cases_page cases newer older day) (cases_page others later earlier night)
cases_pages cases others newer later older earlier count e l day night =
    behind (page_head (codes "Cases")) _ _
    (behind site_nav _ _
    (behind cases_head _ _
    (both _ _ _ _ (all_rows case_row case_row case_rows cases others count)
    (behind cases_foot _ _ (both (more_cases newer older) (more_cases later earlier) _ _ (more_same newer later older earlier e l) (site_feet day night))))))

founds : (cases others : List CaseRow) → length cases ≡ length others → Same (found_told cases) (found_told others)
founds [] [] count = same
founds [] (other ∷ others) count = absurd (omega arith)
founds (case ∷ cases) [] count = absurd (omega arith)
founds (case ∷ cases) (other ∷ others) count =
    behind cases_head _ _ (before _ _ cases_foot (all_rows case_row case_row case_rows (case ∷ cases) (other ∷ others) count))

words_same : (words text : List ℕ) → Same (words_told words) (words_told text)
words_same words text = before _ _ (codes "\n") (within (codes "p") [] [] _ _ same (behind (codes "Cases found by ") _ _ (tolds words text)))

pub search_pages : (words text : List ℕ) (cases others : List CaseRow) (more : Bool) → length cases ≡ length others
    → (day night : ℕ) → Same (search_page words cases more day) (search_page text others more night)
search_pages words text cases others more count day night =
    behind (page_head (codes "Search")) _ _
    (behind site_nav _ _
    (both _ _ _ _ (words_same words text) (both _ _ _ _ (founds cases others count) (behind (more_told more) _ _ (site_feet day night)))))

pub case_pages : (court place : CourtSettings) (case other : CaseRecord) (deadlines lines : List DeadlineLine)
    → length case.parties ≡ length other.parties → length case.entries ≡ length other.entries → length deadlines ≡ length lines
    → (day night : ℕ) → Same (case_page court case deadlines day) (case_page place other lines night)
case_pages court place case other deadlines lines parties entries count day night =
    both _ _ _ _ (page_heads case.label other.label)
    (behind site_nav _ _ (both _ _ _ _ (case_sheets Pages court place case other deadlines lines parties entries count) (site_feet day night)))

pub days_pages : (list other : DueList) (court place : CourtSettings) (a b c d : ℕ) → has_weeks list ≡ has_weeks other
    → Same (days_page_head list court a b) (days_page_head other place c d)
days_pages list other court place a b c d e = both _ _ _ _ (page_heads (list_title list) (list_title other)) (behind site_nav _ _ (week_heads list other court place a b c d e))

export_links : (file : List ℕ) (a b c d : ℕ) (words : List ℕ) → Same (export_link file a b words) (export_link file c d words)
export_links file a b c d words =
    links _ _ words words
    (behind (codes "/pages/") _ _ (behind file _ _ (behind (codes "?from=") _ _ (
    both (day_text a) (day_text c) _ _ (bare (day_bare a) (day_bare c)) (behind (codes "&amp;to=") _ _ (bare (day_bare b) (day_bare d)))))))
    same

exports_navs : (a b c d : ℕ) → Same (exports_nav a b) (exports_nav c d)
exports_navs a b c d =
    before _ _ (codes "\n") (navs (codes "Exports") _ _ (
    behind (link (codes "/pages/due.ics") (codes "Calendar to subscribe to")) _ _ (
    behind (codes " ") _ _ (
    both _ _ _ _ (export_links (codes "due.csv") a b c d (codes "CSV"))
    (behind (codes " ") _ _ (export_links (codes "due.json") a b c d (codes "JSON")))))))

pub days_feet : (a b c d day night : ℕ) → Same (days_page_foot a b day) (days_page_foot c d night)
days_feet a b c d day night = behind week_foot _ _ (both (exports_nav a b) (exports_nav c d) _ _ (exports_navs a b c d) (site_feet day night))

lines : (a b : List ℕ) → Same (text_told a) (text_told b)
lines a b = before _ _ (codes "\n") (within (codes "pre") [] [] _ _ same (record { is = lined-marks a ∙ sym (lined-marks b) }))

pub text_pages : (title other text words : List ℕ) → Same (text_page title text) (text_page other words)
text_pages title other text words = both _ _ _ _ (page_heads title other) (behind site_nav _ _ (before _ _ page_foot (lines text words)))

pub printed_pages : (title other text words : List ℕ) (day night : ℕ) → Same (printed_page title text day) (printed_page other words night)
printed_pages title other text words day night =
    both _ _ _ _ (page_heads title other) (behind site_nav _ _ (both (text_told text) (text_told words) _ _ (lines text words) (site_feet day night)))

backs : (a b : ℕ) → Same (case_back a) (case_back b)
backs a b = before _ _ (codes "\n") (within (codes "p") [] [] _ _ same (behind (codes "Case ") _ _ (case_links a b)))

pub reasons_pages : (case other deadline last : ℕ) (text words : List ℕ) (filed : Filed) (day night : ℕ)
    → Same (reasons_page case deadline text filed day) (reasons_page other last words filed night)
reasons_pages case other deadline last text words filed day night =
    both _ _ _ _ (page_heads (reasons_title case deadline) (reasons_title other last))
    (behind site_nav _ _
    (both _ _ _ _ (backs case other)
    (behind (filed_told filed) _ _
    (both _ _ _ _ (enter_navs _ _ deadline_kinds (deadlines_about case other deadline last))
    (both (text_told text) (text_told words) _ _ (lines text words) (site_feet day night))))))

calendar_rows : (court place : CourtSettings) (a b : CalendarRow) → Same (calendar_row court a) (calendar_row place b)
unfolding calendar_told
calendar_rows court place a b = rows _ _ (
    both _ _ _ _ (head_cells _ _ (bare (decimal_bare a.number) (decimal_bare b.number)))
    (both _ _ _ _ (number_cells _ _ (tolds _ _)) (cells _ _ (tolds a.name b.name))))

pub court_days_pages : (court place : CourtSettings) (xs ys : List CalendarRow) → length xs ≡ length ys → (day night : ℕ)
    → Same (court_days_page court xs day) (court_days_page place ys night)
court_days_pages court place xs ys count day night =
    behind (page_head (codes "Court days")) _ _
    (behind site_nav _ _
    (behind (enter_nav Nothing calendar_kinds) _ _
    (behind calendar_head _ _
    (both _ _ _ _ (all_rows (calendar_row court) (calendar_row place) (calendar_rows court place) xs ys count) (behind table_foot _ _ (site_feet day night))))))
