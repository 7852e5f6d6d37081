-- The deadlines that fall due, one after another, and the text of all of them.
use Rattle.std.proofs.Common.{◌≡◌, ◌∙◌, ℕ, ℤ, ◌+◌, ◌<◌, suc, List, [], ◌∷◌, ◌++◌, length, take, refl, sym, ap, arith, append-nil, append_assoc}
use Rattle.std.proofs.Math.Seq.{take-length, take-suc}
use Rattle.std.proofs.lemmas.List.{length-take-le}
use Rattle.std.specs.List.{flat_map}
use Rattle.std.specs.Prelude.{get_or, map}
use Rattle.court_days.specs.Court.{CourtSettings}
use Rattle.docket_calendar.specs.Calendar.{calendar_rows}
use Rattle.docket_history.specs.Histories.{History, case_rows, parties_of_case, party_rows}
use Rattle.docket_history.specs.declared.record.DueRow.{DueRow}
use Rattle.docket_history.specs.declared.row.CaseRow.{CaseRow}
use Rattle.docket_history.specs.declared.row.PartyRow.{PartyRow}
use Rattle.due_exports.specs.Texts.{entries_text}
use Rattle.due_exports.specs.declared.form.Form.{Form}
use Rattle.html_sheets.specs.Sheets.{name_of, party_at}
use Rattle.docket_questions.specs.Dues.{dues_told, entry_of, entry_told, foot_of, head_of, name_in, reasons_in, text_between, text_of_days, told_of}
use Rattle.docket_questions.specs.Kept.{case_of}
use Rattle.docket_questions.specs.declared.dues.DueForm.{DueForm}
use Rattle.docket_questions.specs.declared.dues.DueForm.TheVariants.{Page, Calendar, Long, Export}
use Rattle.docket_questions.proofs.ListLemmas.{added}

-- one more text behind the others
each_added : (f : DueRow → List ℕ) (dues : List DueRow) (n : ℕ) (due : DueRow) → n < length dues → due ≡ get_or dues n due → flat_map f (take (n + 1) dues) ≡ flat_map f (take n dues) ++ f due
each_added f dues n due inside is = sym (added f dues n due [] inside is)

module _ (form : Form) (stamp : ℤ) (court : CourtSettings) (h : History) where
  -- the entries of an export, the first of them at that place
  abbrev entries_from : ℕ → List DueRow → List ℕ
  entries_from place dues = entries_text form court stamp place (map (told_of (Export form stamp) court h) dues)

  abbrev entry_at : ℕ → DueRow → List ℕ
  entry_at place due = entry_told (Export form stamp) court h place due

  entries_append : (place : ℕ) (xs ys : List DueRow) → entries_from place (xs ++ ys) ≡ entries_from place xs ++ entries_from (place + length xs) ys
  entries_append place [] ys = let same : place ≡ place + 0 = omega arith in ap (λ k. entries_from k ys) same
  entries_append place (x ∷ xs) ys =
      let next : place + 1 + length xs ≡ place + suc (length xs) = omega arith in
      ap (λ l. entry_at place x ++ l) (entries_append (place + 1) xs ys ∙ ap (λ k. entries_from (place + 1) xs ++ entries_from k ys) next)
      ∙ sym (append_assoc (entry_at place x) (entries_from (place + 1) xs) (entries_from (place + suc (length xs)) ys))

  -- and one more
  entry_added : (dues : List DueRow) (n : ℕ) (due : DueRow) → n < length dues → due ≡ get_or dues n due → entries_from 0 (take (n + 1) dues) ≡ entries_from 0 (take n dues) ++ entry_at n due
  entry_added dues n due inside is =
      let next : n + 1 ≡ suc n = omega arith in
      let many : 0 + length (take n dues) ≡ n = omega (arith, length-take-le n dues (omega (arith, inside))) in
      let taken : take (n + 1) dues ≡ take n dues ++ due ∷ [] =
      ap (λ (k : ℕ). take k dues) next ∙ take-suc dues n due inside ∙ ap (λ (x : DueRow). take n dues ++ x ∷ []) (sym is) in
      ap (entries_from 0) taken ∙ entries_append 0 (take n dues) (due ∷ [])
      ∙ ap (λ k. entries_from 0 (take n dues) ++ (entry_at k due ++ [])) many
      ∙ ap (λ l. entries_from 0 (take n dues) ++ l) (append-nil (entry_at n due))

one_more : (form : DueForm) (court : CourtSettings) (h : History) (dues : List DueRow) (n : ℕ) (due : DueRow) → n < length dues → due ≡ get_or dues n due
    → dues_told form court h (take (n + 1) dues) ≡ dues_told form court h (take n dues) ++ entry_told form court h n due
one_more (Page list day) court h dues n due inside is = each_added (entry_told (Page list day) court h 0) dues n due inside is
one_more Calendar court h dues n due inside is = each_added (entry_told Calendar court h 0) dues n due inside is
one_more Long court h dues n due inside is = each_added (entry_told Long court h 0) dues n due inside is
one_more (Export form stamp) court h dues n due inside is = entry_added form stamp court h dues n due inside is

-- one more deadline behind a text, by the court that the docket had before
pub due_added : (form : DueForm) (h : History) (now was : CourtSettings) (dues : List DueRow) (n : ℕ) (due : DueRow) → n < length dues → due ≡ get_or dues n due
    → (first before text : List ℕ) → now ≡ was → before ≡ first ++ dues_told form was h (take n dues) → text ≡ before ++ entry_told form now h n due
    → text ≡ first ++ dues_told form was h (take (n + 1) dues)
due_added form h now was dues n due inside is first before text kept so_far next =
    next
    ∙ ap (λ (court : CourtSettings). before ++ entry_told form court h n due) kept
    ∙ ap (λ (texts : List ℕ). texts ++ entry_told form was h n due) so_far
    ∙ append_assoc first (dues_told form was h (take n dues)) (entry_told form was h n due)
    ∙ ap (λ (texts : List ℕ). first ++ texts) (sym (one_more form was h dues n due inside is))

none_told_yet : (form : DueForm) (court : CourtSettings) (h : History) → dues_told form court h [] ≡ []
none_told_yet (Page list day) court h = refl
none_told_yet Calendar court h = refl
none_told_yet Long court h = refl
none_told_yet (Export form stamp) court h = refl

-- none of them yet, and all of them
pub no_dues : (form : DueForm) (court : CourtSettings) (h : History) (text : List ℕ) → text ≡ text ++ dues_told form court h []
no_dues form court h text = sym (append-nil text) ∙ ap (λ (texts : List ℕ). text ++ texts) (sym (none_told_yet form court h))

pub all_dues : (form : DueForm) (court : CourtSettings) (h : History) (dues : List DueRow) (n : ℕ) (first : List ℕ) → n ≡ length dues
    → first ++ dues_told form court h (take n dues) ≡ first ++ dues_told form court h dues
all_dues form court h dues n first all =
    ap (λ (k : ℕ). first ++ dues_told form court h (take k dues)) all
    ∙ ap (λ (some : List DueRow). first ++ dues_told form court h some) (take-length dues)

-- a deadline behind a text, by the case that was asked for, and the courts that the docket had
pub entry_is : (form : DueForm) (h : History) (now mid was : CourtSettings) (place : ℕ) (due : DueRow) (number : ℕ) (case : CaseRow) (parties : List PartyRow) (reasons entry before text : List ℕ)
    → mid ≡ was → now ≡ mid → number ≡ due.case → case ≡ case_of (case_rows h) number → parties ≡ parties_of_case number (party_rows h) → reasons ≡ reasons_in form mid h due
    → entry ≡ entry_of form now place due case (name_of (party_at parties due.party)) reasons → text ≡ before ++ entry → text ≡ before ++ entry_told form was h place due
entry_is form h now mid was place due number case parties reasons entry before text kept still same is are why told more =
    more
    ∙ ap (λ (line : List ℕ). before ++ line) (
    told
    ∙ ap (λ (court : CourtSettings). entry_of form court place due case (name_of (party_at parties due.party)) reasons) (still ∙ kept)
    ∙ ap (λ (c : CaseRow). entry_of form was place due c (name_of (party_at parties due.party)) reasons) (is ∙ ap (λ (n : ℕ). case_of (case_rows h) n) same)
    ∙ ap (λ (all : List PartyRow). entry_of form was place due (case_of (case_rows h) due.case) (name_of (party_at all due.party)) reasons)
    (are ∙ ap (λ (n : ℕ). parties_of_case n (party_rows h)) same)
    ∙ ap (λ (texts : List ℕ). entry_of form was place due (case_of (case_rows h) due.case) (name_in h due) texts) (why ∙ ap (λ (court : CourtSettings). reasons_in form court h due) kept))

-- the head, the deadlines and the foot, by the court that the docket had before
pub text_is : (form : DueForm) (h : History) (now was : CourtSettings) (from to : ℕ) (dues : List DueRow) (start rows end text : List ℕ)
    → now ≡ was → start ≡ head_of form now from to → rows ≡ start ++ dues_told form was h dues → end ≡ foot_of form from to (length dues) → text ≡ rows ++ end
    → text ≡ text_between form was h from to dues
text_is form h now was from to dues start rows end text kept first then last all =
    all
    ∙ ap (λ t. t ++ end) (then ∙ ap (λ t. t ++ dues_told form was h dues) (first ∙ ap (λ (court : CourtSettings). head_of form court from to) kept))
    ∙ ap (λ t. (head_of form was from to ++ dues_told form was h dues) ++ t) last
    ∙ append_assoc (head_of form was from to) (dues_told form was h dues) (foot_of form from to (length dues))

in_form : (form : DueForm) (court : CourtSettings) (h : History) (from to : ℕ) → text_between form court h from to (calendar_rows court h from to) ≡ text_of_days court h from to form
in_form (Page list day) court h from to = refl
in_form Calendar court h from to = refl
in_form Long court h from to = refl
in_form (Export form stamp) court h from to = refl

-- of the deadlines of the days
pub of_days : (form : DueForm) (h : History) (now was : CourtSettings) (days given : ℕ × ℕ) (dues listed : List DueRow) (text : List ℕ)
    → now ≡ was → days ≡ given → dues ≡ listed → listed ≡ calendar_rows was h days.0 days.1 → text ≡ text_between form now h days.0 days.1 dues
    → text ≡ text_of_days was h given.0 given.1 form
of_days form h now was days given dues listed text kept are same found told =
    told
    ∙ ap (λ (court : CourtSettings). text_between form court h days.0 days.1 dues) kept
    ∙ ap (λ (rows : List DueRow). text_between form was h days.0 days.1 rows) (same ∙ found)
    ∙ in_form form was h days.0 days.1
    ∙ ap (λ (d : ℕ × ℕ). text_of_days was h d.0 d.1 form) are
