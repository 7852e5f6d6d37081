-- The newest cases, one after the other.
use Rattle.std.proofs.Common.{◌≡◌, ◌∙◌, ℕ, ◌+◌, ◌-◌, ◌<◌, ◌≤◌, zero, suc, Bool, true, false, cond, List, [], ◌∷◌, ◌++◌, length, take, drop, filter, get_or, Option, Some, None, refl, sym, ap, ap₂, arith, length-append, take-append-drop}
use Rattle.std.proofs.Math.Nat.{min-le_right}
use Rattle.std.proofs.Math.Seq.{take-append_seam, take-suc}
use Rattle.std.proofs.lemmas.Bool.Decides.{nat_tests}
use Rattle.std.proofs.lemmas.List.{get_or-reverse, get_or-take, length-reverse, length-take, length-take-le, take-take, take_all}
use Rattle.std.proofs.lemmas.List.Elements.{filter-append}
use Rattle.std.proofs.lemmas.List.Filters.{length-filter_both}
use Rattle.std.proofs.lemmas.Option.{get_or_from_slice_get, slice_get-get_or, slice_get_within}
use Rattle.std.specs.List.{flat_map}
use Rattle.std.specs.Prelude.{min, nat_lt, not, reverse, slice_get}
use Rattle.court_days.specs.Court.{CourtSettings}
use Rattle.docket_history.specs.Histories.{History, case_rows}
use Rattle.docket_history.specs.Records.{case_at, case_labelled}
use Rattle.docket_history.specs.declared.row.CaseRow.{CaseRow}
use Rattle.docket_decisions.specs.Outcomes.{IsHistory}
use Rattle.docket_decisions.proofs.LimitsKept.{within_limits}
use Rattle.docket_text.specs.CaseLists.{case_list_line}
use Rattle.html_sheets.specs.Sites.{cases_page, search_page}
use Rattle.docket_questions.specs.Searches.{found_cases, found_else, is_wanted, lines_found, newest_cases, page_of_search}
use Rattle.docket_questions.specs.Texts.{last_before, newer, older, page_of_cases, page_up_to}

-- the cases up to a number, from the last one on
abbrev pub backwards : List CaseRow → ℕ → List CaseRow
backwards rows last = reverse (take last rows)

count_backwards : (rows : List CaseRow) (last : ℕ) → last ≤ length rows → length (backwards rows last) ≡ last
count_backwards rows last less = length-reverse (take last rows) ∙ length-take-le last rows less

-- the case of a number is at its place
placed : (rows : List CaseRow) (last k : ℕ) (other : CaseRow) → last ≤ length rows → k < last → slice_get (backwards rows last) k ≡ case_at rows (last - k)
placed rows last k other less inside =
    let j = last - 1 - k in
    let count = length-take-le last rows less in
    let next : last - k ≡ suc j = omega (arith, inside) in
    let place : length (take last rows) - 1 - k ≡ j = omega (arith, count) in
    let within : k < length (take last rows) = omega (arith, count, inside) in
    slice_get-get_or (backwards rows last) k other (omega (arith, count_backwards rows last less, inside))
    ∙ ap Some (get_or-reverse (take last rows) k other within ∙ ap (λ (n : ℕ). get_or (take last rows) n other) place ∙ get_or-take last rows j other (omega (arith, inside)))
    ∙ sym (slice_get-get_or rows j other (omega (arith, less, inside)))
    ∙ ap (case_at rows) (sym next)

pub case_behind : (rows : List CaseRow) (last k : ℕ) → last ≤ length rows → k < last → slice_get (backwards rows last) k ≡ case_at rows (last - k)
case_behind [] last k less inside = absurd (omega (arith, less, inside))
case_behind (row ∷ rows) last k less inside = placed (row ∷ rows) last k row less inside

-- there is one
pub no_gap : {A : Type 0} (rows : List CaseRow) (last k : ℕ) → last ≤ length rows → k < last → case_at rows (last - k) ≡ None → A
no_gap rows last k less inside none = absurd (gap (backwards rows last) k (case_behind rows last k less inside ∙ none) (omega (arith, count_backwards rows last less, inside)))
  where
    gap : (xs : List CaseRow) (n : ℕ) → slice_get xs n ≡ None → n < length xs → ⊥
    gap [] n none more = omega (arith, more)
    gap (x ∷ xs) zero none more = absurd (cc)
    gap (x ∷ xs) (suc n) none more = gap xs n none (omega (arith, more))

module _ (h : History) (words : Option (List ℕ)) where
  -- the wanted ones
  abbrev wanted : List CaseRow → List CaseRow
  wanted rows = filter (is_wanted h words) rows

  -- the wanted ones of the first of them
  abbrev pub so_far : ℕ → ℕ → List CaseRow
  so_far last k = wanted (take k (backwards (case_rows h) last))

  joined : (xs ys : List CaseRow) → wanted (xs ++ ys) ≡ wanted xs ++ wanted ys
  joined xs ys = filter-append (is_wanted h words) xs ys

  one_at_most : (case : CaseRow) → length (wanted (case ∷ [])) ≤ 1
  one_at_most case = few (is_wanted h words case)
    where
      few : (b : Bool) → length (cond b (case ∷ []) []) ≤ 1
      few true = omega arith
      few false = omega arith

  -- one more is looked at
  pub one_more : (last k most : ℕ) (case : CaseRow) (found now : List CaseRow) → last ≤ length (case_rows h) → k < last → case_at (case_rows h) (last - k) ≡ Some case
      → (found ≡ so_far last k) × (length found ≤ most) → (length found ≡ most → ⊥) → now ≡ found ++ wanted (case ∷ []) → (now ≡ so_far last (k + 1)) × (length now ≤ most)
  one_more last k most case found now less inside is before lacking added =
      let rows = backwards (case_rows h) last in
      let here : slice_get rows k ≡ Some case = case_behind (case_rows h) last k less inside ∙ is in
      let next : k + 1 ≡ suc k = omega arith in
      let more : take (k + 1) rows ≡ take k rows ++ case ∷ [] =
      ap (λ (n : ℕ). take n rows) next ∙ take-suc rows k case (slice_get_within rows k case here) ∙ ap (λ (x : CaseRow). take k rows ++ x ∷ []) (get_or_from_slice_get rows k case case here) in (
        added ∙ ap (λ (xs : List CaseRow). xs ++ wanted (case ∷ [])) before.0 ∙ sym (joined (take k rows) (case ∷ [])) ∙ sym (ap wanted more),
        omega (arith, before.1, lacking, added_count, one_at_most case),
      )
    where
      added_count : length now ≡ length found + length (wanted (case ∷ []))
      added_count = ap length added ∙ length-append found (wanted (case ∷ []))

  -- as many were found as there may be
  pub enough : (last k most : ℕ) (found : List CaseRow) → found ≡ so_far last k → length found ≡ most → found ≡ take most (newest_cases h words last)
  enough last k most found is full =
      let rows = backwards (case_rows h) last in
      let rest = wanted (drop k rows) in
      is
      ∙ sym (take-append_seam (so_far last k) rest)
      ∙ ap (λ (n : ℕ). take n (so_far last k ++ rest)) (sym (ap length is) ∙ full)
      ∙ ap (take most) (sym (joined (take k rows) (drop k rows)) ∙ ap wanted (take-append-drop k rows))

  -- all were looked at
  pub all_of : (last most : ℕ) (found : List CaseRow) → last ≤ length (case_rows h) → (found ≡ so_far last last) × (length found ≤ most) → found ≡ take most (newest_cases h words last)
  all_of last most found less is =
      let rows = backwards (case_rows h) last in
      let all : found ≡ newest_cases h words last = is.0 ∙ ap wanted (take_all last rows (omega (arith, count_backwards (case_rows h) last less))) in
      all ∙ sym (take_all most (newest_cases h words last) (omega (arith, ap length all, is.1)))

-- the number of the newest case of a page is that of a case
up_to_last : (cases : ℕ) (before : Option ℕ) → last_before cases before ≤ cases
up_to_last cases None = omega arith
up_to_last cases (Some number) = min-le_right (number - 1) cases

-- the page of a list
pub paged : (court : CourtSettings) (h : History) → IsHistory court h → (before : Option ℕ) (day count last : ℕ) (cases : List CaseRow) (new old : Option ℕ) (page : List ℕ)
    → count ≡ length (case_rows h) → last ≡ last_before count before → (last ≤ length (case_rows h) → cases ≡ take 100 (newest_cases h None last))
    → (count ≤ 100_000 → new ≡ newer count last) → old ≡ older last → page ≡ cases_page cases new old day → page ≡ page_of_cases h before day
paged court h is before day count last cases new old page counted from shown above below told =
    let few : count ≤ 100_000 = omega (arith, counted, (within_limits court h is).cases) in
    let less : last ≤ length (case_rows h) = omega (arith, counted, from, up_to_last count before) in
    let last_is : last ≡ last_before (length (case_rows h)) before = from ∙ ap (λ (n : ℕ). last_before n before) counted in
    told
    ∙ ap (λ (rows : List CaseRow). cases_page rows new old day) (shown less)
    ∙ ap₂ (λ (a b : Option ℕ). cases_page (take 100 (newest_cases h None last)) a b day) (above few ∙ ap (λ (n : ℕ). newer n last) counted) below
    ∙ ap (page_up_to h day) last_is

-- a hundred of the first hundred and one
more_than : (n m : ℕ) → m ≡ min 101 n → nat_lt 100 m ≡ nat_lt 100 n
more_than n m is = grind (arith, nat_tests, is)

pub page_of_first : (h : History) (words : List ℕ) (day : ℕ) (found : List CaseRow) (page : List ℕ) → found ≡ take 101 (found_cases h words)
    → page ≡ search_page words (take 100 found) (nat_lt 100 (length found)) day → Some page ≡ Some (page_of_search h words day)
page_of_first h words day found page is told =
    let all = found_cases h words in
    let fewer : 100 ≤ 101 = omega arith in
    ap Some (
    told
    ∙ ap₂ (λ (cases : List CaseRow) (more : Bool). search_page words cases more day)
    (ap (λ (cases : List CaseRow). take 100 cases) is ∙ take-take 100 101 all fewer)
    (more_than (length all) (length found) (ap length is ∙ length-take 101 all)))

-- a case has the label
pub one_labelled : (h : History) (words : List ℕ) (most : ℕ) (case : CaseRow) (found : List CaseRow) → 1 ≤ most → found ≡ case ∷ [] → case_labelled (case_rows h) words ≡ Some case
    → found ≡ take most (found_cases h words)
one_labelled h words most case found some is label =
    is
    ∙ sym (take_all most (case ∷ []) some)
    ∙ sym (ap (λ (o : Option CaseRow). take most (found_else h (newest_cases h (Some words) (length (case_rows h))) o)) label)

-- no case has the label
pub none_labelled : (h : History) (words : List ℕ) (most count : ℕ) (found : List CaseRow) → count ≡ length (case_rows h) → case_labelled (case_rows h) words ≡ None
    → (count ≤ length (case_rows h) → found ≡ take most (newest_cases h (Some words) count)) → found ≡ take most (found_cases h words)
none_labelled h words most count found counted none is =
    is (omega (arith, counted))
    ∙ ap (λ (n : ℕ). take most (newest_cases h (Some words) n)) counted
    ∙ sym (ap (λ (case : Option CaseRow). take most (found_else h (newest_cases h (Some words) (length (case_rows h))) case)) none)

-- no more are found than there are
few_newest : (h : History) (words : List ℕ) → length (newest_cases h (Some words) (length (case_rows h))) ≤ length (case_rows h)
few_newest h words =
    let p = is_wanted h (Some words) in
    let rows = backwards (case_rows h) (length (case_rows h)) in
    omega (arith, length-filter_both p (λ case. not (p case)) (λ case. refl) rows, count_backwards (case_rows h) (length (case_rows h)) (omega arith))

few_found : (court : CourtSettings) (h : History) → IsHistory court h → (words : List ℕ) (label : Option CaseRow)
    → length (found_else h (newest_cases h (Some words) (length (case_rows h))) label) ≤ 100_000
few_found court h is words None = omega (arith, few_newest h words, (within_limits court h is).cases)
few_found court h is words (Some case) = omega arith

-- so a hundred thousand of them are all
pub all_found : (court : CourtSettings) (h : History) → IsHistory court h → (words : List ℕ) (found : List CaseRow) → found ≡ take 100_000 (found_cases h words) → found ≡ found_cases h words
all_found court h is words found taken = taken ∙ take_all 100_000 (found_cases h words) (few_found court h is words (case_labelled (case_rows h) words))

-- no lines, and some
pub no_lines : (cases : List CaseRow) → length cases ≡ 0 → None ≡ lines_found cases
no_lines [] none = refl
no_lines (case ∷ cases) none = absurd (cc)

pub some_lines : (cases : List CaseRow) → 1 ≤ length cases → Some (flat_map case_list_line cases) ≡ lines_found cases
some_lines [] some = absurd (omega (arith, some))
some_lines (case ∷ cases) some = refl
