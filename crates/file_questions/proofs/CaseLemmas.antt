-- What one case more adds to a list of cases, and which cases a label leaves.
use Rattle.std.proofs.Common.{◌≡◌, ◌∙◌, ℕ, ◌+◌, ◌≤◌, zero, suc, ◌&&◌, Bool, true, false, List, [], ◌∷◌, ◌++◌, length, take, drop, filter, Option, Some, None, Ok, Err, refl, sym, ap, ap₂, subst, arith, append-nil, append_assoc, length-append, take-append-drop, cond}
use Rattle.std.proofs.KnownBytes.{Appends-nil, Appends-trans}
use Rattle.std.proofs.Math.Seq.{take-suc}
use Rattle.std.proofs.lemmas.Grind.{flat_map-append}
use Rattle.std.proofs.lemmas.List.{take_all}
use Rattle.std.proofs.lemmas.List.Elements.{filter-append}
use Rattle.std.proofs.lemmas.Option.{slice_get_within, get_or_from_slice_get}
use Rattle.std.specs.Io.KnownBytes.{Appends}
use Rattle.std.specs.Prelude.{bytes_eq, slice_get}
use Rattle.court_days.specs.Court.{CourtSettings}
use Rattle.docket_history.specs.Histories.{History, case_rows}
use Rattle.docket_decisions.specs.Outcomes.{IsHistory}
use Rattle.docket_decisions.proofs.LimitsKept.{within_limits}
use Rattle.docket_orderly.proofs.LabelLemmas.{one_case}
use Rattle.docket_history.specs.Records.{case_at, case_labelled}
use Rattle.docket_history.specs.declared.row.CaseRow.{CaseRow}
use Rattle.docket_applying.specs.declared.listing.CalendarEnd.{CalendarEnd}
use Rattle.docket_text.specs.CaseLists.{case_list_line}
use Rattle.line_io.specs.Output.{AppendsFront, HasFront}
use Rattle.file_questions.specs.CaseLists.{GoesOut, case_lines, cases_told, has_party}

-- those of the cases that have such a party
abbrev pub with_party : History → Option (List ℕ) → List CaseRow → List CaseRow
with_party h part rows = filter (λ row. has_party h part row.number) rows

lines_join : (xs ys : List CaseRow) → case_lines (xs ++ ys) ≡ case_lines xs ++ case_lines ys
lines_join xs ys = flat_map-append case_list_line xs ys

-- nothing went out yet
pub nothing_out : (known : Option (List ℕ)) → GoesOut [] known known (Ok 0)
nothing_out known = (Appends-nil known, refl)

module _ (before now : Option (List ℕ)) (xs : List CaseRow) (n : ℕ) (out : GoesOut xs before now (Ok n)) where
  -- no more goes out
  pub front_out : (zs : List CaseRow) (end : CalendarEnd) → GoesOut (xs ++ zs) before now (Err end)
  front_out zs end = record { out = case_lines xs; lost = case_lines zs; whole = lines_join xs zs; appends = out.0 }

  -- more goes out
  pub more_out : (after : Option (List ℕ)) (ys : List CaseRow) (k : ℕ) → GoesOut ys now after (Ok k) → GoesOut (xs ++ ys) before after (Ok (n + k))
  more_out after ys k more = (
    subst (Appends before after) (sym (lines_join xs ys)) (Appends-trans before now after (case_lines xs) (case_lines ys) out.0 more.0),
    ap₂ (λ (a b : ℕ). a + b) out.1 more.1 ∙ sym (length-append xs ys),
  )

  -- a prefix of more goes out
  pub less_out : (after : Option (List ℕ)) (ys zs : List CaseRow) (end : CalendarEnd) → GoesOut ys now after (Err end) → GoesOut (xs ++ (ys ++ zs)) before after (Err end)
  less_out after ys zs end front = record {
    out = case_lines xs ++ front.out;
    lost = front.lost ++ case_lines zs;
    whole = lines_join xs (ys ++ zs)
        ∙ ap (λ l. case_lines xs ++ l) (lines_join ys zs ∙ ap (λ l. l ++ case_lines zs) front.whole ∙ append_assoc front.out front.lost (case_lines zs))
        ∙ sym (append_assoc (case_lines xs) front.out (front.lost ++ case_lines zs));
    appends = Appends-trans before now after (case_lines xs) front.out out.0 front.appends;
  }

-- the case of the next number
next_case : (rows : List CaseRow) (n : ℕ) → case_at rows (n + 1) ≡ slice_get rows n
next_case rows n = let next : n + 1 ≡ suc n = omega arith in ap (case_at rows) next

past : (rows : List CaseRow) (n : ℕ) → slice_get rows n ≡ None → length rows ≤ n
past [] n none = omega arith
past (row ∷ rows) zero none = absurd (cc)
past (row ∷ rows) (suc n) none = omega (arith, past rows n none)

-- there is none where all cases were taken
pub no_case : (rows : List CaseRow) (n : ℕ) → case_at rows (n + 1) ≡ None → take n rows ≡ rows
no_case rows n none =
    let over : length rows ≤ n = past rows n (sym (next_case rows n) ∙ none) in
    take_all n rows over

taken : (rows : List CaseRow) (n : ℕ) (row : CaseRow) → case_at rows (n + 1) ≡ Some row → take (n + 1) rows ≡ take n rows ++ row ∷ []
taken rows n row is =
    let got : slice_get rows n ≡ Some row = sym (next_case rows n) ∙ is in
    let next : n + 1 ≡ suc n = omega arith in
    ap (λ (k : ℕ). take k rows) next ∙ take-suc rows n row (slice_get_within rows n row got) ∙ ap (λ (x : CaseRow). take n rows ++ x ∷ []) (get_or_from_slice_get rows n row row got)

module _ (h : History) (part : Option (List ℕ)) (rows : List CaseRow) where
  joined : (xs ys : List CaseRow) → with_party h part (xs ++ ys) ≡ with_party h part xs ++ with_party h part ys
  joined xs ys = filter-append (λ row. has_party h part row.number) xs ys

  -- those before a place, and those from there on
  pub parted : (n : ℕ) → with_party h part rows ≡ with_party h part (take n rows) ++ with_party h part (drop n rows)
  parted n = ap (with_party h part) (sym (take-append-drop n rows)) ∙ joined (take n rows) (drop n rows)

  pub one_more : (n : ℕ) (row : CaseRow) → case_at rows (n + 1) ≡ Some row
      → with_party h part (take (n + 1) rows) ≡ with_party h part (take n rows) ++ with_party h part (row ∷ [])
  one_more n row is = ap (with_party h part) (taken rows n row is) ∙ joined (take n rows) (row ∷ [])

  pub one_of : (n : ℕ) (row : CaseRow) → case_at rows (n + 1) ≡ Some row
      → with_party h part rows ≡ with_party h part (take n rows) ++ (with_party h part (row ∷ []) ++ with_party h part (drop (n + 1) rows))
  one_of n row is = parted (n + 1) ∙ ap (λ l. l ++ with_party h part (drop (n + 1) rows)) (one_more n row is) ∙ append_assoc (with_party h part (take n rows)) (with_party h part (row ∷ [])) (with_party h part (drop (n + 1) rows))

-- at most one case has a label: it is the one that is found
abbrev pub found_list : Option CaseRow → List CaseRow
found_list None = []
found_list (Some row) = row ∷ []

abbrev pub of_label : List ℕ → List CaseRow → List CaseRow
of_label label rows = filter (λ row. bytes_eq row.label label) rows

nil : (xs : List CaseRow) → length xs ≤ 0 → xs ≡ []
nil [] few = refl
nil (x ∷ xs) few = absurd (omega (arith, few))

one_if : (b : Bool) (row : CaseRow) (xs : List CaseRow) (rest : Option CaseRow) → length (cond b (row ∷ xs) xs) ≤ 1 → (length xs ≤ 1 → xs ≡ found_list rest)
    → cond b (row ∷ xs) xs ≡ found_list (cond b (Some row) rest)
one_if true row xs rest few later = ap (λ (l : List CaseRow). row ∷ l) (nil xs (omega (arith, few)))
one_if false row xs rest few later = later few

pub found_of : (label : List ℕ) (rows : List CaseRow) → length (of_label label rows) ≤ 1 → of_label label rows ≡ found_list (case_labelled rows label)
found_of label [] few = refl
found_of label (row ∷ rows) few = one_if (bytes_eq row.label label) row (of_label label rows) (case_labelled rows label) few (found_of label rows)

both_if : (b c : Bool) (row : CaseRow) (xs ys zs : List CaseRow) → xs ≡ ys → zs ≡ cond c (row ∷ ys) ys → cond (b && c) (row ∷ xs) xs ≡ cond b zs ys
both_if true true row xs ys zs same is = ap (λ (l : List CaseRow). row ∷ l) same ∙ sym is
both_if true false row xs ys zs same is = same ∙ sym is
both_if false c row xs ys zs same is = same

with_if : (h : History) (part : Option (List ℕ)) (b : Bool) (row : CaseRow) (xs : List CaseRow)
    → cond b (with_party h part (row ∷ xs)) (with_party h part xs) ≡ with_party h part (cond b (row ∷ xs) xs)
with_if h part true row xs = refl
with_if h part false row xs = refl

-- first by the label, and then by a party
pub label_first : (h : History) (label : List ℕ) (part : Option (List ℕ)) (rows : List CaseRow)
    → filter (λ row. bytes_eq row.label label && has_party h part row.number) rows ≡ with_party h part (of_label label rows)
label_first h label part [] = refl
label_first h label part (row ∷ rows) =
    both_if (bytes_eq row.label label) (has_party h part row.number) row (filter (λ row. bytes_eq row.label label && has_party h part row.number) rows)
    (with_party h part (of_label label rows)) (with_party h part (row ∷ of_label label rows)) (label_first h label part rows) refl
    ∙ with_if h part (bytes_eq row.label label) row (of_label label rows)

-- the cases of a label, by the case that is found
pub told_of_label : (court : CourtSettings) (h : History) → IsHistory court h → (label : List ℕ) (part : Option (List ℕ)) (found : Option CaseRow) → found ≡ case_labelled (case_rows h) label
    → cases_told h (Some label) part ≡ with_party h part (found_list found)
told_of_label court h history label part found is =
    label_first h label part (case_rows h)
    ∙ ap (with_party h part) (found_of label (case_rows h) (one_case court h history label) ∙ ap found_list (sym is))

-- and of all cases, where as many were taken as there may be
pub told_of_all : (court : CourtSettings) (h : History) → IsHistory court h → (part : Option (List ℕ)) (n : ℕ) → 100_000 ≤ n → cases_told h None part ≡ with_party h part (take n (case_rows h))
told_of_all court h history part n enough =
    let few = (within_limits court h history).cases in
    ap (with_party h part) (sym (take_all n (case_rows h) (omega (arith, few, enough))))

-- where only a part of the bytes went out, it is a prefix of them
pub front_of : (before after : Option (List ℕ)) (bytes wanted : List ℕ) → bytes ≡ wanted → AppendsFront before after bytes → HasFront before after wanted
front_of before after bytes wanted is front = record {
  out = take front.count bytes;
  lost = drop front.count bytes;
  whole = sym is ∙ sym (take-append-drop front.count bytes);
  appends = front.front;
}

-- a prefix of the line of a case
pub front_of_line : (before after : Option (List ℕ)) (row : CaseRow) (bytes : List ℕ) (end : CalendarEnd) → bytes ≡ case_list_line row → AppendsFront before after bytes → GoesOut (row ∷ []) before after (Err end)
front_of_line before after row bytes end is front = front_of before after bytes (case_lines (row ∷ [])) (is ∙ sym (append-nil (case_list_line row))) front
