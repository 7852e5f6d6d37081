-- The cases that are listed or found, the newest first.
use Rattle.std.specs.Prelude.{ℕ, Bool, true, ◌||◌, List, [], ◌∷◌, length, map, take, filter, reverse, bytes_eq, nat_lt, Option, Some, None}
use Rattle.std.specs.Char.{to_ascii_lowercase}
use Rattle.std.specs.List.{flat_map, list_any}
use Rattle.docket_history.specs.Histories.{History, case_rows, parties_of_case, party_rows}
use Rattle.docket_history.specs.Records.{case_labelled}
use Rattle.docket_history.specs.declared.row.CaseRow.{CaseRow}
use Rattle.docket_text.specs.CaseLists.{case_list_line}
use Rattle.html_sheets.specs.Sites.{search_page}

-- the bytes begin with the part
abbrev pub begins : List ℕ → List ℕ → Bool
begins part bytes = bytes_eq (take (length part) bytes) part

-- the part is somewhere in the bytes
abbrev pub holds : List ℕ → List ℕ → Bool
holds part [] = begins part []
holds part (byte ∷ bytes) = begins part (byte ∷ bytes) || holds part bytes

-- the text with small letters for the capital letters of ASCII
abbrev pub folded : List ℕ → List ℕ
folded text = map to_ascii_lowercase text

-- the text contains the words, without regard to the case of ASCII letters
abbrev pub has_words : List ℕ → List ℕ → Bool
has_words text words = holds (folded words) (folded text)

-- a line for each case, if there is one
abbrev pub lines_found : List CaseRow → Option (List ℕ)
lines_found [] = None
lines_found (case ∷ cases) = Some (flat_map case_list_line (case ∷ cases))

module _ (h : History) where
  -- the caption of the case, or the name of one of its parties, contains the words
  abbrev pub is_found : List ℕ → CaseRow → Bool
  is_found words case =
      has_words case.caption words || list_any (λ party. has_words party.name words) (parties_of_case case.number (party_rows h))

  -- any case is wanted where no words are given
  abbrev pub is_wanted : Option (List ℕ) → CaseRow → Bool
  is_wanted None case = true
  is_wanted (Some words) case = is_found words case

  -- the wanted cases with numbers up to the last one
  abbrev pub newest_cases : Option (List ℕ) → ℕ → List CaseRow
  newest_cases words last = filter (is_wanted words) (reverse (take last (case_rows h)))

  -- a case with that label alone, or those that contain the words
  abbrev pub found_else : List CaseRow → Option CaseRow → List CaseRow
  found_else others (Some case) = case ∷ []
  found_else others None = others

  abbrev pub found_cases : List ℕ → List CaseRow
  found_cases words = found_else (newest_cases (Some words) (length (case_rows h))) (case_labelled (case_rows h) words)

  -- the page on a day of at most a hundred of them, which says whether there are more
  abbrev pub page_of_search : List ℕ → ℕ → List ℕ
  page_of_search words day = search_page words (take 100 (found_cases words)) (nat_lt 100 (length (found_cases words))) day

  -- the lines of all of them
  abbrev pub text_of_found : List ℕ → Option (List ℕ)
  text_of_found words = lines_found (found_cases words)
