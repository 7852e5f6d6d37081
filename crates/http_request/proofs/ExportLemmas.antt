-- A link to an export asks for that export.
use Rattle.std.proofs.Common.{◌≡◌, ℕ, ◌≤◌, ◌/◌, List, [], ◌∷◌, ◌++◌, Option, Some, None, Bool, true, false, not, ◌&&◌, cond, codes, refl, ap, ap₂, ◌∙◌, arith}
use Rattle.std.specs.Prelude.{nat_le, option_map, option_and_then}
use Rattle.std.specs.List.{list_all}
use Rattle.std.proofs.lemmas.Bool.Decides.{nat_tests}
use Rattle.civil_time.specs.Civil.{IsDayNumber, year_of, month_of, day_of_month}
use Rattle.civil_time.specs.DayText.{digit, date_text, day_text, day_of_text}
use Rattle.civil_time.proofs.DayTexts.{spells-text, day_of_text-spelled}
use Rattle.http_request.specs.declared.export.Export.{Export}
use Rattle.http_request.specs.declared.export.Export.TheVariants.{Calendar, Csv, Json}
use Rattle.http_request.specs.declared.page.Routes.{Routes}
use Rattle.http_request.specs.declared.wish.Wish.TheVariants.{Export as ExportWish}
use Rattle.http_request.specs.Days.{days_of, in_order}
use Rattle.http_request.specs.Exports.{days_asked}
use Rattle.http_request.specs.Guard.{is_foreign}
use Rattle.http_request.specs.Links.{export_path, export_target, AreShown}
use Rattle.http_request.specs.Path.{behind}
use Rattle.http_request.specs.Target.{is_question_mark, is_ampersand, path_of, query_of}
use Rattle.http_request.specs.Wish.{export_wish, path_wish, wish_of}
use Rattle.http_request.proofs.LinkLemmas.{goes_on, before_all, before_end, behind_all, behind_end, got}

-- ---- the days

digit_on : (n : ℕ) → not (is_ampersand (digit n)) ≡ true
digit_on n = grind (arith, nat_tests)

two_on : (a b : ℕ) (text : List ℕ) → list_all (goes_on is_ampersand) text ≡ true → list_all (goes_on is_ampersand) (digit a ∷ digit b ∷ text) ≡ true
two_on a b text on = ap₂ (λ (u v : Bool). u && (v && list_all (goes_on is_ampersand) text)) (digit_on a) (digit_on b) ∙ on

date_on : (year month day : ℕ) → list_all (goes_on is_ampersand) (date_text year month day) ≡ true
date_on year month day =
    let days : List ℕ = digit (day / 10) ∷ digit day ∷ [] in
    let months : List ℕ = digit (month / 10) ∷ digit month ∷ 45 ∷ days in
    let years : List ℕ = digit (year / 10) ∷ digit year ∷ 45 ∷ months in
    two_on (year / 1000) (year / 100) years
    (two_on (year / 10) year (45 ∷ months) (two_on (month / 10) month (45 ∷ days) (two_on (day / 10) day [] refl)))

-- the text of a day has no ampersand
day_on : (day : ℕ) → list_all (goes_on is_ampersand) (day_text day) ≡ true
unfolding day_text
day_on day = date_on (year_of day) (month_of day) (day_of_month day)

day_back : (day : ℕ) → IsDayNumber day → day_of_text (day_text day) ≡ Some day
day_back day is = day_of_text-spelled (day_text day) day is (spells-text day (omega (arith, is)))

not_after : (a b : ℕ) → a ≤ b → nat_le a b ≡ true
not_after a b h = grind (arith, nat_tests)

abbrev days_query : ℕ → ℕ → List ℕ
days_query from to = codes "from=" ++ (day_text from ++ (codes "&to=" ++ day_text to))

days_back : (from to : ℕ) → IsDayNumber from → IsDayNumber to → from ≤ to → days_asked (Some (days_query from to)) ≡ Some (Some (from, to))
days_back from to first last ordered =
    let more : List ℕ = codes "to=" ++ day_text to in
    let asked : Option (ℕ × ℕ) → Option (Option (ℕ × ℕ)) = λ days. option_map (λ d. Some d) days in
    ap₂ (λ (text : List ℕ) (rest : Option (List ℕ)). asked (option_and_then (λ l. days_of text l) (option_and_then (behind (codes "to=")) rest)))
    (before_end is_ampersand (day_text from) 38 more (day_on from) refl) (behind_end is_ampersand (day_text from) 38 more (day_on from) refl)
    ∙ ap₂ (λ (a b : Option ℕ). asked (in_order a b)) (day_back from first) (day_back to last)
    ∙ ap (λ v. asked (cond v (Some (from, to)) None)) (not_after from to ordered)

-- ---- the target

path_on : (form : Export) → list_all (goes_on is_question_mark) (export_path form) ≡ true
path_on Calendar = refl
path_on Csv = refl
path_on Json = refl

form_back : (fields : List (List ℕ × List ℕ)) (form : Export) (target : List ℕ) (fresh : ℕ)
    → path_wish fresh (codes "GET") target fields (behind (codes "/pages") (export_path form)) ≡ export_wish form fresh (codes "GET") (days_asked (query_of target))
form_back fields Calendar target fresh = refl
form_back fields Csv target fresh = refl
form_back fields Json target fresh = refl

-- a target of that path, and of a query that asks for those days
export_back : (fields : List (List ℕ × List ℕ)) (form : Export) (target : List ℕ) (fresh : ℕ) (query : Option (List ℕ)) (days : Option (ℕ × ℕ))
    → path_of target ≡ export_path form → query_of target ≡ query → days_asked query ≡ Some days
    → path_wish fresh (codes "GET") target fields (behind (codes "/pages") (path_of target)) ≡ ExportWish form days fresh
export_back fields form target fresh query days path asks is =
    ap (λ p. path_wish fresh (codes "GET") target fields (behind (codes "/pages") p)) path
    ∙ form_back fields form target fresh
    ∙ ap (λ q. export_wish form fresh (codes "GET") (days_asked q)) asks
    ∙ ap (export_wish form fresh (codes "GET")) is

pub days_lead : (routes : Routes) (fields : List (List ℕ × List ℕ)) (form : Export) (from to fresh : ℕ) → AreShown routes → is_foreign routes (codes "GET") fields ≡ false
    → IsDayNumber from → IsDayNumber to → from ≤ to → wish_of routes fresh (codes "GET") (export_target form from to) fields ≡ ExportWish form (Some (from, to)) fresh
days_lead routes fields form from to fresh with own first last ordered =
    let target = export_target form from to in
    let query = days_query from to in
    got routes fields target fresh _ with own
    (export_back fields form target fresh (Some query) (Some (from, to)) (before_end is_question_mark (export_path form) 63 query (path_on form) refl)
    (behind_end is_question_mark (export_path form) 63 query (path_on form) refl) (days_back from to first last ordered))

pub about_leads : (routes : Routes) (fields : List (List ℕ × List ℕ)) (form : Export) (fresh : ℕ) → AreShown routes → is_foreign routes (codes "GET") fields ≡ false
    → wish_of routes fresh (codes "GET") (export_path form) fields ≡ ExportWish form None fresh
about_leads routes fields form fresh with own =
    got routes fields (export_path form) fresh _ with own
    (export_back fields form (export_path form) fresh None None (before_all is_question_mark (export_path form) (path_on form)) (behind_all is_question_mark (export_path form) (path_on form)) refl)
