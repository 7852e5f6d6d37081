-- A link to a form asks for that form.
use Rattle.std.proofs.Common.{◌≡◌, ◌≢◌, ℕ, suc, ◌+◌, ◌<◌, ◌≤◌, ◌^◌, List, [], ◌∷◌, ◌++◌, length, length-append, append_assoc, append-nil, take, take_at, take_all, drop, get_or, Option, Some, None, Bool, true, false, not, ◌&&◌, ◌==◌, cond, codes, lt-ltb, refl, ap, ap₂, sym, ◌∙◌, arith, rules}
use Rattle.std.specs.Prelude.{nat_lt, nat_le, option_map, option_and_then}
use Rattle.std.specs.Char.{is_ascii_digit}
use Rattle.std.specs.Fmt.{decimal}
use Rattle.std.specs.List.{list_all, position_or_len, before_first, after_first}
use Rattle.std.specs.Str.Parse.{digits_value}
use Rattle.std.proofs.lemmas.Bool.{and_parts}
use Rattle.std.proofs.lemmas.Bool.Decides.{nat_tests}
use Rattle.std.proofs.lemmas.Str.Parse.{IsNumeralModel, numerals_by_value}
use Rattle.std.proofs.lemmas.Fmt.{digits_decimal, digits_value-decimal, decimal_nonempty, length-decimal-le, first_decimal}
use Rattle.docket_command.specs.Names.{command_word}
use Rattle.docket_command.specs.declared.command_name.CommandName.{CommandName}
use Rattle.docket_command.specs.declared.command_name.CommandName.TheVariants.{DeclareDay, ImportCalendar}
use Rattle.html_sheets.specs.Entering.{about_query}
use Rattle.html_sheets.specs.declared.about.About.{About}
use Rattle.html_sheets.specs.declared.about.About.TheVariants.{Nothing, Case, Party, Deadline}
use Rattle.http_request.specs.declared.page.Page.TheVariants.{Cases, Enter}
use Rattle.http_request.specs.declared.page.Routes.{Routes}
use Rattle.http_request.specs.declared.page.Routes.TheVariants.{Docket, Guarded, WithPages}
use Rattle.http_request.specs.declared.wish.Wish.{Wish}
use Rattle.http_request.specs.declared.wish.Wish.TheVariants.{Page as PageWish}
use Rattle.http_request.specs.Entries.{about_of, about_by, more_about, entered_kind, kind_page}
use Rattle.http_request.specs.Guard.{is_foreign}
use Rattle.http_request.specs.Links.{form_target, list_target, AreShown, IsNumber, HasNumbers}
use Rattle.http_request.specs.Number.{are_digits, digits_of, number_of, kept_if}
use Rattle.http_request.specs.Pages.{page_of, pages_rest}
use Rattle.http_request.specs.Path.{behind}
use Rattle.http_request.specs.Target.{is_question_mark, is_ampersand, behind_first, path_of, query_of}
use Rattle.http_request.specs.Wish.{path_wish, wish_of, page_wish}

-- ---- a text at the first byte of a kind

not_below : (a b : ℕ) → a ≡ b → nat_lt a b ≡ false
not_below a b e = grind (arith, nat_tests)

drop_past : (xs : List ℕ) (e : ℕ) (ys : List ℕ) → drop (suc (length xs)) (xs ++ e ∷ ys) ≡ ys
drop_past [] e ys = refl
drop_past (x ∷ xs) e ys = drop_past xs e ys

module _ (is_end : ℕ → Bool) where
  abbrev pub goes_on : ℕ → Bool
  goes_on b = not (is_end b)

  first_at : (xs : List ℕ) (e : ℕ) (ys : List ℕ) → list_all goes_on xs ≡ true → is_end e ≡ true → position_or_len is_end (xs ++ e ∷ ys) ≡ length xs
  first_at [] e ys none end = ap (λ v. cond (not v) (1 + position_or_len is_end ys) 0) end
  first_at (x ∷ xs) e ys none end =
      let parts = and_parts (goes_on x) (list_all goes_on xs) none in
      let step : position_or_len is_end (x ∷ xs ++ e ∷ ys) ≡ 1 + position_or_len is_end (xs ++ e ∷ ys) =
      ap (λ v. cond v (1 + position_or_len is_end (xs ++ e ∷ ys)) 0) parts.0 in
      omega (arith, step, first_at xs e ys parts.1 end)

  nowhere : (xs : List ℕ) → list_all goes_on xs ≡ true → position_or_len is_end xs ≡ length xs
  nowhere [] none = refl
  nowhere (x ∷ xs) none =
      let parts = and_parts (goes_on x) (list_all goes_on xs) none in
      let step : position_or_len is_end (x ∷ xs) ≡ 1 + position_or_len is_end xs = ap (λ v. cond v (1 + position_or_len is_end xs) 0) parts.0 in
      omega (arith, step, nowhere xs parts.1)

  pub before_end : (xs : List ℕ) (e : ℕ) (ys : List ℕ) → list_all goes_on xs ≡ true → is_end e ≡ true → before_first is_end (xs ++ e ∷ ys) ≡ xs
  before_end xs e ys none end = ap (λ n. take n (xs ++ e ∷ ys)) (first_at xs e ys none end) ∙ take_at xs (e ∷ ys) (length xs) refl

  pub behind_end : (xs : List ℕ) (e : ℕ) (ys : List ℕ) → list_all goes_on xs ≡ true → is_end e ≡ true → behind_first is_end (xs ++ e ∷ ys) ≡ Some ys
  behind_end xs e ys none end =
      let text : List ℕ = xs ++ e ∷ ys in
      let at : position_or_len is_end text ≡ length xs = first_at xs e ys none end in
      let size : length text ≡ length xs + suc (length ys) = length-append xs (e ∷ ys) in
      let below : nat_lt (position_or_len is_end text) (length text) ≡ true = lt-ltb _ _ (omega (arith, at, size)) in
      let past : position_or_len is_end text + 1 ≡ suc (length xs) = omega (arith, at) in
      ap (λ v. cond v (Some (after_first is_end text)) None) below ∙ ap (λ n. Some (drop n text)) past ∙ ap (λ rest. Some rest) (drop_past xs e ys)

  pub before_all : (xs : List ℕ) → list_all goes_on xs ≡ true → before_first is_end xs ≡ xs
  before_all xs none = take_all (position_or_len is_end xs) xs (omega (arith, nowhere xs none))

  pub behind_all : (xs : List ℕ) → list_all goes_on xs ≡ true → behind_first is_end xs ≡ None
  behind_all xs none = ap (λ v. cond v (Some (after_first is_end xs)) None) (not_below _ _ (nowhere xs none))

-- ---- a number in digits

own : IsNumeralModel (λ ds. list_all is_ascii_digit ds ≡ true) (digits_value 10)
own = numerals_by_value _ (search rules)

all_digits : (n : ℕ) → IsNumber n → list_all is_ascii_digit (decimal n) ≡ true
all_digits n is = digits_decimal own n (omega (arith, is.1))

digit_goes_on : (b : ℕ) → is_ascii_digit b ≡ true → not (is_ampersand b) ≡ true
digit_goes_on b d = grind (arith, nat_tests)

digits_go_on : (ds : List ℕ) → list_all is_ascii_digit ds ≡ true → list_all (goes_on is_ampersand) ds ≡ true
digits_go_on [] d = refl
digits_go_on (b ∷ ds) d =
    let parts = and_parts (is_ascii_digit b) (list_all is_ascii_digit ds) d in
    ap₂ (λ (u v : Bool). u && v) (digit_goes_on b parts.0) (digits_go_on ds parts.1)

number_goes_on : (n : ℕ) → IsNumber n → list_all (goes_on is_ampersand) (decimal n) ≡ true
number_goes_on n is = digits_go_on (decimal n) (all_digits n is)

digits_back : (n : ℕ) → IsNumber n → digits_of (decimal n) ≡ Some n
digits_back n is =
    let fits : n < 2 ^ 64 = omega (arith, is.1) in
    let some : 0 < length (decimal n) = decimal_nonempty n fits in
    let short : length (decimal n) ≤ 10 = length-decimal-le 10 n (omega arith) (omega (arith, is.1)) fits in
    let digits : list_all is_ascii_digit (decimal n) ≡ true = all_digits n is in
    let read : are_digits (decimal n) ≡ true = grind (arith, nat_tests) in
    rw read (ap (λ m. Some m) (digits_value-decimal own n fits))

kept : (first n : ℕ) → 48 < first → n < 2 ^ 32 → (not (first == 48) && nat_le n 4294967295) ≡ true
kept first n low high = grind (arith, nat_tests)

number_back : (n : ℕ) → IsNumber n → number_of (decimal n) ≡ Some n
number_back n is =
    let first : ℕ = get_or (decimal n) 0 0 in
    ap (kept_if (λ m. not (first == 48) && nat_le m 4294967295)) (digits_back n is)
    ∙ ap (λ v. cond v (Some n) None) (kept first n (first_decimal n is.0 (omega (arith, is.1))) is.1)

-- ---- the query

abbrev query_about : About → Option (List ℕ)
query_about about = option_map (λ text. text) (behind (codes "?") (about_query about))

with_more : (n : ℕ) (more : List ℕ) → IsNumber n → about_of (Some (codes "case=" ++ (decimal n ++ 38 ∷ more))) ≡ more_about n more
with_more n more is =
    let none = number_goes_on n is in
    ap₂ (λ (t : List ℕ) (m : Option (List ℕ)). about_by (number_of t) m) (before_end is_ampersand (decimal n) 38 more none refl) (behind_end is_ampersand (decimal n) 38 more none refl)
    ∙ ap (λ c. option_and_then (λ k. more_about k more) c) (number_back n is)

about_back : (about : About) → HasNumbers about → about_of (query_about about) ≡ Some about
about_back Nothing is = refl
about_back (Case case) is =
    let none = number_goes_on case is in
    ap₂ (λ (t : List ℕ) (m : Option (List ℕ)). about_by (number_of t) m) (before_all is_ampersand (decimal case) none) (behind_all is_ampersand (decimal case) none)
    ∙ ap (λ n. option_map Case n) (number_back case is)
about_back (Party case party) is = with_more case (codes "party=" ++ decimal party) is.0 ∙ ap (λ n. option_map (λ p. Party case p) n) (number_back party is.1)
about_back (Deadline case deadline) is = with_more case (codes "deadline=" ++ decimal deadline) is.0 ∙ ap (λ n. option_map (λ d. Deadline case d) n) (number_back deadline is.1)

-- ---- the target

abbrev form_path : CommandName → List ℕ
form_path kind = codes "/pages/enter/" ++ command_word kind

word_goes_on : (kind : CommandName) → list_all (goes_on is_question_mark) (form_path kind) ≡ true
word_goes_on DeclareDay = refl
word_goes_on _ = refl

joined : (kind : CommandName) (query : List ℕ) → codes "/pages/enter/" ++ (command_word kind ++ query) ≡ form_path kind ++ query
joined kind query = sym (append_assoc (codes "/pages/enter/") (command_word kind) query)

path_alone : (kind : CommandName) → path_of (form_target kind Nothing) ≡ form_path kind
path_alone kind = ap path_of (joined kind [] ∙ append-nil (form_path kind)) ∙ before_all is_question_mark (form_path kind) (word_goes_on kind)

query_alone : (kind : CommandName) → query_of (form_target kind Nothing) ≡ None
query_alone kind = ap query_of (joined kind [] ∙ append-nil (form_path kind)) ∙ behind_all is_question_mark (form_path kind) (word_goes_on kind)

path_before : (kind : CommandName) (query : List ℕ) → path_of (codes "/pages/enter/" ++ (command_word kind ++ 63 ∷ query)) ≡ form_path kind
path_before kind query = ap path_of (joined kind (63 ∷ query)) ∙ before_end is_question_mark (form_path kind) 63 query (word_goes_on kind) refl

query_behind : (kind : CommandName) (query : List ℕ) → query_of (codes "/pages/enter/" ++ (command_word kind ++ 63 ∷ query)) ≡ Some query
query_behind kind query = ap query_of (joined kind (63 ∷ query)) ∙ behind_end is_question_mark (form_path kind) 63 query (word_goes_on kind) refl

path_is : (kind : CommandName) (about : About) → path_of (form_target kind about) ≡ form_path kind
path_is kind Nothing = path_alone kind
path_is kind (Case case) = path_before kind _
path_is kind (Party case party) = path_before kind _
path_is kind (Deadline case deadline) = path_before kind _

query_is : (kind : CommandName) (about : About) → query_of (form_target kind about) ≡ query_about about
query_is kind Nothing = query_alone kind
query_is kind (Case case) = query_behind kind _
query_is kind (Party case party) = query_behind kind _
query_is kind (Deadline case deadline) = query_behind kind _

-- ---- the page

kind_back : (kind : CommandName) → kind ≢ ImportCalendar → entered_kind (command_word kind) ≡ Some kind
kind_back ImportCalendar other = absurd (other refl)
kind_back _ other = refl

page_back : (kind : CommandName) (about : About) → kind ≢ ImportCalendar → HasNumbers about
    → page_of (codes "/enter/" ++ command_word kind) (query_about about) ≡ Some (Some (Enter kind about))
page_back kind about other is =
    ap (λ k. option_map (λ named. kind_page named (about_of (query_about about))) k) (kind_back kind other)
    ∙ ap (λ a. Some (kind_page kind a)) (about_back about is)

wish_back : (fields : List (List ℕ × List ℕ)) (kind : CommandName) (about : About) (fresh : ℕ) → kind ≢ ImportCalendar → HasNumbers about
    → path_wish fresh (codes "GET") (form_target kind about) fields (behind (codes "/pages") (path_of (form_target kind about))) ≡ PageWish (Enter kind about) fresh
wish_back fields kind about fresh other is =
    ap (λ path. path_wish fresh (codes "GET") (form_target kind about) fields (behind (codes "/pages") path)) (path_is kind about)
    ∙ ap (λ query. page_wish fresh (codes "GET") (page_of (codes "/enter/" ++ command_word kind) query)) (query_is kind about)
    ∙ ap (page_wish fresh (codes "GET")) (page_back kind about other is)

shown : (routes : Routes) (path : List ℕ) → AreShown routes → pages_rest routes path ≡ behind (codes "/pages") path
shown Docket path with = absurd with
shown (Guarded origins) path with = absurd with
shown (WithPages origins) path with = refl

-- what is asked for by a target that is got, where it is let through
pub got : (routes : Routes) (fields : List (List ℕ × List ℕ)) (target : List ℕ) (fresh : ℕ) (wish : Wish) → AreShown routes → is_foreign routes (codes "GET") fields ≡ false
    → path_wish fresh (codes "GET") target fields (behind (codes "/pages") (path_of target)) ≡ wish → wish_of routes fresh (codes "GET") target fields ≡ wish
got routes fields target fresh wish with own is = rw own (ap (path_wish fresh (codes "GET") target fields) (shown routes (path_of target) with) ∙ is)

pub leads : (routes : Routes) (fields : List (List ℕ × List ℕ)) (kind : CommandName) (about : About) (fresh : ℕ) → AreShown routes → is_foreign routes (codes "GET") fields ≡ false
    → kind ≢ ImportCalendar → HasNumbers about → wish_of routes fresh (codes "GET") (form_target kind about) fields ≡ PageWish (Enter kind about) fresh
leads routes fields kind about fresh with own other is = got routes fields (form_target kind about) fresh _ with own (wish_back fields kind about fresh other is)

-- ---- the lists of cases

abbrev before_query : ℕ → List ℕ
before_query number = codes "before=" ++ decimal number

list_back : (fields : List (List ℕ × List ℕ)) (number fresh : ℕ) → IsNumber number
    → path_wish fresh (codes "GET") (list_target number) fields (behind (codes "/pages") (path_of (list_target number))) ≡ PageWish (Cases (Some number)) fresh
list_back fields number fresh is =
    ap (λ path. path_wish fresh (codes "GET") (list_target number) fields (behind (codes "/pages") path)) (before_end is_question_mark (codes "/pages/cases") 63 (before_query number) refl refl)
    ∙ ap (λ query. page_wish fresh (codes "GET") (page_of (codes "/cases") query)) (behind_end is_question_mark (codes "/pages/cases") 63 (before_query number) refl refl)
    ∙ ap (λ n. page_wish fresh (codes "GET") (Some (option_map (λ k. Cases (Some k)) n))) (number_back number is)

pub list_leads : (routes : Routes) (fields : List (List ℕ × List ℕ)) (number fresh : ℕ) → AreShown routes → is_foreign routes (codes "GET") fields ≡ false
    → IsNumber number → wish_of routes fresh (codes "GET") (list_target number) fields ≡ PageWish (Cases (Some number)) fresh
list_leads routes fields number fresh with own is = got routes fields (list_target number) fresh _ with own (list_back fields number fresh is)
