-- Rows of tables and other pieces, as they are written: what they hold, separated by tags.
use Rattle.std.proofs.Common.{◌≡◌, ℕ, List, [], ◌∷◌, ◌++◌, length, append_assoc, refl, sym, ap, ap₂, ◌∙◌, arith}
use Rattle.std.specs.Prelude.{codes}
use Rattle.docket_history.specs.declared.row.CaseRow.{CaseRow}
use Rattle.html_sheets.specs.Elements.{element, link, nav, weekday_told, cell, number_cell, head_cell, row}
use Rattle.html_sheets.specs.Sheets.{said}
use Rattle.html_sheets.specs.Sites.{more_nav, found_told}
use Rattle.html_sheets.specs.Weeks.{end_cells}

-- an element and what follows
pub element-then : (name attributes content rest : List ℕ)
    → element name attributes content ++ rest ≡ 60 ∷ (name ++ (attributes ++ (62 ∷ (content ++ (codes "</" ++ (name ++ 62 ∷ rest))))))
unfolding element
element-then name attributes content rest = simp append_assoc refl

element-alone : (name attributes content : List ℕ)
    → element name attributes content ≡ 60 ∷ (name ++ (attributes ++ (62 ∷ (content ++ (codes "</" ++ (name ++ 62 ∷ []))))))
unfolding element
element-alone name attributes content = refl

pub case_parts : (link label filed caption : List ℕ)
    → codes "<tr><th scope=\"row\" class=\"number\">" ++ (link ++ (codes "</th><td>" ++ (label ++ (codes "</td><td>" ++ (filed ++ (codes "</td><td>" ++ (caption ++ codes "</td></tr>\n")))))))
    ≡ row (head_cell link ++ (cell label ++ (cell filed ++ cell caption)))
case_parts link label filed caption = simp (append_assoc, element-then) refl

-- of an entry
pub three_parts : (number first second : List ℕ)
    → codes "<tr><th scope=\"row\" class=\"number\">" ++ (number ++ (codes "</th><td>" ++ (first ++ (codes "</td><td>" ++ (second ++ codes "</td></tr>\n")))))
    ≡ row (head_cell number ++ (cell first ++ cell second))
three_parts number first second = simp (append_assoc, element-then) refl

pub party_parts : (number role name serve : List ℕ)
    → codes "<tr><th scope=\"row\" class=\"number\">" ++ (number ++ (codes "</th><td>" ++ (role ++ (codes "</td><td>" ++ (name ++ (serve ++ codes "</td></tr>\n"))))))
    ≡ row (head_cell number ++ (cell role ++ cell (name ++ serve)))
party_parts number role name serve = simp (append_assoc, element-then) refl

pub calendar_parts : (number item name : List ℕ)
    → codes "<tr><th scope=\"row\" class=\"number\">" ++ (number ++ (codes "</th><td class=\"number\">" ++ (item ++ (codes "</td><td>" ++ (name ++ codes "</td></tr>\n")))))
    ≡ row (head_cell number ++ (number_cell item ++ cell name))
calendar_parts number item name = simp (append_assoc, element-then) refl

pub deadline_parts : (number party name rule standing : List ℕ)
    → codes "<tr><th scope=\"row\" class=\"number\">" ++ (number ++ (codes "</th><td>" ++ (party ++ (codes " " ++ (name ++ (codes "</td><td>" ++ (rule ++ (codes "</td><td class=\"number\">" ++ (standing ++ codes "</td></tr>\n")))))))))
    ≡ row (head_cell number ++ (cell (party ++ (codes " " ++ name)) ++ (cell rule ++ number_cell standing)))
deadline_parts number party name rule standing = simp (append_assoc, element-then) refl

-- what is shown of a case
pub said_parts : (number label caption filed : List ℕ)
    → codes "<dl>\n<dt>Case</dt><dd>" ++ (number ++ (codes "</dd>\n<dt>Docket number</dt><dd>" ++ (label ++ (codes "</dd>\n<dt>Caption</dt><dd>" ++ (caption ++ (codes "</dd>\n<dt>Filed</dt><dd>" ++ (filed ++ codes "</dd>\n</dl>\n")))))))
    ≡ codes "<dl>\n" ++ (said (codes "Case") number ++ (said (codes "Docket number") label ++ (said (codes "Caption") caption ++ (said (codes "Filed") filed ++ codes "</dl>\n"))))
said_parts number label caption filed = simp (append_assoc, element-then) refl

end_front : (day time last : List ℕ)
    → codes "<th scope=\"row\" class=\"number\">" ++ (day ++ (codes "</th><td class=\"number\">" ++ (time ++ (codes "</td>" ++ last))))
    ≡ head_cell day ++ (number_cell time ++ last)
end_front day time last = simp element-then refl

pub end_parts : (day : ℕ) (time closing : List ℕ)
    → codes "<th scope=\"row\" class=\"number\">" ++ (weekday_told day ++ (codes "</th><td class=\"number\">" ++ (time ++ (codes "</td><td class=\"number\">" ++ (closing ++ codes "</td>")))))
    ≡ end_cells day time closing
end_parts day time closing =
    let front = λ (last : List ℕ). codes "<th scope=\"row\" class=\"number\">" ++ (weekday_told day ++ (codes "</th><td class=\"number\">" ++ (time ++ (codes "</td>" ++ last)))) in
    let parted : front (number_cell closing) ≡ end_cells day time closing = end_front (weekday_told day) time (number_cell closing) in
    ap front (sym (element-alone (codes "td") (codes " class=\"number\"") closing)) ∙ parted

cells_front : (end case label number last : List ℕ)
    → end ++ (codes "<td class=\"number\">" ++ (case ++ (codes "</td><td class=\"number\">" ++ (label ++ (codes "</td><td class=\"number\">" ++ (number ++ (codes "</td>" ++ last)))))))
    ≡ end ++ (number_cell case ++ (number_cell label ++ (number_cell number ++ last)))
cells_front end case label number last = simp element-then refl

-- the cells of what is due
pub cells_parts : (end case label number rule : List ℕ)
    → end ++ (codes "<td class=\"number\">" ++ (case ++ (codes "</td><td class=\"number\">" ++ (label ++ (codes "</td><td class=\"number\">" ++ (number ++ (codes "</td><td>" ++ (rule ++ codes "</td>"))))))))
    ≡ end ++ (number_cell case ++ (number_cell label ++ (number_cell number ++ cell rule)))
cells_parts end case label number rule =
    let front = λ (last : List ℕ). end ++ (codes "<td class=\"number\">" ++ (case ++ (codes "</td><td class=\"number\">" ++ (label ++ (codes "</td><td class=\"number\">" ++ (number ++ (codes "</td>" ++ last))))))) in
    ap front (sym (element-alone (codes "td") [] rule)) ∙ cells_front end case label number (cell rule)

-- and its row, with the number of a party, and with its name too
pub due_parts : (cells party caption : List ℕ)
    → codes "<tr>" ++ (cells ++ (codes "<td class=\"number\">" ++ (party ++ (codes "</td><td>" ++ (caption ++ codes "</td></tr>\n")))))
    ≡ row (cells ++ (number_cell party ++ cell caption))
due_parts cells party caption = simp (append_assoc, element-then) refl

pub named_parts : (cells party name caption : List ℕ)
    → codes "<tr>" ++ (cells ++ (codes "<td>" ++ (party ++ (codes " " ++ (name ++ (codes "</td><td>" ++ (caption ++ codes "</td></tr>\n")))))))
    ≡ row (cells ++ (cell (party ++ (codes " " ++ name)) ++ cell caption))
named_parts cells party name caption = simp (append_assoc, element-then) refl

pub page_parts : (title style heading : List ℕ)
    → codes "<!DOCTYPE html>\n<html lang=\"en\">\n<head>\n<meta charset=\"utf-8\">\n<meta name=\"viewport\" content=\"width=device-width, initial-scale=1\">\n<title>"
    ++ (title ++ (codes "</title>\n<style>" ++ (style ++ (codes "</style>\n</head>\n<body>\n<main>\n<h1>" ++ (heading ++ codes "</h1>\n")))))
    ≡ codes "<!DOCTYPE html>\n<html lang=\"en\">\n<head>\n<meta charset=\"utf-8\">\n"
    ++ (codes "<meta name=\"viewport\" content=\"width=device-width, initial-scale=1\">\n"
    ++ (element (codes "title") [] title
    ++ (codes "\n"
    ++ (element (codes "style") [] style
    ++ (codes "\n</head>\n<body>\n<main>\n"
    ++ (element (codes "h1") [] heading ++ codes "\n"))))))
page_parts title style heading = simp element-then refl

pub days_parts : (from to head : List ℕ)
    → codes "<p>" ++ (from ++ (codes " to " ++ (to ++ (codes "</p>\n" ++ head))))
    ≡ element (codes "p") [] (from ++ (codes " to " ++ to)) ++ (codes "\n" ++ head)
days_parts from to head = simp (append_assoc, element-then) refl

pub week_parts : (from to zone weeks head : List ℕ)
    → codes "<p>" ++ (from ++ (codes " to " ++ (to ++ (codes "</p>\n" ++ (zone ++ (codes "\n" ++ (weeks ++ head)))))))
    ≡ element (codes "p") [] (from ++ (codes " to " ++ to)) ++ (codes "\n" ++ (zone ++ (codes "\n" ++ (weeks ++ head))))
week_parts from to zone weeks head = simp (append_assoc, element-then) refl

pub weeks_parts : (before after : List ℕ)
    → codes "<nav aria-label=\"Other weeks\">" ++ (before ++ (codes " " ++ (after ++ codes "</nav>\n")))
    ≡ nav (codes "Other weeks") (before ++ (codes " " ++ after)) ++ codes "\n"
weeks_parts before after = simp (append_assoc, element-then) refl

-- the links to exports
pub exports_parts : (csv json : List ℕ)
    → codes "<nav aria-label=\"Exports\"><a href=\"/pages/due.ics\">Calendar to subscribe to</a> " ++ (csv ++ (codes " " ++ (json ++ codes "</nav>\n")))
    ≡ nav (codes "Exports") (link (codes "/pages/due.ics") (codes "Calendar to subscribe to") ++ (codes " " ++ (csv ++ (codes " " ++ json)))) ++ codes "\n"
exports_parts csv json = simp (append_assoc, element-then) refl

-- the links of a list of cases: one of them, and both
pub one_more_part : (link : List ℕ)
    → codes "<nav aria-label=\"More cases\">" ++ (link ++ codes "</nav>\n") ≡ more_nav link
one_more_part link = simp element-then refl

pub two_more_parts : (earlier later : List ℕ)
    → codes "<nav aria-label=\"More cases\">" ++ (earlier ++ (codes " " ++ (later ++ codes "</nav>\n"))) ≡ more_nav (earlier ++ (codes " " ++ later))
two_more_parts earlier later = simp (append_assoc, element-then) refl

-- a text to which another is added
pub added : {old new text more last : List ℕ} → new ≡ old ++ more → old ≡ text → more ≡ last → new ≡ text ++ last
added is before behind = is ∙ ap₂ (λ (a b : List ℕ). a ++ b) before behind

-- the words of a search
pub words_parts : (words : List ℕ)
    → codes "<p>Cases found by " ++ (words ++ codes "</p>\n") ≡ element (codes "p") [] (codes "Cases found by " ++ words) ++ codes "\n"
words_parts words = simp element-then refl

-- a search that found nothing
pub none_found : (cases : List CaseRow) → length cases ≡ 0 → found_told cases ≡ codes "<p>No docket number, caption or name has these words.</p>\n"
unfolding element
none_found [] none = refl
none_found (case ∷ cases) none = absurd (omega arith)

-- links to forms, and a link back to a case
pub enter_parts : (links : List ℕ)
    → codes "<nav aria-label=\"Enter\">\n" ++ (links ++ codes "</nav>\n") ≡ nav (codes "Enter") (codes "\n" ++ links) ++ codes "\n"
enter_parts links = simp element-then refl

pub back_parts : (link : List ℕ)
    → codes "<p>Case " ++ (link ++ codes "</p>\n") ≡ element (codes "p") [] (codes "Case " ++ link) ++ codes "\n"
back_parts link = simp element-then refl

pub three_joined : (old a b c : List ℕ) → ((old ++ a) ++ b) ++ c ≡ old ++ (a ++ (b ++ c))
three_joined old a b c = simp append_assoc refl

pub five_joined : (a b c d e : List ℕ) → (((a ++ b) ++ c) ++ d) ++ e ≡ a ++ (b ++ (c ++ (d ++ e)))
five_joined a b c d e = simp append_assoc refl

pub six_joined : (a b c d e f : List ℕ) → ((((a ++ b) ++ c) ++ d) ++ e) ++ f ≡ a ++ (b ++ (c ++ (d ++ (e ++ f))))
six_joined a b c d e f = simp append_assoc refl

pub four_joined : (a b c d : List ℕ) → ((a ++ b) ++ c) ++ d ≡ a ++ (b ++ (c ++ d))
four_joined a b c d = simp append_assoc refl

pub seven_joined : (a b c d e f g : List ℕ) → (((((a ++ b) ++ c) ++ d) ++ e) ++ f) ++ g ≡ a ++ (b ++ (c ++ (d ++ (e ++ (f ++ g)))))
seven_joined a b c d e f g = simp append_assoc refl
