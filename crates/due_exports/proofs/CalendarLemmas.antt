-- A whole calendar is a text of content lines.
use Rattle.std.proofs.Common.{◌≡◌, ℕ, ◌+◌, List, [], ◌∷◌, ◌++◌, ℤ, refl, sym, ap, ◌∙◌}
use Rattle.std.proofs.lemmas.List.Concat.{flat_map-append}
use Rattle.std.proofs.lemmas.List.Elements.{recursion_from_All}
use Rattle.std.specs.List.{flat_map, AllByRecursion}
use Rattle.court_days.specs.Court.{CourtSettings}
use Rattle.icalendar.specs.ContentLines.{content_line, IsLine}
use Rattle.icalendar.specs.Events.{head_lines, foot_lines}
use Rattle.icalendar.proofs.EventLemmas.{event_is_lines, head_is_lines, foot_is_lines}
use Rattle.due_exports.specs.Events.{event_uid, event_summary, event_description, due_lines}
use Rattle.due_exports.specs.Texts.{Told, entries_text, export_text, calendar_lines}
use Rattle.due_exports.specs.declared.form.Form.TheVariants.{Calendar}

abbrev told_lines : ℤ → Told → List (List ℕ)
told_lines stamp t = due_lines stamp t.0 t.1 t.2

entries-lines : (court : CourtSettings) (stamp : ℤ) (place : ℕ) (told : List Told)
    → entries_text Calendar court stamp place told ≡ flat_map content_line (flat_map (told_lines stamp) told)
entries-lines court stamp place [] = refl
entries-lines court stamp place (t ∷ told) =
    ap (λ l. flat_map content_line (told_lines stamp t) ++ l) (entries-lines court stamp (place + 1) told)
    ∙ sym (flat_map-append content_line (told_lines stamp t) (flat_map (told_lines stamp) told))

pub calendar-lines : (court : CourtSettings) (stamp : ℤ) (from to : ℕ) (told : List Told)
    → export_text Calendar court stamp from to told ≡ flat_map content_line (calendar_lines stamp told)
calendar-lines court stamp from to told =
    let events = flat_map (told_lines stamp) told in
    ap (λ l. flat_map content_line head_lines ++ (l ++ flat_map content_line foot_lines)) (entries-lines court stamp 0 told)
    ∙ ap (λ l. flat_map content_line head_lines ++ l) (sym (flat_map-append content_line events foot_lines))
    ∙ sym (flat_map-append content_line head_lines (events ++ foot_lines))

all_lines : (xs ys : List (List ℕ)) → AllByRecursion IsLine xs → AllByRecursion IsLine ys → AllByRecursion IsLine (xs ++ ys)
all_lines [] ys h k = k
all_lines (x ∷ xs) ys h k = (h.0, all_lines xs ys h.1 k)

events-are-lines : (stamp : ℤ) (told : List Told) → AllByRecursion IsLine (flat_map (told_lines stamp) told)
events-are-lines stamp [] = tt
events-are-lines stamp (t ∷ told) =
    let event = event_is_lines (event_uid t.0 t.1) (event_summary t.0 t.1) (event_description t.0 t.1 t.2) stamp t.0.end in
    all_lines (told_lines stamp t) (flat_map (told_lines stamp) told) (recursion_from_All IsLine (told_lines stamp t) event) (events-are-lines stamp told)

pub calendar-is-lines : (stamp : ℤ) (told : List Told) → AllByRecursion IsLine (calendar_lines stamp told)
calendar-is-lines stamp told =
    let events = flat_map (told_lines stamp) told in
    all_lines head_lines (events ++ foot_lines) (recursion_from_All IsLine head_lines head_is_lines)
    (all_lines events foot_lines (events-are-lines stamp told) (recursion_from_All IsLine foot_lines foot_is_lines))
