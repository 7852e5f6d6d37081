-- How the text of a calendar goes out, line after line.
use Rattle.std.proofs.Common.{◌≡◌, ℕ, zero, suc, ◌+◌, ◌<◌, ◌≤◌, ◌==◌, Bool, true, false, cond, List, [], ◌∷◌, ◌++◌, take, drop, length, length-append, append_assoc, append-nil, Option, Some, None, refl, sym, ap, ◌∙◌, arith}
use Rattle.std.specs.List.{flat_map, slice_get}
use Rattle.std.specs.Io.KnownBytes.{Appends}
use Rattle.std.proofs.KnownBytes.{Appends-trans}
use Rattle.std.proofs.Math.Seq.{take-suc, take-length}
use Rattle.std.proofs.lemmas.Bool.Decides.{nat_tests}
use Rattle.std.proofs.lemmas.List.{take-append-drop}
use Rattle.std.proofs.lemmas.Grind.{flat_map-append}
use Rattle.std.proofs.lemmas.Option.{get_or_from_slice_get, slice_get_within}
use Rattle.court_days.specs.Court.{CourtSettings}
use Rattle.docket_history.specs.declared.record.DueRow.{DueRow}
use Rattle.docket_text.specs.CalendarTexts.{calendar_line, calendar_text, end_columns, end_line}
use Rattle.line_io.specs.Output.{HasFront}
use Rattle.docket_calendar.specs.Sending.{line_text, IsAt, opening, sent, HasBegun}

-- a line is not empty
line_some : (text part rest : List ℕ) → text ≡ part ++ (32 ∷ rest) → 1 ≤ length text
line_some text part rest is = omega (arith, ap length is ∙ length-append part (32 ∷ rest))

lines_some : (court : CourtSettings) (listed : List DueRow) (n : ℕ) → 1 ≤ n → n ≤ length listed → 1 ≤ length (flat_map (calendar_line court) (take n listed))
lines_some court listed zero some within = absurd (omega (arith, some))
lines_some court [] (suc n) some within = absurd (omega (arith, within))
lines_some court (due ∷ listed) (suc n) some within =
    let some_line : 1 ≤ length (calendar_line court due) = line_some (calendar_line court due) (end_columns court due.close due.end) _ refl in
    omega (arith, length-append (calendar_line court due) (flat_map (calendar_line court) (take n listed)), some_line)

module _ (court : CourtSettings) (listed : List DueRow) where
  abbrev lines : ℕ → List ℕ
  lines n = flat_map (calendar_line court) (take n listed)

  -- the text begins with the lines of the first n rows
  pub front_at : (n : ℕ) → (rest : List ℕ) × (calendar_text court listed ≡ flat_map (calendar_line court) (take n listed) ++ rest)
  front_at n =
      let line = calendar_line court in
      let parts : flat_map line listed ≡ flat_map line (take n listed) ++ flat_map line (drop n listed) = ap (flat_map line) (sym (take-append-drop n listed)) ∙ flat_map-append line (take n listed) (drop n listed) in (
        flat_map line (drop n listed) ++ end_line (length listed),
        ap (λ (t : List ℕ). t ++ end_line (length listed)) parts ∙ append_assoc (flat_map line (take n listed)) (flat_map line (drop n listed)) (end_line (length listed)),
      )

  -- one line more
  pub one_more : (n : ℕ) (d : DueRow) → slice_get listed n ≡ Some d → flat_map (calendar_line court) (take (n + 1) listed) ≡ flat_map (calendar_line court) (take n listed) ++ calendar_line court d
  one_more n d at =
      let line = calendar_line court in
      let within : n < length listed = slice_get_within listed n d at in
      let next : n + 1 ≡ suc n = omega arith in
      let taken : take (n + 1) listed ≡ take n listed ++ d ∷ [] =
      ap (λ (k : ℕ). take k listed) next ∙ take-suc listed n d within ∙ ap (λ (x : DueRow). take n listed ++ x ∷ []) (get_or_from_slice_get listed n d d at) in
      ap (flat_map line) taken ∙ flat_map-append line (take n listed) (d ∷ []) ∙ ap (λ (t : List ℕ). flat_map line (take n listed) ++ t) (append-nil (line d))

  -- where the n-th line follows
  pub line_follows : (n : ℕ) (d : DueRow) → slice_get listed n ≡ Some d
      → (rest : List ℕ) × (calendar_text court listed ≡ flat_map (calendar_line court) (take n listed) ++ (calendar_line court d ++ rest))
  line_follows n d at =
      let front = front_at (n + 1) in
      (front.0, front.1 ∙ ap (λ (t : List ℕ). t ++ front.0) (one_more n d at) ∙ append_assoc (flat_map (calendar_line court) (take n listed)) (calendar_line court d) front.0)

  -- where the last line follows
  pub end_follows : (n : ℕ) → length listed ≡ n → calendar_text court listed ≡ flat_map (calendar_line court) (take n listed) ++ end_line n
  end_follows n is =
      ap (λ (rows : List DueRow). flat_map (calendar_line court) rows ++ end_line (length listed)) (sym (ap (λ (k : ℕ). take k listed) (sym is) ∙ take-length listed))
      ∙ ap (λ (k : ℕ). flat_map (calendar_line court) (take n listed) ++ end_line k) is

  -- what follows the first n lines begins with the text at n
  pub follows : (n : ℕ) (due : Option DueRow) → IsAt listed n due → (rest : List ℕ) × (calendar_text court listed ≡ lines n ++ (line_text court n due ++ rest))
  follows n (Some due) at = line_follows n due at
  follows n None at = ([], end_follows n at ∙ ap (λ (t : List ℕ). lines n ++ t) (sym (append-nil (end_line n))))

  module _ (front : List ℕ) where
    -- what went out, and what goes out next, are the front and the lines
    pub joined : (n : ℕ) (part : List ℕ) → sent court front listed n ++ (opening front n ++ part) ≡ front ++ (lines n ++ part)
    joined n part = by (n == 0) refl
      where
        by : (b : Bool) → (n == 0) ≡ b → cond b [] (front ++ lines n) ++ (cond b front [] ++ part) ≡ front ++ (lines n ++ part)
        by true e = let none : n ≡ 0 = grind (arith, nat_tests, e) in ap (λ k. front ++ (flat_map (calendar_line court) (take k listed) ++ part)) (sym none)
        by false e = append_assoc front (lines n) part

    sent_lines : (n : ℕ) → sent court front listed (n + 1) ≡ front ++ lines (n + 1)
    sent_lines n = let no : (n + 1 == 0) ≡ false = grind (arith, nat_tests) in ap (λ b. cond b [] (front ++ lines (n + 1))) no

    -- once a line went out, this is not empty
    sent_some : (n : ℕ) → 1 ≤ n → n ≤ length listed → 1 ≤ length (sent court front listed n)
    sent_some n some within =
        let no : (n == 0) ≡ false = grind (arith, nat_tests, some) in
        let is : sent court front listed n ≡ front ++ lines n = ap (λ b. cond b [] (front ++ lines n)) no in
        omega (arith, ap length is ∙ length-append front (lines n), lines_some court listed n some within)

    -- one line more went out
    pub sent_more : (n : ℕ) (due : DueRow) → slice_get listed n ≡ Some due → sent court front listed n ++ (opening front n ++ calendar_line court due) ≡ sent court front listed (n + 1)
    sent_more n due at = joined n (calendar_line court due) ∙ ap (λ (t : List ℕ). front ++ t) (sym (one_more n due at)) ∙ sym (sent_lines n)

    -- the last line went out
    pub sent_whole : (n : ℕ) → length listed ≡ n → sent court front listed n ++ (opening front n ++ end_line n) ≡ front ++ calendar_text court listed
    sent_whole n is = joined n (end_line n) ∙ ap (λ (t : List ℕ). front ++ t) (sym (end_follows n is))

    -- nothing more went out
    pub stopped_at : (n : ℕ) (u v : Option (List ℕ)) → Appends u v (sent court front listed n) → HasFront u v (front ++ calendar_text court listed)
    stopped_at n u v h =
        let rest = front_at n in
        record { out = sent court front listed n; lost = opening front n ++ rest.0; whole = ap (λ (t : List ℕ). front ++ t) rest.1 ∙ sym (joined n rest.0); appends = h }

    -- the lines before it did, and they are not empty
    pub begun_at : (n : ℕ) (u v : Option (List ℕ)) → 1 ≤ n → n ≤ length listed → Appends u v (sent court front listed n) → HasBegun u v (front ++ calendar_text court listed)
    unfolding stopped_at
    begun_at n u v some within h = record { front = stopped_at n u v h; begun = sent_some n some within }

    -- a front of what goes out next did
    pub stopped_in : (n : ℕ) (due : Option DueRow) (u v w : Option (List ℕ)) → IsAt listed n due → Appends u v (sent court front listed n)
        → HasFront v w (opening front n ++ line_text court n due) → HasFront u w (front ++ calendar_text court listed)
    stopped_in n due u v w at h k =
        let rest = follows n due at in
        let part = line_text court n due in
        let before = sent court front listed n in
        record {
          out = before ++ k.out;
          lost = k.lost ++ rest.0;
          whole =
              ap (λ (t : List ℕ). front ++ t) rest.1 ∙ sym (joined n (part ++ rest.0))
              ∙ ap (λ (t : List ℕ). before ++ t) (sym (append_assoc (opening front n) part rest.0) ∙ ap (λ (t : List ℕ). t ++ rest.0) k.whole ∙ append_assoc k.out k.lost rest.0)
              ∙ sym (append_assoc before k.out (k.lost ++ rest.0));
          appends = Appends-trans u v w before k.out h k.appends;
        }
