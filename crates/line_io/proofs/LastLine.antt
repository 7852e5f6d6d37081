-- The last line, which has no line feed, and where nothing is kept.
use Rattle.std.proofs.Common.{◌≡◌, ℕ, ◌+◌, List, [], ◌∷◌, ◌++◌, length, take, refl, ap, sym, subst, ◌∙◌, ◌==◌, Bool, true, false, if◌then◌else◌, add-zero, append-nil, arith}
use Rattle.std.proofs.lemmas.Grind.{common_steps}
use Rattle.std.proofs.lemmas.Bool.{eqb-true, eqb-false}
use Rattle.line_io.specs.Lines.{last_line}
use Rattle.line_io.specs.Progress.{Ends}
use Rattle.line_io.specs.Report.{Answers, LineAnswer, after_of}
use Rattle.line_io.proofs.Taking.{take-none}

-- where nothing is kept nothing came
pub nothing-kept : (n len : ℕ) (kept part : List ℕ) (empty : Bool) → empty ≡ (len == 0) → empty ≡ true → len ≡ length kept → kept ≡ take (n + 2) part → part ≡ []
nothing-kept n len kept part empty is so len-is k =
    let none : length kept ≡ 0 = sym len-is ∙ eqb-true len 0 (sym is ∙ so) in grind (arith, common_steps)

-- where something is kept it is of a last line
pub something-kept : (n len : ℕ) (kept part : List ℕ) (empty : Bool) → empty ≡ (len == 0) → empty ≡ false → len ≡ length kept → kept ≡ take (n + 2) part
    → last_line part ≡ part ∷ []
something-kept n len kept [] empty is so len-is k =
    let some : ¬ (len ≡ 0) = eqb-false len 0 (sym is ∙ so) in
    let none : length kept ≡ 0 = ap length (k ∙ take-none (n + 2)) in absurd (some (len-is ∙ none))
something-kept n len kept (b ∷ part) empty is so len-is k = refl

module _ {S : Type 0} (answer_to : S → List ℕ → LineAnswer S) where
  -- where nothing came nothing is answered
  pub ends-none : (Shows : S → Type 0) (s : S) (part m : List ℕ) (lines bad : ℕ) → part ≡ [] → Shows s → Ends answer_to Shows s (last_line part) m m lines bad lines bad
  ends-none Shows s part m lines bad none shows = rw none (record {
    sends = sym (append-nil m);
    lines_more = sym (add-zero lines);
    bad_more = sym (add-zero bad);
    shows = shows;
  })

  -- a last line is answered
  pub ends-line : (Shows : S → Type 0) (s : S) (part m n : List ℕ) (lines bad lines' bad' : ℕ) (b : Bool) → last_line part ≡ part ∷ []
      → Answers Shows m n b (answer_to s part) → lines' ≡ lines + 1 → bad' ≡ bad + (if b then 1 else 0) → Ends answer_to Shows s (last_line part) m n lines bad lines' bad'
  ends-line Shows s part m n lines bad lines' bad' b last said more worse = rw last (record {
    sends = said.0 ∙ ap (λ z. m ++ z) (sym (append-nil (answer_to s part).text));
    lines_more = more;
    bad_more = worse ∙ ap (λ x. bad + (if x then 1 else 0)) said.1 ∙ ap (λ n. bad + n) (sym (add-zero (if (answer_to s part).bad then 1 else 0)));
    shows = said.2;
  })

  -- a last line leaves what its answer leaves
  pub left-last : (Left : S → S → Type 0) (s : S) (line part : List ℕ) → last_line part ≡ part ∷ [] → answer_to s line ≡ answer_to s part
      → Left s (answer_to s line).after → Left s (after_of answer_to s (last_line part))
  left-last Left s line part last e h = rw last (subst (λ j. Left s j.after) e h)
