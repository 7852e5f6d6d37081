-- Pieces that were taken, one after the other.
use Rattle.std.proofs.Common.{◌≡◌, ℕ, suc, ◌+◌, List, [], ◌∷◌, ◌++◌, take, refl, ap, sym, subst, ◌∙◌, append_assoc, append-nil, length-append, Bool, false, ◌==◌, Option, if◌then◌else◌, arith}
use Rattle.std.proofs.KnownBytes.{Appends-nil}
use Rattle.std.proofs.lemmas.Bool.{ne_eqb}
use Rattle.std.proofs.lemmas.Grind.{common_steps}
use Rattle.std.specs.Io.KnownBytes.{Appends}
use Rattle.line_io.specs.Lines.{without_cr, lines_from, HasNoFeed}
use Rattle.line_io.specs.Report.{LineAnswer, text_of, bad_of, after_of}
use Rattle.line_io.specs.Progress.{Sends, Takes}
use Rattle.line_io.proofs.Sending.{sends-then}

module _ {S : Type 0} (answer_to : S → List ℕ → LineAnswer S) where
  pub after_of-append : (s : S) (xs ys : List (List ℕ)) → after_of answer_to s (xs ++ ys) ≡ after_of answer_to (after_of answer_to s xs) ys
  after_of-append s [] ys = refl
  after_of-append s (x ∷ xs) ys = after_of-append (answer_to s x).after xs ys

  pub text_of-append : (s : S) (xs ys : List (List ℕ)) → text_of answer_to s (xs ++ ys) ≡ text_of answer_to s xs ++ text_of answer_to (after_of answer_to s xs) ys
  text_of-append s [] ys = refl
  text_of-append s (x ∷ xs) ys =
      let t = (answer_to s x).after in
      ap (λ z. (answer_to s x).text ++ z) (text_of-append t xs ys) ∙ sym (append_assoc (answer_to s x).text (text_of answer_to t xs) (text_of answer_to (after_of answer_to t xs) ys))

  pub bad_of-append : (s : S) (xs ys : List (List ℕ)) → bad_of answer_to s (xs ++ ys) ≡ bad_of answer_to s xs + bad_of answer_to (after_of answer_to s xs) ys
  bad_of-append s [] ys = omega arith
  bad_of-append s (x ∷ xs) ys = let more = bad_of-append (answer_to s x).after xs ys in omega (arith, more)

pub take-none : (n : ℕ) → take {A = ℕ} n [] ≡ []
take-none n = grind (arith, common_steps)

-- a line goes on with bytes that hold no line feed
pub lines-on : (part xs rest : List ℕ) → HasNoFeed xs → lines_from part (xs ++ rest) ≡ lines_from (part ++ xs) rest
lines-on part [] rest free = ap (λ p. lines_from p rest) (sym (append-nil part))
lines-on part (b ∷ xs) rest free =
    let other : ¬ (b ≡ 10) = free 0 (omega arith) in
    let test : (b == 10) ≡ false = ne_eqb b 10 other in
    let step : lines_from part (b ∷ (xs ++ rest)) ≡ lines_from (part ++ b ∷ []) (xs ++ rest) = rw test refl in
    step ∙ lines-on (part ++ b ∷ []) xs rest (λ k below. free (suc k) (omega arith))
    ∙ ap (λ p. lines_from p rest) (append_assoc part (b ∷ []) xs)

-- a line ends at a line feed
pub lines-feed : (part xs rest : List ℕ) → HasNoFeed xs → lines_from part ((xs ++ 10 ∷ []) ++ rest) ≡ without_cr (part ++ xs) ∷ lines_from [] rest
lines-feed part xs rest free = ap (lines_from part) (append_assoc xs (10 ∷ []) rest) ∙ lines-on part xs (10 ∷ rest) free

module _ {S : Type 0} (answer_to : S → List ℕ → LineAnswer S) (most : ℕ) where
  -- nothing came yet
  pub takes-none : (F : S → Type 0) (s : S) (part kept : List ℕ) (u : Option (List ℕ)) (m : List ℕ) (lines bad : ℕ) → F s → kept ≡ take most part
      → Takes answer_to F most s part [] kept u u m m lines bad lines bad
  takes-none F s part kept u m lines bad shows keeps = record {
    ended = [];
    open_part = part;
    goes = λ rest. refl;
    shows = shows;
    keeps = keeps;
    sends = record { out = []; appends = Appends-nil u; same = append-nil m };
    lines_more = omega arith;
    bad_more = omega arith;
  }

  -- the input begins
  pub takes-start : (F : S → Type 0) (s : S) (kept : List ℕ) (u : Option (List ℕ)) (q : List ℕ) (lines bad : ℕ) → F s → kept ≡ [] → q ≡ [] → lines ≡ 0 → bad ≡ 0
      → Takes answer_to F most s [] [] kept u u [] q 0 0 lines bad
  takes-start F s kept u q lines bad shows none empty no_lines no_bad = record {
    ended = [];
    open_part = [];
    goes = λ rest. refl;
    shows = shows;
    keeps = none ∙ sym (take-none most);
    sends = record { out = []; appends = Appends-nil u; same = sym empty };
    lines_more = no_lines;
    bad_more = no_bad;
  }

  -- a line stays open
  pub takes-open : (F : S → Type 0) (s : S) (part xs kept : List ℕ) (u : Option (List ℕ)) (m : List ℕ) (lines bad : ℕ) → HasNoFeed xs
      → F s → kept ≡ take most (part ++ xs) → Takes answer_to F most s part xs kept u u m m lines bad lines bad
  takes-open F s part xs kept u m lines bad free shows keeps = record {
    ended = [];
    open_part = part ++ xs;
    goes = λ rest. lines-on part xs rest free;
    shows = shows;
    keeps = keeps;
    sends = record { out = []; appends = Appends-nil u; same = append-nil m };
    lines_more = omega arith;
    bad_more = omega arith;
  }

  -- a line is answered
  pub takes-line : (F : S → Type 0) (s : S) (part xs kept : List ℕ) (u v : Option (List ℕ)) (m n : List ℕ) (lines bad lines' bad' : ℕ) (b : Bool) → HasNoFeed xs
      → F (answer_to s (without_cr (part ++ xs))).after → kept ≡ [] → Sends u v m (answer_to s (without_cr (part ++ xs))).text n
      → lines' ≡ lines + 1 → b ≡ (answer_to s (without_cr (part ++ xs))).bad → bad' ≡ bad + (if b then 1 else 0)
      → Takes answer_to F most s part (xs ++ 10 ∷ []) kept u v m n lines bad lines' bad'
  takes-line F s part xs kept u v m n lines bad lines' bad' b free shows none sends more is worse =
      let line = without_cr (part ++ xs) in
      let same_bad : bad' ≡ bad + (if (answer_to s line).bad then 1 else 0) = worse ∙ ap (λ x. bad + (if x then 1 else 0)) is in
      record {
        ended = line ∷ [];
        open_part = [];
        goes = λ rest. lines-feed part xs rest free;
        shows = shows;
        keeps = none ∙ sym (take-none most);
        sends = subst (λ z. Sends u v m z n) (sym (append-nil (answer_to s line).text)) sends;
        lines_more = more;
        bad_more = omega (arith, same_bad);
      }

  -- one piece, and then another
  pub takes-then : (F G : S → Type 0) (s : S) (p x k y l : List ℕ) (u v w : Option (List ℕ)) (m n o : List ℕ) (a b a₁ b₁ a₂ b₂ : ℕ)
      → (h : Takes answer_to F most s p x k u v m n a b a₁ b₁) → Takes answer_to G most (after_of answer_to s h.ended) h.open_part y l v w n o a₁ b₁ a₂ b₂
      → Takes answer_to G most s p (x ++ y) l u w m o a b a₂ b₂
  takes-then F G s p x k y l u v w m n o a b a₁ b₁ a₂ b₂ h t =
      let both = length-append h.ended t.ended in
      let both_bad = bad_of-append answer_to s h.ended t.ended in
      record {
        ended = h.ended ++ t.ended;
        open_part = t.open_part;
        goes = λ rest. ap (lines_from p) (append_assoc x y rest) ∙ h.goes (y ++ rest) ∙ ap (λ z. h.ended ++ z) (t.goes rest)
            ∙ sym (append_assoc h.ended t.ended (lines_from t.open_part rest));
        shows = subst G (sym (after_of-append answer_to s h.ended t.ended)) t.shows;
        keeps = t.keeps;
        sends = subst (λ z. Sends u w m z o) (sym (text_of-append answer_to s h.ended t.ended))
            (sends-then u v w m (text_of answer_to s h.ended) n (text_of answer_to (after_of answer_to s h.ended) t.ended) o h.sends t.sends);
        lines_more = omega (arith, h.lines_more, t.lines_more, both);
        bad_more = omega (arith, h.bad_more, t.bad_more, both_bad);
      }

  pub takes-same : (F : S → Type 0) (s : S) (p x y k : List ℕ) (u v : Option (List ℕ)) (m n : List ℕ) (a b a₁ b₁ : ℕ) → x ≡ y
      → Takes answer_to F most s p x k u v m n a b a₁ b₁ → Takes answer_to F most s p y k u v m n a b a₁ b₁
  takes-same F s p x y k u v m n a b a₁ b₁ e h = subst (λ z. Takes answer_to F most s p z k u v m n a b a₁ b₁) e h

  -- what is pending goes out
  pub takes-sent : (F : S → Type 0) (s : S) (p x k : List ℕ) (u v w : Option (List ℕ)) (m n r : List ℕ) (a b a₁ b₁ : ℕ)
      → Takes answer_to F most s p x k u v m n a b a₁ b₁ → Appends v w n → r ≡ [] → Takes answer_to F most s p x k u w m r a b a₁ b₁
  takes-sent F s p x k u v w m n r a b a₁ b₁ h sent none =
      let none_more : Sends v w n [] r = record { out = n; appends = sent; same = ap (λ z. n ++ z) (sym none) } in
      record {
        ended = h.ended;
        open_part = h.open_part;
        goes = h.goes;
        shows = h.shows;
        keeps = h.keeps;
        sends = subst (λ z. Sends u w m z r) (append-nil (text_of answer_to s h.ended)) (sends-then u v w m (text_of answer_to s h.ended) n [] r h.sends none_more);
        lines_more = h.lines_more;
        bad_more = h.bad_more;
      }
