-- Faults, and what was taken before them.
use Rattle.std.proofs.Common.{◌≡◌, ℕ, ◌+◌, ◌≤◌, List, [], ◌∷◌, ◌++◌, length, take, drop, refl, ap, sym, subst, ◌∙◌, append_assoc, append-nil, take-append-drop, length-append, Option, Result, Ok, Err, OnErr, IfErr, arith}
use Rattle.std.proofs.KnownBytes.{Appends-nil, Appends-trans}
use Rattle.std.specs.Io.KnownBytes.{Appends}
use Rattle.line_io.specs.Lines.{last_line}
use Rattle.line_io.specs.Report.{LineAnswer, text_of, after_of}
use Rattle.line_io.specs.Ending.{BreaksOff}
use Rattle.line_io.specs.Output.{AppendsFront, HasFront}
use Rattle.line_io.specs.Progress.{Stops, Takes}
use Rattle.line_io.proofs.Taking.{after_of-append, text_of-append}

pub last_line-one : (part : List ℕ) → length (last_line part) ≤ 1
last_line-one [] = omega arith
last_line-one (b ∷ part) = omega arith

-- two clauses on an error
pub at-err : {T E A : Type 0} {P Q : E → Type 0} (r : Result T E) → ((e : E) → A → P e → Q e) → OnErr r A → IfErr r P → IfErr r Q
at-err (Ok x) f h k = tt
at-err (Err e) f h k = f e h k

-- what went out of a text, and what did not
halves : (count : ℕ) (q o : List ℕ) → o ≡ [] → q ≡ (take count q ++ o) ++ drop count q
halves count q o none = sym (take-append-drop count q) ∙ ap (λ z. z ++ drop count q) (sym (append-nil (take count q)) ∙ ap (λ z. take count q ++ z) (sym none))

-- the text of a part that was taken, before the text of a fault
joined : (m x y z k n j o lost : List ℕ) → m ++ x ≡ k ++ n → n ++ (y ++ z) ≡ (j ++ o) ++ lost → m ++ ((x ++ y) ++ z) ≡ ((k ++ j) ++ o) ++ lost
joined m x y z k n j o lost e f =
    ap (λ i. m ++ i) (append_assoc x y z) ∙ sym (append_assoc m x (y ++ z)) ∙ ap (λ i. i ++ (y ++ z)) e ∙ append_assoc k n (y ++ z)
    ∙ ap (λ i. k ++ i) f ∙ sym (append_assoc k (j ++ o) lost) ∙ ap (λ i. i ++ lost) (sym (append_assoc k j o))

-- how much of it is missing
joined-missing : (m x y k n j : List ℕ) (most : ℕ) → m ++ x ≡ k ++ n → length (n ++ y) ≤ length j + most → length (m ++ (x ++ y)) ≤ length (k ++ j) + most
joined-missing m x y k n j most e h =
    let left = ap length e in
    let a = length-append m x in
    let b = length-append k n in
    let c = length-append n y in
    let d = length-append m (x ++ y) in
    let f = length-append x y in
    let g = length-append k j in
    omega (arith, left, a, b, c, d, f, g, h)

module _ {S : Type 0} (answer_to : S → List ℕ → LineAnswer S) (Left : S → S → Type 0) (most : ℕ) where
  -- before a line is answered
  pub stops-here : (s : S) (lines : List (List ℕ)) (u : Option (List ℕ)) (m o : List ℕ) → Left s s → o ≡ m → length m ≤ most → Stops answer_to Left most s lines u u m o
  stops-here s lines u m o left e bound =
      let none = ap length (append-nil m) in
      record {
        answered = [];
        more = [];
        rest = lines;
        whole = refl;
        one_more = omega arith;
        known = left;
        out = [];
        lost = [];
        appends = Appends-nil u;
        front = append-nil m ∙ sym e ∙ sym (append-nil o);
        missing = omega (arith, none, bound);
      }

  -- what is pending could not be written
  pub stops-unsent : (s : S) (lines : List (List ℕ)) (u v : Option (List ℕ)) (m o : List ℕ) → Left s s → AppendsFront u v m → o ≡ [] → length m ≤ most
      → Stops answer_to Left most s lines u v m o
  stops-unsent s lines u v m o left f none bound =
      let same = ap length (append-nil m) in
      record {
        answered = [];
        more = [];
        rest = lines;
        whole = refl;
        one_more = omega arith;
        known = left;
        out = take f.count m;
        lost = drop f.count m;
        appends = f.front;
        front = append-nil m ∙ halves f.count m o none;
        missing = omega (arith, same, bound);
      }

  -- a line could not be answered
  pub stops-line : (s : S) (line : List ℕ) (rest : List (List ℕ)) (u : Option (List ℕ)) (m o : List ℕ) → Left s (answer_to s line).after → o ≡ m → length m ≤ most
      → Stops answer_to Left most s (line ∷ rest) u u m o
  stops-line s line rest u m o left e bound =
      let none = ap length (append-nil m) in
      record {
        answered = [];
        more = line ∷ [];
        rest = rest;
        whole = refl;
        one_more = omega arith;
        known = left;
        out = [];
        lost = text_of answer_to s (line ∷ []);
        appends = Appends-nil u;
        front = ap (λ z. z ++ text_of answer_to s (line ∷ [])) (sym e);
        missing = omega (arith, none, bound);
      }

  -- the answer to a line could not be written
  pub stops-answer : (s : S) (line : List ℕ) (rest : List (List ℕ)) (u v : Option (List ℕ)) (m q o : List ℕ) → Left s (answer_to s line).after
      → q ≡ m ++ (answer_to s line).text → AppendsFront u v q → o ≡ [] → length m ≤ most → Stops answer_to Left most s (line ∷ rest) u v m o
  stops-answer s line rest u v m q o left e f none bound =
      let same = ap length (append-nil m) in
      record {
        answered = [];
        more = line ∷ [];
        rest = rest;
        whole = refl;
        one_more = omega arith;
        known = left;
        out = take f.count q;
        lost = drop f.count q;
        appends = f.front;
        front = ap (λ z. m ++ z) (append-nil (answer_to s line).text) ∙ sym e ∙ halves f.count q o none;
        missing = omega (arith, same, bound);
      }

  -- bytes behind the last line feed could not be answered
  pub stops-last : (s : S) (part : List ℕ) (u : Option (List ℕ)) (m o : List ℕ) → Left s (after_of answer_to s (last_line part)) → o ≡ m → length m ≤ most
      → Stops answer_to Left most s (last_line part) u u m o
  stops-last s part u m o left e bound =
      let none = ap length (append-nil m) in
      record {
        answered = [];
        more = last_line part;
        rest = [];
        whole = sym (append-nil (last_line part));
        one_more = last_line-one part;
        known = left;
        out = [];
        lost = text_of answer_to s (last_line part);
        appends = Appends-nil u;
        front = ap (λ z. z ++ text_of answer_to s (last_line part)) (sym e);
        missing = omega (arith, none, bound);
      }

  pub stops-same : (s : S) (x y : List (List ℕ)) (u v : Option (List ℕ)) (m n : List ℕ) → x ≡ y → Stops answer_to Left most s y u v m n → Stops answer_to Left most s x u v m n
  stops-same s x y u v m n e h = subst (λ z. Stops answer_to Left most s z u v m n) (sym e) h

  -- after lines that were answered
  pub stops-after : (s : S) (ended below lines : List (List ℕ)) (u v w : Option (List ℕ)) (m n o k : List ℕ) → Appends u v k → m ++ text_of answer_to s ended ≡ k ++ n
      → lines ≡ ended ++ below → Stops answer_to Left most (after_of answer_to s ended) below v w n o → Stops answer_to Left most s lines u w m o
  stops-after s ended below lines u v w m n o k appends e whole h =
      let t = after_of answer_to s ended in
      let on : after_of answer_to s (ended ++ h.answered) ≡ after_of answer_to t h.answered = after_of-append answer_to s ended h.answered in
      let said : text_of answer_to s (ended ++ h.answered) ≡ text_of answer_to s ended ++ text_of answer_to t h.answered = text_of-append answer_to s ended h.answered in
      record {
        answered = ended ++ h.answered;
        more = h.more;
        rest = h.rest;
        whole = whole ∙ ap (λ z. ended ++ z) h.whole ∙ sym (append_assoc ended h.answered (h.more ++ h.rest));
        one_more = h.one_more;
        known = subst (λ z. Left z (after_of answer_to z h.more)) (sym on) h.known;
        out = k ++ h.out;
        lost = h.lost;
        appends = Appends-trans u v w k h.out appends h.appends;
        front = ap (λ z. m ++ (z ++ text_of answer_to (after_of answer_to s (ended ++ h.answered)) h.more)) said
            ∙ ap (λ z. m ++ ((text_of answer_to s ended ++ text_of answer_to t h.answered) ++ text_of answer_to z h.more)) on
            ∙ joined m (text_of answer_to s ended) (text_of answer_to t h.answered) (text_of answer_to (after_of answer_to t h.answered) h.more) k n h.out o h.lost e h.front;
        missing = subst (λ z. length (m ++ z) ≤ length (k ++ h.out) + most) (sym said)
            (joined-missing m (text_of answer_to s ended) (text_of answer_to t h.answered) k n h.out most e h.missing);
      }

  -- after a piece that was taken
  pub takes-stops : (F : S → Type 0) (kept_most : ℕ) (s : S) (p x k : List ℕ) (below lines : List (List ℕ)) (u v w : Option (List ℕ)) (m n o : List ℕ) (a b a₁ b₁ : ℕ)
      → (h : Takes answer_to F kept_most s p x k u v m n a b a₁ b₁) → lines ≡ h.ended ++ below
      → Stops answer_to Left most (after_of answer_to s h.ended) below v w n o → Stops answer_to Left most s lines u w m o
  takes-stops F kept_most s p x k below lines u v w m n o a b a₁ b₁ h whole stops =
      stops-after s h.ended below lines u v w m n o h.sends.out h.sends.appends h.sends.same whole stops

  -- at last, what is still pending is written as far as it can be
  pub stops-breaks : (s : S) (lines : List (List ℕ)) (u v w : Option (List ℕ)) (r : List ℕ) → Stops answer_to Left most s lines u v [] r → AppendsFront v w r
      → BreaksOff answer_to Left most s lines u w
  stops-breaks s lines u v w r h f =
      let t = after_of answer_to s h.answered in
      let more : after_of answer_to s (h.answered ++ h.more) ≡ after_of answer_to t h.more = after_of-append answer_to s h.answered h.more in
      let longer = length-append h.out (take f.count r) in
      record {
        answered = h.answered;
        more = h.more;
        rest = h.rest;
        whole = h.whole ∙ sym (append_assoc h.answered h.more h.rest);
        one_more = h.one_more;
        left = subst (λ z. Left t z) (sym more) h.known;
        out = h.out ++ take f.count r;
        lost = drop f.count r ++ h.lost;
        text = text_of-append answer_to s h.answered h.more ∙ h.front
            ∙ ap (λ z. (h.out ++ z) ++ h.lost) (sym (take-append-drop f.count r))
            ∙ ap (λ z. z ++ h.lost) (sym (append_assoc h.out (take f.count r) (drop f.count r)))
            ∙ append_assoc (h.out ++ take f.count r) (drop f.count r) h.lost;
        appends = Appends-trans u v w h.out (take f.count r) h.appends f.front;
        missing = omega (arith, h.missing, longer);
      }

  -- what went out is a front of the whole text
  pub breaks-front : (s : S) (lines : List (List ℕ)) (u w : Option (List ℕ)) → BreaksOff answer_to Left most s lines u w → HasFront u w (text_of answer_to s lines)
  breaks-front s lines u w h =
      let T = text_of answer_to (after_of answer_to s (h.answered ++ h.more)) h.rest in
      record {
        out = h.out;
        lost = h.lost ++ T;
        appends = h.appends;
        whole = ap (text_of answer_to s) h.whole ∙ text_of-append answer_to s (h.answered ++ h.more) h.rest ∙ ap (λ z. z ++ T) h.text ∙ append_assoc h.out h.lost T;
      }
