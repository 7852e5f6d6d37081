-- From pieces to the whole input.
use Rattle.std.proofs.Common.{◌≡◌, ℕ, ◌+◌, List, [], ◌++◌, length, take, drop, ap, sym, subst, ◌∙◌, append_assoc, append-nil, take-append-drop, length-append, Option, Some, None, IfSome, arith}
use Rattle.std.proofs.KnownBytes.{Appends-trans}
use Rattle.std.specs.Io.KnownBytes.{Consumes, Appends, IsAtEnd}
use Rattle.line_io.specs.Lines.{last_line, lines_from, lines_of}
use Rattle.line_io.specs.Report.{LineAnswer, text_of, bad_of, after_of}
use Rattle.line_io.specs.Ending.{BreaksOff}
use Rattle.line_io.specs.Output.{AppendsFront, HasFront}
use Rattle.line_io.specs.Progress.{Stops, Takes, Ends, Tells}
use Rattle.line_io.proofs.Taking.{after_of-append, text_of-append, bad_of-append}
use Rattle.line_io.proofs.Stopping.{last_line-one, takes-stops, stops-breaks, breaks-front}

module _ {S : Type 0} (J : S → List ℕ → LineAnswer S) (most : ℕ) where
  -- a fault after what was read so far
  pub read-stops : (Left : S → S → Type 0) (held : ℕ) (i j : Option (List ℕ)) (F : S → Type 0) (s : S) (x k : List ℕ) (u v w : Option (List ℕ)) (n r : List ℕ) (a b a₁ b₁ : ℕ)
      → Consumes i j x → (h : Takes J F most s [] x k u v [] n a b a₁ b₁)
      → ((rest : List ℕ) → Stops J Left held (after_of J s h.ended) (lines_from h.open_part rest) v w n r)
      → IfSome i (λ input. Stops J Left held s (lines_of input) u w [] r)
  read-stops Left held None j F s x k u v w n r a b a₁ b₁ c h f = tt
  read-stops Left held (Some input) None F s x k u v w n r a b a₁ b₁ c h f = absurd c
  read-stops Left held (Some input) (Some rest) F s x k u v w n r a b a₁ b₁ c h f =
      takes-stops J Left held F most s [] x k (lines_from h.open_part rest) (lines_of input) u v w [] n r a b a₁ b₁ h (ap lines_of c ∙ h.goes rest) (f rest)

  -- a fault in a piece that was read behind it
  pub piece-stops : (Left : S → S → Type 0) (held : ℕ) (i j d : Option (List ℕ)) (F : S → Type 0) (s : S) (x y k : List ℕ) (u v w : Option (List ℕ)) (n r : List ℕ) (a b a₁ b₁ : ℕ)
      → Consumes i j x → Consumes j d y → (h : Takes J F most s [] x k u v [] n a b a₁ b₁)
      → ((rest : List ℕ) → Stops J Left held (after_of J s h.ended) (lines_from h.open_part (y ++ rest)) v w n r)
      → IfSome i (λ input. Stops J Left held s (lines_of input) u w [] r)
  piece-stops Left held None j d F s x y k u v w n r a b a₁ b₁ c m h f = tt
  piece-stops Left held (Some input) None d F s x y k u v w n r a b a₁ b₁ c m h f = absurd c
  piece-stops Left held (Some input) (Some rest) None F s x y k u v w n r a b a₁ b₁ c m h f = absurd m
  piece-stops Left held (Some input) (Some rest) (Some behind) F s x y k u v w n r a b a₁ b₁ c m h f =
      takes-stops J Left held F most s [] x k (lines_from h.open_part (y ++ behind)) (lines_of input) u v w [] n r a b a₁ b₁ h
      (ap lines_of (c ∙ ap (λ z. x ++ z) m) ∙ h.goes (y ++ behind)) (f behind)

  -- nothing is left to read
  at-end : (x none input rest last : List ℕ) → input ≡ x ++ rest → rest ≡ none ++ last → none ≡ [] → last ≡ [] → input ≡ x ++ []
  at-end x none input rest last c m e at = c ∙ ap (λ z. x ++ z) (m ∙ ap (λ z. z ++ last) e ∙ at)

  -- a fault at the last line
  pub end-stops : (Left : S → S → Type 0) (held : ℕ) (i j d : Option (List ℕ)) (F : S → Type 0) (s : S) (x none k : List ℕ) (u v w : Option (List ℕ)) (n r : List ℕ) (a b a₁ b₁ : ℕ)
      → Consumes i j x → Consumes j d none → none ≡ [] → IsAtEnd d → (h : Takes J F most s [] x k u v [] n a b a₁ b₁)
      → Stops J Left held (after_of J s h.ended) (last_line h.open_part) v w n r
      → IfSome i (λ input. Stops J Left held s (lines_of input) u w [] r)
  end-stops Left held None j d F s x none k u v w n r a b a₁ b₁ c m e at h f = tt
  end-stops Left held (Some input) None d F s x none k u v w n r a b a₁ b₁ c m e at h f = absurd c
  end-stops Left held (Some input) (Some rest) None F s x none k u v w n r a b a₁ b₁ c m e at h f = absurd m
  end-stops Left held (Some input) (Some rest) (Some last) F s x none k u v w n r a b a₁ b₁ c m e at h f =
      takes-stops J Left held F most s [] x k (last_line h.open_part) (lines_of input) u v w [] n r a b a₁ b₁ h
      (ap lines_of (at-end x none input rest last c m e at) ∙ h.goes []) f

  -- the end of the input
  pub ends-tells : (i j d : Option (List ℕ)) (F G : S → Type 0) (s : S) (x none k : List ℕ) (u v : Option (List ℕ)) (n r : List ℕ) (a₁ b₁ a₂ b₂ : ℕ) → Consumes i j x → Consumes j d none → none ≡ [] → IsAtEnd d
      → (h : Takes J F most s [] x k u v [] n 0 0 a₁ b₁) → n ≡ [] → Ends J G (after_of J s h.ended) (last_line h.open_part) n r a₁ b₁ a₂ b₂
      → IfSome i (λ input. Tells J G s (lines_of input) u v r a₂ b₂)
  ends-tells None j d F G s x none k u v n r a₁ b₁ a₂ b₂ c m e at h empty t = tt
  ends-tells (Some input) None d F G s x none k u v n r a₁ b₁ a₂ b₂ c m e at h empty t = absurd c
  ends-tells (Some input) (Some rest) None F G s x none k u v n r a₁ b₁ a₂ b₂ c m e at h empty t = absurd m
  ends-tells (Some input) (Some rest) (Some last) F G s x none k u v n r a₁ b₁ a₂ b₂ c m e at h empty t =
      let L = last_line h.open_part in
      let all : lines_of input ≡ h.ended ++ L = ap lines_of (at-end x none input rest last c m e at) ∙ h.goes [] in
      let told : length (lines_of input) ≡ length h.ended + length L = ap length all ∙ length-append h.ended L in
      let told_bad : bad_of J s (lines_of input) ≡ bad_of J s h.ended + bad_of J (after_of J s h.ended) L = ap (bad_of J s) all ∙ bad_of-append J s h.ended L in
      let out_all : text_of J s h.ended ≡ h.sends.out = h.sends.same ∙ ap (λ z. h.sends.out ++ z) empty ∙ append-nil h.sends.out in
      record {
        sent = h.ended;
        last = L;
        whole = all;
        one_more = last_line-one h.open_part;
        appends = subst (λ z. Appends u v z) (sym out_all) h.sends.appends;
        waits = t.sends ∙ ap (λ z. z ++ text_of J (after_of J s h.ended) L) empty;
        lines_are = omega (arith, told, t.lines_more, h.lines_more);
        bad_are = omega (arith, told_bad, t.bad_more, h.bad_more);
        shows = subst G (sym (ap (after_of J s) all ∙ after_of-append J s h.ended L)) t.shows;
      }

module _ {S : Type 0} (J : S → List ℕ → LineAnswer S) (G : S → Type 0) (s : S) (u v w : Option (List ℕ)) (r : List ℕ) where
  -- the last answer went out
  pub tells-whole : (lines : List (List ℕ)) (a b : ℕ) → Tells J G s lines u v r a b → Appends v w r
      → Appends u w (text_of J s lines) × (a ≡ length lines) × (b ≡ bad_of J s lines) × G (after_of J s lines)
  tells-whole lines a b h sent = (
    subst (λ z. Appends u w z) (sym (ap (text_of J s) h.whole ∙ text_of-append J s h.sent h.last))
        (Appends-trans u v w (text_of J s h.sent) (text_of J (after_of J s h.sent) h.last) h.appends (subst (λ z. Appends v w z) h.waits sent)),
    h.lines_are,
    h.bad_are,
    h.shows,
  )

  -- the last answer could not go out
  pub tells-breaks : (Left : S → S → Type 0) (held : ℕ) (lines : List (List ℕ)) (a b : ℕ) → ((t q : S) → G q → Left t q) → Tells J G s lines u v r a b → AppendsFront v w r
      → BreaksOff J Left held s lines u w
  tells-breaks Left held lines a b left h f =
      let longer = length-append (text_of J s h.sent) (take f.count r) in
      record {
        answered = h.sent;
        more = h.last;
        rest = [];
        whole = h.whole ∙ sym (append-nil (h.sent ++ h.last));
        one_more = h.one_more;
        left = left (after_of J s h.sent) (after_of J s (h.sent ++ h.last)) (subst (λ z. G (after_of J s z)) h.whole h.shows);
        out = text_of J s h.sent ++ take f.count r;
        lost = drop f.count r;
        text = text_of-append J s h.sent h.last ∙ ap (λ z. text_of J s h.sent ++ z) (sym h.waits ∙ sym (take-append-drop f.count r))
            ∙ sym (append_assoc (text_of J s h.sent) (take f.count r) (drop f.count r));
        appends = Appends-trans u v w (text_of J s h.sent) (take f.count r) h.appends f.front;
        missing = omega (arith, longer);
      }

  -- the same at an input whose bytes are known
  pub input-whole : (i : Option (List ℕ)) (a b : ℕ) → IfSome i (λ input. Tells J G s (lines_of input) u v r a b) → Appends v w r
      → IfSome i (λ input. Appends u w (text_of J s (lines_of input)) × (a ≡ length (lines_of input)) × (b ≡ bad_of J s (lines_of input)) × G (after_of J s (lines_of input)))
  input-whole None a b h sent = tt
  input-whole (Some input) a b h sent = tells-whole (lines_of input) a b h sent

  pub input-unsent : (Left : S → S → Type 0) (held : ℕ) (i : Option (List ℕ)) (a b : ℕ) → ((t q : S) → G q → Left t q) → IfSome i (λ input. Tells J G s (lines_of input) u v r a b) → AppendsFront v w r
      → IfSome i (λ input. BreaksOff J Left held s (lines_of input) u w)
  input-unsent Left held None a b left h f = tt
  input-unsent Left held (Some input) a b left h f = tells-breaks Left held (lines_of input) a b left h f

  pub unsent-front : (i : Option (List ℕ)) (a b : ℕ) → IfSome i (λ input. Tells J G s (lines_of input) u v r a b) → AppendsFront v w r
      → IfSome i (λ input. HasFront u w (text_of J s (lines_of input)))
  unsent-front None a b h f = tt
  unsent-front (Some input) a b h f = breaks-front J (λ t q. G q) 0 s (lines_of input) u w (tells-breaks (λ t q. G q) 0 (lines_of input) a b (λ t q shows. shows) h f)

module _ {S : Type 0} (J : S → List ℕ → LineAnswer S) (Left : S → S → Type 0) (held : ℕ) (s : S) (u v w : Option (List ℕ)) (r : List ℕ) where
  pub input-breaks : (i : Option (List ℕ)) → IfSome i (λ input. Stops J Left held s (lines_of input) u v [] r) → AppendsFront v w r
      → IfSome i (λ input. BreaksOff J Left held s (lines_of input) u w)
  input-breaks None h f = tt
  input-breaks (Some input) h f = stops-breaks J Left held s (lines_of input) u v w r h f

  pub input-front : (i : Option (List ℕ)) → IfSome i (λ input. Stops J Left held s (lines_of input) u v [] r) → AppendsFront v w r
      → IfSome i (λ input. HasFront u w (text_of J s (lines_of input)))
  input-front None h f = tt
  input-front (Some input) h f = breaks-front J Left held s (lines_of input) u w (stops-breaks J Left held s (lines_of input) u v w r h f)
