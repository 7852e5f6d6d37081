use Rattle.std.proofs.Common.{rules, arith, to_z, of_z, w64, codes, ◌≡◌, ℕ, List, [], ◌++◌, ap, ◌∙◌, append_assoc, append-nil}
use Rattle.std.proofs.lemmas.Result.{on_ok_weaker}
use Rattle.std.proofs.lemmas.Int.{ints}
use mir.Val.{SFits}
use Rattle.icalendar.specs.ContentLines.{content_line, named}
use Rattle.icalendar.specs.Times.{told, utc_value}
use Rattle.icalendar.proofs.event.push_event.Goals as goal

-- eight lines, each added to the text behind those before it
added : (text t1 t2 t3 t4 t5 t6 t7 t8 l1 l2 l3 l4 l5 l6 l7 l8 : List ℕ) → t1 ≡ text ++ l1 → t2 ≡ t1 ++ l2 → t3 ≡ t2 ++ l3 → t4 ≡ t3 ++ l4 → t5 ≡ t4 ++ l5 → t6 ≡ t5 ++ l6 → t7 ≡ t6 ++ l7 → t8 ≡ t7 ++ l8 → t8 ≡ text ++ (l1 ++ (l2 ++ (l3 ++ (l4 ++ (l5 ++ (l6 ++ (l7 ++ (l8 ++ []))))))))
added text t1 t2 t3 t4 t5 t6 t7 t8 l1 l2 l3 l4 l5 l6 l7 l8 e1 e2 e3 e4 e5 e6 e7 e8 =
    rw (e8, e7, e6, e5, e4, e3, e2, e1) (simp (append_assoc, append-nil))

meant : (old new line told : List ℕ) → new ≡ old ++ content_line line → line ≡ told → new ≡ old ++ content_line told
meant old new line told e same = e ∙ ap (λ l. old ++ content_line l) same

pub returns : goal.returns
returns c =
    let at = c.args.event.now.stamp in
    let fits : SFits w64 at = search rules in
    let same : to_z w64 (of_z w64 at) ≡ at = omega (arith, ints, fits) in
    let stamp = meant _ _ _ _ c.in_ok-push_line-2.ensures (c.deref.ensures ∙ (c.in_ok-stamp_line.ensures.ok ∙ ap (λ z. named (codes "DTSTAMP") (utc_value (told z))) same)) in
    let start = meant _ _ _ _ c.in_ok-push_line-3.ensures (c.deref-2.ensures ∙ c.in_ok-start_line.ensures) in
    on_ok_weaker c.push_line-5.result
    (λ e. added _ _ _ _ _ _ _ _ _ _ _ _ _ _ _ _ _ c.in_ok-push_line.ensures c.in_ok-push_property.ensures stamp start c.in_ok-push_property-2.ensures c.in_ok-push_property-3.ensures c.in_ok-push_line-4.ensures e)
    c.push_line-5.ensures
