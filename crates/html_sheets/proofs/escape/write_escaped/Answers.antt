use Rattle.std.proofs.Common.{◌≡◌, ◌-◌, ◌<◌, [], ◌∷◌, ◌++◌, length, get_or, take, drop, refl, ap, ◌∙◌, rules, arith, append_assoc}
use Rattle.std.proofs.lemmas.Grind.{common_steps}
use Rattle.std.proofs.lemmas.Str.{IsCharBoundary-start, IsCharBoundary-after_ascii}
use Rattle.std.proofs.Output.{has_written_append, has_written_of_eq}
use Rattle.std.specs.List.{flat_map}
use Rattle.html_sheets.specs.Escapes.{written_byte}
use Rattle.html_sheets.proofs.EscapeLemmas.{keep_byte, end_run, run-end, at_end}
use Rattle.html_sheets.proofs.escape.write_escaped.Goals as goal
use Rattle.html_sheets.proofs.escape.write_escaped.Goals.{in-Some+in_ok-write_str+in_ok-write_str-2, in_default}

pub bytes-init : goal.bytes-init
bytes-init g c = (omega arith, IsCharBoundary-start c.args.text.now c.utf8.text, [], refl, search rules)

pub bytes-preserved : goal.bytes-preserved
bytes-preserved g c =
    let l = c.bytes in
    let s = c.args.text.now in
    let lines = c.args.lines in
    let (low, bound, done, whole, wrote) = l.invariant in
    let within : l.at < length s = omega (arith, c.as_bytes-bytes.ensures.len) in
    elim c.match-written.branch [
      | in-Some+in_ok-write_str+in_ok-write_str-2 w ↦
          let written = w.in-Some.written.now in
          let is : written_byte lines (get_or s l.at 0) ≡ written = search rules in
          let ascii : get_or s l.at 0 < 128 = search rules in
          let run = take (l.at - l.start) (drop l.start s) in
          rw (w.start-is, w.f-is) (
            omega arith,
            IsCharBoundary-after_ascii s l.at c.utf8.text within ascii,
            done ++ (run ++ written),
            end_run lines s done _ written l.start l.at within is whole,
            λ plain.
                let sofar = wrote plain in
                let one = w.write_str.ensures.writes sofar.plain (search rules) in
                let two = w.write_str-in-Some.ensures.writes one.plain (search rules) in
                has_written_of_eq _ _ _ _ _ (grind (arith, common_steps, append_assoc)) (has_written_append _ _ _ _ _ _ (has_written_append _ _ _ _ _ _ sofar one) two),
          )
      | in_default w ↦
          let same : written_byte lines (get_or s l.at 0) ≡ get_or s l.at 0 ∷ [] = search rules in
          rw (w.start-is, w.f-is) (omega arith, bound, done, keep_byte lines s done _ l.start l.at low within same whole, wrote)
    ]

pub returns : goal.returns
returns g c = λ plain ok.
    let s = c.args.text.now in
    let lines = c.args.lines in
    let (low, bound, done, whole, wrote) = c.bytes.invariant in
    let end = at_end c.bytes.at _ (length s) c.bytes-test.false c.bytes.auto.at-end c.as_bytes-bytes.ensures.len in
    let sofar = wrote plain in
    has_written_of_eq _ _ _ _ _ (ap (λ z. done ++ z) c.range_from.ensures.value ∙ run-end lines s done (flat_map (written_byte lines) s) c.bytes.start c.bytes.at low end whole)
    (has_written_append _ _ _ _ _ _ sofar (c.write_str-2.ensures.writes sofar.plain ok))
