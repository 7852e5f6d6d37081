use Rattle.std.proofs.Common.{◌++◌, ap, ◌∙◌, [], unwrap_or, string_bytes}
use Rattle.std.proofs.lemmas.Result.{on_ok_weaker}
use Rattle.csv.specs.Writing.{field_text}
use Rattle.due_exports.specs.Ends.{day_of_end, time_of_end, closing_of_end}
use Rattle.due_exports.specs.Records.{record_writer}
use Rattle.due_exports.proofs.FieldLemmas.{meant, first_three}
use Rattle.due_exports.proofs.record.push_end.Goals as goal

pub returns : goal.returns
returns c =
    let court = c.args.court.now in
    let end = c.args.end in
    let texts = c.in_ok-texts.ensures in
    let old = string_bytes c.args.text.now in
    let day = c.in_ok-push_field.ensures ∙ ap (λ f. old ++ field_text record_writer f) (c.deref.ensures ∙ texts.day) in
    let time = meant _ _ _ _ c.in_ok-push_next.ensures (c.deref-2.ensures ∙ texts.time) in
    let closing = c.closing_text.ensures ∙ ap (λ o. unwrap_or o []) texts.closing in
    on_ok_weaker c.push_next-2.result
    (λ e. first_three old _ _ _ (day_of_end court end) (time_of_end court end) (unwrap_or (closing_of_end c.args.close end) []) day time (meant _ _ _ _ e closing))
    c.push_next-2.ensures
