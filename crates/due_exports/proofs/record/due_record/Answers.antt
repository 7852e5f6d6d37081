use Rattle.std.proofs.Common.{[], decimal, unwrap_or}
use Rattle.docket_text.specs.Parties.{party_text}
use Rattle.due_exports.specs.Ends.{day_of_end, time_of_end, closing_of_end}
use Rattle.due_exports.proofs.FieldLemmas.{meant, begun, added, ended}
use Rattle.due_exports.proofs.record.due_record.Goals as goal

pub returns : goal.returns
returns c =
    let court = c.args.court.now in
    let due = c.args.entry.now.due.now in
    let row = c.args.entry.now.case.now in
    let label = meant _ _ _ _ c.in_ok-push_next.ensures c.as_str.ensures in
    let caption = meant _ _ _ _ c.in_ok-push_next-2.ensures c.as_str-2.ensures in
    let rule = meant _ _ _ _ c.in_ok-push_next-3.ensures c.as_str-3.ensures in
    let end = begun _ _ (day_of_end court due.end) (time_of_end court due.end) (unwrap_or (closing_of_end due.close due.end) []) (decimal due.case) _ c.new-text.ensures.bytes c.in_ok-push_end.ensures in
    ended _ _ _ c.in_ok-push_str.ensures.bytes
    (added _ _ (party_text due.party) _ _ c.in_ok-push_party.ensures
    (added _ _ due.rule _ _ rule
    (added _ _ (decimal due.number) _ _ c.in_ok-push_number-2.ensures
    (added _ _ row.caption _ _ caption
    (added _ _ row.label _ _ label
    (added _ _ (decimal due.case) _ _ c.in_ok-push_number.ensures end))))))
