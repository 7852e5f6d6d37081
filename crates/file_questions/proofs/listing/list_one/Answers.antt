use Rattle.std.proofs.Common.{◌≡◌, Bool, option_copied}
use Rattle.file_questions.specs.CaseLists.{has_party}
use Rattle.file_questions.proofs.ListLemmas.{unlisted, write_keeps}
use Rattle.file_questions.proofs.listing.list_one.Goals as goal

pub returns-in-Ok-true-clause-stays : goal.returns-in-Ok-true-clause-stays
returns-in-Ok-true-clause-stays g c rows holds =
    write_keeps g.S.Store c.has_party.new.docket.conn rows c.write_line.result (c.in-Ok-true.ensures.stays rows holds) c.write_line.ensures.end

pub returns-in-Err-clause-lists : goal.returns-in-Err-clause-lists
returns-in-Err-clause-lists g c h stands =
    unlisted g.S.Store c.has_party.new.docket h (λ (has : Bool). has ≡ has_party h (option_copied c.args.part) c.args.row.now.number) _ (g.W.Write.contents c.args.writer.now) c.in-Err.fault
    (c.in-Err.ensures.answer h stands)
