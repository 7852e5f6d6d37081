use Rattle.std.proofs.Common.{Err, [], subst}
use Rattle.docket_applying.specs.AnyRows.{PreservesListing}
use Rattle.docket_applying.specs.Listing.{Lists}
use Rattle.docket_applying.specs.declared.listing.ListingEnd.{ListingEnd}
use Rattle.docket_applying.proofs.ListingLemmas.{none_broken, none_out, part_broken}
use Rattle.docket_store.proofs.docket.Docket.calendar.Goals as goal

pub returns-in-Err-NotBegun-clause-stays : goal.returns-in-Err-NotBegun-clause-stays
returns-in-Err-NotBegun-clause-stays g c rows holds = subst (λ (end : ListingEnd). PreservesListing g.S.Store c.calendar_after.new.self.conn rows (Err end)) c.in-Err-NotBegun.field-0-is (c.in-Err-NotBegun.ensures.stays rows holds)

pub returns-in-Err-Broken-clause-stays : goal.returns-in-Err-Broken-clause-stays
returns-in-Err-Broken-clause-stays g c rows holds = subst (λ (end : ListingEnd). PreservesListing g.S.Store c.calendar_after.new.self.conn rows (Err end)) c.in-Err-Broken.field-0-is (c.in-Err-Broken.ensures.stays rows holds)

pub returns-in-Err-WriteFailed-clause-stays : goal.returns-in-Err-WriteFailed-clause-stays
returns-in-Err-WriteFailed-clause-stays g c rows holds = subst (λ (end : ListingEnd). PreservesListing g.S.Store c.calendar_after.new.self.conn rows (Err end)) c.in-Err-WriteFailed.field-0-is (c.in-Err-WriteFailed.ensures.stays rows holds)

pub returns-in-Err-NotBegun-clause-cause : goal.returns-in-Err-NotBegun-clause-cause
returns-in-Err-NotBegun-clause-cause g c rows holds clean failed =
    c.in-Err-NotBegun.ensures.cause rows holds clean (none_broken c.in-Err-NotBegun.field-0 c.in-Err-NotBegun.fault c.in-Err-NotBegun.field-0-is failed)

pub returns-in-Err-Broken-clause-cause : goal.returns-in-Err-Broken-clause-cause
returns-in-Err-Broken-clause-cause g c rows holds clean failed =
    c.in-Err-Broken.ensures.cause rows holds clean (part_broken c.in-Err-Broken.field-0 c.in-Err-Broken.fault c.in-Err-Broken.field-0-is failed)

pub returns-in-Err-NotBegun-clause-answer : goal.returns-in-Err-NotBegun-clause-answer
returns-in-Err-NotBegun-clause-answer g c h stands =
    let before = g.W.Write.contents c.args.writer.now in
    let after = g.W.Write.contents c.calendar_after.new.writer in
    let listed = subst (λ (end : ListingEnd). Lists g.S.Store c.calendar_after.new.self h c.args.from c.args.to [] before after (Err end)) c.in-Err-NotBegun.field-0-is (c.in-Err-NotBegun.ensures.answer h stands) in
    (listed.0, λ clean. none_out before after _ (listed.1 clean))
