use Rattle.std.proofs.Common.{◌≡◌, ◌∙◌, ℕ, List, Some, ap}
use Rattle.std.proofs.KnownBytes.{Appends-nil}
use Rattle.sqlite.specs.Held.{state}
use Rattle.docket_history.specs.CalendarItems.{calendar_of}
use Rattle.docket_history.specs.Histories.{items_of, standing_rows}
use Rattle.docket_history.specs.declared.item.CalendarItem.{CalendarItem}
use Rattle.docket_tables.proofs.NothingLemmas.{nothing_then}
use Rattle.docket_applying.specs.Dockets.{serving}
use Rattle.docket_applying.proofs.AskLemmas.{fault_of_other, keeping}
use Rattle.docket_applying.proofs.FailureLemmas.{end_caused_after}
use Rattle.docket_applying.proofs.listing.list_days.Goals as goal

pub returns-in-Err-clause-lists : goal.returns-in-Err-clause-lists
returns-in-Err-clause-lists g c h stands =
    let left = serving c.calendar_taken.new.conn c.args.court.now c.calendar_taken.new.kept in (
      fault_of_other g.S.Store left h (λ (items : List CalendarItem). items ≡ items_of (standing_rows h)) (λ (lines : ℕ). ⊥) c.in-Err.fault (c.in-Err.ensures.answer c.args.court.now h stands),
      λ clean. Appends-nil (g.W.Write.contents c.args.writer.now),
    )

pub returns-clause-lists : goal.returns-clause-lists
returns-clause-lists g c h stands =
    let court = c.args.court.now in
    let standing : List CalendarItem = c.in-Ok.standing in
    let told = c.in-Ok.ensures.answer court h stands in
    c.list_by-listed.ensures.lists (Some standing) h (keeping g.S.Store c.calendar_taken.new.conn court c.calendar_taken.new.kept standing h told.0 told.1) (λ clean. c.calendar-entered.ensures ∙ ap calendar_of (told.1 clean))

pub returns-clause-stays : goal.returns-clause-stays
returns-clause-stays g c rows holds = c.list_by-listed.ensures.stays rows (c.in-Ok.ensures.leaves.stays rows holds)

pub returns-clause-cause : goal.returns-clause-cause
returns-clause-cause g c rows holds clean =
    let told = c.calendar_taken in
    end_caused_after (state g.S.Store c.args.conn.now) (state g.S.Store told.new.conn) (state g.S.Store c.list_by-listed.new.conn) c.list_by-listed.new.failure c.list_by-listed.result told.ensures.leaves.writes_nothing.counts told.ensures.leaves.writes_nothing.limit
    (c.list_by-listed.ensures.cause rows (c.in-Ok.ensures.leaves.stays rows holds) clean)

pub returns-clause-writes_nothing : goal.returns-clause-writes_nothing
returns-clause-writes_nothing g c = nothing_then c.calendar_taken.ensures.leaves.writes_nothing c.list_by-listed.ensures.writes_nothing
