-- From what the writing of a calendar leaves of the tables to what it leaves of the docket.
use Rattle.std.proofs.Common.{◌≡◌, ◌∙◌, inl, inr, ℕ, true, List, [], Option, Some, None, Result, Err, refl, sym, ap, subst}
use Rattle.std.specs.Io.KnownBytes.{Appends}
use Rattle.std.specs.Prelude.{is_some}
use Rattle.sqlite.specs.Store.{Ghosts}
use Rattle.sqlite.specs.Held.{Held}
use Rattle.sqlite.specs.declared.error.Error.{Error}
use Rattle.court_days.specs.Court.{CourtSettings}
use Rattle.docket_history.specs.Histories.{History}
use Rattle.docket_history.specs.declared.item.CalendarItem.{CalendarItem}
use Rattle.line_io.specs.Output.{HasFront}
use Rattle.docket_calendar.specs.Telling.{IsHistoryOf}
use Rattle.docket_applying.specs.Applying.{IsDocket}
use Rattle.docket_applying.specs.Dockets.{serving}
use Rattle.docket_applying.specs.Listing.{HasBroken, Lists}
use Rattle.docket_applying.specs.declared.fault.Fault.{Fault}
use Rattle.docket_applying.specs.declared.fault.Fault.TheVariants.{Damaged, StoreFailed}
use Rattle.docket_applying.specs.declared.listing.CalendarEnd.{CalendarEnd}
use Rattle.docket_applying.specs.declared.listing.CalendarEnd.TheVariants.{Store}
use Rattle.docket_applying.specs.declared.listing.ListingEnd.{ListingEnd}
use Rattle.docket_applying.specs.declared.listing.ListingEnd.TheVariants as listing_end

pub history_of : (court : CourtSettings) (h : History) → IsDocket court h → IsHistoryOf court h
history_of court h is = record { settings = is.settings; history = is.history; commands = is.commands }

pub none_out : (before after : Option (List ℕ)) (text : List ℕ) → Appends before after [] → HasFront before after text
none_out before after text nothing = record { out = []; lost = text; whole = refl; appends = nothing }

module _ {S : Type 0} (g : Ghosts S) (h : History) (from to : ℕ) (front : List ℕ) (before after : Option (List ℕ)) where
  -- a docket is closed exactly if its database failed
  pub lists_kept : (conn : Held S) (court : CourtSettings) (kept : Option (List CalendarItem)) (by : Option Error) (result : Result ℕ ListingEnd) → (is_some by ≡ true → HasBroken result)
      → Lists g (serving conn court kept) h from to front before after result → Lists g (record { conn = conn; court = court; closed = is_some by; closed_by = by; calendar = kept }) h from to front before after result
  lists_kept conn court kept None result broken lists = lists
  lists_kept conn court kept (Some e) result broken lists = elim (broken refl) [
    | inl none ↦ subst (Lists g (record { conn = conn; court = court; closed = true; closed_by = Some e; calendar = kept }) h from to front before after) (sym none) (subst (Lists g (serving conn court kept) h from to front before after) none lists)
    | inr part ↦ subst (Lists g (record { conn = conn; court = court; closed = true; closed_by = Some e; calendar = kept }) h from to front before after) (sym part) (subst (Lists g (serving conn court kept) h from to front before after) part lists)
  ]

-- a calendar that broke off at a fault of the store

abbrev fault_in : Result ℕ CalendarEnd → Fault
fault_in (Err (Store fault)) = fault
fault_in _ = Damaged

failed_fault : (fault : Fault) → ◌≡◌ {A = Result ℕ CalendarEnd} (Err (Store fault)) (Err (Store StoreFailed)) → fault ≡ StoreFailed
failed_fault fault is = ap fault_in is

pub none_broken : (end : ListingEnd) (fault : Fault) → end ≡ listing_end.NotBegun fault → ◌≡◌ {A = Result ℕ CalendarEnd} (Err (Store fault)) (Err (Store StoreFailed)) → HasBroken (Err end)
none_broken end fault is failed = inl (ap Err (is ∙ ap listing_end.NotBegun (failed_fault fault failed)))

pub part_broken : (end : ListingEnd) (fault : Fault) → end ≡ listing_end.Broken fault → ◌≡◌ {A = Result ℕ CalendarEnd} (Err (Store fault)) (Err (Store StoreFailed)) → HasBroken (Err end)
part_broken end fault is failed = inr (ap Err (is ∙ ap listing_end.Broken (failed_fault fault failed)))
