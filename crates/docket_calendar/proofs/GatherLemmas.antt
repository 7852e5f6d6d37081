-- How the deadlines of a question come into a list, one after the other.
use Rattle.std.proofs.Common.{◌≡◌, inl, inr, ℕ, suc, ◌+◌, ◌<◌, ◌≤◌, List, [], ◌∷◌, ◌++◌, take, length, Some, None, Result, Ok, Err, IsTrue, IsErrAnd, IfErr, refl, sym, ap, subst, ◌∙◌, arith}
use Rattle.std.specs.List.{slice_get}
use Rattle.std.proofs.Math.Seq.{take-suc, take-length}
use Rattle.std.proofs.lemmas.Option.{get_or_from_slice_get, slice_get_within}
use Rattle.sqlite.specs.Order.{Row}
use Rattle.sqlite.specs.Store.{Ghosts}
use Rattle.sqlite.specs.State.{State, IsUnchanged}
use Rattle.sqlite.specs.Held.{Held, state}
use Rattle.sqlite.proofs.Callers.{unchanged_then}
use Rattle.court_days.specs.Court.{CourtSettings}
use Rattle.docket_history.specs.declared.record.DueRow.{DueRow}
use Rattle.docket_tables.specs.Causes.{IsCausedFault}
use Rattle.docket_tables.specs.declared.fault.ReadFault.{ReadFault}
use Rattle.docket_tables.specs.declared.fault.ReadFault.TheVariants.{Store, NoMemory, Damaged}
use Rattle.docket_tables.proofs.PassedCauses.{fault_after}
use Rattle.docket_calendar.specs.Asked.{Gave, Next, RemainsAfter}
use Rattle.docket_calendar.specs.Gathering.{ComesTo}
use Rattle.docket_calendar.specs.Sending.{LeavesAt}
use Rattle.docket_calendar.proofs.TellLemmas.{leaves_from, remains_at, unchanged_still}

-- one deadline more
take_more : (listed : List DueRow) (n : ℕ) (d : DueRow) → slice_get listed n ≡ Some d → take (n + 1) listed ≡ take n listed ++ d ∷ []
take_more listed n d at =
    let within : n < length listed = slice_get_within listed n d at in
    let next : n + 1 ≡ suc n = omega arith in
    ap (λ (k : ℕ). take k listed) next ∙ take-suc listed n d within ∙ ap (λ (x : DueRow). take n listed ++ x ∷ []) (get_or_from_slice_get listed n d d at)

module _ {S : Type 0} (g : Ghosts S) where
  -- a fault of a part is one of the whole
  pub err_comes : {X : Type 0} (old new : Held S) (answer : X → Type 0) (fault : ReadFault) (res : Result X ReadFault) → IsErrAnd res (λ f. f ≡ fault) → LeavesAt g old new fault → ComesTo g old new answer res
  err_comes old new answer fault (Ok x) same left = absurd same
  err_comes old new answer fault (Err f) same left = subst (LeavesAt g old new) (sym same) left

  pub remains_later : {X : Type 0} (old mid new : Held S) (res : Result X ReadFault) → IsUnchanged (state g old) (state g mid) → RemainsAfter g mid new res → RemainsAfter g old new res
  remains_later old mid new (Ok x) same left = unchanged_then (state g old) (state g mid) (state g new) same left
  remains_later old mid new (Err f) same left = remains_at g old mid new f same left

module _ {S : Type 0} (g : Ghosts S) (court : CourtSettings) (listed : List DueRow) where
  pub comes_from : {X : Type 0} (old mid new : Held S) (answer : X → Type 0) (res : Result X ReadFault) → IsUnchanged (state g old) (state g mid) → ComesTo g mid new answer res → ComesTo g old new answer res
  comes_from old mid new answer (Ok x) same comes = (unchanged_then (state g old) (state g mid) (state g new) same comes.0, comes.1)
  comes_from old mid new answer (Err f) same comes = leaves_from g court listed old mid new f same comes

  module _ (sql : List ℕ) (params : Row) where
    -- how far the list has come
    pub record IsGathered (n : ℕ) (found : List DueRow) (old now : Held S) : Type 0 where
      pub same : IsUnchanged (state g old) (state g now)
      pub gave : Gave g sql params court listed n now
      pub taken : found ≡ take n listed

    -- before the first deadline
    pub nothing_yet : (old : Held S) → IsTrue (state g old).is_open → Gave g sql params court listed 0 old → IsGathered 0 [] old old
    nothing_yet old is_open gave = record { same = unchanged_still (state g old) is_open; gave = gave; taken = refl }

    module _ (n : ℕ) (found : List DueRow) (old now new : Held S) (so_far : IsGathered n found old now) where
      pub goes_on : (d : DueRow) (more : List DueRow) → Next g sql params court listed n now new (Ok (Some d)) → more ≡ found ++ d ∷ [] → IsGathered (n + 1) more old new
      goes_on d more next is = record {
        same = unchanged_then (state g old) (state g now) (state g new) so_far.same next.0;
        gave = next.2;
        taken = is ∙ ap (λ (l : List DueRow). l ++ d ∷ []) so_far.taken ∙ sym (take_more listed n d next.1);
      }

      pub whole : Next g sql params court listed n now new (Ok None) → IsUnchanged (state g old) (state g new) × (found ≡ listed)
      whole next = (
        unchanged_then (state g old) (state g now) (state g new) so_far.same next.0,
        so_far.taken ∙ ap (λ (k : ℕ). take k listed) (sym next.1) ∙ take-length listed,
      )

      stops_so : (fault : ReadFault) → Next g sql params court listed n now new (Err fault) → LeavesAt g now new fault
      stops_so (Store e) (inl fails) = inr fails.3
      stops_so (Store e) (inr still) = inl still
      stops_so NoMemory still = still
      stops_so Damaged never = never

      pub stops : (fault : ReadFault) → Next g sql params court listed n now new (Err fault) → LeavesAt g old new fault
      stops fault next = leaves_from g court listed old now new fault so_far.same (stops_so fault next)

-- what was caused in a later part was caused in the whole
pub caused_after : {X : Type 0} (first old new : State) (fault : ReadFault) (res : Result X ReadFault) → IsErrAnd res (λ f. f ≡ fault) → IsCausedFault first new fault → IfErr res (IsCausedFault first new)
caused_after first old new fault (Ok x) same cause = absurd same
caused_after first old new fault (Err f) same cause = subst (IsCausedFault first new) (sym same) cause

pub whole_after : {X : Type 0} (first old new : State) (res : Result X ReadFault) → first.faults ≤ old.faults → old.step_limit ≡ first.step_limit → IfErr res (IsCausedFault old new) → IfErr res (IsCausedFault first new)
whole_after first old new (Ok x) counts limit cause = tt
whole_after first old new (Err fault) counts limit cause = fault_after first old new fault counts limit cause
