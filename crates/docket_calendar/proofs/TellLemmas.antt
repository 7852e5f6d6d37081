-- The result of a calendar that is written row by row, wherever it stops.
use Rattle.std.proofs.Common.{◌≡◌, ◌⊎◌, inl, inr, ℕ, ◌+◌, Bool, true, false, List, [], ◌++◌, Option, Some, None, Result, Ok, Err, IsTrue, IsErrAnd, is_some, append-nil, refl, sym, ap, subst, subst₂, ◌∙◌}
use Rattle.std.specs.Io.KnownBytes.{Appends}
use Rattle.std.proofs.KnownBytes.{Appends-trans}
use Rattle.sqlite.specs.Order.{Row}
use Rattle.sqlite.specs.Effect.{Database}
use Rattle.sqlite.specs.Store.{Ghosts}
use Rattle.sqlite.specs.State.{State, IsUnchanged, IsRolledBack, Fails}
use Rattle.sqlite.specs.declared.error.Error.{Error}
use Rattle.sqlite.specs.Held.{Held, state}
use Rattle.sqlite.proofs.Callers.{unchanged_then}
use Rattle.court_days.specs.Calendar.{Entered}
use Rattle.court_days.specs.Court.{CourtSettings}
use Rattle.docket_history.specs.declared.record.DueRow.{DueRow}
use Rattle.line_io.specs.Output.{HasFront}
use Rattle.docket_tables.specs.declared.fault.ReadFault.{ReadFault}
use Rattle.docket_tables.specs.declared.fault.ReadFault.TheVariants.{Store, NoMemory, Damaged}
use Rattle.docket_calendar.specs.Asked.{Lists, Gave, Next, RemainsAt, RemainsAfter}
use Rattle.docket_calendar.specs.Sending.{line_text, IsAt, opening, sent, LeavesAt, Remains, RemainsStopped, SendsNext, SendsAll}
use Rattle.docket_calendar.specs.Stops.{IsStopAt}
use Rattle.docket_calendar.specs.declared.stop.Stop.{Stop}
use Rattle.docket_calendar.specs.declared.stop.Stop.TheVariants.{NotBegun, Broken, WriteFailed}
use Rattle.docket_calendar.proofs.SendLemmas.{sent_more, sent_whole, begun_at, stopped_in}

pub unchanged_still : (s : State) → IsTrue s.is_open → IsUnchanged s s
unchanged_still s is_open = (record { was_open = is_open; is_open = is_open; now_is = refl; committed_is = refl; mode = refl }, record { changes = refl; last_rowid = refl }, refl)

rolled_then : (a b c : State) → IsUnchanged a b → IsRolledBack b c → IsRolledBack a c
rolled_then a b c same r = record {
  was_open = λ _. same.0.was_open;
  undone = λ is_open. let u = r.undone is_open in (u.0 ∙ same.0.committed_is, u.1 ∙ same.0.committed_is);
  autocommit = r.autocommit;
  unmarked = r.unmarked;
  counts = record { changes = r.counts.changes ∙ same.1.changes; last_rowid = r.counts.last_rowid ∙ same.1.last_rowid };
}

-- what any question leaves of the connection
module _ {S : Type 0} (g : Ghosts S) where
  pub advance_remains : {X : Type 0} (old new : Held S) (e : Error) (res : Result X ReadFault) → IsErrAnd res (λ f. f ≡ Store e) → Fails (state g old) (state g new) ⊥ e ⊎ IsUnchanged (state g old) (state g new) → RemainsAfter g old new res
  advance_remains old new e (Ok x) same left = absurd same
  advance_remains old new e (Err f) same (inl fails) = subst (RemainsAt g old new) (sym same) (inr fails.3)
  advance_remains old new e (Err f) same (inr still) = subst (RemainsAt g old new) (sym same) (inl still)

  pub stop_remains : (old new : Held S) (n : ℕ) (fault : ReadFault) (stop : Stop) → IsStopAt n fault stop → RemainsAt g old new fault → RemainsStopped g old new stop
  stop_remains old new n fault (NotBegun f) at left = subst (RemainsAt g old new) (sym at.1) left
  stop_remains old new n fault (Broken f) at left = subst (RemainsAt g old new) (sym at.1) left
  stop_remains old new n fault WriteFailed at left = absurd at

  pub err_remains : {X : Type 0} (old new : Held S) (stop : Stop) (res : Result X Stop) → IsErrAnd res (λ f. f ≡ stop) → RemainsStopped g old new stop → Remains g old new res
  err_remains old new stop (Ok x) same left = absurd same
  err_remains old new stop (Err f) same left = subst (RemainsStopped g old new) (sym same) left

  pub remains_at : (old mid new : Held S) (fault : ReadFault) → IsUnchanged (state g old) (state g mid) → RemainsAt g mid new fault → RemainsAt g old new fault
  remains_at old mid new (Store e) same (inl still) = inl (unchanged_then (state g old) (state g mid) (state g new) same still)
  remains_at old mid new (Store e) same (inr undone) = inr (rolled_then (state g old) (state g mid) (state g new) same undone)
  remains_at old mid new NoMemory same still = unchanged_then (state g old) (state g mid) (state g new) same still
  remains_at old mid new Damaged same still = unchanged_then (state g old) (state g mid) (state g new) same still

  -- the same after what changed nothing
  pub remains_from : {X : Type 0} (old mid new : Held S) (res : Result X Stop) → IsUnchanged (state g old) (state g mid) → Remains g mid new res → Remains g old new res
  remains_from old mid new (Ok x) same still = unchanged_then (state g old) (state g mid) (state g new) same still
  remains_from old mid new (Err (NotBegun fault)) same left = remains_at old mid new fault same left
  remains_from old mid new (Err (Broken fault)) same left = remains_at old mid new fault same left
  remains_from old mid new (Err WriteFailed) same still = unchanged_then (state g old) (state g mid) (state g new) same still

module _ {S : Type 0} (g : Ghosts S) (court : CourtSettings) (listed : List DueRow) where
  pub lists_still : {entered : Entered} (sql : List ℕ) (params : Row) (old now : Held S) → IsUnchanged (state g old) (state g now) → Lists sql params court entered (state g old).now listed → Lists sql params court entered (state g now).now listed
  lists_still {entered} sql params old now same lists = subst (λ (d : Database). Lists sql params court entered d listed) (sym same.0.now_is) lists

  pub leaves_from : (old now new : Held S) (fault : ReadFault) → IsUnchanged (state g old) (state g now) → LeavesAt g now new fault → LeavesAt g old new fault
  leaves_from old now new (Store e) same (inl still) = inl (unchanged_then (state g old) (state g now) (state g new) same still)
  leaves_from old now new (Store e) same (inr undone) = inr (rolled_then (state g old) (state g now) (state g new) same undone)
  leaves_from old now new NoMemory same still = unchanged_then (state g old) (state g now) (state g new) same still
  leaves_from old now new Damaged same never = never

  -- a line that could not be written whole
  next_same : (sql : List ℕ) (params : Row) (n : ℕ) (old new : Held S) (due : Option DueRow) → Next g sql params court listed n old new (Ok due) → IsUnchanged (state g old) (state g new) × IsAt listed n due
  next_same sql params n old new (Some d) next = (next.0, next.1)
  next_same sql params n old new None next = (next.0, next.1)

  pub write_stops : (sql : List ℕ) (params : Row) (n : ℕ) (front text : List ℕ) (u v : Option (List ℕ)) (old new : Held S) (due : Option DueRow) (res : Result Bool Stop) (stop : Stop)
      → Next g sql params court listed n old new (Ok due) → text ≡ line_text court n due → HasFront u v (front ++ text) → stop ≡ WriteFailed → IsErrAnd res (λ f. f ≡ stop)
      → SendsNext g sql params court listed n front u v old new res
  write_stops sql params n front text u v old new due (Ok x) stop next is h failed same = absurd same
  write_stops sql params n front text u v old new due (Err f) stop next is h failed same =
      let left = next_same sql params n old new due next in
      subst (λ e. SendsNext g sql params court listed n front u v old new (Err e)) (sym (same ∙ failed)) (left.0, (due, left.1, subst (λ (t : List ℕ). HasFront u v (front ++ t)) is h))

  -- and one that was
  pub line_sent : (sql : List ℕ) (params : Row) (n : ℕ) (front text : List ℕ) (u v : Option (List ℕ)) (old new : Held S) (due : Option DueRow) (more : Bool)
      → Next g sql params court listed n old new (Ok due) → text ≡ line_text court n due → Appends u v (front ++ text) → more ≡ is_some due
      → SendsNext g sql params court listed n front u v old new (Ok more)
  line_sent sql params n front text u v old new (Some d) more next is went some =
      subst (λ b. SendsNext g sql params court listed n front u v old new (Ok b)) (sym some) (next.0, (d, next.1, subst (λ (t : List ℕ). Appends u v (front ++ t)) is went), next.2)
  line_sent sql params n front text u v old new None more next is went none =
      subst (λ b. SendsNext g sql params court listed n front u v old new (Ok b)) (sym none) (next.0, next.1, subst (λ (t : List ℕ). Appends u v (front ++ t)) is went)

  module _ (front : List ℕ) (sql : List ℕ) (params : Row) where
    -- how far the calendar has come
    pub record IsTold (n : ℕ) (u v : Option (List ℕ)) (old now : Held S) : Type 0 where
      pub same : IsUnchanged (state g old) (state g now)
      pub gave : Gave g sql params court listed n now
      pub went : Appends u v (sent court front listed n)

    module _ (n : ℕ) (u v w : Option (List ℕ)) (old now new : Held S) (told : IsTold n u v old now) where
      -- a line may follow
      goes_on : SendsNext g sql params court listed n (opening front n) v w now new (Ok true) → IsTold (n + 1) u w old new
      goes_on sends = record {
        same = unchanged_then (state g old) (state g now) (state g new) told.same sends.0;
        gave = sends.2;
        went = subst (Appends u w) (sent_more court listed front n sends.1.0 sends.1.1) (Appends-trans u v w (sent court front listed n) _ told.went sends.1.2);
      }

      -- the last line went out
      whole : SendsNext g sql params court listed n (opening front n) v w now new (Ok false) → SendsAll g court listed front u w old new (Ok n)
      whole sends = (
        unchanged_then (state g old) (state g now) (state g new) told.same sends.0,
        subst (Appends u w) (sent_whole court listed front n sends.1) (Appends-trans u v w (sent court front listed n) _ told.went sends.2),
        sym sends.1,
      )

      stops : (stop : Stop) → SendsNext g sql params court listed n (opening front n) v w now new (Err stop) → SendsAll g court listed front u w old new (Err stop)
      stops (NotBegun fault) sends =
          let none : sent court front listed n ≡ [] = ap (sent court front listed) sends.0 in
          (Appends-trans u v w [] [] (subst (Appends u v) none told.went) sends.1, leaves_from old now new fault told.same sends.2)
      stops (Broken fault) sends =
          let went : Appends u w (sent court front listed n) = subst (Appends u w) (append-nil (sent court front listed n)) (Appends-trans u v w (sent court front listed n) [] told.went sends.1) in
          (begun_at court listed front n u w sends.0 told.gave.1 went, leaves_from old now new fault told.same sends.2)
      stops WriteFailed sends =
          (stopped_in court listed front n sends.1.0 u v w sends.1.1 told.went sends.1.2, unchanged_then (state g old) (state g now) (state g new) told.same sends.0)

      -- the same, of a result and of bytes that are known to be these
      pub goes_on_as : (out : List ℕ) (more : Bool) → out ≡ opening front n → more ≡ true → SendsNext g sql params court listed n out v w now new (Ok more) → IsTold (n + 1) u w old new
      goes_on_as out more is some sends = goes_on (subst₂ (λ (o : List ℕ) (b : Bool). SendsNext g sql params court listed n o v w now new (Ok b)) is some sends)

      pub whole_as : (out : List ℕ) (more : Bool) → out ≡ opening front n → more ≡ false → SendsNext g sql params court listed n out v w now new (Ok more) → SendsAll g court listed front u w old new (Ok n)
      whole_as out more is none sends = whole (subst₂ (λ (o : List ℕ) (b : Bool). SendsNext g sql params court listed n o v w now new (Ok b)) is none sends)

      pub stops_as : (out : List ℕ) (res : Result ℕ Stop) (stop : Stop) → out ≡ opening front n → IsErrAnd res (λ f. f ≡ stop) → SendsNext g sql params court listed n out v w now new (Err stop) → SendsAll g court listed front u w old new res
      stops_as out (Ok x) stop is same sends = absurd same
      stops_as out (Err f) stop is same sends =
          subst (λ e. SendsAll g court listed front u w old new (Err e)) (sym same) (stops stop (subst (λ (o : List ℕ). SendsNext g sql params court listed n o v w now new (Err stop)) is sends))

  -- the same after a question that changed nothing
  pub sends_from : (front : List ℕ) (u v : Option (List ℕ)) (old mid new : Held S) (res : Result ℕ Stop) → IsUnchanged (state g old) (state g mid) → SendsAll g court listed front u v mid new res → SendsAll g court listed front u v old new res
  sends_from front u v old mid new (Ok n) same h = (unchanged_then (state g old) (state g mid) (state g new) same h.0, h.1, h.2)
  sends_from front u v old mid new (Err (NotBegun fault)) same h = (h.0, leaves_from old mid new fault same h.1)
  sends_from front u v old mid new (Err (Broken fault)) same h = (h.0, leaves_from old mid new fault same h.1)
  sends_from front u v old mid new (Err WriteFailed) same h = (h.0, unchanged_then (state g old) (state g mid) (state g new) same h.1)
