-- From each connection to all of them.
use Rattle.std.proofs.Common.{inl, inr, ◌≡◌, ◌+◌, ◌++◌, ◌∷◌, ◌≤◌, ◌⊎◌, [], ℕ, true, false, List, Option, Some, None, Result, Ok, Err, IfOk, IfErr, IsErrAnd, length-append, append-nil, append_assoc, refl, sym, ap, subst, ◌∙◌, arith}
use Rattle.std.proofs.lemmas.Bool.{false≢true}
use Rattle.std.specs.Io.KnownBytes.{Keeps}
use Rattle.std.specs.List.{AllByRecursion}
use Rattle.sqlite.specs.Store.{Ghosts}
use Rattle.sqlite.specs.Held.{state}
use Rattle.sqlite.specs.State.{HasCleanDisk}
use Rattle.sqlite.specs.View.{doubt}
use Rattle.docket_history.specs.Histories.{History}
use Rattle.docket_applying.specs.AnyRows.{HoldsDocketRows, WritesAtMostOne}
use Rattle.docket_applying.specs.Applying.{Stands}
use Rattle.docket_applying.specs.Dockets.{Docket}
use Rattle.http_request.specs.declared.page.Routes.{Routes}
use Rattle.http_request.specs.declared.wish.Wish.TheVariants.{Copy}
use Rattle.docket_http.specs.Recorded.{ServesBacked, ServesStill}
use Rattle.docket_http.specs.Serve.{Fails, Serves, ServesClosed, WantsCopy}
use Rattle.docket_http.specs.declared.fault.ServeFault.{ServeFault}
use Rattle.docket_http.specs.declared.fault.ServeFault.TheVariants as serve
use Rattle.docket_http.specs.declared.fault.ServeFault.TheVariants.{EndedEarly, ReadFailed}
use Rattle.docket_http.specs.declared.sending.Served.{Served}
use Rattle.docket_serving.specs.Exchanges.{Ends, Exchange, Logs, Rise, exchange, tells_failure, wants_copy}
use Rattle.docket_serving.specs.Serving.{Answers, AnswersOf, AreToldClosed, GivesCopy, IsAttended, Leads, ServesEach, ServesRun}
use Rattle.docket_serving.specs.declared.serving.ServingFault.{ServingFault}
use Rattle.docket_serving.proofs.StepLemmas.{Leaves, by_copy, leaves}
use Rattle.docket_serving.specs.declared.serving.ServingFault.TheVariants.{AcceptFailed, DocketFailed}

-- logs

logs_none : (a : Option (List Exchange)) → Logs a a []
logs_none None = tt
logs_none (Some x) = sym (append-nil x)

logs_then : (a b c : Option (List Exchange)) (first more : List Exchange) → Logs a b first → Logs b c more → Logs a c (first ++ more)
logs_then None b c first more p q = tt
logs_then (Some x) None c first more p q = absurd p
logs_then (Some x) (Some y) None first more p q = absurd q
logs_then (Some x) (Some y) (Some z) first more p q = q ∙ ap (λ l. l ++ more) p ∙ append_assoc x first more

all_then : {X : Type 0} (P : X → Type 0) (first more : List X) → AllByRecursion P first → AllByRecursion P more → AllByRecursion P (first ++ more)
all_then P [] more p q = q
all_then P (x ∷ first) more p q = (p.0, all_then P first more p.1 q)

-- n more connections
ends_then : (i n : ℕ) (first more : List Exchange) (result : Result (Unit {0}) ServingFault) → Ends i first (Ok tt) → Ends n more result → Ends (i + n) (first ++ more) result
ends_then i n first more (Ok done) p q = (omega (arith, length-append first more, p.0, q.0), all_then _ first more p.1 q.1)
ends_then i n first more (Err AcceptFailed) p q = (omega (arith, length-append first more, p.0, q.0), all_then _ first more p.1 q.1)
ends_then i n first more (Err DocketFailed) p q = (
  omega (arith, length-append first more, p.0, q.0),
  record {
    first = first ++ q.1.first;
    last = q.1.last;
    is = ap (λ l. first ++ l) q.1.is ∙ sym (append_assoc first q.1.first (q.1.last ∷ []));
    none_before = all_then _ first q.1.first p.1 q.1.none_before;
    failed = q.1.failed;
  },
)

-- fewer connections than there were to be
ends_below : (n count : ℕ) (all : List Exchange) (fault : ServingFault) → n ≤ count → Ends n all (Err fault) → Ends count all (Err fault)
ends_below n count all AcceptFailed below is = (omega (arith, below, is.0), is.1)
ends_below n count all DocketFailed below is = (omega (arith, below, is.0), is.1)

-- an end that wants a copy is that fault
pub wanted_copy : (end : Result Served ServeFault) → wants_copy end ≡ true → end ≡ Err serve.CopyWanted
wanted_copy (Ok served) is = absurd (cc)
wanted_copy (Err serve.CopyWanted) is = refl
wanted_copy (Err serve.WriteFailed) is = absurd (cc)
wanted_copy (Err serve.ReadFailed) is = absurd (cc)
wanted_copy (Err serve.EndedEarly) is = absurd (cc)
wanted_copy (Err serve.NoMemory) is = absurd (cc)
wanted_copy (Err serve.StoreFailed) is = absurd (cc)

-- the numbers rise on behind the first
rise_then : (first more : List Exchange) (last then number : ℕ) → Rise last first then → Rise then more number → Rise last (first ++ more) number
rise_then [] more last then number p q = subst (λ (n : ℕ). Rise n more number) p q
rise_then (e ∷ first) more last then number p q = (p.0, rise_then first more e.number then number p.1 q)

module _ {S : Type 0} (g : Ghosts S) (routes : Routes) where
  module _ (number : ℕ) where
    answers_by : (old new : Docket S) (input before after : Option (List ℕ)) (end : Result Served ServeFault)
        → IfOk end (λ served. (h : History) → Stands g old h → HasCleanDisk (state g new.conn) → Serves g routes number input old new h before after served.status)
        → IfErr end (λ fault. (h : History) → Stands g old h → HasCleanDisk (state g new.conn) → Fails g routes number input old new h before after fault)
        → (h : History) → Stands g old h → HasCleanDisk (state g new.conn) → AnswersOf g routes old new h (exchange number input before after end) end
    answers_by old new input before after (Ok served) whole fails = whole
    answers_by old new input before after (Err fault) whole fails = fails

    -- what one call promises
    pub attended_by : (old new : Docket S) (input before after : Option (List ℕ)) (end : Result Served ServeFault)
        → new.court ≡ old.court
        → doubt (state g old.conn).is_clean ≤ doubt (state g new.conn).is_clean
        → WritesAtMostOne g old new
        → ServesStill g routes number input old new
        → (old.closed ≡ true → (new ≡ old) × ServesClosed routes number input before after end)
        → IfOk end (λ served. (h : History) → Stands g old h → HasCleanDisk (state g new.conn) → Serves g routes number input old new h before after served.status)
        → IfErr end (λ fault. (h : History) → Stands g old h → HasCleanDisk (state g new.conn) → Fails g routes number input old new h before after fault)
        → (HoldsDocketRows g old → ServesBacked g routes number input new before after end)
        → IfErr end (λ fault. (fault ≡ ReadFailed) ⊎ (fault ≡ EndedEarly) → (new ≡ old) × Keeps before after)
        → wants_copy end ≡ false
        → IsAttended g routes old (exchange number input before after end) new
    attended_by old new input before after end court clean any still closed served fails recorded untouched answered = record {
      court = court;
      clean = clean;
      any = any;
      still = still;
      closed = closed;
      answered = answered;
      answers = λ h stands clean. inl (answers_by old new input before after end served fails h stands clean);
      recorded = recorded;
      untouched = untouched;
    }

    abbrev Untouched : Docket S → Docket S → Option (List ℕ) → Option (List ℕ) → Result Served ServeFault → Type 0
    Untouched old new before after end = IfErr end (λ fault. (fault ≡ ReadFailed) ⊎ (fault ≡ EndedEarly) → (new ≡ old) × Keeps before after)

    -- a request for a copy
    pub attended_by_copy : (old new : Docket S) (input before middle after : Option (List ℕ)) (end : Result Served ServeFault)
        → WritesAtMostOne g old new
        → WantsCopy routes number input old new × (middle ≡ before)
        → GivesCopy middle after end
        → IsAttended g routes old (exchange number input before after end) new
    attended_by_copy old new input before middle after end any wanted gives =
        let given : GivesCopy before after end = subst (λ (b : Option (List ℕ)). GivesCopy b after end) wanted.1 gives in
        let want = wanted.0 in
        record {
          court = ap (λ (d : Docket S). d.court) want.same;
          clean = subst (λ (d : Docket S). doubt (state g old.conn).is_clean ≤ doubt (state g d.conn).is_clean) (sym want.same) (omega arith);
          any = any;
          still = inr want.same;
          closed = λ shut. absurd (false≢true (sym want.serves ∙ shut));
          answered = by_copy (λ ended. wants_copy ended ≡ false) (λ served sends. refl) refl end given.2;
          answers = λ h stands clean. inr (record { body = want.body; asked = want.asked; same = want.same; gives = given });
          recorded = λ holds. by_copy (ServesBacked g routes number input new before after) (λ served sends. inl (Copy, want.body, want.asked, tt)) (inl (Copy, want.body, want.asked, tt)) end given.2;
          untouched = by_copy (Untouched old new before after) (λ served sends. tt) (λ is. elim is [ inl e ↦ absurd (cc) | inr e ↦ absurd (cc) ]) end given.2;
        }

  pub each_court : (all : List Exchange) (old new : Docket S) → ServesEach g routes old all new → new.court ≡ old.court
  each_court [] old new each = ap (λ (d : Docket S). d.court) each
  each_court (e ∷ rest) old new each = each_court rest each.0 new each.2 ∙ each.1.court

  pub each_clean : (all : List Exchange) (old new : Docket S) → ServesEach g routes old all new → doubt (state g old.conn).is_clean ≤ doubt (state g new.conn).is_clean
  each_clean [] old new each = subst (λ (d : Docket S). doubt (state g old.conn).is_clean ≤ doubt (state g d.conn).is_clean) (sym each) (omega arith)
  each_clean (e ∷ rest) old new each = omega (arith, each.1.clean, each_clean rest each.0 new each.2)

  pub each_closed : (all : List Exchange) (old new : Docket S) → ServesEach g routes old all new → old.closed ≡ true → (new ≡ old) × AreToldClosed routes all
  each_closed [] old new each shut = (each, tt)
  each_closed (e ∷ rest) old new each shut =
      let told = each.1.closed shut in
      let more = each_closed rest each.0 new each.2 (ap (λ (d : Docket S). d.closed) told.0 ∙ shut) in
      (more.0 ∙ told.0, (told.1, more.1))

  each_then : (first more : List Exchange) (old left new : Docket S) → ServesEach g routes old first left → ServesEach g routes left more new
      → ServesEach g routes old (first ++ more) new
  each_then [] more old left new p q = subst (λ (d : Docket S). ServesEach g routes d more new) p q
  each_then (e ∷ first) more old left new p q = (p.0, p.1, each_then first more p.0 left new p.2 q)

  pub was_clean : (before now : ℕ) → before ≤ now → now ≡ 0 → before ≡ 0
  was_clean before now less clean = omega (arith, less, clean)

  -- the next connections by what this one leaves
  leads_on : (old left new : Docket S) (h : History) (e : Exchange) (rest : List Exchange) → Answers g routes old left h e
      → ServesEach g routes left rest new
      → ((next : History) → Stands g left next → Leads g routes left next rest new) → Leaves g routes h e left → Leads g routes old h (e ∷ rest) new
  leads_on old left new h e rest answers each more (inl stays) = (left, answers, inl (stays.0, stays.1, more stays.0 stays.1.stands))
  leads_on old left new h e rest answers each more (inr fell) = (left, answers, inr (fell, each))

  each_leads : (all : List Exchange) (old new : Docket S) (h : History) → ServesEach g routes old all new → Stands g old h → HasCleanDisk (state g new.conn)
      → Leads g routes old h all new
  each_leads [] old new h each stands clean = (each, subst (λ (d : Docket S). Stands g d h) (sym each) stands)
  each_leads (e ∷ rest) old new h each stands clean =
      let left = each.0 in
      let now : HasCleanDisk (state g left.conn) = was_clean _ _ (each_clean rest left new each.2) clean in
      let answers = each.1.answers h stands now in
      leads_on old left new h e rest answers each.2 (λ next here. each_leads rest left new next each.2 here clean)
      (leaves g routes old left h e stands answers)

  module _ (last number : ℕ) (old new : Docket S) (count : ℕ) (before after : Option (List Exchange)) (result : Result (Unit {0}) ServingFault) (all : List Exchange) where
    served_by : Logs before after all → Ends count all result → Rise last all number → ServesEach g routes old all new
        → ServesRun g routes last number old new count before after result
    served_by logged ends rise each = record {
      exchanges = all;
      logged = logged;
      ends = ends;
      rise = rise;
      each = each;
      closed = each_closed all old new each;
      leads = λ h stands clean. each_leads all old new h each stands clean;
    }

  -- no connection
  pub served_none : (last : ℕ) (old : Docket S) (a : Option (List Exchange)) → ServesRun g routes last last old old 0 a a (Ok tt)
  served_none last old a = served_by last last old old 0 a a (Ok tt) [] (logs_none a) (refl, tt) refl refl

  -- more behind the first
  pub served_then : (last then number : ℕ) (old left new : Docket S) (i n : ℕ) (a b c : Option (List Exchange)) (result : Result (Unit {0}) ServingFault)
      → ServesRun g routes last then old left i a b (Ok tt) → ServesRun g routes then number left new n b c result → ServesRun g routes last number old new (i + n) a c result
  served_then last then number old left new i n a b c result p q =
      served_by last number old new (i + n) a c result (p.exchanges ++ q.exchanges) (logs_then a b c p.exchanges q.exchanges p.logged q.logged)
      (ends_then i n p.exchanges q.exchanges result p.ends q.ends)
      (rise_then p.exchanges q.exchanges last then number p.rise q.rise) (each_then p.exchanges q.exchanges old left new p.each q.each)

  -- one connection that was taken
  pub served_one : (last number : ℕ) (old new : Docket S) (e : Exchange) (a b : Option (List Exchange)) → Logs a b (e ∷ []) → Rise last (e ∷ []) number
      → IsAttended g routes old e new → tells_failure e.end ≡ false → ServesRun g routes last number old new 1 a b (Ok tt)
  served_one last number old new e a b logged rise attended fine =
      served_by last number old new 1 a b (Ok tt) (e ∷ []) logged (refl, (fine, tt)) rise (new, attended, refl)

  pub served_failed : (last number : ℕ) (old new : Docket S) (e : Exchange) (a b : Option (List Exchange)) → Logs a b (e ∷ []) → Rise last (e ∷ []) number
      → IsAttended g routes old e new → tells_failure e.end ≡ true → ServesRun g routes last number old new 1 a b (Err DocketFailed)
  served_failed last number old new e a b logged rise attended failed =
      served_by last number old new 1 a b (Err DocketFailed) (e ∷ []) logged
      (omega arith, record { first = []; last = e; is = refl; none_before = tt; failed = failed }) rise (new, attended, refl)

  -- all were taken
  pub served_all : (last number : ℕ) (old new : Docket S) (i count : ℕ) (a b : Option (List Exchange)) (result : Result (Unit {0}) ServingFault) → i ≡ count
      → ServesRun g routes last number old new i a b result → ServesRun g routes last number old new count a b result
  served_all last number old new i count a b result same p = subst (λ n. ServesRun g routes last number old new n a b result) same p

  -- the last one ends the run
  pub served_stop : (last then number : ℕ) (old left new : Docket S) (i count : ℕ) (a b c : Option (List Exchange)) (fault : ServingFault) (result : Result (Unit {0}) ServingFault)
      → i + 1 ≤ count → IsErrAnd result (λ e. e ≡ fault) → ServesRun g routes last then old left i a b (Ok tt)
      → ServesRun g routes then number left new 1 b c (Err fault) → ServesRun g routes last number old new count a c result
  served_stop last then number old left new i count a b c fault (Ok done) below told p q = absurd told
  served_stop last then number old left new i count a b c fault (Err e) below told p q =
      let both = served_then last then number old left new i 1 a b c (Err fault) p q in
      subst (λ x. ServesRun g routes last number old new count a c (Err x)) (sym told)
      (served_by last number old new count a c (Err fault) both.exchanges both.logged (ends_below (i + 1) count both.exchanges fault below both.ends) both.rise both.each)

  module _ (last number : ℕ) (old new : Docket S) (count : ℕ) (a b : Option (List Exchange)) (result : Result (Unit {0}) ServingFault)
      (run : ServesRun g routes last number old new count a b result) where
    pub served_court : new.court ≡ old.court
    served_court = each_court run.exchanges old new run.each

    pub served_clean : doubt (state g old.conn).is_clean ≤ doubt (state g new.conn).is_clean
    served_clean = each_clean run.exchanges old new run.each

-- the same routes
pub by_routes : {S : Type 0} (g : Ghosts S) (a b : Routes) → a ≡ b
    → {last number : ℕ} {old new : Docket S} {count : ℕ} {before after : Option (List Exchange)} {result : Result (Unit {0}) ServingFault}
    → ServesRun g a last number old new count before after result → ServesRun g b last number old new count before after result
by_routes g a b same {last} {number} {old} {new} {count} {before} {after} {result} run =
    subst (λ (r : Routes). ServesRun g r last number old new count before after result) same run
