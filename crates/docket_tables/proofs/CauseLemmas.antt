-- Why a question fails.
use Rattle.std.proofs.Common.{◌≡◌, inl, inr, ◌∙◌, ◌≤◌, ℕ, suc, ℤ, Bool, List, [], ◌∷◌, length, append-nil, true, false, IsSome, IfErr, IsErrAnd, Result, Ok, Err, refl, sym, ap, ap₂, subst, subst₂, arith}
use Rattle.sqlite.specs.Order.{Row}
use Rattle.sqlite.specs.Kind.{Kind}
use Rattle.sqlite.specs.Kind.TheVariants.{Integer, Text}
use Rattle.sqlite.specs.Effect.{RefusesToRead}
use Rattle.sqlite.specs.Listing.{understood, reads_listing, IsSourceOf}
use Rattle.sqlite.specs.State.{State, IsNotRun, FailsToQuery}
use Rattle.sqlite.specs.declared.error.Error.{Error}
use Rattle.sqlite.specs.Values.{bound_value}
use Rattle.sqlite.specs.declared.types.Value.TheVariants as value
use Rattle.sqlite_value.specs.declared.value.Value.{Value}
use Rattle.sqlite_typing.specs.Types.{accepts_program}
use Rattle.docket_tables.specs.Causes.{IsCaused, IsCausedFault, FailsForCause, IsOwn, Suits, kinds_asked}
use Rattle.docket_tables.specs.Layouts.{Rows, are_of}
use Rattle.docket_tables.specs.Queries.{select_text}
use Rattle.docket_tables.specs.Schema.{docket_schema}
use Rattle.docket_tables.specs.Stands.{IsSettled, Sees, Shows}
use Rattle.docket_tables.specs.declared.fault.ReadFault.{ReadFault}
use Rattle.docket_tables.specs.declared.fault.ReadFault.TheVariants.{Store, NoMemory, Damaged}
use Rattle.docket_tables.specs.declared.query.Query.{Query}
use Rattle.docket_tables.specs.declared.query.Query.TheVariants as ask
use Rattle.docket_tables.proofs.EachLemmas.{each_query}
use Rattle.docket_tables.proofs.MakingCauses.{IsOne, fails_caused, never_misread, open_caused}
use Rattle.docket_tables.proofs.QueryLemmas.{query_of, command_for, parameters_of, query_read, select_means}
use Rattle.docket_tables.proofs.TextLemmas.{read_one}
use Rattle.sqlite.specs.Program.{ProgramOverflows}
use Rattle.sqlite.specs.Tree.{Trees}

so_many_asked : (q : Query) → length (parameters_of q) ≡ length (kinds_asked q)
so_many_asked = each_query (λ q. length (parameters_of q)) (λ q. length (kinds_asked q)) refl

one_statement : (q : Query) → IsOne (select_text q) (length (kinds_asked q)) (command_for q) (understood docket_schema (select_text q))
one_statement q = read_one (query_read q) (length (kinds_asked q)) (so_many_asked q)

abbrev passes : Query → Row → Bool
passes q params = accepts_program docket_schema [] (query_of q) params

nothing : (P : Row → Bool) → P [] ≡ true → (params : Row) → are_of [] params ≡ true → P params ≡ true
nothing P h [] of = h
nothing P h (v ∷ row) of = absurd (let no = of in cc)

one_number : (P : Row → Bool) → ((n : ℤ) → P (value.Int n ∷ []) ≡ true) → (params : Row) → are_of (Integer ∷ []) params ≡ true → P params ≡ true
one_number P h (value.Int n ∷ []) of = h n
one_number P h (value.Int n ∷ v ∷ row) of = absurd (let no = of in cc)
one_number P h _ of = absurd (let no = of in cc)

one_text : (P : Row → Bool) → ((t : List ℕ) → P (value.Text t ∷ []) ≡ true) → (params : Row) → are_of (Text ∷ []) params ≡ true → P params ≡ true
one_text P h (value.Text t ∷ []) of = h t
one_text P h (value.Text t ∷ v ∷ row) of = absurd (let no = of in cc)
one_text P h _ of = absurd (let no = of in cc)

two_numbers : (P : Row → Bool) → ((m n : ℤ) → P (value.Int m ∷ value.Int n ∷ []) ≡ true) → (params : Row) → are_of (Integer ∷ Integer ∷ []) params ≡ true → P params ≡ true
two_numbers P h (value.Int m ∷ row) of = one_number (λ more. P (value.Int m ∷ more)) (h m) row of
two_numbers P h _ of = absurd (let no = of in cc)

accepted : (q : Query) (params : Row) → Suits q params → passes q params ≡ true
accepted ask.Court = nothing (passes ask.Court) refl
accepted ask.Calendar = nothing (passes ask.Calendar) refl
accepted ask.CalendarRow = one_number (passes ask.CalendarRow) (λ n. refl)
accepted ask.ShortDays = nothing (passes ask.ShortDays) refl
accepted ask.ShortDayRow = one_number (passes ask.ShortDayRow) (λ n. refl)
accepted ask.LastCase = nothing (passes ask.LastCase) refl
accepted ask.CaseLabelled = one_text (passes ask.CaseLabelled) (λ t. refl)
accepted ask.CaseNumbered = one_number (passes ask.CaseNumbered) (λ n. refl)
accepted ask.LastParty = one_number (passes ask.LastParty) (λ n. refl)
accepted ask.Parties = one_number (passes ask.Parties) (λ n. refl)
accepted ask.LastEntry = one_number (passes ask.LastEntry) (λ n. refl)
accepted ask.Entries = one_number (passes ask.Entries) (λ n. refl)
accepted ask.LastDeadline = one_number (passes ask.LastDeadline) (λ n. refl)
accepted ask.Deadline = two_numbers (passes ask.Deadline) (λ m n. refl)
accepted ask.Deadlines = one_number (passes ask.Deadlines) (λ n. refl)
accepted ask.Acts = one_number (passes ask.Acts) (λ n. refl)
accepted ask.DeadlineActs = two_numbers (passes ask.DeadlineActs) (λ m n. refl)
accepted ask.Receipt = one_text (passes ask.Receipt) (λ t. refl)
accepted ask.Due = one_number (passes ask.Due) (λ n. refl)
accepted ask.LastLocalRule = nothing (passes ask.LastLocalRule) refl
accepted ask.LocalRuleNamed = one_text (passes ask.LocalRuleNamed) (λ t. refl)
accepted ask.LocalRules = nothing (passes ask.LocalRules) refl

pub so_many : (kinds : List Kind) (params : Row) → are_of kinds params ≡ true → length params ≡ length kinds
so_many [] [] of = refl
so_many (Integer ∷ kinds) (value.Int n ∷ row) of = ap (λ n. suc n) (so_many kinds row of)
so_many (Text ∷ kinds) (value.Text t ∷ row) of = ap (λ n. suc n) (so_many kinds row of)
so_many _ _ of = absurd (let no = of in cc)

-- with no aggregate nothing is summed up
no_overflow : (q : Query) (params : Row) (db : Trees) → ProgramOverflows db params [] [] (query_of q) → ⊥
no_overflow q params db (inl none) = none
no_overflow q params db (inr (k, row, inside, is, none)) = none

-- a query that is typed is refused only at the limit on steps
refused : (q : Query) (params : Row) (old new : State) (e : Error) → old.now.schema ≡ docket_schema → Suits q params → RefusesToRead old.step_limit (command_for q) old.now params e → IsCaused old new e
refused q params old new e has suits (inl mistyped) = absurd (let yes = accepted q params suits in let no = subst (λ s. accepts_program s [] (query_of q) params ≡ false) has mistyped.1 in cc)
refused q params old new e has suits (inr (inl over)) = absurd (no_overflow q params old.now.trees over.1)
refused q params old new e has suits (inr (inr stopped)) = inr (inr stopped)

-- what a question fails for, where the connection sees the rows
shown_caused : (q : Query) (params : Row) (rows : Rows) (old new : State) (e : Error) → Shows old rows → Suits q params → FailsToQuery (select_text q) params old new e → IsCaused old new e
unfolding FailsToQuery IsNotRun
shown_caused q params rows old new e was suits = go
  where
    one : IsOne (select_text q) (length params) (command_for q) (understood old.now.schema (select_text q))
    one = subst₂ (λ s n. IsOne (select_text q) n (command_for q) (understood s (select_text q))) (sym was.schema) (sym (so_many (kinds_asked q) params suits)) (one_statement q)

    go : FailsToQuery (select_text q) params old new e → IsCaused old new e
    go (inl (inl never)) = absurd (never_misread (select_text q) (command_for q) params old e one never.0)
    go (inl (inr fails)) = open_caused old new e was.is_open (fails_caused old new ⊥ e (λ no. no) fails)
    go (inr run) =
        let is = subst (IsOne (select_text q) (length params) (command_for q)) run.1.is one in
        let it = rw (is.3.0, is.3.1, append-nil params) at run.2 in
        let db : it.0 ≡ old.now = subst (λ b. IsSourceOf b old.now it.0) (ap (λ s. reads_listing s (select_text q)) was.schema ∙ (select_means q).unlisted) it.1 in
        refused q params old new e was.schema suits (subst₂ (λ k d. RefusesToRead old.step_limit k d params e) is.2 db it.2)

pub question_caused : (q : Query) (params : Row) (rows : Rows) (old new : State) (e : Error) → IsSettled old rows → Suits q params → FailsToQuery (select_text q) params old new e → IsCaused old new e
question_caused q params rows old new e was = shown_caused q params rows old new e was.shows

-- and inside a transaction
pub inside_caused : (q : Query) (params : Row) (rows : Rows) (old new : State) (e : Error) → Sees old rows → Suits q params → FailsToQuery (select_text q) params old new e → IsCaused old new e
inside_caused q params rows old new e sees = shown_caused q params rows old new e sees.shows

-- where the store failed, its error has a cause
pub err_caused : {X : Type 0} (old new : State) (e : Error) (result : Result X ReadFault) → IsErrAnd result (λ f. f ≡ Store e) → IsCaused old new e → FailsForCause old new result
err_caused old new e (Ok x) same cause = absurd same
err_caused old new e (Err f) same cause = subst (IsCausedFault old new) (sym same) cause

-- if the store did not fail, it needs no cause
pub own_caused : {X : Type 0} (old new : State) (result : Result X ReadFault) → IfErr result IsOwn → FailsForCause old new result
own_caused old new (Ok x) own = tt
own_caused old new (Err (Store e)) own = absurd own
own_caused old new (Err NoMemory) own = tt
own_caused old new (Err Damaged) own = tt

-- what was caused in a later part was caused in the whole
pub caused_after : (first old new : State) (e : Error) → first.faults ≤ old.faults → old.step_limit ≡ first.step_limit → IsCaused old new e → IsCaused first new e
caused_after first old new e counts limit (inl disk) = inl (disk.0, omega (arith, disk.1, counts))
caused_after first old new e counts limit (inr (inl short)) = inr (inl short)
caused_after first old new e counts limit (inr (inr stopped)) = inr (inr (stopped.0, subst IsSome limit stopped.1))

-- values of the kinds that are asked for

pub number_suits : {v : Value} {n : ℤ} → v ≡ value.Int n → are_of (Integer ∷ []) (bound_value v ∷ []) ≡ true
number_suits is = ap (λ w. are_of (Integer ∷ []) (bound_value w ∷ [])) is

pub text_suits : {v : Value} {t : List ℕ} → v ≡ value.Text t → are_of (Text ∷ []) (bound_value v ∷ []) ≡ true
text_suits is = ap (λ w. are_of (Text ∷ []) (bound_value w ∷ [])) is

pub numbers_suit : {v w : Value} {m n : ℤ} → v ≡ value.Int m → w ≡ value.Int n → are_of (Integer ∷ Integer ∷ []) (bound_value v ∷ bound_value w ∷ []) ≡ true
numbers_suit is also_is = ap₂ (λ a b. are_of (Integer ∷ Integer ∷ []) (bound_value a ∷ bound_value b ∷ [])) is also_is
