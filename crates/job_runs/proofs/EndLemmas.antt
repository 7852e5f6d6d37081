-- How a job on files ended, and what goes out of a text.
use Rattle.std.proofs.Common.{◌≡◌, ℕ, List, Option, Some, None, Result, Ok, Err, IfErr, IfOk, IsErr, IsOkAnd, MatchOption, MatchResult, OnOk, ◌∙◌, sym, subst, subst₂}
use Rattle.std.proofs.lemmas.Bool.{false≢true}
use Rattle.std.proofs.lemmas.Result.{IfErr-weaker}
use Rattle.docket_scan.specs.declared.fault.AdoptFault.{AdoptFault}
use Rattle.line_io.specs.Output.{AppendsFront}
use Rattle.job_ends.specs.declared.status.Status.{Status}
use Rattle.job_ends.specs.declared.status.Status.TheVariants.{Failed}
use Rattle.job_runs.specs.Tells.{SaysMissing}

pub err_holds : {T E : Type 0} (r : Result T E) (K : Type 0) → IfErr r (λ _. K) → IsErr r → K
err_holds (Ok x) K all is = absurd (false≢true is)
err_holds (Err e) K all is = all

-- what holds of an outcome that is a fault
pub of_fault : {T E : Type 0} (r : Result T E) (Q : Result T E → Type 0) → Q r → IsErr r → (fault : E) × Q (Err fault)
of_fault (Ok x) Q holds is = absurd (false≢true is)
of_fault (Err e) Q holds is = (e, holds)

-- For a job on files that were opened, `outcome` is its outcome and `left_of` what is left of them. What holds of any outcome holds of the one
-- that was found.
pub gives : {X Y L R : Type 0} (ended : Result X Y) (left_of : X → L) (Clean : L → Type 0) (outcome : X → R) (Q : L → R → Type 0) (found : R) (left : L)
    → IfOk ended (λ it. Clean (left_of it) → Q (left_of it) (outcome it)) → IsOkAnd ended (λ it. (outcome it ≡ found) × (left_of it ≡ left)) → Clean left → Q left found
gives (Ok it) left_of Clean outcome Q found left all is clean = subst₂ Q is.1 is.0 (all (subst Clean (sym is.1) clean))
gives (Err y) left_of Clean outcome Q found left all is clean = absurd is

-- the work was not begun, or the files were not opened
pub undone : {X Y L : Type 0} (ended : Result X Y) (left_of : X → L) (Clean : L → Type 0) (A : X → Type 0) (K : L → Type 0) (N : Type 0) (left : Option L)
    → IfOk ended (λ it. Clean (left_of it) → A it → K (left_of it)) → MatchResult ended (λ it. (left ≡ Some (left_of it)) × A it) (λ _. left ≡ None) → N
    → MatchOption left N (λ rest. Clean rest → K rest)
undone (Ok it) left_of Clean A K N left all is none = subst (λ o. MatchOption o N (λ rest. Clean rest → K rest)) (sym is.0) (λ clean. all clean is.1)
undone (Err y) left_of Clean A K N left all is none = subst (λ o. MatchOption o N (λ rest. Clean rest → K rest)) (sym is) none

-- what follows from a fact about a work that was not begun, or files that were not opened, holds of them too
pub unbegun : {X Y T : Type 0} (ended : Result X Y) (outcome : X → Result T AdoptFault) (A B : Type 0) → (A → B)
    → MatchResult ended (λ it. IfErr (outcome it) (λ _. A)) (λ _. A) → MatchResult ended (λ it. IfErr (outcome it) (λ _. B)) (λ _. B)
unbegun (Ok it) outcome A B then is = IfErr-weaker (outcome it) (λ _. A) (λ _. B) (λ fault. then) is
unbegun (Err y) outcome A B then is = then is

-- and the same for a job where the files were not opened
pub unopened : {X Y L T : Type 0} (ended : Result X Y) (left_of : X → L) (outcome : X → Result T AdoptFault) (W : Type 0) (left : Option L)
    → MatchResult ended (λ it. IfErr (outcome it) (λ _. W)) (λ _. W) → MatchResult ended (λ it. (left ≡ Some (left_of it)) × IsErr (outcome it)) (λ _. left ≡ None)
    → MatchOption left W (λ _. Unit {0})
unopened (Ok it) left_of outcome W left same is = subst (λ o. MatchOption o W (λ _. Unit {0})) (sym is.0) tt
unopened (Err y) left_of outcome W left same is = subst (λ o. MatchOption o W (λ _. Unit {0})) (sym is) same

-- or the fact holds anyway
pub unopened_end : {X Y L : Type 0} (ended : Result X Y) (left_of : X → L) (A : X → Type 0) (N : Type 0) (left : Option L)
    → MatchResult ended (λ it. (left ≡ Some (left_of it)) × A it) (λ _. left ≡ None) → N → MatchOption left N (λ _. Unit {0})
unopened_end (Ok it) left_of A N left is none = subst (λ o. MatchOption o N (λ _. Unit {0})) (sym is.0) tt
unopened_end (Err y) left_of A N left is none = subst (λ o. MatchOption o N (λ _. Unit {0})) (sym is) none

-- where the files were not opened, what holds then
pub unopened_told : {X Y L : Type 0} (ended : Result X Y) (left_of : X → L) (A : X → Type 0) (W : Type 0) (left : Option L)
    → IfErr ended (λ _. W) → MatchResult ended (λ it. (left ≡ Some (left_of it)) × A it) (λ _. left ≡ None) → MatchOption left W (λ _. Unit {0})
unopened_told (Ok it) left_of A W left told is = subst (λ o. MatchOption o W (λ _. Unit {0})) (sym is.0) tt
unopened_told (Err y) left_of A W left told is = subst (λ o. MatchOption o W (λ _. Unit {0})) (sym is) told

-- what follows from two facts about files that were opened
pub of_both : {X Y : Type 0} (ended : Result X Y) (P Q R : X → Type 0) → ((it : X) → P it → Q it → R it) → IfOk ended P → IfOk ended Q → IfOk ended R
of_both (Ok it) P Q R then p q = then it p q
of_both (Err y) P Q R then p q = tt

-- a work that was done leaves this
pub made_left : {X Y L T E : Type 0} (ended : Result X Y) (left_of : X → L) (Clean : L → Type 0) (outcome : X → Result T E) (K : L → Type 0) (found : T) (left : L)
    → IfOk ended (λ it. Clean (left_of it) → OnOk (outcome it) (K (left_of it))) → IsOkAnd ended (λ it. (outcome it ≡ Ok found) × (left_of it ≡ left)) → Clean left → K left
made_left (Ok it) left_of Clean outcome K found left all is clean = subst K is.1 (subst (λ o. OnOk o (K (left_of it))) is.0 (all (subst Clean (sym is.1) clean)))
made_left (Err y) left_of Clean outcome K found left all is clean = absurd is

-- something is left
pub some_left : {L : Type 0} (o : Option L) (left : L) (N : Type 0) (Q : L → Type 0) → o ≡ Some left → Q left → MatchOption o N Q
some_left o left N Q is holds = subst (λ o. MatchOption o N Q) (sym is) holds

-- a job that failed reports nothing as missing
pub failed_otherwise : (line : List ℕ) (status : Status) (before after : Option (List ℕ)) → status ≡ Failed → SaysMissing line status before after
failed_otherwise line status before after failed = λ is. absurd (cc)

-- what was printed is the same on a standard error that was untouched before, and under an equal status
pub said_missing : (line : List ℕ) (status found : Status) (before mid after : Option (List ℕ)) → status ≡ found → mid ≡ before
    → SaysMissing line found mid after → SaysMissing line status before after
said_missing line status found before mid after same untouched says = λ is. subst (λ b. AppendsFront b after line) untouched (says (sym same ∙ is))

-- what holds for each holds for all
pub for_all : {I X Y : Type 0} (ended : Result X Y) (P : I → X → Type 0) → ((i : I) → IfOk ended (P i)) → IfOk ended (λ it. (i : I) → P i it)
for_all (Ok it) P all = all
for_all (Err y) P all = tt
