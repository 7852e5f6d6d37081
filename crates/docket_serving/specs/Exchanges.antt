-- The outcomes of connections, as their source reports them.
use Rattle.std.specs.Prelude.{◌≡◌, ◌≤◌, ◌<◌, ◌==◌, ◌+◌, ◌^◌, ℕ, Bool, true, false, List, [], ◌∷◌, ◌++◌, length, Option, Some, None, Result, Ok, Err, ⊤}
use Rattle.std.specs.List.{AllByRecursion}
use Rattle.docket_http.specs.declared.fault.ServeFault.{ServeFault}
use Rattle.docket_http.specs.declared.fault.ServeFault.TheVariants.{CopyWanted, StoreFailed}
use Rattle.docket_http.specs.declared.sending.Served.{Served}
use Rattle.docket_serving.specs.declared.serving.ServingFault.{ServingFault}
use Rattle.docket_serving.specs.declared.serving.ServingFault.TheVariants.{AcceptFailed, DocketFailed}

-- one connection: its number; what its reader held at first, what its writer held before and after, each if known; and how it ended
pub record Exchange : Type 0 where
  pub number : ℕ
  pub input : Option (List ℕ)
  pub before : Option (List ℕ)
  pub after : Option (List ℕ)
  pub end : Result Served ServeFault

abbrev pub exchange : ℕ → Option (List ℕ) → Option (List ℕ) → Option (List ℕ) → Result Served ServeFault → Exchange
exchange number input before after end = record { number = number; input = input; before = before; after = after; end = end }

-- known exchanges grow by these
abbrev pub Logs : Option (List Exchange) → Option (List Exchange) → List Exchange → Type 0
Logs None new more = ⊤
Logs (Some old) None more = ⊥
Logs (Some old) (Some new) more = new ≡ old ++ more

-- a number is greater than the last one, as long as there is a greater one
abbrev pub IsAbove : ℕ → ℕ → Type 0
IsAbove last number = last + 1 < 2 ^ 64 → last < number

-- each connection has a number above that of the one before it, so no two share one. The number before these is `last`, and the last of them `new`
abbrev pub Rise : ℕ → List Exchange → ℕ → Type 0
Rise last [] new = new ≡ last
Rise last (e ∷ rest) new = IsAbove last e.number × Rise e.number rest new

-- whether an end reports that the docket failed
abbrev pub tells_failure : Result Served ServeFault → Bool
tells_failure (Ok served) = served.status == 503
tells_failure (Err StoreFailed) = true
tells_failure (Err _) = false

-- whether an end reports that a copy is wanted, so that nothing was answered
abbrev pub wants_copy : Result Served ServeFault → Bool
wants_copy (Ok served) = false
wants_copy (Err CopyWanted) = true
wants_copy (Err _) = false

abbrev pub NoneFailed : List Exchange → Type 0
NoneFailed = AllByRecursion (λ e. tells_failure e.end ≡ false)

-- the last one reports that the docket failed, and none before it does
pub record FailsAtLast (all : List Exchange) : Type 0 where
  pub first : List Exchange
  pub last : Exchange
  pub is : all ≡ first ++ (last ∷ [])
  pub none_before : NoneFailed first
  pub failed : tells_failure last.end ≡ true

-- all `count` connections were taken; or fewer, if one could not be taken; or those up to the first that reports that the docket failed
abbrev pub Ends : ℕ → List Exchange → Result (Unit {0}) ServingFault → Type 0
Ends count all (Ok _) = (length all ≡ count) × NoneFailed all
Ends count all (Err AcceptFailed) = (length all < count) × NoneFailed all
Ends count all (Err DocketFailed) = (length all ≤ count) × FailsAtLast all
