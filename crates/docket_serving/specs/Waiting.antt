-- The connections that wait to be served.
use Rattle.std.specs.Prelude.{◌≡◌, List, [], ◌∷◌, ◌++◌, map, All}
use Rattle.patient_stream.specs.declared.stream.Stream.{Stream}
use Rattle.http_request.specs.Request.{EndsEarly}
use Rattle.http_request.specs.declared.page.Routes.{Routes}
use Rattle.docket_serving.specs.declared.caller.Caller.{Caller}

-- their connections, the oldest first
abbrev pub streams : List Caller → List Stream
streams callers = map (λ (c : Caller). c.stream) callers

-- what was read of each is no whole request yet, where these routes are served
abbrev pub AreUnready : Routes → List Caller → Type 0
AreUnready routes callers = All (λ (c : Caller). EndsEarly routes c.came.items) callers

-- one was taken out, and the others stay in their order
abbrev pub IsTakenOut : {A : Type 0} → A → List A → List A → Type 0
IsTakenOut {A} one old new = (before : List A) × (after : List A) × (old ≡ before ++ one ∷ after) × (new ≡ before ++ after)

-- the first is gone, and one more stands at the end
abbrev pub JoinsBehind : {A : Type 0} → A → List A → A → List A → Type 0
JoinsBehind {A} first old last new = (others : List A) × (old ≡ first ∷ others) × (new ≡ others ++ last ∷ [])
