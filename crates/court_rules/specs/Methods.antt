-- The methods of service.
use Rattle.std.specs.Prelude.{ℕ, List, [], ◌∷◌, codes, Bool, true, false, Option, find}
use Rattle.std.specs.Str.{bytes_eq}
use Rattle.court_rules.specs.declared.method.Method.{Method}
use Rattle.court_rules.specs.declared.method.Method.TheVariants.{Rule4, A, B, C, D, E, F, Nothing}

-- the word that the clerk enters for a method
abbrev pub method_name : Method → List ℕ
method_name Rule4 = codes "rule4"
method_name A = codes "A"
method_name B = codes "B"
method_name C = codes "C"
method_name D = codes "D"
method_name E = codes "E"
method_name F = codes "F"
method_name Nothing = codes "none"

-- the methods, in this order
abbrev pub methods : List Method
methods = Rule4 ∷ A ∷ B ∷ C ∷ D ∷ E ∷ F ∷ Nothing ∷ []

-- the method of that name
abbrev pub method_named : List ℕ → Option Method
method_named text = find (λ method. bytes_eq (method_name method) text) methods

-- Fed. R. Civ. P. 6(d): service by (C) mail, by (D) leaving with the clerk or by (F) other means consented to adds three days
abbrev pub gives_additional_time : Method → Bool
gives_additional_time C = true
gives_additional_time D = true
gives_additional_time F = true
gives_additional_time _ = false
