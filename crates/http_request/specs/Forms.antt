-- Requests that enter a form.
use Rattle.std.specs.Prelude.{ℕ, List, [], ◌∷◌, ◌==◌, Bool, false, Result, Err, bytes_eq, if◌then◌else◌, codes}
use Rattle.std.specs.List.{before_first}
use Rattle.http_request.specs.declared.fields.Rejection.{Rejection}
use Rattle.http_request.specs.declared.fields.Rejection.TheVariants.{MediaType, Method}
use Rattle.http_request.specs.Fields.{body_length, same_name, values_of}

-- what stands before the parameters of a media type (RFC 9110, section 8.3.1)
abbrev pub media_type : List ℕ → List ℕ
media_type value = before_first (λ byte. byte == 59) value

-- the media type of forms (URL Standard, section 5)
abbrev pub is_form_value : List ℕ → Bool
is_form_value value = same_name (media_type value) (codes "application/x-www-form-urlencoded")

abbrev pub is_form_by : List (List ℕ) → Bool
is_form_by [] = false
is_form_by (value ∷ []) = is_form_value value
is_form_by (value ∷ other ∷ values) = false

-- the body is a form
abbrev pub is_form : List (List ℕ × List ℕ) → Bool
is_form fields = is_form_by (values_of (codes "content-type") fields)

-- how long a form is that is posted, by its method and its fields
abbrev pub form_length : List ℕ → List (List ℕ × List ℕ) → Result ℕ Rejection
form_length method fields =
    if bytes_eq method (codes "POST") then (if is_form fields then body_length fields else Err MediaType) else Err Method
