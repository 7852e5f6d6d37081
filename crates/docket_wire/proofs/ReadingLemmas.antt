-- Lemmas on what readers see of a `Value`.
use Rattle.std.proofs.Common.{◌≡◌, ◌≢◌, ℕ, ◌+◌, ◌<◌, ◌&&◌, ◌||◌, ◌++◌, ◌∙◌, Bool, true, false, List, [], ◌∷◌, length, drop, get_or, Option, Some, None, option_map, Result, Ok, Err, String, Global, IsUtf8, string_bytes, refl, ap, sym, append_assoc, append-nil, ◌≤◌}
use Rattle.std.proofs.lemmas.Str.{is_utf8-from_IsUtf8, IsUtf8-from_is_utf8}
use Rattle.std.specs.List.{list_all}
use Rattle.std.specs.Map.{keys_of}
use Rattle.std.specs.Str.{is_utf8, bytes_eq}
use Rattle.serde_json.specs.Data.{Data}
use Rattle.serde_json.specs.Read.{read}
use Rattle.serde_json.specs.View.{view, items_view, members_view}
use Rattle.serde_json.specs.declared.value.Value.{Value}
use Rattle.docket_command.specs.declared.new_day.NewDay.{NewDay}
use Rattle.docket_command.specs.declared.field.Field.{Field}
use Rattle.docket_command.specs.declared.field.Field.TheVariants as field
use Rattle.docket_wire.specs.declared.fault.WireFault.{WireFault}
use Rattle.docket_wire.specs.declared.fault.WireFault.TheVariants.{NotJson, NotAnObject, UnknownCommand, MissingField, WrongField, UnknownField, NoMemory}
use Rattle.std.proofs.lemmas.List.{drop_more}
use Rattle.std.proofs.Math.ListN.{drop_of_length-le}
use Rattle.docket_command.specs.Fields.{field_name}
use Rattle.docket_wire.specs.Faults.{in_rows}
use Rattle.docket_wire.specs.Members.{Gives, or_fault}
use Rattle.docket_wire.specs.Reading.{is_known, all_known, command_in, command_of, new_days_of, new_day_at}

pub all_known_by_keys : (fields : List Field) (es : List (String Global × Value)) → list_all (λ k. is_known fields (string_bytes k)) (keys_of es) ≡ all_known fields (members_view es)
all_known_by_keys fields [] = refl
all_known_by_keys fields (e ∷ es) = ap (λ b. is_known fields (string_bytes e.0) && b) (all_known_by_keys fields es)

pub known_in_either : (fields others : List Field) (k : List ℕ) → is_known (fields ++ others) k ≡ (is_known fields k || is_known others k)
unfolding is_known
known_in_either [] others k = refl
known_in_either (f ∷ fields) others k = ap (λ b. bytes_eq k (field_name f) || b) (known_in_either fields others k) ∙ regroup_or (bytes_eq k (field_name f)) _ _
  where
    regroup_or : (a b c : Bool) → (a || (b || c)) ≡ ((a || b) || c)
    regroup_or true b c = refl
    regroup_or false b c = refl

-- a fault other than of memory is the one that reading returns
pub fault_given : {A : Type 0} (e : WireFault) (r : Result A WireFault) → e ≢ NoMemory → Gives (Err e) r → r ≡ Err e
fault_given NotJson r other g = g
fault_given NotAnObject r other g = g
fault_given UnknownCommand r other g = g
fault_given (MissingField f) r other g = g
fault_given (WrongField f) r other g = g
fault_given UnknownField r other g = g
fault_given NoMemory r other g = absurd (other refl)

-- ---- the text

pub command_in_json : (bytes : List ℕ) (d : Data) → IsUtf8 bytes → read bytes ≡ Some d → command_in bytes ≡ command_of d
unfolding command_in
command_in_json bytes d utf8 reads = rw (is_utf8-from_IsUtf8 bytes utf8, reads)

no_json : (bytes : List ℕ) (b : Bool) → is_utf8 bytes ≡ b → (IsUtf8 bytes → read bytes ≡ None) → command_in bytes ≡ Err NotJson
unfolding command_in
no_json bytes true e none = rw (e, none (IsUtf8-from_is_utf8 bytes e))
no_json bytes false e none = rw e

pub command_in_none : (bytes : List ℕ) → (IsUtf8 bytes → read bytes ≡ None) → command_in bytes ≡ Err NotJson
command_in_none bytes none = no_json bytes (is_utf8 bytes) refl none

-- ---- the rows of an import

abbrev pub rows_before : List NewDay → Option (List NewDay) → Option (List NewDay)
rows_before rows rest = option_map (λ ns. rows ++ ns) rest

regroup : (rows : List NewDay) (n : NewDay) (rest : Option (List NewDay)) → rows_before (rows ++ n ∷ []) rest ≡ rows_before rows (option_map (λ ns. n ∷ ns) rest)
regroup rows n None = refl
regroup rows n (Some ns) = ap Some (append_assoc rows (n ∷ []) ns)

pub one_more_row : (rows : List NewDay) (n : NewDay) (v : Value) (vs : List Value) → new_day_at (view v) ≡ Ok n → rows_before (rows ++ n ∷ []) (new_days_of (items_view vs)) ≡ rows_before rows (new_days_of (items_view (v ∷ vs)))
unfolding new_days_of
one_more_row rows n v vs e = regroup rows n _ ∙ rw e

drop_item : (vs : List Value) (i : ℕ) (v : Value) → i < length vs → v ≡ get_or vs i v → drop i vs ≡ v ∷ drop (i + 1) vs
drop_item vs i v lt e = drop_more vs i v lt ∙ ap (λ w. w ∷ drop (i + 1) vs) (sym e)

pub row_read : (rows : List NewDay) (list : List Value) (i : ℕ) (v : Value) (n : NewDay) (whole : Option (List NewDay)) → i < length list → v ≡ get_or list i v → new_day_at (view v) ≡ Ok n
    → rows_before rows (new_days_of (items_view (drop i list))) ≡ whole → rows_before (rows ++ n ∷ []) (new_days_of (items_view (drop (i + 1) list))) ≡ whole
row_read rows list i v n whole lt is ok so_far =
    one_more_row rows n v (drop (i + 1) list) ok ∙ ap (λ l. rows_before rows (new_days_of (items_view l))) (sym (drop_item list i v lt is)) ∙ so_far

bad_row : (e : WireFault) (v : Value) (vs : List Value) → new_day_at (view v) ≡ Err e → new_days_of (items_view (v ∷ vs)) ≡ None
unfolding new_days_of
bad_row f v vs e = rw e

none_at : (rows : List NewDay) (list : List Value) (i : ℕ) (v : Value) (e : WireFault) (whole : Option (List NewDay)) → i < length list → v ≡ get_or list i v → new_day_at (view v) ≡ Err e
    → rows_before rows (new_days_of (items_view (drop i list))) ≡ whole → whole ≡ None
none_at rows list i v e whole lt is bad so_far =
    sym so_far ∙ ap (λ l. rows_before rows (new_days_of (items_view l))) (drop_item list i v lt is) ∙ ap (rows_before rows) (bad_row e v (drop (i + 1) list) bad)

-- one bad row makes the list bad
pub row_refused : (rows : List NewDay) (list : List Value) (i : ℕ) (v : Value) (e : WireFault) (whole : Option (List NewDay)) → i < length list → v ≡ get_or list i v
    → rows_before rows (new_days_of (items_view (drop i list))) ≡ whole → Gives (Err e) (new_day_at (view v)) → Gives (Err (in_rows e)) (or_fault (WrongField field.Rows) whole)
row_refused rows list i v NotJson whole lt is so_far g = ap (or_fault (WrongField field.Rows)) (none_at rows list i v _ whole lt is g so_far)
row_refused rows list i v NotAnObject whole lt is so_far g = ap (or_fault (WrongField field.Rows)) (none_at rows list i v _ whole lt is g so_far)
row_refused rows list i v UnknownCommand whole lt is so_far g = ap (or_fault (WrongField field.Rows)) (none_at rows list i v _ whole lt is g so_far)
row_refused rows list i v (MissingField f) whole lt is so_far g = ap (or_fault (WrongField field.Rows)) (none_at rows list i v _ whole lt is g so_far)
row_refused rows list i v (WrongField f) whole lt is so_far g = ap (or_fault (WrongField field.Rows)) (none_at rows list i v _ whole lt is g so_far)
row_refused rows list i v UnknownField whole lt is so_far g = ap (or_fault (WrongField field.Rows)) (none_at rows list i v _ whole lt is g so_far)
row_refused rows list i v NoMemory whole lt is so_far g = tt

pub rows_read : (rows : List NewDay) (list : List Value) (i : ℕ) (whole : Option (List NewDay)) → length list ≤ i → rows_before rows (new_days_of (items_view (drop i list))) ≡ whole → whole ≡ Some rows
unfolding new_days_of
rows_read rows list i whole over so_far = let at_end : drop i list ≡ [] = drop_of_length-le list over in sym so_far ∙ rw at_end (ap Some (append-nil rows))
