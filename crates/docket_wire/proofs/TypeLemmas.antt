-- What is written for a value of a field is read as the value, whatever its type.
use Rattle.std.proofs.Common.{◌≡◌, ℕ, ◌-◌, ◌%◌, ◌<◌, ◌==◌, length, if◌then◌else◌, List, [], ◌∷◌, Option, None, Some, option_map, Ok, IsUtf8, refl, sym, ap, ◌∙◌, arith, lt-ltb, append-nil}
use Rattle.std.specs.Prelude.{map}
use Rattle.std.specs.List.{AllByRecursion}
use Rattle.civil_time.specs.Civil.{IsDayNumber}
use Rattle.civil_time.specs.DayText.{day_text, day_of_text}
use Rattle.civil_time.specs.LocalTime.{seconds}
use Rattle.civil_time.specs.Zone.{IsZone}
use Rattle.civil_time.proofs.DayTexts.{spells-text, day_of_text-spelled}
use Rattle.civil_time.proofs.MomentGrammarLemmas.{moment_at-spelled}
use Rattle.civil_time.proofs.ReadingLemmas.{clock_at-clock_text}
use Rattle.civil_time.proofs.Written.{clock_text-utf8, moment_text-spells, moment_text-utf8, day_text-utf8}
use Rattle.civil_time.specs.MomentText.{clock_text}
use Rattle.civil_time.specs.Reading.{◌>>=◌, time_of_day_at}
use Rattle.serde_json.specs.View.{items_of}
use Rattle.json.proofs.Printed.Utf8.{IsUtf8-are_ascii}
use Rattle.docket_command.specs.declared.field.Field.{Field}
use Rattle.docket_command.specs.declared.field.Field.TheVariants as field
use Rattle.docket_command.specs.declared.command_name.CommandName.{CommandName}
use Rattle.docket_command.specs.declared.command_name.CommandName.TheVariants as name
use Rattle.docket_command.specs.declared.new_day.NewDay.{NewDay}
use Rattle.docket_command.specs.declared.choice.Basis.{Basis}
use Rattle.docket_command.specs.declared.choice.Basis.TheVariants as basis
use Rattle.docket_command.specs.calendar.DayKind.{DayKind}
use Rattle.docket_command.specs.calendar.DayKind.TheVariants as day_kind
use Rattle.docket_command.specs.calendar.Direction.{Direction}
use Rattle.docket_command.specs.calendar.Direction.TheVariants as direction
use Rattle.docket_command.specs.act.MotionKind.{MotionKind}
use Rattle.docket_command.specs.act.MotionKind.TheVariants as motion_kind
use Rattle.docket_command.specs.declared.choice.PeriodUnit.{PeriodUnit}
use Rattle.docket_command.specs.declared.choice.PeriodUnit.TheVariants as period_unit
use Rattle.docket_command.specs.declared.choice.PleadingKind.{PleadingKind}
use Rattle.docket_command.specs.declared.choice.PleadingKind.TheVariants as pleading_kind
use Rattle.docket_command.specs.declared.choice.Role.{Role}
use Rattle.docket_command.specs.declared.choice.Role.TheVariants as role
use Rattle.docket_command.specs.declared.choice.Ruling.{Ruling}
use Rattle.docket_command.specs.declared.choice.Ruling.TheVariants as ruling
use Rattle.docket_command.specs.declared.choice.ServiceMethod.{ServiceMethod}
use Rattle.docket_command.specs.declared.choice.ServiceMethod.TheVariants as service_method
use Rattle.docket_command.specs.declared.choice.Sovereign.{Sovereign}
use Rattle.docket_command.specs.declared.choice.Sovereign.TheVariants as sovereign
use Rattle.docket_command.specs.filing.Way.{Way}
use Rattle.docket_command.specs.filing.Way.TheVariants as way
use Rattle.docket_command.specs.Fields.{field_name}
use Rattle.docket_command.specs.Moments.{IsWholeMinute, moment_named, utc, utc_text}
use Rattle.docket_command.specs.Names.{command_word}
use Rattle.docket_command.specs.Words.{basis_word, day_kind_word, direction_word, motion_kind_word, period_unit_word, pleading_kind_word, role_word, ruling_word, service_method_word, sovereign_word, way_word}
use Rattle.docket_command.proofs.WordLemmas.{basis_back, day_kind_back, direction_back, motion_kind_back, period_unit_back, pleading_kind_back, role_back, ruling_back, service_method_back, sovereign_back, way_back}
use Rattle.docket_wire.specs.Members.{not_null}
use Rattle.docket_command.specs.FieldTypes.{FieldType, ValueOf}
use Rattle.docket_command.specs.FieldTypes as of
use Rattle.docket_wire.specs.Reading.{is_known, new_day_at, new_days_of, meaning_of}
use Rattle.docket_wire.specs.Valid.{IsNewDay, IsLawful}
use Rattle.docket_wire.specs.Writing.{written_as, new_day_data, new_day_members}
use Rattle.docket_wire.proofs.CompactLemmas.{Reads, Reads-string, Reads-boolean, Reads-number, Reads-array, Reads-put_all, AllItems-of}

-- ---- days and moments

pub day_back : (n : ℕ) → IsDayNumber n → day_of_text (day_text n) ≡ Some n
day_back n h = day_of_text-spelled (day_text n) n h (spells-text n (omega (arith, h)))

utc_is : IsZone utc
utc_is = record { hours = omega arith; summer = λ x e. absurd (cc) }

moment_back : (n : ℕ) → IsWholeMinute n → moment_named (utc_text n) ≡ Some n
moment_back n h =
    let whole : n - n % 60 ≡ n = omega (arith, h) in
    let spells = moment_text-spells utc utc_is n h.0 in
    ap (option_map seconds) (moment_at-spelled _ _ spells) ∙ ap Some whole

-- the text of a minute of a day is read as the minute
time_back : (n : ℕ) → n < 1440 → time_of_day_at (clock_text n) ≡ Some n
time_back n h =
    ap time_of_day_at (sym (append-nil (clock_text n)))
    ∙ ap (λ (clock : Option (ℕ × List ℕ)). clock >>= λ c. if length c.1 == 0 then Some c.0 else None) (clock_at-clock_text n [] h)

-- ---- rows

new_day_back : (n : NewDay) → IsNewDay n → new_day_at (new_day_data n) ≡ Ok n
unfolding new_day_at is_known
new_day_back n h = rw (day_kind_back n.kind, day_back n.day h.0)

new_days_back : (ns : List NewDay) → AllByRecursion IsNewDay ns → new_days_of (items_of (map new_day_data ns)) ≡ Some ns
unfolding new_days_of
new_days_back [] h = refl
new_days_back (n ∷ ns) h = rw (new_day_back n h.0, new_days_back ns h.1)

-- ---- the words

pub field_utf8 : (f : Field) → IsUtf8 (field_name f)
field_utf8 field.Do = IsUtf8-are_ascii _ refl
field_utf8 _ = IsUtf8-are_ascii _ refl

pub command_word_utf8 : (x : CommandName) → IsUtf8 (command_word x)
command_word_utf8 name.DeclareDay = IsUtf8-are_ascii _ refl
command_word_utf8 _ = IsUtf8-are_ascii _ refl

basis_utf8 : (x : Basis) → IsUtf8 (basis_word x)
basis_utf8 basis.Private = IsUtf8-are_ascii _ refl
basis_utf8 _ = IsUtf8-are_ascii _ refl

day_kind_utf8 : (x : DayKind) → IsUtf8 (day_kind_word x)
day_kind_utf8 day_kind.Federal = IsUtf8-are_ascii _ refl
day_kind_utf8 _ = IsUtf8-are_ascii _ refl

direction_utf8 : (x : Direction) → IsUtf8 (direction_word x)
direction_utf8 direction.Forward = IsUtf8-are_ascii _ refl
direction_utf8 _ = IsUtf8-are_ascii _ refl

motion_kind_utf8 : (x : MotionKind) → IsUtf8 (motion_kind_word x)
motion_kind_utf8 motion_kind.B = IsUtf8-are_ascii _ refl
motion_kind_utf8 _ = IsUtf8-are_ascii _ refl

period_unit_utf8 : (x : PeriodUnit) → IsUtf8 (period_unit_word x)
period_unit_utf8 period_unit.Days = IsUtf8-are_ascii _ refl
period_unit_utf8 _ = IsUtf8-are_ascii _ refl

pleading_kind_utf8 : (x : PleadingKind) → IsUtf8 (pleading_kind_word x)
pleading_kind_utf8 pleading_kind.Counterclaim = IsUtf8-are_ascii _ refl
pleading_kind_utf8 _ = IsUtf8-are_ascii _ refl

role_utf8 : (x : Role) → IsUtf8 (role_word x)
role_utf8 role.Plaintiff = IsUtf8-are_ascii _ refl
role_utf8 _ = IsUtf8-are_ascii _ refl

ruling_utf8 : (x : Ruling) → IsUtf8 (ruling_word x)
ruling_utf8 ruling.Denied = IsUtf8-are_ascii _ refl
ruling_utf8 _ = IsUtf8-are_ascii _ refl

service_method_utf8 : (x : ServiceMethod) → IsUtf8 (service_method_word x)
service_method_utf8 service_method.A = IsUtf8-are_ascii _ refl
service_method_utf8 _ = IsUtf8-are_ascii _ refl

sovereign_utf8 : (x : Sovereign) → IsUtf8 (sovereign_word x)
sovereign_utf8 sovereign.Federal = IsUtf8-are_ascii _ refl
sovereign_utf8 _ = IsUtf8-are_ascii _ refl

way_utf8 : (x : Way) → IsUtf8 (way_word x)
way_utf8 way.Electronic = IsUtf8-are_ascii _ refl
way_utf8 _ = IsUtf8-are_ascii _ refl

new_day_reads : (n : NewDay) → IsNewDay n → Reads 1 (new_day_data n)
new_day_reads n h = Reads-put_all 0 (new_day_members n) field_utf8 (Reads-string 0 _ (day_kind_utf8 n.kind), (Reads-string 0 _ (day_text-utf8 n.day), (Reads-string 0 _ h.1, tt)))

-- ---- each type

pub type_there : (t : FieldType) (x : ValueOf t) → not_null (written_as t x) ≡ Some (written_as t x)
type_there of.Number x = refl
type_there _ x = refl

pub type_back : (t : FieldType) (x : ValueOf t) → IsLawful t x → meaning_of t (written_as t x) ≡ Some x
type_back of.Number x h = rw (lt-ltb _ _ h) refl
type_back of.Day x h = day_back x h
type_back of.Moment x h = moment_back x h
type_back of.TimeOfDay x h = time_back x h
type_back of.Flag x h = refl
type_back of.Text x h = refl
type_back of.Rows x h = new_days_back x h
type_back of.Basis x h = basis_back x
type_back of.Direction x h = direction_back x
type_back of.MotionKind x h = motion_kind_back x
type_back of.PeriodUnit x h = period_unit_back x
type_back of.PleadingKind x h = pleading_kind_back x
type_back of.Role x h = role_back x
type_back of.Ruling x h = ruling_back x
type_back of.ServiceMethod x h = service_method_back x
type_back of.Sovereign x h = sovereign_back x
type_back of.Way x h = way_back x

pub type_reads : (t : FieldType) (x : ValueOf t) → IsLawful t x → Reads 2 (written_as t x)
type_reads of.Number x h = Reads-number 2 x (omega (arith, h))
type_reads of.Day x h = Reads-string 2 _ (day_text-utf8 x)
type_reads of.Moment x h = Reads-string 2 _ (moment_text-utf8 utc utc_is x)
type_reads of.TimeOfDay x h = Reads-string 2 _ (clock_text-utf8 x h)
type_reads of.Flag x h = Reads-boolean 2 x
type_reads of.Text x h = Reads-string 2 x h
type_reads of.Rows x h = Reads-array 1 _ (AllItems-of (Reads 1) new_day_data IsNewDay x new_day_reads h)
type_reads of.Basis x h = Reads-string 2 _ (basis_utf8 x)
type_reads of.Direction x h = Reads-string 2 _ (direction_utf8 x)
type_reads of.MotionKind x h = Reads-string 2 _ (motion_kind_utf8 x)
type_reads of.PeriodUnit x h = Reads-string 2 _ (period_unit_utf8 x)
type_reads of.PleadingKind x h = Reads-string 2 _ (pleading_kind_utf8 x)
type_reads of.Role x h = Reads-string 2 _ (role_utf8 x)
type_reads of.Ruling x h = Reads-string 2 _ (ruling_utf8 x)
type_reads of.ServiceMethod x h = Reads-string 2 _ (service_method_utf8 x)
type_reads of.Sovereign x h = Reads-string 2 _ (sovereign_utf8 x)
type_reads of.Way x h = Reads-string 2 _ (way_utf8 x)
