-- The texts of replies, refusals and faults.
use Rattle.std.specs.Prelude.{ℕ, List, ◌++◌, codes, decimal, Option, Some, None, Result, Ok, Err}
use Rattle.docket_wire.specs.declared.fault.WireFault.{WireFault}
use Rattle.docket_wire.specs.declared.fault.WireFault.TheVariants.{NotJson, NotAnObject, UnknownCommand, MissingField, WrongField, UnknownField, NoMemory}
use Rattle.docket_command.specs.declared.refusal.Refusal.{Refusal}
use Rattle.docket_command.specs.declared.refusal.Refusal.TheVariants as refusal
use Rattle.docket_command.specs.declared.refusal.Reply.{Reply}
use Rattle.docket_command.specs.declared.field.Field.{Field}
use Rattle.docket_command.specs.Fields.{field_name}
use Rattle.docket_command.specs.Refusals.{refusal_number, refusal_name}

-- the field that a refusal is about
abbrev pub refused_field : Refusal → Option Field
refused_field (refusal.BadValue f) = Some f
refused_field _ = None

abbrev pub refusal_text_of : ℕ → List ℕ → Option Field → List ℕ
refusal_text_of number name None = codes "{\"name\":\"" ++ (name ++ (codes "\",\"refused\":" ++ (decimal number ++ codes "}")))
refusal_text_of number name (Some f) =
    codes "{\"field\":\"" ++ (field_name f ++ (codes "\",\"name\":\"" ++ (name ++ (codes "\",\"refused\":" ++ (decimal number ++ codes "}")))))

-- {"name":"Exists","refused":8}, and {"field":"filed","name":"BadValue","refused":3}
abbrev pub refusal_text : Refusal → List ℕ
refusal_text r = refusal_text_of (refusal_number r) (refusal_name r) (refused_field r)

-- {"number":1}, or the text of the refusal
abbrev pub reply_text : Result Reply Refusal → List ℕ
reply_text (Ok reply) = codes "{\"number\":" ++ (decimal reply.number ++ codes "}")
reply_text (Err refused) = refusal_text refused

-- the place of a fault in the order in which faults are checked
abbrev pub fault_number : WireFault → ℕ
fault_number NotJson = 1
fault_number NotAnObject = 2
fault_number UnknownCommand = 3
fault_number (MissingField f) = 4
fault_number (WrongField f) = 5
fault_number UnknownField = 6
fault_number NoMemory = 7

abbrev pub fault_name : WireFault → List ℕ
fault_name NotJson = codes "NotJson"
fault_name NotAnObject = codes "NotAnObject"
fault_name UnknownCommand = codes "UnknownCommand"
fault_name (MissingField f) = codes "MissingField"
fault_name (WrongField f) = codes "WrongField"
fault_name UnknownField = codes "UnknownField"
fault_name NoMemory = codes "NoMemory"

-- the field that a fault is about
abbrev pub fault_field : WireFault → Option Field
fault_field (MissingField f) = Some f
fault_field (WrongField f) = Some f
fault_field NotJson = None
fault_field NotAnObject = None
fault_field UnknownCommand = None
fault_field UnknownField = None
fault_field NoMemory = None

abbrev pub fault_text_of : ℕ → List ℕ → Option Field → List ℕ
fault_text_of number name None = codes "{\"fault\":" ++ (decimal number ++ (codes ",\"name\":\"" ++ (name ++ codes "\"}")))
fault_text_of number name (Some f) = codes "{\"fault\":" ++ (decimal number ++ (codes ",\"field\":\"" ++ (field_name f ++ (codes "\",\"name\":\"" ++ (name ++ codes "\"}")))))

-- {"fault":1,"name":"NotJson"}, and {"fault":4,"field":"case","name":"MissingField"}
abbrev pub fault_text : WireFault → List ℕ
fault_text e = fault_text_of (fault_number e) (fault_name e) (fault_field e)
