-- What each field is called in the form of a kind of command.
use Rattle.std.specs.Prelude.{ℕ, List, codes}
use Rattle.docket_command.specs.declared.command_name.CommandName.{CommandName}
use Rattle.docket_command.specs.declared.command_name.CommandName.TheVariants as kind
use Rattle.docket_command.specs.declared.field.Field.{Field}
use Rattle.docket_command.specs.declared.field.Field.TheVariants as field

-- ---- fields that mean something else from kind to kind

abbrev pub party_label : CommandName → List ℕ
party_label kind.ServeSummons = codes "Party served"
party_label kind.FileWaiver = codes "Party that waives service"
party_label kind.ServePleading = codes "Party served"
party_label kind.OrderReply = codes "Party that has to reply"
party_label kind.Dispose = codes "Party that has to make the statement"
party_label kind.NoticeHearing = codes "Moving party"
party_label _ = codes "Party that has to act"

abbrev pub name_label : CommandName → List ℕ
name_label kind.AddParty = codes "Name of the party"
name_label kind.LocalRule = codes "Name of the rule"
name_label _ = codes "Name of the day"

abbrev pub kind_label : CommandName → List ℕ
kind_label kind.DeclareDay = codes "Declared by"
kind_label kind.ServePleading = codes "Pleading"
kind_label _ = codes "Motion under"

abbrev pub day_label : CommandName → List ℕ
day_label kind.FileEntry = codes "Filed on"
day_label _ = codes "Day"

abbrev pub served_label : CommandName → List ℕ
served_label kind.OrderReply = codes "Order served on"
served_label kind.RuleMotion = codes "Motion served on"
served_label kind.StatementServed = codes "Statement served on"
served_label _ = codes "Served on"

abbrev pub start_label : CommandName → List ℕ
start_label kind.CloseSpan = codes "Closed from"
start_label _ = codes "Day from which to count"

abbrev pub at_label : CommandName → List ℕ
at_label kind.OrderPeriod = codes "Time from which to count hours"
at_label kind.Extend = codes "The court acted, or was asked, at"
at_label _ = codes "Filed at"

-- ---- all fields

abbrev pub label_of : CommandName → Field → List ℕ
label_of k field.Do = codes "Kind"
label_of k field.Key = codes "Key"
label_of k field.Day = day_label k
label_of k field.Kind = kind_label k
label_of k field.Close = codes "The office closes at"
label_of k field.Name = name_label k
label_of k field.Start = start_label k
label_of k field.End = codes "Closed until"
label_of k field.Row = codes "Row of the court's calendar"
label_of k field.Rows = codes "Days"
label_of k field.Label = codes "Docket number"
label_of k field.Caption = codes "Caption"
label_of k field.Filed = codes "Filed on"
label_of k field.Case = codes "Case"
label_of k field.Role = codes "Role"
label_of k field.Text = codes "Text of the entry"
label_of k field.Party = party_label k
label_of k field.Basis = codes "The party is"
label_of k field.Served = served_label k
label_of k field.Attorney = codes "Served on the United States attorney on"
label_of k field.Sent = codes "Request sent on"
label_of k field.Allowed = codes "Days that the request allowed"
label_of k field.Returned = codes "Waiver returned on"
label_of k field.Abroad = codes "Request sent outside the United States"
label_of k field.Method = codes "Method of service, Rule 5(b)(2)"
label_of k field.AttorneyMethod = codes "Method of service on the United States attorney"
label_of k field.Due = codes "Day that the court set"
label_of k field.Deadline = codes "Deadline"
label_of k field.Outcome = codes "Ruling"
label_of k field.Notice = codes "Notice of the ruling on"
label_of k field.Opponent = codes "Opposing party"
label_of k field.Hearing = codes "Day of the hearing"
label_of k field.Unit = codes "The court set"
label_of k field.At = at_label k
label_of k field.Count = codes "How many"
label_of k field.Direction = codes "Counted"
label_of k field.Until = codes "Last day"
label_of k field.Entered = codes "Judgment entered on"
label_of k field.Discharged = codes "Jury discharged on"
label_of k field.Neglect = codes "Excusable neglect, Rule 6(b)(1)(B)"
label_of k field.Days = codes "Days"
label_of k field.Way = codes "Filed"
label_of k field.Three = codes "Three days are added after some service, Rule 6(d)"
label_of k field.Extendable = codes "The court may extend it"
label_of k field.Rule = codes "Local rule"
