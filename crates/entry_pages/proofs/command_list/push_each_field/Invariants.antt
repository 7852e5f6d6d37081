use Rattle.std.proofs.Common.{◌≡◌, ◌++◌, drop, string_bytes}
use Rattle.std.specs.List.{flat_map}
use Rattle.command_forms.specs.Entered.{spec_of}
use Rattle.entry_pages.specs.CommandList.{field_lines}
use Rattle.entry_pages.proofs.command_list.push_each_field.Given as goal

abbrev pub invariant-loop-field : goal.invariant-loop-field
invariant-loop-field l =
    string_bytes l.text ++ flat_map (λ e. field_lines l.kind (spec_of e)) (drop l.field-index l.fields) ≡ string_bytes l.initial.text ++ flat_map (λ e. field_lines l.kind (spec_of e)) l.fields
