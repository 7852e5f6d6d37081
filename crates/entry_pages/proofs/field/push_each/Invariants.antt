use Rattle.std.proofs.Common.{◌≡◌, ◌++◌, drop, string_bytes}
use Rattle.std.specs.List.{flat_map}
use Rattle.command_forms.specs.Entered.{spec_of}
use Rattle.command_forms.specs.Forms.{texts_of}
use Rattle.entry_pages.specs.Forms.{field_told}
use Rattle.entry_pages.specs.Saying.{saying_of}
use Rattle.entry_pages.proofs.field.push_each.Given as goal

abbrev pub invariant-loop-field : goal.invariant-loop-field
invariant-loop-field l =
    string_bytes l.text ++ flat_map (λ e. field_told l.kind (texts_of l.pairs) (saying_of l.said) (spec_of e)) (drop l.field-index l.fields)
    ≡ string_bytes l.initial.text ++ flat_map (λ e. field_told l.kind (texts_of l.pairs) (saying_of l.said) (spec_of e)) l.fields
