use Rattle.std.proofs.Common.{◌∙◌, ap, refl}
use Rattle.std.specs.List.{flat_map}
use Rattle.docket_command.specs.Schema.{fields_of}
use Rattle.entry_pages.specs.CommandList.{kind_head, field_lines, legend, example_told, kind_told}
use Rattle.entry_pages.specs.Examples.{example_line}
use Rattle.entry_pages.proofs.KindLemmas.{added, four_added}
use Rattle.entry_pages.proofs.command_list.kind_told.Goals as goal

pub returns : goal.returns
unfolding kind_told
returns c =
    let line = c.as_str.ensures.value ∙ c.in_ok-line.ensures.text in
    four_added (kind_head c.args.kind) (flat_map (field_lines c.args.kind) (fields_of c.args.kind)) legend (example_told c.args.kind (example_line c.args.kind)) _ _ _ _
    c.in_ok-text.ensures c.in_ok-push_fields.ensures c.in_ok-push_str.ensures.bytes (added c.in_ok-push_example.ensures refl (ap (example_told c.args.kind) line))
