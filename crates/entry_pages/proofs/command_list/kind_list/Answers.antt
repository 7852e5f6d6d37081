use Rattle.std.proofs.Common.{◌++◌, ◌∙◌, ap, string_bytes}
use Rattle.std.specs.List.{flat_map}
use Rattle.docket_command.specs.declared.command_name.CommandName.TheVariants.{ImportCalendar}
use Rattle.entry_pages.specs.CommandList.{list_head, import_head, kind_line, kind_list, group_lines}
use Rattle.entry_pages.specs.Kinds.{groups}
use Rattle.entry_pages.proofs.FieldLemmas.{mapped}
use Rattle.entry_pages.proofs.KindLemmas.{four_added}
use Rattle.entry_pages.proofs.command_list.kind_list.Goals as goal

pub returns : goal.returns
unfolding kind_list
returns c =
    let all = mapped group_lines (λ group. (group.0.now, group.1.now)) c.groups.result.now groups c.groups.ensures in
    four_added list_head (flat_map group_lines groups) import_head (kind_line ImportCalendar) _ _ _ _
    c.in_ok-text.ensures.ok (c.in_ok-push_groups.ensures ∙ ap (λ told. string_bytes c.in_ok-text.text ++ told) all) c.in_ok-push_str.ensures.bytes c.in_ok-push_kind.ensures
