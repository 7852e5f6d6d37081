use Rattle.std.proofs.Common.{◌++◌, List, ℕ, ◌∙◌, ap, string_bytes}
use Rattle.std.specs.Prelude.{decimal}
use Rattle.std.proofs.lemmas.Result.{on_ok_weaker}
use Rattle.html_sheets.specs.Elements.{told, day_told}
use Rattle.html_sheets.specs.Sheets.{entry_row}
use Rattle.html_sheets.proofs.ElementLemmas.{three_parts}
use Rattle.html_sheets.proofs.sheet.push_entry.Goals as goal

pub returns : goal.returns
unfolding entry_row
returns c =
    let row = c.args.entry.now in
    let parts = three_parts (decimal row.number) (day_told row.day) (told c.as_str.result.now) in
    rw (c.as_str.ensures) at (on_ok_weaker c.write.result (λ is. is ∙ ap (λ (bytes : List ℕ). string_bytes c.args.text.now ++ bytes) parts) c.write.ensures.bytes)
