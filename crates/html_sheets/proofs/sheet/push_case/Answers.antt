use Rattle.std.proofs.Common.{◌++◌, List, ℕ, ◌∙◌, ap}
use Rattle.std.specs.Prelude.{decimal, string_bytes}
use Rattle.std.proofs.lemmas.Result.{on_ok_weaker}
use Rattle.html_sheets.specs.Elements.{told, day_told}
use Rattle.html_sheets.specs.Sheets.{case_head}
use Rattle.html_sheets.proofs.ElementLemmas.{said_parts}
use Rattle.html_sheets.proofs.sheet.push_case.Goals as goal

pub returns : goal.returns
unfolding case_head
returns c =
    let case = c.args.case.now in
    let parts = said_parts (decimal case.number) (told c.as_str.result.now) (told c.as_str-2.result.now) (day_told case.filed) in
    rw (c.as_str.ensures, c.as_str-2.ensures) at (on_ok_weaker c.write.result (λ is. is ∙ ap (λ (bytes : List ℕ). string_bytes c.args.text.now ++ bytes) parts) c.write.ensures.bytes)
