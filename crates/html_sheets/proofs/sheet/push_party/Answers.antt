use Rattle.std.proofs.Common.{◌++◌, List, ℕ, ◌∙◌, ap, string_bytes}
use Rattle.std.specs.Prelude.{decimal}
use Rattle.std.proofs.lemmas.Result.{on_ok_weaker}
use Rattle.html_sheets.specs.Elements.{told}
use Rattle.html_sheets.specs.Entering.{serve_links}
use Rattle.html_sheets.specs.Sheets.{party_row}
use Rattle.html_sheets.proofs.ElementLemmas.{party_parts}
use Rattle.html_sheets.proofs.sheet.push_party.Goals as goal

pub returns : goal.returns
unfolding party_row
returns c =
    let row = c.args.party.now in
    let parts = party_parts (decimal row.number) (c.word-role.result.now) (told c.as_str.result.now) (serve_links c.args.links c.args.case row.number) in
    rw (c.word-role.ensures, c.as_str.ensures) at (on_ok_weaker c.write.result (λ is. is ∙ ap (λ (bytes : List ℕ). string_bytes c.args.text.now ++ bytes) parts) c.write.ensures.bytes)
