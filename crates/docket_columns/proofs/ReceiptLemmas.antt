-- What is kept under a key: a stored text is that of the same command.
use Rattle.std.proofs.Common.{◌≡◌, ℕ, List, Bool, Some, ap, ◌∙◌}
use Rattle.std.proofs.lemmas.Bool.Decides.{same_from_decides}
use Rattle.std.specs.Prelude.{if◌then◌else◌}
use Rattle.docket_history.specs.declared.view.Kept.TheVariants.{Same, Other}
use Rattle.std.specs.Str.{bytes_eq}
use Rattle.std.proofs.lemmas.Slice.Eq.{bytes_eq-Decides}
use Rattle.docket_command.specs.declared.command.Command.{Command}
use Rattle.docket_command.specs.Sameness.{is_same_command}
use Rattle.docket_command.proofs.SamenessLemmas.{same_command}
use Rattle.docket_history.specs.declared.row.Receipt.{Receipt}
use Rattle.docket_decisions.specs.Outcomes.{kept_by, replied}
use Rattle.docket_wire.specs.Valid.{IsCommand}
use Rattle.docket_wire.specs.Writing.{canonical}
use Rattle.docket_wire.proofs.CanonicalLemmas.{unique}
use Rattle.docket_columns.specs.Cells.{kept_as}
use Rattle.docket_columns.specs.Fits.{IsReceipt}

same_text : (c d : Command) → IsCommand c → IsCommand d → bytes_eq (canonical c) (canonical d) ≡ is_same_command c d
same_text c d ok fine =
    let same = bytes_eq-Decides (canonical c) (canonical d) in
    same_from_decides _ _ (λ e. unique c d ok fine (same.0 e), λ e. same.1 (ap canonical e)) (same_command c d)

pub kept_is : (r : Receipt) (c : Command) (body : List ℕ) → IsReceipt r → IsCommand c → body ≡ canonical c
    → kept_as (canonical r.command) r.reply.number body ≡ kept_by (Some r) c
kept_is r c body fits ok e =
    ap (λ b. kept_as (canonical r.command) r.reply.number b) e
    ∙ ap (λ (b : Bool). if b then Same (replied r.reply.number) else Other) (same_text r.command c fits.0 ok)
