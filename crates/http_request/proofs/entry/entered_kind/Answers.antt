use Rattle.std.proofs.Common.{◌≡◌, ◌∙◌, None, Bool, false, ap, bytes_eq, codes, cond, sym}
use Rattle.std.proofs.lemmas.Bool.{false_from_ne_true}
use Rattle.std.proofs.lemmas.Slice.Eq.{bytes_eq-Decides}
use Rattle.docket_command.specs.Names.{command_named}
use Rattle.http_request.proofs.entry.entered_kind.Goals as goal

pub returns-in_default : goal.returns-in_default
returns-in_default c =
    let word = c.args.word.now in
    let other : bytes_eq word (codes "import_calendar") ≡ false =
    false_from_ne_true _ (λ same. c.in_default.not-import_calendar ((bytes_eq-Decides word (codes "import_calendar")).0 same)) in
    c.from_word.ensures ∙ sym (ap (λ (import : Bool). cond import None (command_named word)) other)
