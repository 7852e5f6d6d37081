use Rattle.std.proofs.Common.{◌≡◌, ◌∙◌, ap, sym, subst, false, String, Global, Result, Ok, Err, IfOk, string_bytes}
use Rattle.serde_json.specs.Data.{Data}
use Rattle.serde_json.specs.Written.{compact_text, has_float}
use Rattle.docket_command.specs.declared.command.Command.{Command}
use Rattle.docket_wire.specs.Spells.{Spells}
use Rattle.docket_wire.specs.Valid.{IsCommand}
use Rattle.docket_wire.specs.Writing.{command_data, canonical}
use Rattle.docket_wire.proofs.SpelledLemmas.{canonical_spells}
use Rattle.docket_wire.proofs.WritingLemmas.{no_float}
use Rattle.docket_wire.proofs.writing.command_text.Goals as goal

text_spells : {E : Type 0} (written : Result (String Global) E) (d : Data) (c : Command) → IfOk written (λ s. has_float d ≡ false → string_bytes s ≡ compact_text d)
    → d ≡ command_data c → IsCommand c → IfOk written (λ s. Spells (string_bytes s) c)
text_spells (Err e) d c text is h = tt
text_spells (Ok s) d c text is h =
    let bytes : string_bytes s ≡ canonical c = text (ap has_float is ∙ no_float c) ∙ ap compact_text is in
    subst (λ bs. Spells bs c) (sym bytes) (canonical_spells c h)

pub returns-clause-spells : goal.returns-clause-spells
returns-clause-spells c = text_spells c.to_string.result _ c.args.command.now c.to_string.ensures.text c.in_ok-value.ensures.value c.in_ok-value.ensures.lawful
