use Rattle.std.proofs.Common.{◌≡◌, drop}
use Rattle.command_forms.specs.Forms.{texts_of}
use Rattle.command_forms.specs.Given.{texts_given}
use Rattle.entry_lines.specs.Lines.{pairs_meant}
use Rattle.entry_lines.proofs.FieldLemmas.{behind}
use Rattle.entry_lines.proofs.fields.pairs_meant.Given as goal

-- the fields before this one are read
abbrev pub invariant-given : goal.invariant-given
invariant-given l = behind (texts_of l.pairs.items) (pairs_meant l.case l.parties (texts_given (drop l.it-index l.given))) ≡ pairs_meant l.case l.parties (texts_given l.given)
