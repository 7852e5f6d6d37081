use Rattle.std.proofs.Common.{◌≡◌, drop}
use denote.Shadow.{shadow}
use denote.Text.{Utf8}
use Rattle.command_forms.specs.Forms.{texts_of}
use Rattle.entry_pages.specs.Forms.{text_from, text_in}
use Rattle.entry_pages.proofs.pair.text_in.Given as goal

abbrev pub invariant-loop-pair : goal.invariant-loop-pair
invariant-loop-pair l = record {
  same : text_from l.name (texts_of (drop l.pair-index l.pairs)) l.found ≡ text_in l.name (texts_of l.pairs);
  text : shadow (Utf8 l.found);
}
