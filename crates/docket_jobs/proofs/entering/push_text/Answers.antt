use Rattle.std.proofs.Common.{◌∙◌, ap}
use Rattle.std.proofs.lemmas.List.{map-append}
use Rattle.clap.specs.Matches.{found_of}
use Rattle.clap.specs.Walk.{rows_of}
use Rattle.command_forms.specs.Given.{texts_given}
use Rattle.command_forms.specs.declared.given.FieldText.{FieldText}
use Rattle.docket_jobs.proofs.EntryLemmas.{text_absent, text_present}
use Rattle.docket_jobs.proofs.entering.push_text.Goals as goal

pub returns-in_ok-push-in-Some : goal.returns-in_ok-push-in-Some
returns-in_ok-push-in-Some c =
    text_present (texts_given c.args.given.now.items) (texts_given c.push.new.self.items) c.args.field (rows_of (found_of c.args.found.now)) c.name.result.now c.in-Some.text.now c.name.ensures c.in-Some.ensures
    (ap texts_given c.in_ok-push-in-Some.ensures.items ∙ map-append (λ (it : FieldText). (it.field, it.text.now)) _ _)

pub returns-in-None : goal.returns-in-None
returns-in-None c = text_absent (texts_given c.args.given.now.items) c.args.field (rows_of (found_of c.args.found.now)) c.name.result.now c.name.ensures c.in-None.ensures
