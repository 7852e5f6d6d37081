use Rattle.std.proofs.Common.{codes}
use Rattle.std.proofs.lemmas.Result.{on_ok_weaker}
use Rattle.docket_command.specs.Names.{command_word}
use Rattle.entry_pages.specs.Examples.{example_options}
use Rattle.entry_pages.proofs.KindLemmas.{example_added}
use Rattle.entry_pages.proofs.command_list.push_example.Goals as goal

pub returns : goal.returns
returns c =
    on_ok_weaker c.write-2.result
    (λ last. example_added (codes "\nAn example, and the same as a line for docketctl run:\n  docketctl enter ") c.word-word.result.now (command_word c.args.kind)
    (codes " --db court.db \\\n   ") (example_options c.args.kind) (codes "\n  ") c.args.line.now (codes "\n") _ _ _ _
    c.word-word.ensures c.in_ok-write.ensures.bytes c.in_ok-push_example_options.ensures last) c.write-2.ensures.bytes
