use Rattle.std.proofs.Common.{◌≡◌, ◌≤◌, ◌-◌, ◌++◌, string_bytes}
use Rattle.entry_pages.specs.CommandList.{blanks}
use Rattle.entry_pages.proofs.command_list.push_blanks.Given as goal

abbrev pub invariant-loop-done : goal.invariant-loop-done
invariant-loop-done l = record {
  within : l.done ≤ l.fn.count;
  text : string_bytes l.text ≡ string_bytes l.initial.text ++ blanks l.done;
}

abbrev pub decreases-loop-done : goal.decreases-loop-done
decreases-loop-done l = l.fn.count - l.done
