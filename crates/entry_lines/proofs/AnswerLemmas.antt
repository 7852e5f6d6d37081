-- What is prepared, by what a docket answered.
use Rattle.std.proofs.Common.{◌≡◌, ◌∙◌, ℕ, List, Result, Ok, Err, IsErrAnd, ap, subst, sym}
use Rattle.std.specs.Result.{result_map_both}
use Rattle.command_forms.specs.Given.{texts_given}
use Rattle.court_days.specs.Court.{CourtSettings}
use Rattle.docket_history.specs.Histories.{History}
use Rattle.docket_applying.specs.declared.fault.Fault.{Fault}
use Rattle.docket_applying.specs.declared.fault.Fault.TheVariants.{NoMemory}
use Rattle.entry_lines.specs.Lines.{fields_named}
use Rattle.entry_lines.specs.Preparing.{IsLine, IsPrepared}
use Rattle.entry_lines.specs.declared.entry.Entry.{Entry}
use Rattle.entry_lines.specs.declared.entry.Prepared.{Prepared}
use Rattle.entry_lines.specs.declared.entry.Prepared.TheVariants as prepared
use Rattle.entry_lines.specs.declared.entry.Unnamed.{Unnamed}

-- an error that is a lack of memory
pub as_short : {Y : Type 0} (r : Result Y Fault) (f : Fault) → IsErrAnd r (λ e. e ≡ f) → f ≡ NoMemory → IsErrAnd r (λ e. e ≡ NoMemory)
as_short (Ok x) f told short = absurd told
as_short (Err e) f told short = told ∙ short

-- the pairs of the fields that the docket named
pub named_ok : {V : Type 0} (named : Result V Unnamed) (v : V) (read : V → List (List ℕ × List ℕ)) (fields : Result (List (List ℕ × List ℕ)) Unnamed)
    → result_map_both read (λ why. why) named ≡ fields → named ≡ Ok v → fields ≡ Ok (read v)
named_ok named v read fields is ok = sym is ∙ ap (result_map_both read (λ why. why)) ok

-- the line of these fields
pub line_of_named : (court mid : CourtSettings) (h : History) (entry : Entry) (fields : List (List ℕ × List ℕ)) (made : Prepared) → mid ≡ court
    → fields_named h (texts_given entry.given.now) ≡ Ok fields → IsLine mid h entry fields made → IsPrepared court h entry made
line_of_named court mid h entry fields (prepared.Unnamed why) same named line = absurd line
line_of_named court mid h entry fields (prepared.Line text would) same named line = (fields, named, subst (λ it. IsLine it h entry fields (prepared.Line text would)) same line)
