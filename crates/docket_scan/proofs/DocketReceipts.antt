-- The receipts of a docket, as records of the rows that keep them.
use Rattle.std.proofs.Common.{◌≡◌, ℕ, Bool, true, false, if◌then◌else◌, List, Option, None, Result, Ok, refl}
use Rattle.std.proofs.lemmas.Str.{IsUtf8-from_is_utf8}
use Rattle.std.specs.Str.{IsUtf8, is_utf8}
use Rattle.docket_command.specs.declared.command.Command.{Command}
use Rattle.docket_history.specs.declared.row.Receipt.{Receipt}
use Rattle.docket_columns.specs.Fits.{IsReceipt}
use Rattle.docket_sound.specs.Receipts.{receipt_row}
use Rattle.docket_wire.specs.Members.{◌>>=◌, or_fault}
use Rattle.docket_wire.specs.Reading.{command_in, command_of}
use Rattle.docket_wire.specs.Writing.{canonical}
use Rattle.docket_wire.specs.declared.fault.WireFault.{WireFault}
use Rattle.docket_wire.specs.declared.fault.WireFault.TheVariants.{NotJson}
use Rattle.docket_wire.proofs.CanonicalLemmas.{reads_back}
use Rattle.docket_scan.specs.Records.{IsStoredReceipt}
use Rattle.docket_scan.specs.declared.receipt.StoredReceipt.{StoredReceipt}

-- what is read as a command is UTF-8
utf8_where : {D : Type 0} (bytes : List ℕ) (c : Command) (means : D → Result Command WireFault) (o : Option D) (b : Bool) → is_utf8 bytes ≡ b
    → (or_fault NotJson (if b then o else None) >>= means) ≡ Ok c → IsUtf8 bytes
utf8_where bytes c means o true e reads = IsUtf8-from_is_utf8 bytes e
utf8_where bytes c means o false e reads = absurd cc

utf8_of_command : (bytes : List ℕ) (c : Command) → command_in bytes ≡ Ok c → IsUtf8 bytes
unfolding command_in
utf8_of_command bytes c = utf8_where bytes c command_of _ (is_utf8 bytes) refl

abbrev pub as_stored : Receipt → StoredReceipt
as_stored r = record { receipt = receipt_row r; reply = r.reply }

pub stored_fits : (r : Receipt) → IsReceipt r → IsStoredReceipt (as_stored r)
stored_fits r fits = (fits.0.0, utf8_of_command (canonical r.command) r.command (reads_back r.command fits.0), fits.1)
