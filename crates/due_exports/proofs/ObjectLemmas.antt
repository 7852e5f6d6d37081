-- The object of a deadline, written and read.
use Rattle.std.proofs.Common.{◌≡◌, ℕ, ◌<◌, ◌≤◌, ◌^◌, List, [], codes, Option, Some, None, option_and_then, refl, sym, ap, ◌∙◌, arith, append-nil}
use Rattle.court_days.specs.Court.{CourtSettings}
use Rattle.docket_history.specs.declared.record.DueRow.{DueRow}
use Rattle.docket_history.specs.declared.row.CaseRow.{CaseRow}
use Rattle.json.specs.Json as json
use Rattle.json.specs.Lex.{tokens}
use Rattle.json.specs.Tree as tree
use Rattle.json.proofs.Printed.Decimals.{IsNumber-decimal}
use Rattle.json.proofs.Printed.Tokens.{tokens-print}
use Rattle.json.proofs.Printed.Trees.{value-json_tokens, ArePrintable-json_tokens}
use Rattle.serde_json.specs.Data.{Data, number, unsigned, string, object, no_members, member}
use Rattle.serde_json.specs.Read.{read, of_json, max_depth}
use Rattle.serde_json.specs.Written.{compact_text, outline}
use Rattle.serde_json.proofs.Numbers.{number_of-decimal}
use Rattle.serde_json.proofs.Texts.{print-outline}
use Rattle.due_exports.specs.Ends.{day_of_end, time_of_end, closing_of_end}
use Rattle.due_exports.specs.Objects.{string_or_null, due_object}

-- a text of these tokens is read as the value
pub reads_by_tokens : (text : List ℕ) (d : Data) → tokens text ≡ tree.json_tokens (outline d) → tree.depth (outline d) ≤ max_depth
    → of_json (outline d) ≡ Some d → read text ≡ Some d
reads_by_tokens text d printed shallow back =
    ap (λ ts. option_and_then of_json (option_and_then (λ p. json.if_last p.0 p.1) (json.value max_depth ts))) (printed ∙ sym (append-nil _))
    ∙ ap (λ o. option_and_then of_json (option_and_then (λ p. json.if_last p.0 p.1) o)) (value-json_tokens (outline d) max_depth [] shallow)
    ∙ back

-- a value that is read from its tokens, and that nests no other array or object
pub record Reads (d : Data) : Type 0 where
  pub back : of_json (outline d) ≡ Some d
  pub numbers : tree.HasNumbers (outline d)
  pub shallow : tree.depth (outline d) ≤ 1

reads : (d : Data) → Reads d → read (compact_text d) ≡ Some d
reads d r =
    let printed = ap tokens (sym (print-outline d)) ∙ tokens-print (tree.json_tokens (outline d)) (ArePrintable-json_tokens (outline d) r.numbers) in
    reads_by_tokens (compact_text d) d printed (omega (arith, r.shallow)) r.back

-- an object with these members
abbrev told : List ℕ → ℕ → Option (List ℕ) → List ℕ → ℕ → List ℕ → ℕ → List ℕ → List ℕ → Data
told caption case closing day deadline label party rule time = object (
    member (codes "caption") (string caption)
    (member (codes "case") (number (unsigned case))
    (member (codes "closing") (string_or_null closing)
    (member (codes "day") (string day)
    (member (codes "deadline") (number (unsigned deadline))
    (member (codes "label") (string label)
    (member (codes "party") (number (unsigned party))
    (member (codes "rule") (string rule)
    (member (codes "time") (string time)
    no_members)))))))))

told-reads : (caption : List ℕ) (case : ℕ) (closing : Option (List ℕ)) (day : List ℕ) (deadline : ℕ) (label : List ℕ) (party : ℕ) (rule time : List ℕ)
    → case < 2 ^ 64 → deadline < 2 ^ 64 → party < 2 ^ 64 → Reads (told caption case closing day deadline label party rule time)
told-reads caption case (Some closing) day deadline label party rule time c d p = record {
  back = rw (number_of-decimal case c, number_of-decimal deadline d, number_of-decimal party p) refl;
  numbers = (tt, (IsNumber-decimal case c, (tt, (tt, (IsNumber-decimal deadline d, (tt, (IsNumber-decimal party p, (tt, (tt, tt)))))))));
  shallow = omega arith;
}
told-reads caption case None day deadline label party rule time c d p = record {
  back = rw (number_of-decimal case c, number_of-decimal deadline d, number_of-decimal party p) refl;
  numbers = (tt, (IsNumber-decimal case c, (tt, (tt, (IsNumber-decimal deadline d, (tt, (IsNumber-decimal party p, (tt, (tt, tt)))))))));
  shallow = omega arith;
}

pub due-reads : (court : CourtSettings) (due : DueRow) (case : CaseRow) → due.case < 2 ^ 64 → due.number < 2 ^ 64 → due.party < 2 ^ 64
    → Reads (due_object court due case)
due-reads court due case c n p =
    told-reads case.caption due.case (closing_of_end due.close due.end) (day_of_end court due.end)
    due.number case.label due.party due.rule (time_of_end court due.end) c n p

pub object-read : (court : CourtSettings) (due : DueRow) (case : CaseRow) → due.case < 2 ^ 64 → due.number < 2 ^ 64 → due.party < 2 ^ 64
    → read (compact_text (due_object court due case)) ≡ Some (due_object court due case)
object-read court due case c n p = reads (due_object court due case) (due-reads court due case c n p)
