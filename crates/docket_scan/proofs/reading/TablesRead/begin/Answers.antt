use Rattle.std.proofs.Common.{◌≡◌, ◌∙◌, ◌+◌, ℕ, length, refl, arith, []}
use Rattle.docket_scan.proofs.CountLemmas.{parties_counted}
use Rattle.docket_scan.proofs.reading.TablesRead.begin.Goals as goal

pub returns : goal.returns
returns c days texts next same counted ready known = record {
  court = refl;
  calendar = same;
  short_days = ready;
  unread = refl;
  names = known;
  cases = refl;
  parties = parties_counted c.in_ok-parties.parties [] c.in_ok-parties.ensures;
  held = λ i. record (c.none-held.ensures c.args.court i) { calendar_rows = (counted ∙ none_more (length days)) i };
}
  where
    none_more : (n : ℕ) → n ≡ n + 0
    none_more n = omega arith
