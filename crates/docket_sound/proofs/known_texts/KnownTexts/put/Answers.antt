use Rattle.std.proofs.Common.{◌≡◌, ◌∙◌, ◌||◌, Bool, true, false, cond, refl, ap}
use Rattle.std.specs.Prelude.{string_bytes}
use Rattle.std.specs.Str.{bytes_eq}
use Rattle.std.specs.BTreeSet.{contains_text}
use Rattle.std.proofs.lemmas.Map.Text.{btree_set_updates_text}
use Rattle.docket_sound.proofs.known_texts.KnownTexts.put.Goals as goal

put_in : (b old : Bool) → cond b true old ≡ (b || old)
put_in true old = refl
put_in false old = refl

pub returns-clause-ok : goal.returns-clause-ok
returns-clause-ok c other =
    btree_set_updates_text (string_bytes c.in_ok-copy.copy) c.args.self.now.texts c.insert.new.self true c.in_ok-insert.ensures.updates other
    ∙ ap (λ bs. cond (bytes_eq bs other) true (contains_text c.args.self.now.texts other)) c.in_ok-copy.ensures.ok
    ∙ put_in (bytes_eq c.args.text.now other) (contains_text c.args.self.now.texts other)
