use Rattle.std.proofs.Common.{codes, map, refl}
use Rattle.std.specs.List.{flat_map}
use Rattle.std.proofs.lemmas.Result.{on_ok_weaker}
use Rattle.entry_pages.specs.ValueForms.{next_word}
use Rattle.entry_pages.proofs.FieldLemmas.{texts_at, mapped}
use Rattle.entry_pages.proofs.KindLemmas.{words_added}
use Rattle.entry_pages.proofs.value_form.push_some.Goals as goal

pub returns : goal.returns
returns c =
    let rest = mapped next_word texts_at c.args.rest.now (map texts_at c.args.rest.now) refl in
    on_ok_weaker c.push_rest.result
    (λ last. words_added (codes "one of ") c.args.first.now.0.now _ (flat_map next_word (map texts_at c.args.rest.now)) _ _ _ c.in_ok-write.ensures.bytes last rest) c.push_rest.ensures
