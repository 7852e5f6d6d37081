use Rattle.std.proofs.Common.{◌∙◌, ap₂, sym, true, false}
use Rattle.docket_questions.specs.Searches.{has_words}
use Rattle.docket_questions.proofs.WordLemmas.{ended, found, passed, rest_of}
use Rattle.docket_questions.proofs.words.has_words.Goals as goal

pub returns-then-begins : goal.returns-then-begins
returns-then-begins c =
    found c.as_bytes-words.result.now c.as_bytes-text.result.now c.places.from c.places-test.true (rest_of c.as_bytes-words.result.now c.as_bytes-text.result.now c.places.from true (sym c.if-begins.true ∙ c.begins.ensures)) c.places.invariant
    ∙ ap₂ has_words c.as_bytes-text.ensures.value c.as_bytes-words.ensures.value

pub places-preserved : goal.places-preserved
places-preserved c = passed c.as_bytes-words.result.now c.as_bytes-text.result.now c.places.from c.places-test.true (rest_of c.as_bytes-words.result.now c.as_bytes-text.result.now c.places.from false (sym c.if-begins.false ∙ c.begins.ensures)) c.places.invariant

pub returns : goal.returns
returns c =
    c.is_empty.ensures
    ∙ ended c.as_bytes-words.result.now c.as_bytes-text.result.now c.places.from c.places-test.false c.places.invariant
    ∙ ap₂ has_words c.as_bytes-text.ensures.value c.as_bytes-words.ensures.value
