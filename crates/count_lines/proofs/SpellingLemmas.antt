-- Lines are read as they are spelled.
use Rattle.std.proofs.Common.{ℤ, ◌≡◌, inl, inr, ℕ, ◌+◌, ◌%◌, ◌/◌, ◌<◌, ◌≤◌, ◌^◌, ◌==◌, nat_le, ◌&&◌, List, [], ◌∷◌, ◌++◌, length, get_or, if◌then◌else◌, Bool, true, false, Option, Some, None, codes, refl, sym, ◌∙◌, ap, subst, append_assoc, append-nil, arith, rules}
use Rattle.std.proofs.lemmas.Bool.{cases_Bool, eqb-true, eqb-false, ne_eqb}
use Rattle.std.proofs.lemmas.Bool.Decides.{nat_tests}
use Rattle.std.proofs.lemmas.Slice.Eq.{bytes_eq-Decides}
use Rattle.std.proofs.lemmas.Str.Parse.{IsNumeralModel, numerals_by_value, digits_value_short}
use Rattle.std.proofs.lemmas.Fmt.{digits_decimal, digits_value-decimal, decimal-digits_value, decimal_nonempty, length-decimal-le, first_decimal}
use Rattle.std.specs.Char.{is_ascii_digit}
use Rattle.std.specs.Fmt.{decimal}
use Rattle.std.specs.List.{list_all}
use Rattle.std.specs.Str.{bytes_eq}
use Rattle.std.specs.Str.Parse.{digits_value}
use Rattle.std.proofs.lemmas.Option.{same_Some}
use Rattle.civil_time.specs.Civil.{year_of, month_of, day_of_month}
use Rattle.civil_time.specs.DayText.{day_text, day_of_text}
use Rattle.civil_time.proofs.DayTexts as texts
use Rattle.court_days.specs.Civil.{IsEnteredDay}
use Rattle.court_days.specs.declared.calendar.DayKind.{DayKind}
use Rattle.court_days.specs.declared.calendar.DayKind.TheVariants.{Federal, State, Closed}
use Rattle.court_days.specs.declared.calendar.Direction.{Direction}
use Rattle.court_days.specs.declared.calendar.Direction.TheVariants.{Forward, Backward}
use Rattle.court_rules.specs.declared.method.Method.{Method}
use Rattle.court_rules.specs.declared.rule.Rule.{Rule}
use Rattle.court_rules.specs.declared.rule.Rule.TheVariants.{AnswerToSummons}
use Rattle.court_rules.specs.Methods.{method_name, method_named}
use Rattle.court_rules.specs.Rules.{line_of, name_of, rule_named}
use Rattle.court_rules.proofs.Names as names
use Rattle.civil_time.specs.MomentText.{moment_at, clock_text}
use Rattle.civil_time.specs.Reading.{clock_at, time_of_day_at}
use Rattle.civil_time.specs.ZoneText.{zone_at}
use Rattle.civil_time.specs.MomentGrammar.{SpellsTimeOfDay}
use Rattle.civil_time.specs.ZoneGrammar.{SpellsZone}
use Rattle.civil_time.proofs.MomentGrammarLemmas.{moment_at-spelled, moment_sound}
use Rattle.civil_time.proofs.ReadingLemmas as reading
use Rattle.civil_time.proofs.ZoneGrammarSound.{zone_sound, read_as_spelled}
use Rattle.court_days.specs.Court.{CourtSettings, zone_of}
use Rattle.court_days.proofs.CourtLemmas.{zone_of-within}
use Rattle.count_lines.proofs.CourtTexts.{moment_word, zone_text}
use Rattle.count_lines.proofs.TextNames.{is_word_byte, is_word}
use Rattle.count_lines.specs.declared.request.Request.{Request}
use Rattle.count_lines.specs.declared.request.Request.TheVariants.{Enter, Span, Short, Zone, CountDays, CountMonths, CountHours, ByRule, Closing}
use Rattle.count_lines.specs.Requests.{◌>>=◌, value_if, cut_word, words_of, entered_day_of, is_number, number_of, enter_of, count_of, direction_named, months_of, hours_of, rule_of, span_of, short_of, closing_of, court_named, zone_of_line, asked_by, request_of, IsAsked}
use Rattle.count_lines.specs.Spelling.{spaced, kind_word, direction_word, day_and_count, SpellsSpan, SpellsHours, SpellsCourt, Spells}

-- what a chain that succeeds went through
bound : {A B : Type 0} (first : Option A) (next : A → Option B) (b : B) → (first >>= next) ≡ Some b
    → (a : A) × (first ≡ Some a) × (next a ≡ Some b)
bound None next b h = cc
bound (Some a) next b h = (a, refl, h)

tested : {A : Type 0} (test : Bool) (a b : A) → value_if test a ≡ Some b → (test ≡ true) × (a ≡ b)
tested true a b h = (refl, cc)
tested false a b h = cc

both : (a b c d : List ℕ) → ◌≡◌ {A = Option (List ℕ × List ℕ)} (Some (a, b)) (Some (c, d)) → (a ≡ c) × (b ≡ d)
both a b c d h =
    let pair : ◌≡◌ {A = List ℕ × List ℕ} (a, b) (c, d) = cc in (ap (λ p. p.0) pair, ap (λ p. p.1) pair)

-- what a cut leaves, joined again
cut-joined : (word line first rest : List ℕ) → cut_word word line ≡ Some (first, rest) → word ++ line ≡ spaced first rest
cut-joined word [] first rest h = cc
cut-joined word (byte ∷ line) first rest h =
    elim (cases_Bool (byte == 32)) [
      | inl is ↦
          let parts = both word line first rest (rw is at h) in
          rw (eqb-true byte 32 is, parts.0, parts.1) refl
      | inr other ↦
          let on : cut_word (word ++ byte ∷ []) line ≡ Some (first, rest) = rw other at h in
          sym (append_assoc word (byte ∷ []) line) ∙ cut-joined (word ++ byte ∷ []) line first rest on
    ]

-- the text of a day has no space
digit-no_space : (n : ℕ) → ((48 + n % 10) == 32) ≡ false
digit-no_space n = ne_eqb (48 + n % 10) 32 (omega arith)

cut-day : (day : ℕ) (rest : List ℕ) → cut_word [] (spaced (day_text day) rest) ≡ Some (day_text day, rest)
unfolding day_text
cut-day day rest =
    rw (digit-no_space (year_of day / 1000), digit-no_space (year_of day / 100), digit-no_space (year_of day / 10), digit-no_space (year_of day), digit-no_space (month_of day / 10), digit-no_space (month_of day), digit-no_space (day_of_month day / 10), digit-no_space (day_of_month day)) refl

space_no_word : (byte : ℕ) → byte ≡ 32 → is_word_byte byte ≡ true → ⊥
space_no_word byte is h = let space : is_word_byte 32 ≡ true = subst (λ b. is_word_byte b ≡ true) is h in cc

-- nor has any word
cut-words : (word text rest : List ℕ) → is_word text ≡ true → cut_word word (text ++ 32 ∷ rest) ≡ Some (word ++ text, rest)
cut-words word [] rest h = ap (λ w. Some (w, rest)) (sym (append-nil word))
cut-words word (byte ∷ text) rest h =
    let other : (byte == 32) ≡ false = ne_eqb byte 32 (λ is. space_no_word byte is (grind (arith, nat_tests, h))) in
    let step : cut_word word (byte ∷ (text ++ 32 ∷ rest)) ≡ cut_word (word ++ byte ∷ []) (text ++ 32 ∷ rest) = rw other refl in
    step ∙ cut-words (word ++ byte ∷ []) text rest (grind (arith, nat_tests, h)) ∙ ap (λ w. Some (w, rest)) (append_assoc word (byte ∷ []) text)

-- numbers
own : IsNumeralModel (λ ds. list_all is_ascii_digit ds ≡ true) (digits_value 10)
own = numerals_by_value _ (search rules)

number-read : (text : List ℕ) (n : ℕ) → number_of text ≡ Some n → text ≡ decimal n
number-read text n h =
    let test = tested (is_number text) (digits_value 10 text) n h in
    let some : nat_le 1 (length text) ≡ true = grind (arith, nat_tests, test.0) in
    let short : nat_le (length text) 4 ≡ true = grind (arith, nat_tests, test.0) in
    let first : (get_or text 0 0 == 48) ≡ false = grind (arith, nat_tests, test.0) in
    let digits : list_all is_ascii_digit text ≡ true = grind (arith, nat_tests, test.0) in
    let low : 1 ≤ length text = grind (arith, nat_tests) in
    let high : length text ≤ 4 = grind (arith, nat_tests) in
    sym (decimal-digits_value own text digits (omega arith) (λ zero. absurd (eqb-false _ _ first zero)) (omega (arith, digits_value_short own text 4 digits high)))
    ∙ ap decimal test.1

number-spelled : (n : ℕ) → 1 ≤ n → n ≤ 9999 → number_of (decimal n) ≡ Some n
number-spelled n low high =
    let fits : n < 2 ^ 64 = omega arith in
    let some : 0 < length (decimal n) = decimal_nonempty n fits in
    let short : length (decimal n) ≤ 4 = length-decimal-le 4 n (omega arith) (omega arith) fits in
    let first : 48 < get_or (decimal n) 0 0 = first_decimal n (omega arith) fits in
    let digits : list_all is_ascii_digit (decimal n) ≡ true = digits_decimal own n fits in
    let is : is_number (decimal n) ≡ true = grind (arith, nat_tests) in
    rw is (ap Some (digits_value-decimal own n fits))

-- days
day-read : (text : List ℕ) (day : ℕ) → entered_day_of text ≡ Some day → IsEnteredDay day × (text ≡ day_text day)
day-read text day h =
    let read = bound (day_of_text text) (λ day. value_if (nat_le 10_957 day && nat_le day 47_481) day) day h in
    let test = tested (nat_le 10_957 read.0 && nat_le read.0 47_481) read.0 day read.2 in
    let low : nat_le 10_957 read.0 ≡ true = grind (arith, nat_tests, test.0) in
    let high : nat_le read.0 47_481 ≡ true = grind (arith, nat_tests, test.0) in
    let entered : IsEnteredDay read.0 = (grind (arith, nat_tests), grind (arith, nat_tests)) in
    let spells = (texts.day_of_text-means text read.0).0 read.1 in
    subst (λ d. IsEnteredDay d × (text ≡ day_text d)) test.1 (entered, texts.spelled-is text read.0 spells.1)

day-spelled : (day : ℕ) → IsEnteredDay day → entered_day_of (day_text day) ≡ Some day
day-spelled day entered =
    let low : nat_le 10_957 day ≡ true = grind (arith, nat_tests) in
    let high : nat_le day 47_481 ≡ true = grind (arith, nat_tests) in
    rw (texts.day_of_text-spelled (day_text day) day (omega (arith, entered), omega (arith, entered)) (texts.spells-text day (omega (arith, entered))), low, high) refl

-- requests
enter-read : (kind : DayKind) (text : List ℕ) (request : Request) → enter_of kind text ≡ Some request
    → IsAsked request × Spells request (spaced (kind_word kind) text)
enter-read kind text request h =
    let day = bound (entered_day_of text) (λ day. Some (Enter kind day)) request h in
    let read = day-read text day.0 day.1 in
    let is : Enter kind day.0 ≡ request = cc in
    subst (λ r. IsAsked r × Spells r (spaced (kind_word kind) text)) is (read.0, ap (spaced (kind_word kind)) read.1)

count-read : (direction : Direction) (text : List ℕ) (request : Request) → count_of direction text ≡ Some request
    → IsAsked request × Spells request (spaced (direction_word direction) text)
count-read direction text request h =
    let words = bound (words_of text) (λ words. entered_day_of words.0 >>= λ day. number_of words.1 >>= λ count. value_if (nat_le 1 count && nat_le count 3650) (CountDays direction day count)) request h in
    let day = bound (entered_day_of words.0.0) (λ day. number_of words.0.1 >>= λ count. value_if (nat_le 1 count && nat_le count 3650) (CountDays direction day count)) request words.2 in
    let count = bound (number_of words.0.1) (λ count. value_if (nat_le 1 count && nat_le count 3650) (CountDays direction day.0 count)) request day.2 in
    let test = tested (nat_le 1 count.0 && nat_le count.0 3650) (CountDays direction day.0 count.0) request count.2 in
    let low : nat_le 1 count.0 ≡ true = grind (arith, nat_tests, test.0) in
    let high : nat_le count.0 3650 ≡ true = grind (arith, nat_tests, test.0) in
    let read = day-read words.0.0 day.0 day.1 in
    let joined : text ≡ spaced (day_text day.0) (decimal count.0) =
    cut-joined [] text words.0.0 words.0.1 words.1
    ∙ ap (λ word. spaced word words.0.1) read.1 ∙ ap (spaced (day_text day.0)) (number-read words.0.1 count.0 count.1) in
    subst (λ r. IsAsked r × Spells r (spaced (direction_word direction) text)) test.1
    ((read.0, grind (arith, nat_tests), grind (arith, nat_tests)), ap (spaced (direction_word direction)) joined)

word-is : (word text : List ℕ) → bytes_eq word text ≡ true → word ≡ text
word-is word text same = (bytes_eq-Decides word text).0 same

direction-read : (word : List ℕ) (direction : Direction) → direction_named word ≡ Some direction → word ≡ direction_word direction
direction-read word direction h =
    elim (cases_Bool (bytes_eq word (codes "forward"))) [
      | inl is ↦
          let named : Forward ≡ direction = same_Some _ _ (rw is at h) in
          subst (λ d. word ≡ direction_word d) named (word-is word (codes "forward") is)
      | inr other ↦
          elim (cases_Bool (bytes_eq word (codes "backward"))) [
            | inl is ↦
                let named : Backward ≡ direction = same_Some _ _ (rw (other, is) at h) in
                subst (λ d. word ≡ direction_word d) named (word-is word (codes "backward") is)
            | inr neither ↦ let nothing : ◌≡◌ {A = Option Direction} None (Some direction) = rw (other, neither) at h in cc
          ]
    ]

-- DAY N
day_and_count-read : (text : List ℕ) (words : List ℕ × List ℕ) (day count : ℕ) → words_of text ≡ Some words
    → entered_day_of words.0 ≡ Some day → number_of words.1 ≡ Some count → IsEnteredDay day × (text ≡ day_and_count day count)
day_and_count-read text words day count cut is_day is_count =
    let read = day-read words.0 day is_day in (
      read.0,
      cut-joined [] text words.0 words.1 cut ∙ ap (λ word. spaced word words.1) read.1
          ∙ ap (spaced (day_text day)) (number-read words.1 count is_count),
    )

limits-read : (most count : ℕ) → (nat_le 1 count && nat_le count most) ≡ true → (1 ≤ count) × (count ≤ most)
limits-read most count h =
    let low : nat_le 1 count ≡ true = grind (arith, nat_tests, h) in
    let high : nat_le count most ≡ true = grind (arith, nat_tests, h) in
    (grind (arith, nat_tests), grind (arith, nat_tests))

months-read : (text : List ℕ) (request : Request) → months_of text ≡ Some request
    → IsAsked request × Spells request (spaced (codes "months") text)
months-read text request h =
    let words = bound (words_of text) (λ words. direction_named words.0 >>= λ direction. words_of words.1 >>= λ words. entered_day_of words.0 >>= λ day. number_of words.1 >>= λ count. value_if (nat_le 1 count && nat_le count 120) (CountMonths direction day count)) request h in
    let direction = bound (direction_named words.0.0) (λ direction. words_of words.0.1 >>= λ words. entered_day_of words.0 >>= λ day. number_of words.1 >>= λ count. value_if (nat_le 1 count && nat_le count 120) (CountMonths direction day count)) request words.2 in
    let rest = bound (words_of words.0.1) (λ words. entered_day_of words.0 >>= λ day. number_of words.1 >>= λ count. value_if (nat_le 1 count && nat_le count 120) (CountMonths direction.0 day count)) request direction.2 in
    let day = bound (entered_day_of rest.0.0) (λ day. number_of rest.0.1 >>= λ count. value_if (nat_le 1 count && nat_le count 120) (CountMonths direction.0 day count)) request rest.2 in
    let count = bound (number_of rest.0.1) (λ count. value_if (nat_le 1 count && nat_le count 120) (CountMonths direction.0 day.0 count)) request day.2 in
    let test = tested (nat_le 1 count.0 && nat_le count.0 120) (CountMonths direction.0 day.0 count.0) request count.2 in
    let limits = limits-read 120 count.0 test.0 in
    let read = day_and_count-read words.0.1 rest.0 day.0 count.0 rest.1 day.1 count.1 in
    let joined : text ≡ spaced (direction_word direction.0) (day_and_count day.0 count.0) =
    cut-joined [] text words.0.0 words.0.1 words.1
    ∙ ap (λ word. spaced word words.0.1) (direction-read words.0.0 direction.0 direction.1)
    ∙ ap (spaced (direction_word direction.0)) read.1 in
    subst (λ r. IsAsked r × Spells r (spaced (codes "months") text)) test.1
    ((read.0, limits.0, limits.1), ap (spaced (codes "months")) joined)

rule-read : (text : List ℕ) (request : Request) → rule_of text ≡ Some request
    → IsAsked request × Spells request (spaced (codes "rule") text)
rule-read text request h =
    let words = bound (words_of text) (λ words. rule_named words.0 >>= λ rule. words_of words.1 >>= λ words. entered_day_of words.0 >>= λ day. method_named words.1 >>= λ method. Some (ByRule rule day method)) request h in
    let rule = bound (rule_named words.0.0) (λ rule. words_of words.0.1 >>= λ words. entered_day_of words.0 >>= λ day. method_named words.1 >>= λ method. Some (ByRule rule day method)) request words.2 in
    let rest = bound (words_of words.0.1) (λ words. entered_day_of words.0 >>= λ day. method_named words.1 >>= λ method. Some (ByRule rule.0 day method)) request rule.2 in
    let day = bound (entered_day_of rest.0.0) (λ day. method_named rest.0.1 >>= λ method. Some (ByRule rule.0 day method)) request rest.2 in
    let method = bound (method_named rest.0.1) (λ method. Some (ByRule rule.0 day.0 method)) request day.2 in
    let read = day-read rest.0.0 day.0 day.1 in
    let joined : text ≡ spaced (name_of rule.0) (spaced (day_text day.0) (method_name method.0)) =
    cut-joined [] text words.0.0 words.0.1 words.1
    ∙ ap (λ word. spaced word words.0.1) (sym (names.name_of-named words.0.0 rule.0 rule.1))
    ∙ ap (spaced (name_of rule.0)) (cut-joined [] words.0.1 rest.0.0 rest.0.1 rest.1 ∙ ap (λ word. spaced word rest.0.1) read.1
    ∙ ap (spaced (day_text day.0)) (sym (names.method_name-named rest.0.1 method.0 method.1))) in
    subst (λ r. IsAsked r × Spells r (spaced (codes "rule") text)) (same_Some _ _ method.2)
    (read.0, ap (spaced (codes "rule")) joined)

span-read : (text : List ℕ) (request : Request) → span_of text ≡ Some request
    → IsAsked request × Spells request (spaced (codes "span") text)
span-read text request h =
    let words = bound (words_of text) (λ words. moment_at words.0 >>= λ start. moment_at words.1 >>= λ end. Some (Span start end)) request h in
    let start = bound (moment_at words.0.0) (λ start. moment_at words.0.1 >>= λ end. Some (Span start end)) request words.2 in
    let end = bound (moment_at words.0.1) (λ end. Some (Span start.0 end)) request start.2 in
    let first = moment_sound words.0.0 start.0 start.1 in
    let second = moment_sound words.0.1 end.0 end.1 in
    subst (λ r. IsAsked r × Spells r (spaced (codes "span") text)) (same_Some _ _ end.2)
    ((first.limits, second.limits), (text, (words.0.0, words.0.1, first, second, cut-joined [] text words.0.0 words.0.1 words.1), refl))

hours-read : (text : List ℕ) (request : Request) → hours_of text ≡ Some request
    → IsAsked request × Spells request (spaced (codes "hours") text)
hours-read text request h =
    let words = bound (words_of text) (λ words. direction_named words.0 >>= λ direction. words_of words.1 >>= λ words. moment_at words.0 >>= λ at. number_of words.1 >>= λ count. value_if (nat_le 1 count && nat_le count 8760) (CountHours direction at count)) request h in
    let direction = bound (direction_named words.0.0) (λ direction. words_of words.0.1 >>= λ words. moment_at words.0 >>= λ at. number_of words.1 >>= λ count. value_if (nat_le 1 count && nat_le count 8760) (CountHours direction at count)) request words.2 in
    let rest = bound (words_of words.0.1) (λ words. moment_at words.0 >>= λ at. number_of words.1 >>= λ count. value_if (nat_le 1 count && nat_le count 8760) (CountHours direction.0 at count)) request direction.2 in
    let at = bound (moment_at rest.0.0) (λ at. number_of rest.0.1 >>= λ count. value_if (nat_le 1 count && nat_le count 8760) (CountHours direction.0 at count)) request rest.2 in
    let count = bound (number_of rest.0.1) (λ count. value_if (nat_le 1 count && nat_le count 8760) (CountHours direction.0 at.0 count)) request at.2 in
    let test = tested (nat_le 1 count.0 && nat_le count.0 8760) (CountHours direction.0 at.0 count.0) request count.2 in
    let limits = limits-read 8760 count.0 test.0 in
    let moment = moment_sound rest.0.0 at.0 at.1 in
    let behind : words.0.1 ≡ spaced rest.0.0 (decimal count.0) =
    cut-joined [] words.0.1 rest.0.0 rest.0.1 rest.1 ∙ ap (spaced rest.0.0) (number-read rest.0.1 count.0 count.1) in
    let whole : text ≡ spaced (direction_word direction.0) words.0.1 =
    cut-joined [] text words.0.0 words.0.1 words.1 ∙ ap (λ word. spaced word words.0.1) (direction-read words.0.0 direction.0 direction.1) in
    subst (λ r. IsAsked r × Spells r (spaced (codes "hours") text)) test.1
    ((moment.limits, limits.0, limits.1), (words.0.1, (rest.0.0, moment, behind), ap (spaced (codes "hours")) whole))

time-read : (text : List ℕ) (minute : ℕ) → time_of_day_at text ≡ Some minute → SpellsTimeOfDay minute text
time-read text minute h =
    let clock = bound (clock_at text) (λ clock. if length clock.1 == 0 then Some clock.0 else None) minute h in
    let ended = reading.tested (length clock.0.1 == 0) clock.0.0 minute clock.2 in
    let spelled = reading.clock_sound text clock.0 clock.1 in
    subst (λ m. SpellsTimeOfDay m text) ended.1
    (spelled.0, spelled.1 ∙ ap (λ t. clock_text clock.0.0 ++ t) (reading.empty clock.0.1 ended.0) ∙ append-nil (clock_text clock.0.0))

short-read : (text : List ℕ) (request : Request) → short_of text ≡ Some request
    → IsAsked request × Spells request (spaced (codes "short") text)
short-read text request h =
    let words = bound (words_of text) (λ words. entered_day_of words.0 >>= λ day. time_of_day_at words.1 >>= λ minute. Some (Short day minute)) request h in
    let day = bound (entered_day_of words.0.0) (λ day. time_of_day_at words.0.1 >>= λ minute. Some (Short day minute)) request words.2 in
    let minute = bound (time_of_day_at words.0.1) (λ minute. Some (Short day.0 minute)) request day.2 in
    let read = day-read words.0.0 day.0 day.1 in
    let time = time-read words.0.1 minute.0 minute.1 in
    let joined : text ≡ spaced (day_text day.0) (clock_text minute.0) =
    cut-joined [] text words.0.0 words.0.1 words.1
    ∙ ap (λ word. spaced word words.0.1) read.1 ∙ ap (spaced (day_text day.0)) time.1 in
    subst (λ r. IsAsked r × Spells r (spaced (codes "short") text)) (same_Some _ _ minute.2)
    ((read.0, time.0), ap (spaced (codes "short")) joined)

closing-read : (text : List ℕ) (request : Request) → closing_of text ≡ Some request
    → IsAsked request × Spells request (spaced (codes "closing") text)
closing-read text request h =
    let day = bound (entered_day_of text) (λ day. Some (Closing day)) request h in
    let read = day-read text day.0 day.1 in
    subst (λ r. IsAsked r × Spells r (spaced (codes "closing") text)) (same_Some _ _ day.2) (read.0, ap (spaced (codes "closing")) read.1)

zone-read : (text : List ℕ) (request : Request) → zone_of_line text ≡ Some request
    → IsAsked request × Spells request (spaced (codes "zone") text)
zone-read text request h =
    let words = bound (words_of text) (λ words. court_named words.0 words.1 >>= λ court. Some (Zone court)) request h in
    let court = bound (court_named words.0.0 words.0.1) (λ court. Some (Zone court)) request words.2 in
    let zone = bound (zone_at words.0.0) (λ rules. time_of_day_at words.0.1 >>= λ minute. Some (record { zone_text = words.0.0; close_minute = minute })) court.0 court.1 in
    let close = bound (time_of_day_at words.0.1) (λ minute. Some (record { zone_text = words.0.0; close_minute = minute })) court.0 zone.2 in
    let own : CourtSettings = record { zone_text = words.0.0; close_minute = close.0 } in
    let within = zone_of-within own zone.0 zone.1 in
    let is_zone : SpellsZone (zone_of own) words.0.0 = subst (λ z. SpellsZone z words.0.0) (sym within.0) (zone_sound words.0.0 zone.0 zone.1) in
    let is_time = time-read words.0.1 close.0 close.1 in
    subst (λ r. IsAsked r × Spells r (spaced (codes "zone") text)) (ap Zone (same_Some _ _ close.2) ∙ same_Some _ _ court.2)
    (tt, (text, (words.0.1, is_zone, is_time, cut-joined [] text words.0.0 words.0.1 words.1), refl))

-- one step of a choice by the first word
either : {C : Type 0} (word keyword : List ℕ) (here others : Option Request) (request : Request)
    → (if bytes_eq word keyword then here else others) ≡ Some request
    → (word ≡ keyword → here ≡ Some request → C) → (others ≡ Some request → C) → C
either word keyword here others request h is_here is_other =
    elim (cases_Bool (bytes_eq word keyword)) [
      | inl is ↦ is_here (word-is word keyword is) (rw is at h)
      | inr other ↦ is_other (rw other at h)
    ]

by_word-read : (word text : List ℕ) (request : Request) → asked_by word text ≡ Some request
    → IsAsked request × Spells request (spaced word text)
by_word-read word text request h =
    either word (codes "forward") _ _ request h (λ is read. rw is (count-read Forward text request read)) (λ h.
    either word (codes "backward") _ _ request h (λ is read. rw is (count-read Backward text request read)) (λ h.
    either word (codes "federal") _ _ request h (λ is read. rw is (enter-read Federal text request read)) (λ h.
    either word (codes "state") _ _ request h (λ is read. rw is (enter-read State text request read)) (λ h.
    either word (codes "closed") _ _ request h (λ is read. rw is (enter-read Closed text request read)) (λ h.
    either word (codes "months") _ _ request h (λ is read. rw is (months-read text request read)) (λ h.
    either word (codes "rule") _ _ request h (λ is read. rw is (rule-read text request read)) (λ h.
    either word (codes "span") _ _ request h (λ is read. rw is (span-read text request read)) (λ h.
    either word (codes "hours") _ _ request h (λ is read. rw is (hours-read text request read)) (λ h.
    either word (codes "short") _ _ request h (λ is read. rw is (short-read text request read)) (λ h.
    either word (codes "closing") (closing_of text) None request h (λ is read. rw is (closing-read text request read)) (λ h. cc)))))))))))

pub read-spelled : (line : List ℕ) (request : Request) → request_of line ≡ Some request → IsAsked request × Spells request line
read-spelled line request h =
    let words = bound (words_of line) (λ words. if bytes_eq words.0 (codes "zone") then zone_of_line words.1 else asked_by words.0 words.1) request h in
    subst (λ l. IsAsked request × Spells request l) (sym (cut-joined [] line words.0.0 words.0.1 words.1))
    (either words.0.0 (codes "zone") (zone_of_line words.0.1) (asked_by words.0.0 words.0.1) request words.2
    (λ is read. rw is (zone-read words.0.1 request read)) (λ read. by_word-read words.0.0 words.0.1 request read))

count-spelled : (direction : Direction) (day count : ℕ) → IsAsked (CountDays direction day count)
    → count_of direction (spaced (day_text day) (decimal count)) ≡ Some (CountDays direction day count)
count-spelled direction day count asked =
    let low : nat_le 1 count ≡ true = grind (arith, nat_tests) in
    let high : nat_le count 3650 ≡ true = grind (arith, nat_tests) in
    rw (cut-day day (decimal count), day-spelled day asked.0, number-spelled count asked.1 (omega (arith, asked.2)), low, high) refl

months-spelled : (direction : Direction) (day count : ℕ) → IsAsked (CountMonths direction day count)
    → (entered_day_of (day_text day) >>= λ day. number_of (decimal count) >>= λ count. value_if (nat_le 1 count && nat_le count 120) (CountMonths direction day count))
    ≡ Some (CountMonths direction day count)
months-spelled direction day count asked =
    let low : nat_le 1 count ≡ true = grind (arith, nat_tests) in
    let high : nat_le count 120 ≡ true = grind (arith, nat_tests) in
    rw (day-spelled day asked.0, number-spelled count asked.1 (omega (arith, asked.2)), low, high) refl

-- no name of a rule has a space
cut-rule : (rule : Rule) (rest : List ℕ) → cut_word [] (spaced (name_of rule) rest) ≡ Some (name_of rule, rest)
unfolding line_of
cut-rule AnswerToSummons rest = refl
cut-rule _ rest = refl

rule-spelled : (rule : Rule) (day : ℕ) (method : Method) → IsEnteredDay day
    → rule_of (spaced (name_of rule) (spaced (day_text day) (method_name method))) ≡ Some (ByRule rule day method)
rule-spelled rule day method entered =
    rw (cut-rule rule (spaced (day_text day) (method_name method)), names.rule_named-name_of rule, cut-day day (method_name method), day-spelled day entered, names.method_named-method_name method) refl

span-spelled : (start end : ℤ) (text : List ℕ) → SpellsSpan start end text → span_of text ≡ Some (Span start end)
span-spelled start end text (first, second, is_first, is_second, is) =
    rw (is, cut-words [] first second (moment_word start first is_first), moment_at-spelled start first is_first, moment_at-spelled end second is_second) refl

hours-spelled : (direction : Direction) (at : ℤ) (count : ℕ) (text : List ℕ) → IsAsked (CountHours direction at count) → SpellsHours at count text
    → (words_of text >>= λ words. moment_at words.0 >>= λ at. number_of words.1 >>= λ count. value_if (nat_le 1 count && nat_le count 8760) (CountHours direction at count))
    ≡ Some (CountHours direction at count)
hours-spelled direction at count text asked (moment, is_moment, is) =
    let low : nat_le 1 count ≡ true = grind (arith, nat_tests) in
    let high : nat_le count 8760 ≡ true = grind (arith, nat_tests) in
    rw (is, cut-words [] moment (decimal count) (moment_word at moment is_moment), moment_at-spelled at moment is_moment, number-spelled count asked.1 (omega (arith, asked.2)), low, high) refl

time-spelled : (minute : ℕ) (text : List ℕ) → SpellsTimeOfDay minute text → time_of_day_at text ≡ Some minute
time-spelled minute text (low, is) =
    ap time_of_day_at (is ∙ sym (append-nil (clock_text minute)))
    ∙ ap (λ (clock : Option (ℕ × List ℕ)). clock >>= λ c. if length c.1 == 0 then Some c.0 else None) (reading.clock_at-clock_text minute [] low)

zone-spelled : (court : CourtSettings) (text : List ℕ) → SpellsCourt court text → zone_of_line text ≡ Some (Zone court)
zone-spelled court text (close, is_zone, is_close, is) =
    rw (is, cut-words [] court.zone_text close (zone_text (zone_of court) court.zone_text is_zone), (read_as_spelled court.zone_text (zone_at court.zone_text) refl (zone_of court)).1 is_zone, time-spelled court.close_minute close is_close) refl

short-spelled : (day minute : ℕ) → IsAsked (Short day minute) → short_of (spaced (day_text day) (clock_text minute)) ≡ Some (Short day minute)
short-spelled day minute asked =
    rw (cut-day day (clock_text minute), day-spelled day asked.0, time-spelled minute (clock_text minute) (asked.1, refl)) refl

pub spelled-read : (line : List ℕ) (request : Request) → IsAsked request → Spells request line → request_of line ≡ Some request
spelled-read line (Enter Federal day) asked spells = rw (spells, day-spelled day asked) refl
spelled-read line (Enter State day) asked spells = rw (spells, day-spelled day asked) refl
spelled-read line (Enter Closed day) asked spells = rw (spells, day-spelled day asked) refl
spelled-read line (CountDays Forward day count) asked spells = rw spells (count-spelled Forward day count asked)
spelled-read line (CountDays Backward day count) asked spells = rw spells (count-spelled Backward day count asked)
spelled-read line (CountMonths Forward day count) asked spells = rw (spells, cut-day day (decimal count)) (months-spelled Forward day count asked)
spelled-read line (CountMonths Backward day count) asked spells = rw (spells, cut-day day (decimal count)) (months-spelled Backward day count asked)
spelled-read line (ByRule rule day method) asked spells = rw spells (rule-spelled rule day method asked)
spelled-read line (Span start end) asked (text, spelled, is) = rw is (span-spelled start end text spelled)
spelled-read line (Zone court) asked (text, spelled, is) = rw is (zone-spelled court text spelled)
spelled-read line (CountHours Forward at count) asked (text, spelled, is) = rw is (hours-spelled Forward at count text asked spelled)
spelled-read line (CountHours Backward at count) asked (text, spelled, is) = rw is (hours-spelled Backward at count text asked spelled)
spelled-read line (Short day minute) asked spells = rw spells (short-spelled day minute asked)
spelled-read line (Closing day) asked spells = rw (spells, day-spelled day asked) refl
