-- Texts with no mark: numbers, days, times and words, and where a deadline stands.
use Rattle.std.proofs.Common.{◌≡◌, ℕ, zero, suc, ◌+◌, ◌/◌, ◌%◌, ◌<◌, ◌==◌, false, List, [], ◌∷◌, ◌++◌, refl, ◌∙◌, arith, lt-ltb, ℤ, pos, negsuc}
use Rattle.std.specs.Prelude.{codes, decimal}
use Rattle.std.specs.Fmt.{digits, digits_onto, digit_glyph}
use Rattle.std.proofs.lemmas.Bool.{cond_both}
use Rattle.std.proofs.lemmas.Bool.Decides.{nat_tests}
use Rattle.std.proofs.lemmas.List.Elements.{filter-append}
use Rattle.jiff_core.specs.Calendar.{IsBetween}
use Rattle.jiff_core.proofs.SignedLemmas.{signed_arith}
use Rattle.civil_time.specs.Civil.{year_of, month_of, day_of_month}
use Rattle.civil_time.specs.DayText.{date_text, day_text}
use Rattle.civil_time.specs.LocalTime.{local_day, local_minute, offset_in_force}
use Rattle.civil_time.specs.MomentText.{two_digits, clock_text, hours_text, offset_text, moment_text}
use Rattle.civil_time.specs.Zone.{ZoneRules}
use Rattle.civil_time.proofs.LocalTimeLemmas.{offset_bounds}
use Rattle.court_days.specs.Court.{CourtSettings, zone_of}
use Rattle.court_days.specs.declared.filing.End.{End}
use Rattle.court_days.specs.declared.filing.End.TheVariants.{LastDay, Moment}
use Rattle.court_days.proofs.CourtLemmas.{zone_of-is_zone}
use Rattle.court_rules.specs.declared.act.Standing.{Standing}
use Rattle.court_rules.specs.declared.act.Standing.TheVariants.{Running, Suspended, Awaiting, Done, Vacated}
use Rattle.court_rules.specs.declared.rule.Rule.{Rule}
use Rattle.court_rules.specs.declared.rule.Rule.TheVariants as rule
use Rattle.docket_command.specs.Words.{role_word}
use Rattle.docket_command.specs.declared.choice.Role.{Role}
use Rattle.docket_command.specs.declared.choice.Role.TheVariants as role
use Rattle.docket_text.specs.CaseTexts.{due_text, standing_text}
use Rattle.docket_text.specs.HolidayNames.{weekday_word}
use Rattle.docket_text.specs.Parties.{party_text}
use Rattle.docket_text.specs.Times.{shown, shown_minute}
use Rattle.html_sheets.specs.Marks.{is_mark, marks}
use Rattle.html_sheets.specs.RuleWords.{rule_words}

-- it has no mark
pub record IsBare (bytes : List ℕ) : Type 0 where
  pub is : marks bytes ≡ []

pub bare_both : {xs ys : List ℕ} → IsBare xs → IsBare ys → IsBare (xs ++ ys)
bare_both {xs} {ys} f s = record { is = filter-append is_mark xs ys ∙ rw (f.is, s.is) refl }

bare_cons : (x : ℕ) (xs : List ℕ) → is_mark x ≡ false → IsBare xs → IsBare (x ∷ xs)
bare_cons x xs h s = record { is = rw h (s.is) }

bare_nil : IsBare []
bare_nil = record { is = refl }

-- a digit, and what lies below `"` or from `(` to `;`
small : (n : ℕ) → n < 12 → is_mark (48 + n) ≡ false
unfolding is_mark
small n h = grind (arith, nat_tests)

digit_bare : (n : ℕ) → is_mark (48 + n % 10) ≡ false
digit_bare n = small (n % 10) (omega arith)

glyph_bare : (n : ℕ) → is_mark (digit_glyph false (n % 10)) ≡ false
glyph_bare n = rw (lt-ltb (n % 10) 10 (omega arith)) (digit_bare n)

digits_bare : (k n : ℕ) (acc : List ℕ) → IsBare acc → IsBare (digits_onto k 10 false n acc)
digits_bare zero n acc h = h
digits_bare (suc k) n acc h =
    let more = bare_cons (digit_glyph false (n % 10)) acc (glyph_bare n) h in
    cond_both (n / 10 == 0) _ _ IsBare (λ _. more) (λ _. digits_bare k (n / 10) _ more)

pub decimal_bare : (n : ℕ) → IsBare (decimal n)
unfolding digits
decimal_bare n = digits_bare 64 n [] bare_nil

dash : (xs : List ℕ) → IsBare xs → IsBare (45 ∷ xs)
unfolding is_mark
dash xs h = bare_cons 45 xs refl h

digit_then : (n : ℕ) (xs : List ℕ) → IsBare xs → IsBare ((48 + n % 10) ∷ xs)
digit_then n xs h = bare_cons (48 + n % 10) xs (digit_bare n) h

date_bare : (year month day : ℕ) → IsBare (date_text year month day)
date_bare year month day =
    digit_then (year / 1000) _ (digit_then (year / 100) _ (digit_then (year / 10) _ (digit_then year _ (dash _
    (digit_then (month / 10) _ (digit_then month _ (dash _
    (digit_then (day / 10) _ (digit_then day _ bare_nil)))))))))

pub day_bare : (day : ℕ) → IsBare (day_text day)
unfolding day_text
day_bare day = date_bare (year_of day) (month_of day) (day_of_month day)

two_bare : (n : ℕ) → n < 100 → IsBare (two_digits n)
two_bare n h = bare_cons (48 + n / 10) _ (small (n / 10) (omega arith)) (digit_then n [] bare_nil)

colon_then : (xs : List ℕ) → IsBare xs → IsBare (58 ∷ xs)
unfolding is_mark
colon_then xs h = bare_cons 58 xs refl h

pub clock_bare : (minute : ℕ) → minute < 1440 → IsBare (clock_text minute)
clock_bare minute h = bare_both {xs = two_digits (minute / 60)} (two_bare (minute / 60) (omega arith)) (colon_then _ (two_bare (minute % 60) (omega arith)))

shown_minute_less : (close : ℕ) → shown_minute close < 1440
unfolding shown_minute
shown_minute_less close = omega arith

pub close_bare : (close : ℕ) → IsBare (clock_text (shown_minute close))
close_bare close = clock_bare (shown_minute close) (shown_minute_less close)

pub local_bare : (zone : ZoneRules) (at : ℕ) → IsBare (clock_text (local_minute zone at))
local_bare zone at = clock_bare (local_minute zone at) (omega arith)

hours_bare : (hours : ℕ) → hours < 100 → IsBare (hours_text hours)
unfolding is_mark
hours_bare hours h = bare_both {xs = two_digits hours} (two_bare hours h) (record { is = refl })

offset_bare : (hours : ℤ) → IsBetween (negsuc 12) (pos 13) hours → IsBare (offset_text hours)
unfolding is_mark
offset_bare (pos n) h = bare_cons 43 _ refl (hours_bare n (omega (arith, signed_arith)))
offset_bare (negsuc n) h = bare_cons 45 _ refl (hours_bare (n + 1) (omega (arith, signed_arith)))

moment_bare : (court : CourtSettings) (at : ℕ) → IsBare (moment_text (zone_of court) at)
unfolding moment_text is_mark
moment_bare court at =
    let zone = zone_of court in
    bare_both {xs = day_text (local_day zone at)} (day_bare (local_day zone at))
    (bare_cons 84 _ refl (bare_both {xs = clock_text (local_minute zone at)} (local_bare zone at) (offset_bare (offset_in_force zone at) (offset_bounds zone (zone_of-is_zone court) at))))

pub party_bare : (party : ℕ) → IsBare (party_text party)
unfolding is_mark
party_bare party = cond_both (party == 0) _ _ IsBare (λ _. record { is = refl }) (λ _. decimal_bare party)

pub role_bare : (r : Role) → IsBare (role_word r)
unfolding is_mark
role_bare role.Plaintiff = record { is = refl }
role_bare role.Defendant = record { is = refl }
role_bare role.Other = record { is = refl }

pub rule_bare : (rule : Rule) → IsBare (rule_words rule)
unfolding is_mark
rule_bare rule.AnswerToSummons = record { is = refl }
rule_bare rule.AnswerAfterWaiver = record { is = refl }
rule_bare rule.AnswerAfterWaiverAbroad = record { is = refl }
rule_bare rule.AnswerToCounterclaim = record { is = refl }
rule_bare rule.ReplyToAnswer = record { is = refl }
rule_bare rule.AnswerByUnitedStates = record { is = refl }
rule_bare rule.AnswerByOfficer = record { is = refl }
rule_bare rule.AnswerAfterRuling = record { is = refl }
rule_bare rule.AnswerAfterStatement = record { is = refl }
rule_bare rule.MoreDefiniteStatement = record { is = refl }
rule_bare rule.MotionToStrike = record { is = refl }
rule_bare rule.MotionAndNotice = record { is = refl }
rule_bare rule.OpposingAffidavit = record { is = refl }
rule_bare rule.RenewedMotionForJudgment = record { is = refl }
rule_bare rule.LosingPartyNewTrial = record { is = refl }
rule_bare rule.AmendedFindings = record { is = refl }
rule_bare rule.NewTrial = record { is = refl }
rule_bare rule.NewTrialByCourt = record { is = refl }
rule_bare rule.AmendedJudgment = record { is = refl }
rule_bare rule.ReliefFromJudgment = record { is = refl }
rule_bare rule.Ordered = record { is = refl }

pub weekday_bare : (day : ℕ) → IsBare (weekday_word day)
unfolding is_mark
weekday_bare day =
    cond_both (day == 0) _ _ IsBare (λ _. record { is = refl })
    (λ _. cond_both (day == 1) _ _ IsBare (λ _. record { is = refl })
    (λ _. cond_both (day == 2) _ _ IsBare (λ _. record { is = refl })
    (λ _. cond_both (day == 3) _ _ IsBare (λ _. record { is = refl })
    (λ _. cond_both (day == 4) _ _ IsBare (λ _. record { is = refl })
    (λ _. cond_both (day == 5) _ _ IsBare (λ _. record { is = refl }) (λ _. record { is = refl }))))))

due_bare : (court : CourtSettings) (close : ℕ) (end : End) → IsBare (due_text court close end)
unfolding is_mark
due_bare court close (LastDay day) =
    bare_both {xs = codes "due "} (record { is = refl }) (bare_both {xs = day_text day} (day_bare day) (bare_both {xs = codes " 24:00 "} (record { is = refl }) (close_bare close)))
due_bare court close (Moment at) = bare_both {xs = codes "due "} (record { is = refl }) (moment_bare court (shown at))

pub standing_bare : (court : CourtSettings) (close : ℕ) (standing : Standing) → IsBare (standing_text court close standing)
unfolding is_mark
standing_bare court close (Running end) = due_bare court close end
standing_bare court close Suspended = record { is = refl }
standing_bare court close Awaiting = record { is = refl }
standing_bare court close Done = record { is = refl }
standing_bare court close Vacated = record { is = refl }
