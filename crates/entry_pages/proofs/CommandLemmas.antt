-- The examples are read as commands.
use Rattle.std.proofs.Common.{◌≡◌, ◌≢◌, ◌+◌, ◌≤◌, ℕ, pos, Some, codes, refl, arith}
use Rattle.jiff_core.specs.declared.civil.date.Date.{Date}
use Rattle.jiff_core.specs.Calendar.{days_from_civil}
use Rattle.jiff_core.proofs.SignedLemmas.{signed_arith}
use Rattle.jiff_core.proofs.MarchLemmas.{day_count-late}
use Rattle.jiff_core.proofs.CalendarLemmas.{days_from_civil-day_count}
use Rattle.civil_time.specs.DayText.{SpellsDay, date_text, day_of_text}
use Rattle.civil_time.proofs.DayTexts.{day_of_text-spelled}
use Rattle.docket_command.specs.declared.command_name.CommandName.{CommandName}
use Rattle.docket_command.specs.declared.command_name.CommandName.TheVariants as name
use Rattle.docket_wire.specs.Reading.{is_known, action_at, command_of}
use Rattle.command_forms.specs.Forms.{command_of_pairs}
use Rattle.entry_pages.specs.Examples.{example_pairs, kind_read}

-- a day of June 2026
june : (d : ℕ) → 1 ≤ d → d ≤ 30 → Date
june d low high = record { year = pos 2026; month = 6; day = d; year_in = omega (arith, signed_arith); month_in = (omega arith, omega arith); day_in = (low, high) }

june_day : (d : ℕ) → 1 ≤ d → days_from_civil (pos 2026) 6 d ≡ pos (20_604 + d)
june_day d low = omega (arith, signed_arith, days_from_civil-day_count, day_count-late (pos 2026) 12026 6 d refl (omega arith) (omega arith) low)

june_spelled : (d : ℕ) → 1 ≤ d → d ≤ 30 → SpellsDay (date_text 2026 6 d) (20_604 + d)
unfolding june
june_spelled d low high = (2026, 6, d, (june d low high, june_day d low, refl, refl, refl), refl)

june_2 : day_of_text (codes "2026-06-02") ≡ Some 20_606
june_2 = day_of_text-spelled (codes "2026-06-02") 20_606 (omega arith, omega arith) (june_spelled 2 (omega arith) (omega arith))

june_30 : day_of_text (codes "2026-06-30") ≡ Some 20_634
june_30 = day_of_text-spelled (codes "2026-06-30") 20_634 (omega arith, omega arith) (june_spelled 30 (omega arith) (omega arith))

pub each : (kind : CommandName) → kind ≢ name.ImportCalendar → kind_read (command_of_pairs (example_pairs kind)) ≡ Some kind
unfolding is_known action_at command_of
each name.DeclareDay other = rw june_2 refl
each name.CloseDay other = rw june_2 refl
each name.CloseSpan other = rw june_2 refl
each name.ShortDay other = rw june_2 refl
each name.WithdrawCalendar other = refl
each name.ImportCalendar other = absurd (other refl)
each name.OpenCase other = rw june_2 refl
each name.AddParty other = refl
each name.FileEntry other = rw june_2 refl
each name.ServeSummons other = rw june_2 refl
each name.FileWaiver other = rw (june_2, june_30) refl
each name.ServePleading other = rw june_2 refl
each name.OrderReply other = rw june_2 refl
each name.RuleMotion other = rw june_2 refl
each name.Dispose other = rw june_2 refl
each name.StatementServed other = rw june_2 refl
each name.NoticeHearing other = rw june_30 refl
each name.OrderPeriod other = rw june_2 refl
each name.EnterJudgment other = rw june_2 refl
each name.Extend other = rw june_2 refl
each name.Satisfy other = rw june_2 refl
each name.Vacate other = refl
each name.LocalRule other = refl
each name.LocalPeriod other = rw june_2 refl
