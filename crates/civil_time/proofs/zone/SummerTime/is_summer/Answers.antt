use Rattle.std.proofs.Common.{◌≡◌, ℕ, ◌+◌, ◌*◌, arith, ap, ◌∙◌, unsigned_abs, pos, ℤ, to_z, of_z, w16, FitsSigned, to_z-of_z}
use Rattle.jiff_core.proofs.SignedLemmas.{signed_arith}
use Rattle.jiff_core.specs.Calendar.{IsBetween}
use Rattle.civil_time.specs.declared.zone.ChangeDate.{ChangeDate}
use Rattle.civil_time.specs.LocalTime.{is_between, change_day}
use Rattle.civil_time.proofs.zone.SummerTime.is_summer.Goals as goal

is_between-same : (b b' e e' t : ℕ) → b ≡ b' → e ≡ e' → is_between b e t ≡ is_between b' e' t
is_between-same b b' e e' t p q = ap (λ (x : ℕ). is_between x e t) p ∙ ap (λ (x : ℕ). is_between b' x t) q

date_in : (date : ChangeDate) (z : ℤ) (year : ℕ) (day : ℕ) → IsBetween (pos 1970) (pos 3999) z → z ≡ pos year → day ≡ change_day date (unsigned_abs (to_z w16 (of_z w16 z))) → day ≡ change_day date year
date_in date z year day h e d =
    let fits : FitsSigned w16 z = omega (arith, signed_arith) in
    d ∙ ap (λ (y : ℤ). change_day date (unsigned_abs y)) (to_z-of_z fits ∙ e)

scaled : (a b k : ℕ) → a ≡ b → a * 86_400 + k ≡ 86_400 * b + k
scaled a b k e = omega arith

pub returns : goal.returns
returns c =
    let begins = date_in c.args.self.now.begins _ _ _ c.year_of-year.ensures.limits c.year_of-year.ensures.value c.day_in.ensures.value in
    let ends = date_in c.args.self.now.ends _ _ _ c.year_of-year.ensures.limits c.year_of-year.ensures.value c.day_in-2.ensures.value in
    c.is_between.ensures ∙ is_between-same _ _ _ _ c.args.standard (scaled _ _ 7200 (c.from.ensures ∙ begins)) (scaled _ _ 3600 (c.from-2.ensures ∙ ends))
