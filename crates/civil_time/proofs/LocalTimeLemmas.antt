-- Instants and the local times that they show.
use Rattle.std.proofs.Common.{◌≡◌, ℕ, ◌+◌, ◌-◌, ◌*◌, ◌<◌, ◌≤◌, ◌⊎◌, inl, inr, true, false, Bool, cond, nat_eq, pos, negsuc, unsigned_abs, ◌+ℤ◌, ◌-ℤ◌, ◌*ℤ◌, refl, sym, ap, ◌∙◌, arith, eq-eqb}
use borrow.Author.Differences.{up, down}
use Rattle.std.proofs.lemmas.Bool.{cases_order, both_ways}
use Rattle.std.proofs.lemmas.Bool.Decides.{nat_tests}
use Rattle.jiff_core.specs.Calendar.{IsBetween}
use Rattle.jiff_core.proofs.SignedLemmas.{signed_arith, one_part}
use Rattle.civil_time.specs.Zone.{ZoneRules, IsZone}
use Rattle.civil_time.specs.LocalTime.{is_summer, shown_at, standard_time, offset_in_force, local_time, instant_by_standard, instant_of, IsInstantOf, IsInGap, IsFirstInFold}

shown_cases : (zone : ZoneRules) (s : ℕ) → (shown_at zone s ≡ s) ⊎ (shown_at zone s ≡ s + 3600)
shown_cases zone s = go (is_summer zone.summer s) refl where
  go : (b : Bool) → is_summer zone.summer s ≡ b → (shown_at zone s ≡ s) ⊎ (shown_at zone s ≡ s + 3600)
  go true e = inr (rw e)
  go false e = inl (rw e (omega arith))

-- the two by the signs of the hours
standard_is : (zone : ZoneRules) (is : IsZone zone) (n : ℕ) → 43_200 ≤ n → standard_time zone n + 3600 * up zone.hours_west ≡ n + 3600 * down zone.hours_west
standard_is zone is n h = omega (arith, signed_arith, is.hours, one_part zone.hours_west, one_part (pos n -ℤ pos 3600 *ℤ zone.hours_west))

instant_is : (zone : ZoneRules) (is : IsZone zone) (s : ℕ) → 43_200 ≤ s → instant_by_standard zone s + 3600 * down zone.hours_west ≡ s + 3600 * up zone.hours_west
instant_is zone is s h = omega (arith, signed_arith, is.hours, one_part zone.hours_west, one_part (pos s +ℤ pos 3600 *ℤ zone.hours_west))

hours_within : (zone : ZoneRules) (is : IsZone zone) → (up zone.hours_west ≤ 12) × (down zone.hours_west ≤ 12)
hours_within zone is = omega (arith, signed_arith, is.hours, one_part zone.hours_west)

pub standard_back : (zone : ZoneRules) (is : IsZone zone) (s : ℕ) → 90_000 ≤ s → standard_time zone (instant_by_standard zone s) ≡ s
standard_back zone is s h =
    let w = hours_within zone is in
    let i = instant_is zone is s (omega arith) in
    omega (arith, standard_is zone is (instant_by_standard zone s) (omega arith))

pub shift : (zone : ZoneRules) (is : IsZone zone) (s : ℕ) → 90_000 ≤ s → instant_by_standard zone s - 3600 ≡ instant_by_standard zone (s - 3600)
shift zone is s h = omega (arith, hours_within zone is, instant_is zone is s (omega arith), instant_is zone is (s - 3600) (omega arith))

-- an instant that shows a local time is the one of a standard time that shows it
small : (zone : ZoneRules) (is : IsZone zone) (n : ℕ) → n < 43_200 → standard_time zone n ≤ 90_000
small zone is n h = omega (arith, signed_arith, is.hours, one_part zone.hours_west, one_part (pos n -ℤ pos 3600 *ℤ zone.hours_west))

instant_back : (zone : ZoneRules) (is : IsZone zone) (n s : ℕ) → 100_000 ≤ s → standard_time zone n ≡ s → n ≡ instant_by_standard zone s
instant_back zone is n s h e =
    elim (cases_order n 43_200) [
      | inr (inl lt) ↦ absurd (omega (arith, small zone is n lt))
      | inl same ↦ omega (arith, standard_is zone is n (omega arith), instant_is zone is s (omega arith))
      | inr (inr gt) ↦ omega (arith, standard_is zone is n (omega arith), instant_is zone is s (omega arith))
    ]

ahead : (zone : ZoneRules) (is : IsZone zone) (n : ℕ) → 43_200 ≤ n → unsigned_abs (pos n +ℤ pos 3600 *ℤ (pos 1 -ℤ zone.hours_west)) ≡ standard_time zone n + 3600
ahead zone is n h = omega (arith, signed_arith, is.hours, one_part zone.hours_west, one_part (pos n -ℤ pos 3600 *ℤ zone.hours_west), one_part (pos n +ℤ pos 3600 *ℤ (pos 1 -ℤ zone.hours_west)))

level : (zone : ZoneRules) (is : IsZone zone) (n : ℕ) → 43_200 ≤ n → unsigned_abs (pos n +ℤ pos 3600 *ℤ (pos 0 -ℤ zone.hours_west)) ≡ standard_time zone n + 0
level zone is n h = omega (arith, signed_arith, is.hours, one_part zone.hours_west, one_part (pos n -ℤ pos 3600 *ℤ zone.hours_west), one_part (pos n +ℤ pos 3600 *ℤ (pos 0 -ℤ zone.hours_west)))

-- local time is standard time, and an hour more in summer time
pub local_time-shown : (zone : ZoneRules) (is : IsZone zone) (n : ℕ) → 43_200 ≤ n → local_time zone n ≡ shown_at zone (standard_time zone n)
unfolding local_time offset_in_force
local_time-shown zone is n h = go (is_summer zone.summer (standard_time zone n)) refl where
  go : (b : Bool) → is_summer zone.summer (standard_time zone n) ≡ b → unsigned_abs (pos n +ℤ pos 3600 *ℤ (pos (cond (is_summer zone.summer (standard_time zone n)) 1 0) -ℤ zone.hours_west)) ≡ shown_at zone (standard_time zone n)
  go true e = rw e (ahead zone is n h)
  go false e = rw e (level zone is n h)

-- the first half day of 1970 shows no later local times
early : (zone : ZoneRules) (is : IsZone zone) (n : ℕ) (b : Bool) → n < 43_200 → unsigned_abs (pos n +ℤ pos 3600 *ℤ (pos (cond b 1 0) -ℤ zone.hours_west)) ≤ 90_000
early zone is n true h = omega (arith, signed_arith, is.hours, one_part zone.hours_west, one_part (pos n +ℤ pos 3600 *ℤ (pos 1 -ℤ zone.hours_west)))
early zone is n false h = omega (arith, signed_arith, is.hours, one_part zone.hours_west, one_part (pos n +ℤ pos 3600 *ℤ (pos 0 -ℤ zone.hours_west)))

local_time-early : (zone : ZoneRules) (is : IsZone zone) (n : ℕ) → n < 43_200 → local_time zone n ≤ 90_000
unfolding local_time offset_in_force
local_time-early zone is n h = early zone is n (is_summer zone.summer (standard_time zone n)) h

pub not_early : (zone : ZoneRules) (is : IsZone zone) (n : ℕ) → 100_000 ≤ local_time zone n → 43_200 ≤ n
not_early zone is n h =
    elim (cases_order n 43_200) [
      | inr (inl lt) ↦ absurd (omega (arith, local_time-early zone is n lt))
      | inl same ↦ omega arith
      | inr (inr gt) ↦ omega arith
    ]

-- where an instant shows this local time, it is the one of that standard time or of an hour before it
pub showing : (zone : ZoneRules) (is : IsZone zone) (local other : ℕ) → 200_000 ≤ local → local_time zone other ≡ local →
    ((shown_at zone (local - 3600) ≡ local) × (other ≡ instant_by_standard zone (local - 3600))) ⊎ ((shown_at zone local ≡ local) × (other ≡ instant_by_standard zone local))
showing zone is local other h e =
    let late : 43_200 ≤ other = not_early zone is other (omega arith) in
    let shown : shown_at zone (standard_time zone other) ≡ local = sym (local_time-shown zone is other late) ∙ e in
    elim (shown_cases zone (standard_time zone other)) [
      | inl same ↦ let s : standard_time zone other ≡ local = sym same ∙ shown in
          inr (rw s at shown, instant_back zone is other local (omega arith) s)
      | inr later ↦ let s : standard_time zone other ≡ local - 3600 = omega arith in
          inl (rw s at shown, instant_back zone is other (local - 3600) (omega arith) s)
    ]

pub shown_by_standard : (zone : ZoneRules) (is : IsZone zone) (s : ℕ) → 90_000 ≤ s → local_time zone (instant_by_standard zone s) ≡ shown_at zone s
shown_by_standard zone is s h =
    let late : 43_200 ≤ instant_by_standard zone s = omega (arith, instant_is zone is s (omega arith), hours_within zone is) in
    local_time-shown zone is (instant_by_standard zone s) late ∙ ap (shown_at zone) (standard_back zone is s h)

-- a time in summer time, or the earlier of two
pub instant_of-earlier : (zone : ZoneRules) (is : IsZone zone) (local : ℕ) → 200_000 ≤ local → shown_at zone (local - 3600) ≡ local → instant_of zone local ≡ instant_by_standard zone (local - 3600)
unfolding instant_of
instant_of-earlier zone is local h e =
    let test : nat_eq (local_time zone (instant_by_standard zone local - 3600)) local ≡ true =
    rw (shift zone is local (omega arith), shown_by_standard zone is (local - 3600) (omega arith), e) (eq-eqb local local refl) in
    rw test (shift zone is local (omega arith))

-- a time in standard time, or one in a gap
pub instant_of-standard : (zone : ZoneRules) (is : IsZone zone) (local : ℕ) → 200_000 ≤ local → ¬ (shown_at zone (local - 3600) ≡ local) → instant_of zone local ≡ instant_by_standard zone local
unfolding instant_of
instant_of-standard zone is local h e =
    let shown : local_time zone (instant_by_standard zone local - 3600) ≡ shown_at zone (local - 3600) =
    rw (shift zone is local (omega arith)) (shown_by_standard zone is (local - 3600) (omega arith)) in
    let apart : ¬ (local_time zone (instant_by_standard zone local - 3600) ≡ local) = λ k. e (sym shown ∙ k) in
    let test : nat_eq (local_time zone (instant_by_standard zone local - 3600)) local ≡ false = grind arith in
    rw test refl

pub earlier_is : (zone : ZoneRules) (is : IsZone zone) (local : ℕ) → 200_000 ≤ local → shown_at zone (local - 3600) ≡ local → IsInstantOf zone local (instant_by_standard zone (local - 3600))
earlier_is zone is local h e = record {
  earliest = λ other shows. elim (showing zone is local other h shows) [
    | inl p ↦ omega (arith, p.1)
    | inr p ↦ omega (arith, p.1, shift zone is local (omega arith))
  ];
  shows = inl (shown_by_standard zone is (local - 3600) (omega arith) ∙ e);
}

pub standard_is_it : (zone : ZoneRules) (is : IsZone zone) (local : ℕ) → 200_000 ≤ local → ¬ (shown_at zone (local - 3600) ≡ local) → IsInstantOf zone local (instant_by_standard zone local)
standard_is_it zone is local h e = record {
  earliest = λ other shows. elim (showing zone is local other h shows) [
    | inl p ↦ absurd (e p.0)
    | inr p ↦ omega (arith, p.1)
  ];
  shows = go (nat_eq (shown_at zone local) local) refl;
} where
  go : (b : Bool) → nat_eq (shown_at zone local) local ≡ b → (local_time zone (instant_by_standard zone local) ≡ local) ⊎ (IsInGap zone local × (instant_by_standard zone local ≡ instant_by_standard zone local))
  go true t = let k : shown_at zone local ≡ local = grind (arith, nat_tests, t) in inl (shown_by_standard zone is local (omega arith) ∙ k)
  go false t = inr (
    λ other shows. elim (showing zone is local other h shows) [
      | inl p ↦ e p.0
      | inr p ↦ both_ways _ t (eq-eqb _ _ p.0)
    ],
    refl,
  )

-- standard time goes with the instant
pub standard_later : (zone : ZoneRules) (is : IsZone zone) (n k : ℕ) → 43_200 ≤ n → standard_time zone (n + k) ≡ standard_time zone n + k
standard_later zone is n k h = omega (arith, standard_is zone is n h, standard_is zone is (n + k) (omega arith))

pub standard_bound : (zone : ZoneRules) (is : IsZone zone) (n : ℕ) → 43_200 ≤ n → (standard_time zone n ≤ n + 43_200) × (n ≤ standard_time zone n + 43_200)
standard_bound zone is n h = omega (arith, standard_is zone is n h, hours_within zone is)

-- local time differs from the instant by at most half a day and an hour
pub local_near : (zone : ZoneRules) (is : IsZone zone) (n : ℕ) → 43_200 ≤ n → (local_time zone n ≤ n + 46_800) × (n ≤ local_time zone n + 43_200)
local_near zone is n h =
    let shown = local_time-shown zone is n h in
    elim (shown_cases zone (standard_time zone n)) [
      | inl e ↦ omega (arith, shown, standard_bound zone is n h)
      | inr e ↦ omega (arith, shown, standard_bound zone is n h)
    ]

pub instant_of-near : (zone : ZoneRules) (is : IsZone zone) (local : ℕ) → 200_000 ≤ local → (instant_of zone local ≤ local + 43_200) × (local ≤ instant_of zone local + 46_800)
instant_of-near zone is local h = go (nat_eq (shown_at zone (local - 3600)) local) refl where
  go : (b : Bool) → nat_eq (shown_at zone (local - 3600)) local ≡ b → (instant_of zone local ≤ local + 43_200) × (local ≤ instant_of zone local + 46_800)
  go true t = let e : shown_at zone (local - 3600) ≡ local = grind (arith, nat_tests, t) in
      omega (arith, instant_of-earlier zone is local h e, instant_is zone is (local - 3600) (omega arith), hours_within zone is)
  go false t = let e : ¬ (shown_at zone (local - 3600) ≡ local) = λ s. both_ways _ t (eq-eqb _ _ s) in
      omega (arith, instant_of-standard zone is local h e, instant_is zone is local (omega arith), hours_within zone is)

-- in a fold the earlier of its two instants is meant
pub instant_of-fold : (zone : ZoneRules) (is : IsZone zone) (local first : ℕ) → 200_000 ≤ local → IsFirstInFold zone local first → instant_of zone local ≡ first
instant_of-fold zone is local first h fold =
    let apart = shift zone is local (omega arith) in
    elim (showing zone is local first h fold.0) [
      | inl p ↦ instant_of-earlier zone is local h p.0 ∙ sym p.1
      | inr p ↦ elim (showing zone is local (first + 3600) h fold.1) [
        | inl q ↦ absurd (omega arith)
        | inr q ↦ absurd (omega arith)
      ]
    ]

-- by signs, local time is the instant plus the offset then in force
pub local_time-offset : (zone : ZoneRules) (is : IsZone zone) (n : ℕ) → 50_000 ≤ n → pos (local_time zone n) ≡ pos n +ℤ pos 3600 *ℤ offset_in_force zone n
unfolding local_time offset_in_force
local_time-offset zone is n h = not_negative zone is n (is_summer zone.summer (standard_time zone n)) h where
  not_negative : (zone : ZoneRules) (is : IsZone zone) (n : ℕ) (b : Bool) → 50_000 ≤ n → pos (unsigned_abs (pos n +ℤ pos 3600 *ℤ (pos (cond b 1 0) -ℤ zone.hours_west))) ≡ pos n +ℤ pos 3600 *ℤ (pos (cond b 1 0) -ℤ zone.hours_west)
  not_negative zone is n true h = omega (arith, signed_arith, is.hours, one_part zone.hours_west, one_part (pos n +ℤ pos 3600 *ℤ (pos 1 -ℤ zone.hours_west)))
  not_negative zone is n false h = omega (arith, signed_arith, is.hours, one_part zone.hours_west, one_part (pos n +ℤ pos 3600 *ℤ (pos 0 -ℤ zone.hours_west)))

-- an offset in force is at most 13 hours ahead and 12 behind
pub offset_bounds : (zone : ZoneRules) (is : IsZone zone) (instant : ℕ) → IsBetween (negsuc 12) (pos 13) (offset_in_force zone instant)
unfolding offset_in_force
offset_bounds zone is instant = go (is_summer zone.summer (standard_time zone instant)) where
  go : (b : Bool) → IsBetween (negsuc 12) (pos 13) (pos (cond b 1 0) -ℤ zone.hours_west)
  go true = omega (arith, signed_arith, is.hours, one_part zone.hours_west)
  go false = omega (arith, signed_arith, is.hours, one_part zone.hours_west)
