-- Bounded searches, and the least and the greatest day that qualifies.
use Rattle.std.proofs.Common.{◌≡◌, ℕ, zero, suc, ◌+◌, ◌-◌, ◌<◌, ◌≤◌, Bool, true, false, arith, inl, inr, ◌↔◌}
use Rattle.std.proofs.lemmas.Bool.{cases_lt, cases_order, cases_Bool, both_ways}
use Rattle.court_days.specs.Ends.{first_day, last_day}
use Rattle.court_days.specs.Period.{IsFirstFrom, IsLastUpTo}

-- what a search finds where one of its days passes
pub record Finds (test : ℕ → Bool) (start limit day : ℕ) : Type 0 where
  pub reached : start ≤ day
  pub within : day ≤ limit
  pub passes : test day ≡ true
  pub least : (other : ℕ) → start ≤ other → other < day → test other ≡ false

pub record FindsLast (test : ℕ → Bool) (start limit day : ℕ) : Type 0 where
  pub reached : day ≤ start
  pub within : limit ≤ day
  pub passes : test day ≡ true
  pub greatest : (other : ℕ) → other ≤ start → day < other → test other ≡ false

module _ (test : ℕ → Bool) where
  other_than : (day other : ℕ) → test other ≡ true → test day ≡ false → day ≡ other → ⊥
  other_than day other t f e = both_ways _ f (rw (← e) at t)

  pub first_day-finds : (count start limit : ℕ) → start ≤ limit → limit < start + count → test limit ≡ true → Finds test start limit (first_day test count start)
  unfolding first_day
  first_day-finds zero start limit h k t = absurd (omega arith)
  first_day-finds (suc count) start limit h k t =
      elim (cases_Bool (test start)) [
        | inl found ↦ rw found (record { reached = omega arith; within = h; passes = found; least = λ other a b. absurd (omega arith) })
        | inr fails ↦
            let rest = first_day-finds count (suc start) limit (next fails) (omega arith) t in
            rw fails (record {
              reached = omega (arith, rest.reached);
              within = rest.within;
              passes = rest.passes;
              least = λ other a b. elim (cases_order start other) [
                | inl e ↦ rw e at fails
                | inr (inl lt) ↦ rest.least other (omega arith) b
                | inr (inr gt) ↦ absurd (omega arith)
              ];
            })
      ]
    where
      next : test start ≡ false → suc start ≤ limit
      next fails = elim (cases_order start limit) [
        | inl e ↦ absurd (other_than start limit t fails e)
        | inr (inl lt) ↦ omega arith
        | inr (inr gt) ↦ absurd (omega arith)
      ]

  pub last_day-finds : (count start limit : ℕ) → limit ≤ start → start < limit + count → test limit ≡ true → FindsLast test start limit (last_day test count start)
  unfolding last_day
  last_day-finds zero start limit h k t = absurd (omega arith)
  last_day-finds (suc count) start limit h k t =
      elim (cases_Bool (test start)) [
        | inl found ↦ rw found (record { reached = omega arith; within = h; passes = found; greatest = λ other a b. absurd (omega arith) })
        | inr fails ↦
            let below = next fails in
            let rest = last_day-finds count (start - 1) limit (omega arith) (omega arith) t in
            rw fails (record {
              reached = omega (arith, rest.reached);
              within = rest.within;
              passes = rest.passes;
              greatest = λ other a b. elim (cases_order start other) [
                | inl e ↦ rw e at fails
                | inr (inl lt) ↦ absurd (omega arith)
                | inr (inr gt) ↦ rest.greatest other (omega arith) b
              ];
            })
      ]
    where
      next : test start ≡ false → limit < start
      next fails = elim (cases_order start limit) [
        | inl e ↦ absurd (other_than start limit t fails e)
        | inr (inl lt) ↦ absurd (omega arith)
        | inr (inr gt) ↦ omega arith
      ]

-- with a test that decides what qualifies, from the start up to the limit
pub finds-first_within : (Qualifies : ℕ → Type 0) (test : ℕ → Bool) (start limit day : ℕ) → ((day : ℕ) → start ≤ day → day ≤ limit → (test day ≡ true) ↔ Qualifies day) → Finds test start limit day → IsFirstFrom Qualifies start day
finds-first_within Qualifies test start limit day means f = record {
  reached = f.reached;
  qualifies = (means day f.reached f.within).0 f.passes;
  least = λ other a q. elim (cases_lt other day) [
    | inr le ↦ le
    | inl lt ↦ absurd (both_ways _ (f.least other a lt) ((means other a (omega (arith, f.within))).1 q))
  ];
}

-- and with one that decides it up to a million
module _ (Qualifies : ℕ → Type 0) (test : ℕ → Bool) (means : (day : ℕ) → day ≤ 1_000_000 → (test day ≡ true) ↔ Qualifies day) where
  pub finds-first : (start limit day : ℕ) → limit ≤ 1_000_000 → Finds test start limit day → IsFirstFrom Qualifies start day
  finds-first start limit day h f = finds-first_within Qualifies test start limit day (λ other a b. means other (omega arith)) f

  pub finds-last : (start limit day : ℕ) → start ≤ 1_000_000 → FindsLast test start limit day → IsLastUpTo Qualifies start day
  finds-last start limit day h f = record {
    reached = f.reached;
    qualifies = (means day (omega (arith, f.reached))).0 f.passes;
    greatest = λ other a q. elim (cases_lt day other) [
      | inr le ↦ le
      | inl lt ↦ absurd (both_ways _ (f.greatest other a lt) ((means other (omega arith)).1 q))
    ];
  }

-- there is one least day and one greatest
pub first_once : (P : ℕ → Type 0) (start day other : ℕ) → IsFirstFrom P start day → IsFirstFrom P start other → day ≡ other
first_once P start day other h k = omega (arith, h.least other k.reached k.qualifies, k.least day h.reached h.qualifies)

pub last_once : (P : ℕ → Type 0) (start day other : ℕ) → IsLastUpTo P start day → IsLastUpTo P start other → day ≡ other
last_once P start day other h k = omega (arith, h.greatest other k.reached k.qualifies, k.greatest day h.reached h.qualifies)

-- none of the days from `start` up to but not with `day` qualifies
abbrev pub NoneFrom : (ℕ → Type 0) → ℕ → ℕ → Type 0
NoneFrom P start day = (other : ℕ) → start ≤ other → other < day → ¬ (P other)

pub none_next : (P : ℕ → Type 0) (start day : ℕ) → NoneFrom P start day → ¬ (P day) → NoneFrom P start (day + 1)
none_next P start day none fails other a b =
    elim (cases_order other day) [
      | inl e ↦ λ p. fails (rw e at p)
      | inr (inl lt) ↦ none other a lt
      | inr (inr gt) ↦ absurd (omega arith)
    ]

pub next_within : (P : ℕ → Type 0) (start day limit : ℕ) → NoneFrom P start day → ¬ (P day) → (x : ℕ) × (start ≤ x) × (x ≤ limit) × P x → day + 1 ≤ limit
next_within P start day limit none fails h =
    elim (cases_order day h.0) [
      | inl e ↦ absurd (fails (rw e h.3))
      | inr (inl lt) ↦ omega (arith, h.2)
      | inr (inr gt) ↦ absurd (none h.0 h.1 gt h.3)
    ]

pub first_is : (P : ℕ → Type 0) (start day : ℕ) → start ≤ day → P day → NoneFrom P start day → IsFirstFrom P start day
first_is P start day a p none = record {
  reached = a;
  qualifies = p;
  least = λ other b q. elim (cases_order other day) [
    | inl e ↦ omega arith
    | inr (inl lt) ↦ absurd (none other b lt q)
    | inr (inr gt) ↦ omega arith
  ];
}
