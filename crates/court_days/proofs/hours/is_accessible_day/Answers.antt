use Rattle.court_days.proofs.hours.is_accessible_day.Goals as goal

pub returns-then-business-clause-means : goal.returns-then-business-clause-means
returns-then-business-clause-means c =
    let accessible = rw c.same_time_on.ensures.value at c.is_accessible-is_accessible.ensures.means in
    (λ t. (c.business.ensures.means.0 c.if-business.true, accessible.0 t), λ day. accessible.1 day.1)
