-- The order of the calendar is one in which any two rows compare.
use Rattle.std.proofs.Common.{◌≡◌, ◌≢◌, List, refl, sym, ap, ◌∙◌, arith}
use Rattle.std.specs.Cmp.{IsTotalOrder}
use Rattle.std.specs.List.{AllPairs}
use Rattle.std.specs.List.Sorted.{IsSorted}
use Rattle.std.specs.Ordering.{is_lt, ordering_reverse}
use Rattle.std.specs.declared.cmp.Ordering.TheVariants.{Less, Equal}
use Rattle.std.proofs.lemmas.Cmp.{nat_cmp_total, int_cmp_total, on_total, then_total}
use Rattle.std.proofs.lemmas.Bool.{false≢true}
use Rattle.std.proofs.lemmas.List.Sorted.{sorted_far, ranks_by}
use Rattle.court_days.specs.Court.{CourtSettings}
use Rattle.court_days.specs.declared.filing.End.{End}
use Rattle.court_days.specs.declared.filing.End.TheVariants.{LastDay, Moment}
use Rattle.docket_history.specs.declared.record.DueRow.{DueRow}
use Rattle.docket_text.specs.CalendarOrder.{day_of_end, end_cmp, calendar_cmp}

antisymm : (a b : End) → end_cmp a b ≡ ordering_reverse (end_cmp b a)
antisymm (Moment at) (Moment other) = int_cmp_total.antisymm at other
antisymm (Moment at) (LastDay day) = refl
antisymm (LastDay day) (Moment at) = refl
antisymm (LastDay day) (LastDay other) = refl

trans : (a b c : End) → end_cmp a b ≡ Less → end_cmp b c ≡ Less → end_cmp a c ≡ Less
trans (Moment at) (Moment other) (Moment third) first second = int_cmp_total.trans at other third first second
trans (Moment at) (Moment other) (LastDay day) first second = refl
trans (Moment at) (LastDay day) (Moment other) first second = cc
trans (Moment at) (LastDay day) (LastDay other) first second = refl
trans (LastDay day) (Moment at) c first second = cc
trans (LastDay day) (LastDay other) c first second = cc

congr : (a b c : End) → end_cmp a b ≡ Equal → end_cmp a c ≡ end_cmp b c
congr (Moment at) (Moment other) (Moment third) same = int_cmp_total.congr at other third same
congr (Moment at) (Moment other) (LastDay day) same = refl
congr (Moment at) (LastDay day) c same = cc
congr (LastDay day) (Moment at) c same = cc
congr (LastDay day) (LastDay other) (Moment at) same = refl
congr (LastDay day) (LastDay other) (LastDay third) same = refl

end_cmp_total : IsTotalOrder end_cmp
end_cmp_total = record { antisymm = antisymm; trans = trans; congr = congr }

pub calendar_cmp_total : (court : CourtSettings) → IsTotalOrder (calendar_cmp court)
calendar_cmp_total court =
    then_total (on_total (λ (row : DueRow). day_of_end court row.end) nat_cmp_total)
    (then_total (on_total (λ (row : DueRow). row.end) end_cmp_total)
    (then_total (on_total (λ (row : DueRow). row.case) nat_cmp_total) (on_total (λ (row : DueRow). row.number) nat_cmp_total)))

-- so no row is before one that comes earlier, however far they are apart
pub in_order : (court : CourtSettings) (listed : List DueRow) → IsSorted (calendar_cmp court) listed → AllPairs (λ a b. calendar_cmp court b a ≢ Less) listed
in_order court listed sorted i j d lt inside earlier =
    let order = calendar_cmp_total court in
    let later = sorted_far (λ (a b : DueRow). is_lt (calendar_cmp court a b)) (ranks_by order (λ row. row)) listed sorted i j d (omega arith) inside in
    false≢true (sym later ∙ ap is_lt earlier)
