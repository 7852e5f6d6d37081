use Rattle.power_failure.proofs.FailingLemmas.{hold_one, left_may, left_of, store_clean}
use Rattle.power_failure.proofs.failing.fail_power.Goals as goal

pub returns-clause-clean : goal.returns-clause-clean
returns-clause-clean g c clean =
    c.stop.ensures.clean (store_clean c.stop.result _ _ _ _ c.close-files.ensures c.crash.ensures.clean c.crash-2.ensures.clean clean)

pub returns-clause-settled : goal.returns-clause-settled
returns-clause-settled g c court h stands clean =
    let none = store_clean c.stop.result _ _ _ _ c.close-files.ensures c.crash.ensures.clean c.crash-2.ensures.clean clean in
    let may = left_may c.stop.result _ _ _ _ c.close-files.ensures c.crash.ensures.clean c.crash-2.ensures.clean c.crash.ensures.left c.crash-2.ensures.left clean in
    hold_one _ court h (c.power_failures_leave_dockets.ensures c.stop.result court h h _ (c.stop.ensures.settled court h stands none).1 may)

pub returns-clause-either : goal.returns-clause-either
returns-clause-either g c court h next lasts clean =
    let none = store_clean c.stop.result _ _ _ _ c.close-files.ensures c.crash.ensures.clean c.crash-2.ensures.clean clean in
    let may = left_may c.stop.result _ _ _ _ c.close-files.ensures c.crash.ensures.clean c.crash-2.ensures.clean c.crash.ensures.left c.crash-2.ensures.left clean in
    c.power_failures_leave_dockets.ensures c.stop.result court h next _ (c.stop.ensures.either court h next lasts none).1 may

pub returns-clause-every : goal.returns-clause-every
returns-clause-every g c = (
  c.stop.result,
  record {
    files_left = left_of c.stop.result _ _ _ _ c.close-files.ensures c.crash.ensures.clean c.crash-2.ensures.clean c.crash.ensures.left c.crash-2.ensures.left;
    settled = λ clean court h stands image may.
        let none = store_clean c.stop.result _ _ _ _ c.close-files.ensures c.crash.ensures.clean c.crash-2.ensures.clean clean in
        hold_one image court h (c.power_failures_leave_dockets.ensures c.stop.result court h h image (c.stop.ensures.settled court h stands none).1 may);
    either = λ clean court h next lasts image may.
        let none = store_clean c.stop.result _ _ _ _ c.close-files.ensures c.crash.ensures.clean c.crash-2.ensures.clean clean in
        c.power_failures_leave_dockets.ensures c.stop.result court h next image (c.stop.ensures.either court h next lasts none).1 may;
  },
)
