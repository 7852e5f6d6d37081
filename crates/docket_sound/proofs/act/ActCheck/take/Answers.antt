use Rattle.std.proofs.Common.{◌≡◌, ◌∙◌, ℕ, ◌++◌, ◌∷◌, [], map, refl, sym, ap, subst, rules}
use Rattle.docket_sound.specs.Counted.{HasNumbered, cases_of, most_of}
use Rattle.docket_sound.specs.Runs.{alone, run_key, runs_of}
use Rattle.docket_sound.specs.Numbers.{AreNumbered}
use Rattle.docket_sound.specs.declared.numbering.Key.{Key}
use Rattle.docket_sound.specs.declared.numbering.Numbering.{Numbering}
use Rattle.std.specs.Prelude.{Vec}
use Rattle.std.specs.declared.alloc.Global.{Global}
use Rattle.docket_sound.specs.declared.act.ActCheck.{ActCheck}
use Rattle.docket_decisions.specs.declared.end_row.StoredEnd.{StoredEnd}
use Rattle.docket_sound.proofs.ActLemmas.{go_refused, begin_refused, key_refused, go_taken, new_taken}
use Rattle.docket_sound.proofs.act.ActCheck.take.Goals as goal

pub returns-then-not-may_go_on-clause-refused : goal.returns-then-not-may_go_on-clause-refused
returns-then-not-may_go_on-clause-refused c rows more has refused all =
    go_refused c.args.self.now rows c.args.row.now more has (sym c.continues.ensures ∙ c.if-continues.true) (sym c.may_go_on.ensures ∙ c.if-not-may_go_on.true) all

pub returns-then-continues-clause-taken : goal.returns-then-continues-clause-taken
returns-then-continues-clause-taken c rows has taken =
    let items : c.extend_from_slice.new.self.items ≡ c.args.self.now.acts.items ++ c.args.row.now.act ∷ [] = search rules in
    go_taken c.args.self.now rows c.args.row.now _ has refl refl refl refl refl refl refl refl items (sym c.continues.ensures ∙ c.if-continues.true) (sym c.may_go_on.ensures ∙ c.if-not-may_go_on.false)

pub returns-then-not-may_begin-clause-refused : goal.returns-then-not-may_begin-clause-refused
returns-then-not-may_begin-clause-refused c rows more has refused all =
    begin_refused c.args.self.now rows c.args.row.now more has (sym c.continues.ensures ∙ c.if-continues.false) (sym c.may_begin.ensures ∙ c.if-not-may_begin.true) all

pub returns-then-not-take-clause-refused : goal.returns-then-not-take-clause-refused
returns-then-not-take-clause-refused c rows more has refused all =
    let old = map run_key (runs_of rows) in
    key_refused c.args.self.now rows c.args.row.now more has (sym c.continues.ensures ∙ c.if-continues.false)
    (λ keys numbered. c.take.ensures.refused old keys has.runs c.if-not-take.true
    (subst (λ (k : Key). AreNumbered (cases_of c.args.self.now.runs) (most_of c.args.self.now.runs) (old ++ k ∷ keys)) (sym c.act_key.ensures)
    (subst (λ (m : ℕ). AreNumbered (cases_of c.args.self.now.runs) m (old ++ run_key (alone c.args.row.now) ∷ keys)) (sym has.most)
    (subst (λ (n : ℕ). AreNumbered n 1000 (old ++ run_key (alone c.args.row.now) ∷ keys)) (sym has.cases) numbered)))) all

pub returns-clause-taken : goal.returns-clause-taken
returns-clause-taken c rows has taken =
    let begun = c.in_ok-begin.ensures in
    let closed = c.in_ok-close.ensures in
    let old = map run_key (runs_of rows) in
    let counted = c.take.ensures.taken old has.runs c.if-not-take.false in
    let keyed = subst (λ (k : Key). HasNumbered c.take.new.self (old ++ k ∷ [])) c.act_key.ensures counted in
    let same : c.begin.new.self.runs ≡ c.take.new.self = begun.runs ∙ ap (λ (k : ActCheck). k.runs) closed.same in
    let runs = subst (λ (n : Numbering). HasNumbered n (old ++ run_key (alone c.args.row.now) ∷ [])) (sym same) keyed in
    new_taken c.args.self.now rows c.args.row.now c.begin.new.self has (begun.court ∙ ap (λ (k : ActCheck). k.court) closed.same) (begun.deadlines ∙ ap (λ (k : ActCheck). k.deadlines) closed.same)
    (ap most_of same ∙ c.take.ensures.most) (ap cases_of same ∙ c.take.ensures.cases) runs begun.case begun.deadline (begun.calendar ∙ ap (λ (k : ActCheck). k.calendar) closed.same)
    (ap (λ (v : Vec StoredEnd Global). v.items) begun.dues ∙ closed.dues) (λ l is few. begun.standings ∙ closed.standings l is few) begun.acts
    (sym c.continues.ensures ∙ c.if-continues.false) (sym c.may_begin.ensures ∙ c.if-not-may_begin.false)
