use Rattle.aig_base.proofs.Words.{[], refl, err_from_is_err_and}
use Rattle.aig_refutation.specs.Proofs.{Line, Plain, Numbered, clause_number}
use Rattle.aig_refutation.specs.Reading.{reads_deleted, reads_numbers}
use Rattle.aig_refutation.specs.Steps.{Deletes, Learns}
use Rattle.aig_refutation.specs.Tokens.{next_number, place, said_number}
use Rattle.aig_refutation.proofs.LineForms.{deleted_number, deleted_number_wrong, deleted_refused, numbers_step, numbers_step_err, numbers_step_ok}
use Rattle.aig_refutation.proofs.ReadersInTurn.{gives_after, gives_same, gives_wrong, on_read, on_start, part_wrong}
use Rattle.aig_refutation.proofs.step.Step.read_deleted.Goals as goal

abbrev no_step : Line
no_step = Plain (Learns [])

pub returns-in_err-self-clause-step : goal.returns-in_err-self-clause-step
returns-in_err-self-clause-step g c no_numbers =
    let at = place g.R.Source.left g.R.Source.failed g.R.Source.pulls in
    let before = at c.args.words.now c.args.r.now in
    let n = said_number c.args.number in
    let q = reads_deleted n in
    let view = λ (done : Unit {0}). no_step in
    let e = c.in_err-self.field-0.0 in
    let p = err_from_is_err_and c.from_residual.result c.from_residual.ensures.1 in
    rw (p.1, p.2) (gives_wrong q q before before before view e (on_start q before) (λ last ws.
    deleted_refused n last ws e c.in_err-self.ensures.number))

pub returns-in_err-first-clause-step : goal.returns-in_err-first-clause-step
returns-in_err-first-clause-step g c no_numbers =
    let at = place g.R.Source.left g.R.Source.failed g.R.Source.pulls in
    let before = at c.args.words.now c.args.r.now in
    let n = said_number c.args.number in
    let q = reads_deleted n in
    let view = λ (done : Unit {0}). no_step in
    let p1 = at c.number.new.self c.number.new.r in
    let e = c.in_err-first.field-0.0 in
    let p = err_from_is_err_and c.from_residual-in_err-first.result
    c.from_residual-in_err-first.ensures.1 in
    rw (p.1, p.2) (part_wrong next_number q before p1 p1 said_number view e
    c.in_err-first.ensures.number (λ last ws. deleted_number_wrong n last ws
    c.in_ok-self.field-0 e c.in_ok-self.ensures.number))

pub returns-clause-step : goal.returns-clause-step
returns-clause-step g c no_numbers =
    let at = place g.R.Source.left g.R.Source.failed g.R.Source.pulls in
    let before = at c.args.words.now c.args.r.now in
    let n = said_number c.args.number in
    let q = reads_deleted n in
    let p1 = at c.number.new.self c.number.new.r in
    let p2 = at c.read_numbers.new.words c.read_numbers.new.r in
    let m = said_number c.in_ok-first.first in
    let k = c.in_ok-self.field-0 in
    let items = c.read_numbers.new.numbers.items in
    let s = numbers_step clause_number Deletes m in
    let rn = reads_numbers clause_number m [] in
    let first = λ (done : Unit {0}). items in
    let view = λ (done : Unit {0}). Numbered (Deletes items) in
    gives_after q s before p1 p2 view c.read_numbers.result
    (on_read q s before p1 p1 next_number m c.in_ok-first.ensures.number (λ last ws more.
    deleted_number n last ws k m more c.in_ok-self.ensures.number))
    (gives_same rn s p1 p2 first view c.read_numbers.result (rw no_numbers at
    c.read_numbers.ensures.numbers) (λ last ws more done. numbers_step_ok clause_number Deletes
    (λ ns. ns) Deletes (λ ns. refl) m last ws items more) (λ last ws e. numbers_step_err clause_number Deletes (λ ns. ns) Deletes
    (λ ns. refl) m last ws e))
