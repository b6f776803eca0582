use Rattle.aig_base.proofs.Words.{[], true, Ok, Err, refl, ap, err_from_is_err_and, ne_eqb}
use Rattle.aig_refutation.specs.declared.words.Word.TheVariants as words
use Rattle.aig_refutation.specs.Proofs.{Line, Plain, is_zero}
use Rattle.aig_refutation.specs.Reading.{reads_added, reads_after, reads_deleted, said_by}
use Rattle.aig_refutation.specs.Steps.{Learns}
use Rattle.aig_refutation.specs.Tokens.{fault_of, next_in, place, said_number}
use Rattle.aig_refutation.proofs.LineForms.{after_letter, after_missing, after_number_word, after_wrong, after_zero}
use Rattle.aig_refutation.proofs.ReadersInTurn.{Reader, gives_after, gives_ok, gives_wrong, on_read, part_wrong}
use Rattle.aig_refutation.proofs.step.Step.read_after.Goals as goal

abbrev no_step : Line
no_step = Plain (Learns [])

pub returns-in_err-second-clause-step : goal.returns-in_err-second-clause-step
returns-in_err-second-clause-step g c no_clause no_numbers no_groups =
    let at = place g.R.Source.left g.R.Source.failed g.R.Source.pulls in
    let before = at c.args.words.now c.args.r.now in
    let p1 = at c.next.new.self c.next.new.r in
    let numbered = c.args.self.now.is_numbered in
    let n = said_number c.args.first in
    let q = reads_after numbered c.args.variables n in
    let view = λ (done : Unit {0}). no_step in
    let e = c.in_err-second.field-0.0 in
    let p = err_from_is_err_and c.from_residual.result c.from_residual.ensures.1 in
    rw (p.1, p.2) (part_wrong next_in q before p1 p1 (λ w. w) view e c.in_err-second.ensures.word
    (λ last ws. after_wrong numbered c.args.variables n last ws e))

pub returns-in-Number-clause-step : goal.returns-in-Number-clause-step
returns-in-Number-clause-step g c no_clause no_numbers no_groups =
    let at = place g.R.Source.left g.R.Source.failed g.R.Source.pulls in
    let before = at c.args.words.now c.args.r.now in
    let p1 = at c.next.new.self c.next.new.r in
    let numbered = c.args.self.now.is_numbered in
    let n = said_number c.args.first in
    let q = reads_after numbered c.args.variables n in
    let p2 = at c.read_added.new.words c.read_added.new.r in
    let m = c.in-Number.second in
    let s = reads_added numbered c.args.variables n (said_number m) in
    let view = λ (done : Unit {0}). said_by c.read_added.new.self in
    gives_after q s before p1 p2 view c.read_added.result
    (on_read q s before p1 p1 next_in (words.Number m) (rw c.in-Number.is at
    c.in_ok-second.ensures.word) (λ last ws more. after_number_word numbered c.args.variables n
    last ws more m))
    (c.read_added.ensures.step refl no_clause no_numbers no_groups)

pub returns-in-Deletes-clause-step : goal.returns-in-Deletes-clause-step
returns-in-Deletes-clause-step g c no_clause no_numbers no_groups =
    let at = place g.R.Source.left g.R.Source.failed g.R.Source.pulls in
    let before = at c.args.words.now c.args.r.now in
    let p1 = at c.next.new.self c.next.new.r in
    let numbered = c.args.self.now.is_numbered in
    let n = said_number c.args.first in
    let q = reads_after numbered c.args.variables n in
    let p2 = at c.read_deleted.new.words c.read_deleted.new.r in
    let s = reads_deleted n in
    let view = λ (done : Unit {0}). said_by c.read_deleted.new.self in
    gives_after q s before p1 p2 view c.read_deleted.result
    (on_read q s before p1 p1 next_in words.Deletes (rw c.in-Deletes.is at
    c.in_ok-second.ensures.word) (λ last ws more. after_letter numbered c.args.variables n last
    ws more))
    (c.read_deleted.ensures.step no_numbers)

pub returns-in-End-clause-step : goal.returns-in-End-clause-step
returns-in-End-clause-step g c no_clause no_numbers no_groups =
    let at = place g.R.Source.left g.R.Source.failed g.R.Source.pulls in
    let before = at c.args.words.now c.args.r.now in
    let p1 = at c.next.new.self c.next.new.r in
    let numbered = c.args.self.now.is_numbered in
    let n = said_number c.args.first in
    let q = reads_after numbered c.args.variables n in
    let view = λ (done : Unit {0}). Plain (Learns []) in
    let end = c.in-End.field-0 in
    let s : Reader Line = λ last ws. Ok (no_step, ws) in
    rw no_clause (gives_ok q s before p1 p1 view tt
    (on_read q s before p1 p1 next_in (words.End end) (rw c.in-End.is at
    c.in_ok-second.ensures.word) (λ last ws more. after_zero numbered c.args.variables n last
    ws more end (ap (λ v. is_zero (true, v)) c.if-first-eq0.true)))
    (λ last ws. refl))

pub returns-in-End-2-clause-step : goal.returns-in-End-2-clause-step
returns-in-End-2-clause-step g c no_clause no_numbers no_groups =
    let at = place g.R.Source.left g.R.Source.failed g.R.Source.pulls in
    let before = at c.args.words.now c.args.r.now in
    let p1 = at c.next.new.self c.next.new.r in
    let numbered = c.args.self.now.is_numbered in
    let n = said_number c.args.first in
    let q = reads_after numbered c.args.variables n in
    let view = λ (done : Unit {0}). no_step in
    let end = c.in-End.field-0 in
    let s : Reader Line = λ last ws. Err (fault_of end) in
    rw c.fault.ensures
    (gives_wrong q s before p1 p1 view (fault_of end)
    (on_read q s before p1 p1 next_in (words.End end) (rw c.in-End.is at
    c.in_ok-second.ensures.word) (λ last ws more. after_missing numbered c.args.variables n
    last ws more end (ne_eqb c.args.first.value 0 c.if-first-eq0.false)))
    (λ last ws. refl))
