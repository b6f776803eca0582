use Rattle.aig_base.proofs.Words.{◌≡◌, length, refl, subst, arith, length-map, err_from_is_err_and}
use Rattle.std.specs.Prelude.{Vec}
use Rattle.std.specs.declared.alloc.Global.{Global}
use Rattle.aig_base.specs.declared.logic.three.Lbool.{Lbool}
use Rattle.aig_circuit.specs.Circuit.{Circuit}
use Rattle.aig_reader.specs.declared.error.ReadError.TheVariants as read
use Rattle.aig_witness.specs.Witness.{rows_of, said_by}
use Rattle.aig_witness.specs.declared.file.ShowError.TheVariants as errors
use Rattle.aig_witness.specs.Shown.{IsKnownWitness}
use Rattle.aig_witness.proofs.Nexts.{fails_on, judged_fault, judged_next, not_of_file, refuses_next}
use Rattle.aig_witness.proofs.file.check_witness.Goals as goal

pub returns-in_err-circuit-clause-verdict : goal.returns-in_err-circuit-clause-verdict
returns-in_err-circuit-clause-verdict g c =
    let p = err_from_is_err_and c.from_residual.result c.from_residual.ensures.1 in
    rw (p.1, p.2) c.in_err-circuit.ensures.verdict

pub returns-in_err-witness-clause-verdict : goal.returns-in_err-witness-clause-verdict
returns-in_err-witness-clause-verdict g c =
    let p = err_from_is_err_and c.from_residual-in_err-witness.result
    c.from_residual-in_err-witness.ensures.1 in
    rw (p.1, p.2) (judged_next _ _ c.args.limit _ _ _ c.in_err-witness.field-0.0
    c.in_ok-circuit.ensures.verdict c.in_err-witness.ensures.err)

pub returns-in_err-witness-clause-never_open : goal.returns-in_err-witness-clause-never_open
returns-in_err-witness-clause-never_open g c =
    let p = err_from_is_err_and c.from_residual-in_err-witness.result
    c.from_residual-in_err-witness.ensures.1 in
    rw (p.1, p.2) (λ is. not_of_file _ _ c.in_err-witness.field-0.0 read.Open
    c.in_err-witness.ensures.err (let same : c.in_err-witness.field-0.0 ≡ errors.File
    read.Open = cc in same))

pub returns-in_err-witness-clause-refusal : goal.returns-in_err-witness-clause-refusal
returns-in_err-witness-clause-refusal g c =
    let p = err_from_is_err_and c.from_residual-in_err-witness.result
    c.from_residual-in_err-witness.ensures.1 in
    rw (p.1, p.2) (refuses_next _ _ c.args.limit _ _ c.in_err-witness.field-0.0
    c.in_err-witness.ensures.err)

pub returns-in_err-witness-clause-unread : goal.returns-in_err-witness-clause-unread
returns-in_err-witness-clause-unread g c =
    let p = err_from_is_err_and c.from_residual-in_err-witness.result
    c.from_residual-in_err-witness.ensures.1 in
    rw (p.1, p.2) (λ of is. absurd (not_of_file _ _ c.in_err-witness.field-0.0 of
    c.in_err-witness.ensures.err (let same : c.in_err-witness.field-0.0 ≡ errors.File of = cc in
    same)))

pub returns-in_err-check_circuit-clause-verdict : goal.returns-in_err-check_circuit-clause-verdict
returns-in_err-check_circuit-clause-verdict g c =
    let p = err_from_is_err_and c.from_residual-in_err-check_circuit.result
    c.from_residual-in_err-check_circuit.ensures.1 in
    rw (p.1, p.2) (judged_fault c.args.limit _ _ _ c.in_err-check_circuit.field-0.0
    c.in_ok-circuit.ensures.verdict)

pub returns-in_err-check_circuit-clause-refusal : goal.returns-in_err-check_circuit-clause-refusal
returns-in_err-check_circuit-clause-refusal g c =
    let p = err_from_is_err_and c.from_residual-in_err-check_circuit.result
    c.from_residual-in_err-check_circuit.ensures.1 in
    rw (p.1, p.2)
    (fails_on c.args.limit _ _ (g.W.Source.left c.args.w.now) c.in_ok-circuit.circuit
    (said_by c.in_ok-witness.witness) c.in_err-check_circuit.field-0.0
    c.in_ok-circuit.ensures.circuit c.in_ok-witness.ensures.ok c.in_err-check_circuit.ensures)

pub returns-clause-answer : goal.returns-clause-answer
returns-clause-answer g c =
    let o = c.in_ok-circuit.ensures.circuit in
    let w = said_by c.in_ok-witness.witness in
    let known = subst (λ (d : Circuit). IsKnownWitness d w) o.means c.in_ok-check_circuit.ensures in
    let steps = c.in_ok-witness.witness.steps in
    let many : length (rows_of steps.items) ≡ length steps.items = length-map steps.items
    (λ (list : Vec Lbool Global). list.items) in
    record {
      file = o.file;
      bytes = o.bytes;
      holds = o.holds;
      means = record {
        witness = w;
        next = c.in_ok-witness.ensures.ok;
        known = known;
        shows = c.known_witnesses_show.ensures o.file c.args.limit w o.holds.1 known;
        bad = refl;
        step = omega (arith, many, steps.ok.0, c.len.ensures);
      };
      taken = o.taken;
    }
