use Rattle.aig_check_commands.proofs.Words.{Err, Ok, ap, err_from_is_err_and, refl, ◌∙◌, circuit_of, file_on, lists_circuit, sym, ReadsFile}
use Rattle.aig_edits.specs.Circuits.{IsJoinOf}
use Rattle.aig_edits.specs.Joints.{IsOfBeside, second_verdict}
use Rattle.aig_edits.specs.declared.pairing.Pairing.TheVariants.{Certificate}
use Rattle.aig_check_commands.specs.Printing.{GivesBeside}
use Rattle.aig_check_commands.proofs.check_lemmas.Outcomes.{summed}
use Rattle.aig_check_commands.proofs.lines.sums.read_beside_summed.Goals as goal

pub returns-in_err-joint-clause-reads : goal.returns-in_err-joint-clause-reads
returns-in_err-joint-clause-reads g c =
    let p = err_from_is_err_and c.from_residual.result c.from_residual.ensures.1 in
    let own = lists_circuit c.args.circuit.now in
    let read = c.in_err-joint.ensures in
    let told : ReadsFile g.S.Source.left g.S.Source.failed c.args.limit
    (λ h. IsJoinOf Certificate own (circuit_of h)) second_verdict IsOfBeside
    c.new-source.result.source (Err c.in_err-joint.field-0.0) c.read_beside.new.certificate.source =
    record { verdict = read.verdict; answer = read.answer; own = read.own } in
    rw (sym c.new-source.ensures, p.1, p.2) (
      c.read_beside.new.certificate.source,
      file_on g.S.Source.left g.S.Source.failed c.args.limit c.new-source.result.source _
          (GivesBeside own (g.S.Source.left c.new-source.result.source)) second_verdict IsOfBeside
          (Err c.in_err-joint.field-0.0) told refl told.own (λ h fits gives. gives),
    )

pub returns-clause-reads : goal.returns-clause-reads
returns-clause-reads g c =
    let own = lists_circuit c.args.circuit.now in
    let read = c.in_ok-joint.ensures in
    let told : ReadsFile g.S.Source.left g.S.Source.failed c.args.limit
    (λ h. IsJoinOf Certificate own (circuit_of h)) second_verdict IsOfBeside
    c.new-source.result.source (Ok c.in_ok-joint.joint) c.read_beside.new.certificate.source =
    record { verdict = read.verdict; answer = read.answer; own = read.own } in
    let start = ap g.S.Source.left c.new-source.ensures ∙ c.requires.origin in
    let sums = summed g.B.Origin.bytes c.finish.result told.verdict start c.finish.ensures in
    rw (sym c.new-source.ensures) (
      c.read_beside.new.certificate.source,
      file_on g.S.Source.left g.S.Source.failed c.args.limit c.new-source.result.source _
          (GivesBeside own (g.S.Source.left c.new-source.result.source)) second_verdict IsOfBeside
          (Ok (c.in_ok-joint.joint, c.finish.result)) told refl tt
          (λ h fits gives. (
            record { fit = gives.0; joint = gives.1; small = gives.3 },
            sums,
          )),
    )

pub returns-clause-circuit : goal.returns-clause-circuit
returns-clause-circuit g c = (c.in_ok-joint.ensures.answer refl).means.2
