use Rattle.aig_check_commands.proofs.Words.{Err, Ok, err_from_is_err_and, lists_circuit, refl, GivesSummed, IsEditOwn, edit_verdict, file_on}
use Rattle.aig_edits.specs.declared.edit_error.EditError.TheVariants as edit
use Rattle.aig_check_commands.proofs.check_lemmas.Questioning.{made_fits, made_sum, unmade_memory}
use Rattle.aig_check_commands.proofs.lines.sums.read_made_summed.Goals as goal

pub text_sum-requires-clause-small : goal.text_sum-requires-clause-small
text_sum-requires-clause-small g c =
    let read = c.in_ok-circuit.ensures.reads.answer refl in
    made_fits c.args.subject read.file (lists_circuit c.in_ok-circuit.circuit) c.requires.made
    read.means

pub returns-in_err-circuit-clause-reads : goal.returns-in_err-circuit-clause-reads
returns-in_err-circuit-clause-reads g c =
    let p = err_from_is_err_and c.from_residual.result c.from_residual.ensures.1 in
    let a = c.args in
    let told = c.in_err-circuit.ensures.reads in
    rw (p.1, p.2) (
      c.read_file_subject.new.file,
      file_on g.R.Source.left g.R.Source.failed a.limit a.file _
          (GivesSummed a.subject (g.R.Source.left a.file)) edit_verdict IsEditOwn
          (Err c.in_err-circuit.field-0.0) told refl told.own (λ f fits gives. gives),
    )

pub returns-in_err-sum-clause-reads : goal.returns-in_err-sum-clause-reads
returns-in_err-sum-clause-reads g c =
    let p = err_from_is_err_and c.from_residual-in_err-sum.result
    c.from_residual-in_err-sum.ensures.1 in
    let a = c.args in
    rw (p.1, p.2) (
      c.read_file_subject.new.file,
      file_on g.R.Source.left g.R.Source.failed a.limit a.file _
          (GivesSummed a.subject (g.R.Source.left a.file)) edit_verdict IsEditOwn
          (Err edit.Memory) c.in_ok-circuit.ensures.reads refl tt
          (λ f fits gives. unmade_memory a.subject f (lists_circuit c.in_ok-circuit.circuit)
          c.requires.made gives),
    )

pub returns-clause-reads : goal.returns-clause-reads
returns-clause-reads g c =
    let a = c.args in (
      c.read_file_subject.new.file,
      file_on g.R.Source.left g.R.Source.failed a.limit a.file _
          (GivesSummed a.subject (g.R.Source.left a.file)) edit_verdict IsEditOwn
          (Ok (c.in_ok-circuit.circuit, c.in_ok-sum.sum)) c.in_ok-circuit.ensures.reads refl tt
          (λ f fits gives. (
            gives,
            made_sum a.subject (g.R.Source.left a.file) (lists_circuit c.in_ok-circuit.circuit)
                c.in_ok-sum.sum c.requires.made c.in_ok-sum.ensures,
          )),
    )
