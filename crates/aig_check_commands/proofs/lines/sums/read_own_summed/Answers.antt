use Rattle.aig_check_commands.proofs.Words.{Err, Ok, ap, err_from_is_err_and, refl, sym, ◌∙◌, GivesSummed, IsEditOwn, edit_verdict, file_on, source_of}
use Rattle.aig_subjects.specs.declared.subject.FileSubject.TheVariants.{Own}
use Rattle.aig_check_commands.proofs.check_lemmas.Outcomes.{file_under, summed}
use Rattle.aig_check_commands.proofs.lines.sums.read_own_summed.Goals as goal

pub returns-in_err-circuit-clause-reads : goal.returns-in_err-circuit-clause-reads
returns-in_err-circuit-clause-reads g c =
    let p = err_from_is_err_and c.from_residual.result c.from_residual.ensures.1 in
    let told = file_under g.R.Source.left g.R.Source.failed source_of
    c.in_err-circuit.ensures.reads in
    rw (sym c.new-source.ensures, p.1, p.2) (
      c.read_file_subject.new.file.source,
      file_on g.R.Source.left g.R.Source.failed c.args.limit c.new-source.result.source _
          (GivesSummed Own (g.R.Source.left c.new-source.result.source)) edit_verdict IsEditOwn
          (Err c.in_err-circuit.field-0.0) told refl told.own (λ f fits gives. gives),
    )

pub returns-clause-reads : goal.returns-clause-reads
returns-clause-reads g c =
    let told = file_under g.R.Source.left g.R.Source.failed source_of
    c.in_ok-circuit.ensures.reads in
    let start = ap g.R.Source.left c.new-source.ensures ∙ c.requires.origin in
    let sums = summed g.B.Origin.bytes c.finish.result told.verdict start c.finish.ensures in
    rw (sym c.new-source.ensures) (
      c.read_file_subject.new.file.source,
      file_on g.R.Source.left g.R.Source.failed c.args.limit c.new-source.result.source _
          (GivesSummed Own (g.R.Source.left c.new-source.result.source)) edit_verdict IsEditOwn
          (Ok (c.in_ok-circuit.circuit, c.finish.result)) told refl tt
          (λ f fits gives. (gives, sums)),
    )
