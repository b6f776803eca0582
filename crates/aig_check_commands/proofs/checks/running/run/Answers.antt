use Rattle.aig_check_commands.proofs.Words.{◌∷◌, [], ◌∙◌, ap, arith, length, sym}
use Rattle.aig_check_commands.proofs.Commanding.{checks_where, only_prints}
use Rattle.aig_check_commands.proofs.Opened.{first_taken, paths_few}
use Rattle.aig_check_commands.proofs.checks.running.run.Goals as goal

pub check_asked-requires-clause-checks : goal.check_asked-requires-clause-checks
check_asked-requires-clause-checks g c =
    checks_where c.args.asked.command (sym c.prints.ensures ∙ c.if-not-prints.true)

pub returns-in-Print : goal.returns-in-Print
returns-in-Print g c =
    let run = c.print_question.ensures in
    let first = first_taken c.args.files.items c.remove-file.result (omega (
      arith,
      c.requires.fits,
      paths_few c.args.asked.command,
    )) (c.remove-file.ensures.value) in (
      run.0 ∷ [],
      rw (first, c.in-Print.is) run.1,
    )

pub only-certificate-requires : goal.only-certificate-requires
only-certificate-requires g c =
    let first = first_taken c.args.files.items c.remove-file.result (omega (
      arith,
      c.requires.fits,
      paths_few c.args.asked.command,
    )) (c.remove-file.ensures.value) in
    let count = rw c.in-Obligations.is at c.requires.fits in
    let files = ap length first in
    rw c.remove-file.ensures.items (omega (arith, files, count))

pub returns-in-Obligations : goal.returns-in-Obligations
returns-in-Obligations g c =
    let run = c.print_obligations.ensures in
    let first = first_taken c.args.files.items c.remove-file.result (omega (
      arith,
      c.requires.fits,
      paths_few c.args.asked.command,
    )) (c.remove-file.ensures.value) in
    let files = first
    ∙ ap (λ l. c.remove-file.result ∷ l) (sym c.remove-file.ensures.items ∙ c.only-certificate.ensures)
    in (
      run.0 ∷ run.1 ∷ [],
      rw (files, c.in-Obligations.is) run.2,
    )

pub only-witness-requires : goal.only-witness-requires
only-witness-requires g c =
    let first = first_taken c.args.files.items c.remove-file.result (omega (
      arith,
      c.requires.fits,
      paths_few c.args.asked.command,
    )) (c.remove-file.ensures.value) in
    let count = rw c.in-Obligation.is at c.requires.fits in
    let files = ap length first in
    rw c.remove-file.ensures.items (omega (arith, files, count))

pub returns-in-Obligation : goal.returns-in-Obligation
returns-in-Obligation g c =
    let run = c.print_obligation.ensures in
    let first = first_taken c.args.files.items c.remove-file.result (omega (
      arith,
      c.requires.fits,
      paths_few c.args.asked.command,
    )) (c.remove-file.ensures.value) in
    let files = first
    ∙ ap (λ l. c.remove-file.result ∷ l) (sym c.remove-file.ensures.items ∙ c.only-witness.ensures)
    in (
      run.0 ∷ run.1 ∷ [],
      rw (files, c.in-Obligation.is) run.2,
    )

pub unreachable-requires : goal.unreachable-requires
unreachable-requires g c =
    only_prints c.args.asked.command (sym c.prints.ensures ∙ c.if-not-prints.false)
    c.in_default.not-Print c.in_default.not-Obligations c.in_default.not-Obligation
