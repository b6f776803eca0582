use Rattle.aig_base.proofs.Words.{arith, err_from_is_err_and}
use Rattle.aig_subjects.specs.declared.subject.Subject.TheVariants as subjects
use Rattle.aig_subjects.proofs.FilesRead.{Known, certified_made, file_made, miter_certified, miter_made, miter_refused, read_ready, unmade}
use Rattle.aig_subjects.proofs.reading.read_subject.Goals as goal

pub returns-in_err-read_file_subject-in-File-clause-reads :
    goal.returns-in_err-read_file_subject-in-File-clause-reads
returns-in_err-read_file_subject-in-File-clause-reads g c =
    let p = err_from_is_err_and c.from_residual.result c.from_residual.ensures.1 in
    let own = c.in-File.own in
    rw (p.1, p.2, c.in-File.is) (unmade g.S.Source.left g.S.Source.failed c.args.limit
    (subjects.File own) own c.in_err-read_file_subject-in-File.field-0.0 c.args.files.now
    c.index-files-0.result _
    (let one = rw c.in-File.is at c.requires.each in omega (arith, one))
    c.in_err-read_file_subject-in-File.ensures.reads (λ f is. is) tt)

pub returns-in_ok-read_file_subject-in-File-clause-reads :
    goal.returns-in_ok-read_file_subject-in-File-clause-reads
returns-in_ok-read_file_subject-in-File-clause-reads g c =
    rw c.in-File.is (file_made g.S.Source.left g.S.Source.failed c.args.limit c.in-File.own _
    c.args.files.now c.index-files-0.result _ (rw c.in-File.is at c.requires.each)
    c.in_ok-read_file_subject-in-File.ensures.reads)

pub returns-in_err-read_miter-in-Miter-clause-reads :
    goal.returns-in_err-read_miter-in-Miter-clause-reads
returns-in_err-read_miter-in-Miter-clause-reads g c =
    let p = err_from_is_err_and c.from_residual-in_err-read_miter-in-Miter.result
    c.from_residual-in_err-read_miter-in-Miter.ensures.1 in
    let comparison = c.in-Miter.comparison in
    rw (p.1, p.2, c.in-Miter.is) (miter_refused g.S.Source.left g.S.Source.failed c.args.limit
    (subjects.Miter comparison) comparison c.in_err-read_miter-in-Miter.field-0.0 c.args.files.now _
    c.in_err-read_miter-in-Miter.ensures.reads (λ f h is. is) tt (λ f. tt))

pub returns-in_ok-read_miter-in-Miter-clause-reads :
    goal.returns-in_ok-read_miter-in-Miter-clause-reads
returns-in_ok-read_miter-in-Miter-clause-reads g c =
    rw c.in-Miter.is (miter_made g.S.Source.left g.S.Source.failed c.args.limit c.in-Miter.comparison
    _ c.args.files.now _ c.in_ok-read_miter-in-Miter.ensures.reads)

pub returns-in_ok-read_miter-in-Miter-clause-ready :
    goal.returns-in_ok-read_miter-in-Miter-clause-ready
returns-in_ok-read_miter-in-Miter-clause-ready g c =
    let known : Known = record {
      closed = c.files_are_circuits.ensures.closed;
      of_files = c.subjects_are_of_files.ensures;
    } in
    read_ready g.S.Source.left g.S.Source.failed c.args.limit c.args.subject c.args.files.now _ known
    c.requires.few _ (returns-in_ok-read_miter-in-Miter-clause-reads g c)
    c.in_ok-read_miter-in-Miter.ensures.circuit

pub returns-in_err-circuit-in-Certified-clause-reads :
    goal.returns-in_err-circuit-in-Certified-clause-reads
returns-in_err-circuit-in-Certified-clause-reads g c =
    let p = err_from_is_err_and c.from_residual-in_err-circuit-in-Certified.result
    c.from_residual-in_err-circuit-in-Certified.ensures.1 in
    let own = c.in-Certified.own in
    rw (p.1, p.2, c.in-Certified.is) (unmade g.S.Source.left g.S.Source.failed c.args.limit
    (subjects.Certified own) own c.in_err-circuit-in-Certified.field-0.0 c.args.files.now
    c.index-files-0-in-Certified.result _
    (let two = rw c.in-Certified.is at c.requires.each in omega (arith, two))
    c.in_err-circuit-in-Certified.ensures.reads (λ f is. is) tt)

pub returns-in_ok-circuit-in-Certified-clause-reads :
    goal.returns-in_ok-circuit-in-Certified-clause-reads
returns-in_ok-circuit-in-Certified-clause-reads g c =
    rw c.in-Certified.is (certified_made g.S.Source.left g.S.Source.failed c.args.limit
    c.in-Certified.own c.in_ok-circuit-in-Certified.circuit c.args.files.now
    c.index-files-0-in-Certified.result _ c.index-files-1.result _ _
    (rw c.in-Certified.is at c.requires.each)
    c.in_ok-circuit-in-Certified.ensures.reads c.read_certificate.ensures.reads)

pub returns-in_ok-circuit-in-Certified-clause-ready :
    goal.returns-in_ok-circuit-in-Certified-clause-ready
returns-in_ok-circuit-in-Certified-clause-ready g c =
    let known : Known = record {
      closed = c.files_are_circuits.ensures.closed;
      of_files = c.subjects_are_of_files.ensures;
    } in
    read_ready g.S.Source.left g.S.Source.failed c.args.limit c.args.subject c.args.files.now _ known
    c.requires.few _ (returns-in_ok-circuit-in-Certified-clause-reads g c)
    c.read_certificate.ensures.circuit

pub returns-in_err-miter-in-MiterCertified-clause-reads :
    goal.returns-in_err-miter-in-MiterCertified-clause-reads
returns-in_err-miter-in-MiterCertified-clause-reads g c =
    let p = err_from_is_err_and c.from_residual-in_err-miter-in-MiterCertified.result
    c.from_residual-in_err-miter-in-MiterCertified.ensures.1 in
    let comparison = c.in-MiterCertified.comparison in
    rw (p.1, p.2, c.in-MiterCertified.is) (miter_refused g.S.Source.left g.S.Source.failed
    c.args.limit (subjects.MiterCertified comparison) comparison
    c.in_err-miter-in-MiterCertified.field-0.0 c.args.files.now _
    c.in_err-miter-in-MiterCertified.ensures.reads (λ f h is. is) tt (λ f. tt))

pub returns-in_ok-miter-in-MiterCertified-clause-reads :
    goal.returns-in_ok-miter-in-MiterCertified-clause-reads
returns-in_ok-miter-in-MiterCertified-clause-reads g c =
    rw c.in-MiterCertified.is (miter_certified g.S.Source.left g.S.Source.failed c.args.limit
    c.in-MiterCertified.comparison c.in_ok-miter-in-MiterCertified.miter c.args.files.now _
    c.index-files-2.result _ _ (rw c.in-MiterCertified.is at c.requires.each)
    c.in_ok-miter-in-MiterCertified.ensures.reads
    c.read_certificate-in-MiterCertified.ensures.reads)

pub returns-in_ok-miter-in-MiterCertified-clause-ready :
    goal.returns-in_ok-miter-in-MiterCertified-clause-ready
returns-in_ok-miter-in-MiterCertified-clause-ready g c =
    let known : Known = record {
      closed = c.files_are_circuits.ensures.closed;
      of_files = c.subjects_are_of_files.ensures;
    } in
    read_ready g.S.Source.left g.S.Source.failed c.args.limit c.args.subject c.args.files.now _ known
    c.requires.few _ (returns-in_ok-miter-in-MiterCertified-clause-reads g c)
    c.read_certificate-in-MiterCertified.ensures.circuit
