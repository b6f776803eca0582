use Rattle.aig_runs.proofs.Certificates as lemma
use Rattle.aig_runs.proofs.Induction.{always_safe_by_windows}
use Rattle.aig_runs.proofs.safety.certificates_are_safe.Goals as goal

pub returns-clause-safe : goal.returns-clause-safe
returns-clause-safe c = lemma.certified_safe

pub returns-clause-inductive : goal.returns-clause-inductive
returns-clause-inductive c = λ form g f bound limit k fits fits_too is base step n. lemma.certified_safe g f bound limit n fits fits_too is (always_safe_by_windows form g k base step n)

pub returns-clause-listed : goal.returns-clause-listed
returns-clause-listed c = lemma.listed_certificate
