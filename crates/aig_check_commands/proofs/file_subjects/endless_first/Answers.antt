use Rattle.aig_base.proofs.Words.{ap, refl, ◌∙◌}
use Rattle.aig_edit_laws.specs.declared.fairness.Fairness.TheVariants.{Alone}
use Rattle.aig_check_commands.specs.FileSubjects.{subject_word}
use Rattle.aig_check_commands.proofs.Calling.{fair_word, gives_rounds, no_rounds}
use Rattle.aig_check_commands.proofs.file_subjects.endless_first.Goals as goal

pub returns-in_err-rounds-clause-none : goal.returns-in_err-rounds-clause-none
returns-in_err-rounds-clause-none c =
    rw c.from_residual.ensures (no_rounds Alone _ _ refl c.in_err-rounds.ensures.none)

pub returns-clause-word : goal.returns-clause-word
returns-clause-word c =
    ap subject_word c.fair_subject.ensures ∙ fair_word Alone c.in_ok-rounds.rounds

pub returns-clause-some : goal.returns-clause-some
returns-clause-some c =
    rw c.fair_subject.ensures (gives_rounds Alone c.in_ok-rounds.rounds _ _ _ refl
    c.in_ok-rounds.ensures.some)
