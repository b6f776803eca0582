use Rattle.aig_base.proofs.Words.{map, string_bytes, ap, ◌∙◌}
use Rattle.aig_edit_laws.specs.declared.fairness.Fairness.TheVariants.{Justice}
use Rattle.aig_check_commands.specs.FileSubjects.{subject_word}
use Rattle.aig_check_commands.proofs.Calling.{fair_word, gives_rounds, no_justice, no_rounds}
use Rattle.aig_check_commands.proofs.file_subjects.justice_first.Goals as goal

pub returns-in_err-property-clause-none : goal.returns-in_err-property-clause-none
returns-in_err-property-clause-none c =
    rw c.from_residual.ensures (no_justice (map string_bytes c.args.words.now)
    c.in_err-property.ensures.none)

pub returns-in_err-rounds-clause-none : goal.returns-in_err-rounds-clause-none
returns-in_err-rounds-clause-none c =
    rw c.from_residual-in_err-rounds.ensures (no_rounds (Justice c.in_ok-property.property) _ _
    c.in_ok-property.ensures.some c.in_err-rounds.ensures.none)

pub returns-clause-word : goal.returns-clause-word
returns-clause-word c =
    ap subject_word c.fair_subject.ensures
    ∙ fair_word (Justice c.in_ok-property.property) c.in_ok-rounds.rounds

pub returns-clause-some : goal.returns-clause-some
returns-clause-some c =
    rw c.fair_subject.ensures (gives_rounds (Justice c.in_ok-property.property)
    c.in_ok-rounds.rounds _ _ _ c.in_ok-property.ensures.some c.in_ok-rounds.ensures.some)
