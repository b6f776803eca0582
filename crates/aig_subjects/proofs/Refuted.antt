-- Wrong errors, of which the definitions are false: a certificate is blamed where there is nothing
-- that it is to stand beside.
use Rattle.aig_base.proofs.Words.{ℕ, ◌≤◌, arith, length, List, [], ◌∷◌}
use Rattle.aig_circuit.specs.Circuit.{Circuit}
use Rattle.aig_edits.specs.Joints.{IsJointOf}
use Rattle.aig_edits.specs.declared.pair_error.PairError.{PairError}
use Rattle.aig_edits.specs.declared.pairing.Pairing.TheVariants.{Miter}
use Rattle.aig_format.proofs.Words.{File}
use Rattle.aig_join.specs.declared.comparison.Comparison.{Comparison}
use Rattle.aig_subjects.specs.Subjects.{IsUnmade}
use Rattle.aig_subjects.specs.declared.error.SubjectError.TheVariants as errors
use Rattle.aig_subjects.specs.declared.subject.FileSubject.{FileSubject}
use Rattle.aig_subjects.specs.declared.subject.FileSubject.TheVariants.{Property}
use Rattle.aig_subjects.specs.declared.subject.Subject.TheVariants as subjects

-- FILE has no such property
no_blame_for_a_property : (n : ℕ) (f : File) (e : PairError) → length f.properties.bads ≤ n
    → ¬ IsUnmade (subjects.Certified (Property n)) (f ∷ []) (errors.Certificate e)
no_blame_for_a_property n f e few told =
    let there = told.1.edit_of.can in omega (arith, few, there)

-- FILE and OTHER have no miter
no_blame_for_a_miter : (comparison : Comparison) (f g : File) (e : PairError)
    → ((m : Circuit) → ¬ IsJointOf (Miter comparison) f g m)
    → ¬ IsUnmade (subjects.MiterCertified comparison) (f ∷ g ∷ []) (errors.Certificate e)
no_blame_for_a_miter comparison f g e none told = none told.0 told.1

-- FILE is refused
no_blame_without_a_file : (own : FileSubject) (e : PairError)
    → ¬ IsUnmade (subjects.Certified own) [] (errors.Certificate e)
no_blame_without_a_file own e told = told

-- no certificate is asked for
no_blame_of_none : (own : FileSubject) (e : PairError)
    → ¬ IsUnmade (subjects.File own) [] (errors.Certificate e)
no_blame_of_none own e told = told
