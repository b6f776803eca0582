-- From what lines say to what is said of the source.
use Rattle.std.proofs.Common.{◌≡◌, ℕ, false, List, [], Option, IfSome, Ok, Err, sym, ap, ◌∙◌}
use Rattle.std.specs.Prelude.{replicate}
use Rattle.aig_base.proofs.Words.{prepend_known, prepend_known-nil}
use Rattle.aig_base.specs.declared.logic.three.Lbool.{Lbool}
use Rattle.aig_base.specs.declared.logic.three.Lbool.TheVariants.{NONE}
use Rattle.aig_lexer.specs.Takes.{Feed}
use Rattle.aig_witness.specs.declared.solutions.error.SolutionError.{SolutionError}
use Rattle.aig_witness.specs.declared.solutions.error.SolutionError.TheVariants as errors
use Rattle.aig_witness.specs.Lines.{SaysAnswer}
use Rattle.aig_witness.specs.SolverAnswers.{GivesSolution, lines_of, solution_from, solution_in}
use Rattle.aig_witness.proofs.Leaving.{says_known}

-- nothing is held before the source
pub none_held : (held : List ℕ) (left : Option (List ℕ)) → held ≡ []
    → prepend_known held left ≡ left
none_held held left is = ap (λ bs. prepend_known bs left) is ∙ prepend_known-nil left

module _ (text : Option (List ℕ)) (variables : ℕ) (before after : Feed) (old new : List Lbool)
    (start : before.coming ≡ text) (none : old ≡ replicate variables NONE) where
  abbrev Whole : List ℕ → Type 0
  Whole bytes = solution_in variables bytes ≡ Ok new

  pub said_values : SaysAnswer (λ bytes. solution_from false old (lines_of bytes)) before after
      (Ok tt) new → IfSome text Whole
  said_values h = says_known text Whole (λ bytes known. ap (λ v. solution_from false v
      (lines_of bytes)) (sym none) ∙ h bytes (start ∙ known))

  pub said_error : (e : SolutionError) → SaysAnswer
      (λ bytes. solution_from false old (lines_of bytes))
      before after (Err e) new → GivesSolution text variables after.failed (Err e)
  said_error errors.Memory h = tt
  said_error errors.Stream h = h
  said_error errors.NoBad h = h
  said_error (errors.Check e) h = h
  said_error e h = says_known text (λ bytes. solution_in variables bytes ≡ Err e)
      (λ bytes known. ap (λ v. solution_from false v (lines_of bytes)) (sym none)
      ∙ h bytes (start ∙ known))
