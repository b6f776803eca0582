-- Part of what is promised.
-- Which error stands for one of a question.
use Rattle.aig_bounded.specs.declared.error.BoundedError.{BoundedError}
use Rattle.aig_bounded.specs.declared.error.BoundedError.TheVariants as bounded
use Rattle.aig_edits.specs.declared.edit_error.EditError.{EditError}
use Rattle.aig_edits.specs.declared.edit_error.EditError.TheVariants as errors

-- the error of a file that has no question
abbrev pub question_fault : BoundedError → EditError
question_fault bounded.TooLarge = errors.QuestionTooLarge
question_fault bounded.Memory = errors.Memory
