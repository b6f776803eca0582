use Rattle.std.proofs.Common.{◌∙◌}
use Rattle.aig_edit_commands.proofs.acting.write_made.Goals as goal

pub returns-in-Edit-clause-prints : goal.returns-in-Edit-clause-prints
returns-in-Edit-clause-prints g c = λ f bound fits is. rw c.in-Edit.is
    (c.write_edit.ensures.prints f bound fits is)

pub returns-in-Reduction-clause-prints : goal.returns-in-Reduction-clause-prints
returns-in-Reduction-clause-prints g c = λ f bound fits is. rw c.in-Reduction.is
    (c.write_reduction.ensures.prints f bound fits (c.new.ensures ∙ is))

pub returns-in-Question-clause-prints : goal.returns-in-Question-clause-prints
returns-in-Question-clause-prints g c = λ f bound fits is. rw c.in-Question.is
    (c.write_question.ensures.prints f bound fits (c.new-in-Question.ensures ∙ is))

pub returns-in-Live-clause-prints : goal.returns-in-Live-clause-prints
returns-in-Live-clause-prints g c = λ f bound fits is. rw c.in-Live.is
    (c.write_live.ensures.prints f bound fits (c.new-in-Live.ensures ∙ is))

pub returns-in-Rounds-clause-prints : goal.returns-in-Rounds-clause-prints
returns-in-Rounds-clause-prints g c = λ f bound fits is. rw c.in-Rounds.is
    (c.write_rounds.ensures.prints f bound fits (c.new-in-Rounds.ensures ∙ is))

pub write_reduction-requires : goal.write_reduction-requires
write_reduction-requires g c = rw c.new.ensures c.requires.plain

pub write_live-requires : goal.write_live-requires
write_live-requires g c = rw c.new-in-Live.ensures c.requires.plain

pub write_rounds-requires : goal.write_rounds-requires
write_rounds-requires g c = rw c.new-in-Rounds.ensures c.requires.plain
