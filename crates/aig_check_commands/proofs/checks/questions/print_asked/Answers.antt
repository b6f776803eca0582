use Rattle.aig_check_commands.proofs.Words.{All-cons, All-nil, CanBeAsked, Question, [], ◌∷◌, ap, inl, refl, sym, ◌∙◌, lists_circuit, room_of}
use Rattle.aig_check_commands.proofs.check_lemmas.Outcomes.{error_printed}
use Rattle.aig_check_commands.proofs.check_lemmas.Questioning.{question_answered, question_asked}
use Rattle.aig_check_commands.proofs.checks.questions.print_asked.Goals as goal

pub check_room-requires : goal.check_room-requires
check_room-requires g c =
    let a = c.args in
    let CanBe = λ (q : Question). CanBeAsked a.limit q.ask (lists_circuit a.circuit) in
    let asked = question_asked a.limit a.question.ask (lists_circuit a.circuit) c.requires.limit.0
    c.requires.small c.requires.ready in
    rw c.new.ensures (All-cons CanBe a.question [] asked (All-nil CanBe))

pub print_clauses-requires-clause-asked : goal.print_clauses-requires-clause-asked
print_clauses-requires-clause-asked g c =
    let a = c.args in
    question_asked a.limit a.question.ask (lists_circuit a.circuit) c.requires.limit.0
    c.requires.small c.requires.ready

pub returns-in-Ok : goal.returns-in-Ok
returns-in-Ok g c =
    let a = c.args in
    question_answered a.limit a.subject a.question (lists_circuit a.circuit) a.sum
    (sym (c.in-Ok.ensures ∙ ap (room_of a.limit (a.question ∷ [])) c.new.ensures))
    c.print_clauses.ensures

pub returns-in-Err : goal.returns-in-Err
returns-in-Err g c =
    let a = c.args in
    rw c.question_error.ensures (error_printed _ (
      _,
      refl,
      inl (sym (c.in-Err.ensures ∙ ap (room_of a.limit (a.question ∷ [])) c.new.ensures)),
    ) refl)
