use Rattle.aig_base.proofs.Words.{ap, map, string_bytes}
use Rattle.aig_command_line.proofs.Giving.{no_number}
use Rattle.aig_check_commands.proofs.file_subjects.first_number.Goals as goal

pub returns-in_err-steps-clause-none : goal.returns-in_err-steps-clause-none
returns-in_err-steps-clause-none c =
    let none = c.in_err-steps.was in
    let exact = rw (c.as_str.ensures.value, none) at c.steps.ensures.exact in
    rw c.from_residual-in_err-steps.ensures (no_number (map string_bytes c.args.words.now)
    (string_bytes c.in_ok-first.first.now) (map string_bytes c.in_ok-first.rest.now)
    (ap (λ l. map string_bytes l) c.in_ok-first.ensures.cases.0)
    (λ k number. let some = (exact k).1 number in cc))

pub returns-clause-some : goal.returns-clause-some
returns-clause-some c =
    let number = (c.steps.ensures.exact c.in_ok-steps.field-0).0 c.in_ok-steps.was in (
      string_bytes c.in_ok-first.first.now,
      rw c.as_str.ensures.value at number,
      ap (λ l. map string_bytes l) c.in_ok-first.ensures.cases.0,
    )
