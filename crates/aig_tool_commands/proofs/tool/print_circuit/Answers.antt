use Rattle.aig_base.proofs.Words.{◌≡◌, ap, inl, inr, refl, subst, sym, err_from_is_err_and}
use Rattle.aig.specs.declared.aiger.WriteError.TheVariants as write
use Rattle.aig_tool_commands.specs.declared.tool.ToolError.TheVariants as errors
use Rattle.aig_tool_commands.proofs.Running.{err_of, only_interrupted, only_stopped, plain_bytes}
use Rattle.aig.specs.declared.aiger.WriteError.{WriteError}
use Rattle.aig_reader.specs.Verdicts.{Short}
use Rattle.aig_tool_commands.specs.declared.command.Command.{Command}
use Rattle.aig_tool_commands.specs.declared.command.Command.TheVariants as commands
use Rattle.aig_tool_commands.specs.Running.{IsErrorOf, verdict_of}
use Rattle.aig_tool_commands.proofs.tool.print_circuit.Goals as goal

-- memory that runs out before the binary form is written
binary_short : (c : Command) (e : WriteError) → c ≡ commands.Binary → e ≡ write.Memory
    → (verdict_of (errors.Write e) ≡ Short) × IsErrorOf c (errors.Write e)
binary_short c e binary is =
    subst (λ x. (verdict_of (errors.Write x) ≡ Short) × IsErrorOf c (errors.Write x)) (sym is)
    (refl, binary)

pub returns-in_err-write_text-in-Strash : goal.returns-in_err-write_text-in-Strash
returns-in_err-write_text-in-Strash g c =
    let p = err_from_is_err_and c.from_residual-in_err-write_text-in-Strash.result
    c.from_residual-in_err-write_text-in-Strash.ensures.1 in
    let made = c.in_ok-strash-in-Strash.ensures in
    let told = c.in_err-write_text-in-Strash.ensures in
    let e = c.in_err-write_text-in-Strash.field-0.0 in
    let is = only_stopped c.in_ok-strash-in-Strash.field-0 e (made.writable c.requires) told.tells
    told.faults in
    let done = told.stream (err_of e write.Stream is) in
    rw (p.1, p.2, c.in-Strash.is)
    (inl (
      ap (λ y. errors.Write y) is,
      record { beginning = rw made.exact at done.0; has_failed = done.1 },
    ))

pub returns-in_ok-write_text-in-Strash : goal.returns-in_ok-write_text-in-Strash
returns-in_ok-write_text-in-Strash g c =
    let told = c.in_ok-write_text-in-Strash.ensures.ok in
    rw c.in-Strash.is (rw c.in_ok-strash-in-Strash.ensures.exact at told.0, told.1)

pub returns-in_err-strash-in-Strash : goal.returns-in_err-strash-in-Strash
returns-in_err-strash-in-Strash g c =
    let p = err_from_is_err_and c.from_residual-in_err-strash-in-Strash.result
    c.from_residual-in_err-strash-in-Strash.ensures.1 in
    rw (p.1, p.2, c.in-Strash.is) (inr (refl, refl, refl))

pub returns-in_err-write_binary-in-Binary : goal.returns-in_err-write_binary-in-Binary
returns-in_err-write_binary-in-Binary g c =
    let p = err_from_is_err_and c.from_residual.result c.from_residual.ensures.1 in
    let told = c.in_err-write_binary-in-Binary.ensures in
    let e = c.in_err-write_binary-in-Binary.field-0.0 in
    rw (p.1, p.2, c.in-Binary.is)
    (elim (only_interrupted c.args.circuit.now e c.requires told.tells
    (λ is. told.never_open (err_of e write.Open is))) [
      | inl is ↦ let own = binary_short c.args.c e c.in-Binary.is is in inr
          (own.0, own.1, told.kept (λ same. cc))
      | inr is ↦ let done = told.stream (err_of e write.Stream is) in inl
          (ap (λ y. errors.Write y) is, record { beginning = done.0; has_failed = done.1 })
    ])

pub returns-in_ok-write_binary-in-Binary : goal.returns-in_ok-write_binary-in-Binary
returns-in_ok-write_binary-in-Binary g c = rw c.in-Binary.is
    c.in_ok-write_binary-in-Binary.ensures.ok

pub returns-in_err-write_text-in_default : goal.returns-in_err-write_text-in_default
returns-in_err-write_text-in_default g c =
    let p = err_from_is_err_and c.from_residual-in_err-write_text-in_default.result
    c.from_residual-in_err-write_text-in_default.ensures.1 in
    let told = c.in_err-write_text-in_default.ensures in
    let e = c.in_err-write_text-in_default.field-0.0 in
    let is = only_stopped c.args.circuit.now e c.requires told.tells told.faults in
    let done = told.stream (err_of e write.Stream is) in
    rw (
      p.1,
      p.2,
      plain_bytes c.args.c c.args.circuit.now c.in_default.not-Binary
          c.in_default.not-Strash,
    )
    (inl (ap (λ y. errors.Write y) is, record { beginning = done.0; has_failed = done.1 }))

pub returns-in_ok-write_text-in_default : goal.returns-in_ok-write_text-in_default
returns-in_ok-write_text-in_default g c =
    rw (plain_bytes c.args.c c.args.circuit.now c.in_default.not-Binary c.in_default.not-Strash)
    c.in_ok-write_text-in_default.ensures.ok
