use Rattle.std.proofs.Common.{sym, arith, ◌∙◌}
use Rattle.aig_format.specs.declared.FileKind.TheVariants.{Text, Binary}
use Rattle.aig_output.proofs.Writing.{calls_laws, nothing_done}
use Rattle.aig_writer.specs.Numbering.{written_number}
use Rattle.aig_writer.proofs.Items.{gate_text-at, other_text}
use Rattle.aig_writer.proofs.sections.write_node.Goals as goal

pub literal-first-requires : goal.literal-first-requires
literal-first-requires g c = (c.requires.small.operands c.in-And.first c.in-And.second (sym c.typ.ensures ∙ c.in-And.is)).0

pub literal-second-requires : goal.literal-second-requires
literal-second-requires g c = (c.requires.small.operands c.in-And.first c.in-And.second (sym c.typ.ensures ∙ c.in-And.is)).1

pub overflow_sub-own : goal.overflow_sub-own
overflow_sub-own g c =
    let falls = (c.requires.falls c.in-Binary.is).operands c.in-And.first c.in-And.second
    (sym c.typ.ensures ∙ c.in-And.is) in
    omega (arith, rw c.node_id.ensures at c.node_literal-own.ensures, falls.0, falls.1)

pub write_differences-requires-clause-first : goal.write_differences-requires-clause-first
write_differences-requires-clause-first g c = omega (
  arith,
  rw c.node_id.ensures at c.node_literal-own.ensures,
  (c.requires.falls c.in-Binary.is).own,
)

pub write_differences-requires-clause-second : goal.write_differences-requires-clause-second
write_differences-requires-clause-second g c =
    let falls = c.requires.falls c.in-Binary.is in
    let below = falls.operands c.in-And.first c.in-And.second (sym c.typ.ensures ∙ c.in-And.is) in
    omega (arith, falls.own, below.0, below.1)

pub returns-in_default : goal.returns-in_default
returns-in_default g c = rw
    (other_text c.args.kind (written_number c.args.numbers.now) c.args.node.now
    (λ a b is. c.in_default.not-And a b (c.typ.ensures ∙ is))) (nothing_done calls_laws)

pub returns-in-Text : goal.returns-in-Text
returns-in-Text g c =
    rw (c.in-Text.is, gate_text-at Text (written_number c.args.numbers.now) c.args.node.now c.in-And.first c.in-And.second (sym c.typ.ensures ∙ c.in-And.is))
    (rw (c.max-greater.ensures, c.min-lesser.ensures, c.literal-first.ensures, c.literal-second.ensures, c.node_literal-own.ensures, c.node_id.ensures) at c.write_line.ensures)

pub returns-in-Binary : goal.returns-in-Binary
returns-in-Binary g c =
    rw (c.in-Binary.is, gate_text-at Binary (written_number c.args.numbers.now) c.args.node.now c.in-And.first c.in-And.second (sym c.typ.ensures ∙ c.in-And.is))
    (rw (c.max-greater.ensures, c.min-lesser.ensures, c.literal-first.ensures, c.literal-second.ensures, c.node_literal-own.ensures, c.node_id.ensures) at c.write_differences.ensures)
