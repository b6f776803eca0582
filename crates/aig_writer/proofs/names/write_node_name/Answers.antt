use Rattle.aig_output.proofs.Writing.{calls_laws, nothing_done}
use Rattle.aig_circuit.proofs.Names.{get_names}
use Rattle.aig_writer.proofs.names.write_node_name.Goals as goal

pub returns-in-Some : goal.returns-in-Some
returns-in-Some g c =
    rw (
      ← c.names.ensures.value,
      get_names c.names.result.now.entries c.args.node,
      ←
          c.get.ensures.value,
      c.in-Some.is,
    )
    (rw c.as_bytes.ensures.value at c.write_name_line.ensures)

pub returns-in-None : goal.returns-in-None
returns-in-None g c = rw (
  ← c.names.ensures.value,
  get_names c.names.result.now.entries c.args.node,
  ←
      c.get.ensures.value,
  c.in-None.is,
) (nothing_done calls_laws)
