use Rattle.std.specs.Prelude.{string_bytes}
use Rattle.aig_circuit.proofs.Names.{names_insert}
use Rattle.aig_symbols.proofs.names.read_name.Goals as goal

pub returns-in-Ok-insert : goal.returns-in-Ok-insert
returns-in-Ok-insert g c = (
  string_bytes c.in-Ok.text,
  rw c.in-Some.is (names_insert c.args.names.now.entries c.insert.new.self.entries c.in-Some.node c.in-Ok.text c.in-Ok-insert.ensures.updates.0),
  rw c.in-Some.is c.in-Ok.ensures,
)
