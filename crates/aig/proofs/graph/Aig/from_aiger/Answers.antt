use Rattle.std.proofs.Common.{◌≤◌, length, sym, subst, ◌∙◌}
use Rattle.aig_circuit.specs.Circuit.{Circuit, IsCircuit}
use Rattle.aig_format.proofs.Circuits.{IsCircuit-of_file}
use Rattle.aig_format.proofs.Nodes.{few_nodes}
use Rattle.aig_format.specs.Writable.{IsWritable}
use Rattle.aig_format_laws.proofs.Writable.{IsWritable-of_file}
use Rattle.aig.proofs.graph.Aig.from_aiger.Goals as goal

pub from_lists-requires : goal.from_lists-requires
from_lists-requires g c =
    let read = c.in_ok-lists.ensures.circuit in
    subst IsCircuit (sym read.means) (IsCircuit-of_file read.file c.args.limit read.holds.1)

pub returns-clause-circuit : goal.returns-clause-circuit
returns-clause-circuit g c =
    let read = c.in_ok-lists.ensures.circuit in
    record { file = read.file; bytes = read.bytes; holds = read.holds; means = c.from_lists.ensures ∙ read.means; taken = read.taken }

pub returns-clause-few : goal.returns-clause-few
returns-clause-few g c =
    let read = returns-clause-circuit g c in
    subst (λ (circuit : Circuit). length circuit.nodes ≤ c.args.limit) (sym read.means) (few_nodes read.file c.args.limit read.holds.1)

pub returns-clause-writable : goal.returns-clause-writable
returns-clause-writable g c =
    let read = returns-clause-circuit g c in
    subst IsWritable (sym read.means) (IsWritable-of_file read.file c.args.limit read.bytes c.requires.few read.holds)
