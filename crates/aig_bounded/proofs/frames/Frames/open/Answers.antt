use Rattle.std.proofs.Common.{false, ap, ◌∙◌, arith}
use Rattle.aig_circuit.specs.Edge.{edge_to}
use Rattle.aig_bounded.proofs.Extended.{AreShared-opened}
use Rattle.aig_bounded.proofs.frames.Frames.open.Goals as goal

pub returns-clause-opens : goal.returns-clause-opens
returns-clause-opens c = record {
  edge = c.from.ensures ∙ ap (λ n. edge_to n false) c.in_ok-id.ensures.number;
  nodes = c.in_ok-id.ensures.nodes;
  limit = c.new_input.ensures.limit;
  shared = AreShared-opened c.args.self.now c.new_input.new.self c.in_ok-id.ensures.nodes c.new_input.ensures.gates c.new_input.ensures.limit (omega arith) c.requires;
  inputs = c.in_ok-id.ensures.inputs;
  places = c.in_ok-id.ensures.places;
}
