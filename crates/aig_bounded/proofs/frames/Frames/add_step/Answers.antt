use Rattle.aig_bounded.proofs.Exactly.{step_made}
use Rattle.aig_bounded.proofs.Extended.{Extends-then}
use Rattle.aig_bounded.proofs.Stepped.{HasImages-extends, roots_shown}
use Rattle.std.proofs.Common.{◌+◌, length, None}
use Rattle.std.specs.Prelude.{slice_index_or}
use Rattle.aig_bounded.specs.Frames.{net_of}
use Rattle.aig_bounded.specs.Steps.{checks_of}
use Rattle.aig_bounded.proofs.frames.Frames.add_step.Goals as goal

pub add_sums-requires-clause-bads : goal.add_sums-requires-clause-bads
add_sums-requires-clause-bads c =
    roots_shown c.args.circuit.now c.args.step c.args.left c.args.depths.now c.add_nodes.new.self c.add_nodes.new.images c.args.circuit.now.properties.bads c.requires.circuit.properties.bads c.requires.depths.bads c.in_ok-add_nodes.ensures.shows

pub add_sums-requires-clause-constraints : goal.add_sums-requires-clause-constraints
add_sums-requires-clause-constraints c =
    roots_shown c.args.circuit.now c.args.step c.args.left c.args.depths.now c.add_nodes.new.self c.add_nodes.new.images c.args.circuit.now.properties.constraints c.requires.circuit.properties.constraints c.requires.depths.constraints c.in_ok-add_nodes.ensures.shows

pub returns-clause-shows : goal.returns-clause-shows
returns-clause-shows c =
    HasImages-extends c.args.circuit.now c.args.step c.args.left (length c.args.circuit.now.nodes) c.args.depths.now c.add_nodes.new.self c.add_sums.new.self c.add_nodes.new.images c.in_ok-after.ensures.extends c.in_ok-add_nodes.ensures.shows

pub returns-clause-exact : goal.returns-clause-exact
returns-clause-exact c =
    step_made c.args.circuit.now c.args.left (c.args.left + c.args.step) c.args.step c.args.depths.now (λ n. slice_index_or c.args.states.now n None) (net_of c.args.self.now) c.add_nodes.new.self c.add_nodes.new.images c.args.sums (checks_of c.add_sums.new.self c.in_ok-after.after) c.requires.circuit c.requires.depths c.in_ok-add_nodes.ensures.exact c.in_ok-after.ensures.exact

pub returns-clause-extends : goal.returns-clause-extends
returns-clause-extends c =
    Extends-then c.args.self.now c.add_nodes.new.self c.add_sums.new.self c.in_ok-add_nodes.ensures.extends c.in_ok-after.ensures.extends
