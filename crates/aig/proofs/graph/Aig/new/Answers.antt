use Rattle.std.proofs.Common.{◌≡◌, sym, subst, rules}
use Rattle.aig_circuit.specs.Circuit.{IsCircuit, only_false}
use Rattle.aig_circuit.proofs.Circuits.{IsCircuit-only_false}
use Rattle.aig.specs.View.{circuit_of_lists}
use Rattle.aig.proofs.graph.Aig.new.Goals as goal

pub invariant_of-result : goal.invariant_of-result
invariant_of-result c =
    let e : circuit_of_lists (record {
      lists = record {
        nodes = c.push.new.self;
        inputs = c.new.result;
        latchs = c.new-2.result;
        properties = c.new-3.result;
        names = c.new-4.result;
      };
    }) ≡ only_false = search rules in
    subst IsCircuit (sym e) IsCircuit-only_false
