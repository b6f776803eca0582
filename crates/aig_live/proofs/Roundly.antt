-- The circuit that counts rounds, from its parts.
use Rattle.aig_base.proofs.Words.{◌≡◌, ℕ, ◌+◌, List, [], ◌∷◌, ◌++◌, length, sym, ap, ◌∙◌, arith, append-nil, length-append}
use Rattle.std.specs.Prelude.{codes}
use Rattle.aig_circuit.specs.declared.edge.AigEdge.{AigEdge}
use Rattle.aig_circuit.specs.declared.node.AigLatch.{AigLatch}
use Rattle.aig_circuit.proofs.Words.{Circuit, no_properties}
use Rattle.aig_live.specs.declared.counting.Counted.{Counted}
use Rattle.aig_live.specs.Counting.{AreCounted}
use Rattle.aig_live.specs.Live.{false_latches}
use Rattle.aig_live.specs.Names.{numbered, rounds_names, with_row}
use Rattle.aig_live.specs.Rounds.{IsRoundsOf}
use Rattle.aig_live.proofs.Rows.{numbered-long}

names_long : (edges : List AigEdge) (count : ℕ)
    → length (rounds_names (length edges) count) ≡ length edges + count
names_long edges count = omega (
  arith,
  length-append (numbered (codes "met ") 0 (length edges)) (numbered (codes "round ") 1 count),
  numbered-long (codes "met ") 0 (length edges),
  numbered-long (codes "round ") 1 count,
)

pub IsRoundsOf-made : (edges : List AigEdge) (count : ℕ) (c new : Circuit) (p : Counted)
    → AreCounted c.nodes new.nodes edges count p
    → new.latchs ≡ c.latchs ++ false_latches (length c.nodes) p.nexts.items
    → new
    ≡ record c {
      nodes = new.nodes;
      latchs = new.latchs;
      properties = record no_properties {
        bads = p.bad ∷ [];
        constraints = c.properties.constraints;
      };
      names = with_row c.names (length c.nodes) (rounds_names (length edges) count);
    }
    → IsRoundsOf edges count c new
IsRoundsOf-made edges count c new p are latchs rest =
    let with_lists : List ℕ → List AigLatch → Circuit = λ inputs ls. record c {
      nodes = new.nodes;
      inputs = inputs;
      latchs = ls;
      properties = record no_properties {
        bads = p.bad ∷ [];
        constraints = c.properties.constraints;
      };
      names = with_row c.names (length c.nodes) (rounds_names (length edges) count);
    } in
    let here : length c.nodes ≡ length c.nodes + 0 = omega arith in
    record {
      nexts = p.nexts.items;
      bad = p.bad;
      extended = record {
        nodes = are.grows;
        leaves = λ n low high. are.leaves n low (omega (arith, high, are.nexts_count));
        longer = omega (arith, are.longer, are.nexts_count);
        gates = λ n low high. are.gates n (omega (arith, low, are.nexts_count)) high;
        nexts_there = are.nexts_there;
        bad_there = are.bad_there;
        named = omega (arith, names_long edges count, are.nexts_count);
        rest = rest
            ∙ ap (with_lists c.inputs) (latchs ∙ ap (λ n. c.latchs ++ false_latches n p.nexts.items)
            here)
            ∙ ap (λ ins. with_lists ins (c.latchs ++ false_latches (length c.nodes + 0)
            p.nexts.items)) (sym (append-nil c.inputs));
      };
      few = are.few;
      nexts_count = are.nexts_count;
      met_values = are.met_values;
      ended_values = are.ended_values;
      bad_value = are.bad_value;
    }
