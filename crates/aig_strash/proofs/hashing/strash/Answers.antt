use Rattle.aig_base.proofs.Words.{◌≡◌, ℕ, List, map, ap, ◌∙◌, MatchResult-weaker}
use Rattle.aig_circuit.specs.declared.node.AigNode.{AigNode}
use Rattle.aig_circuit.specs.Circuit.{Circuit, IsCircuit}
use Rattle.aig_strash.specs.Exchange.{image_of, kept_nodes, node_numbers}
use Rattle.aig_strash.proofs.Tables.{AreTables, AreTables-same}
use Rattle.aig_strash.proofs.hashing.strash.Goals as goal

-- the slices of the lists that were made of the circuit's nodes
tables_of : (c : Circuit) → IsCircuit c → (nodes : List AigNode) → nodes ≡ c.nodes → (made_numbers made_kept numbers kept : List ℕ) → numbers ≡ made_numbers → kept ≡ made_kept
    → made_numbers ≡ map (image_of nodes) (node_numbers nodes) → made_kept ≡ kept_nodes nodes → AreTables c numbers kept
tables_of c is nodes same made_numbers made_kept numbers kept e f made rest =
    AreTables-same c is numbers kept (e ∙ made ∙ ap (λ (l : List AigNode). map (image_of l) (node_numbers l)) same) (f ∙ rest ∙ ap kept_nodes same)

tables : (c : goal.After-deref-2) → AreTables c.args.circuit.now c.deref.result.now c.deref-2.result.now
tables c = tables_of c.args.circuit.now c.nodes.ensures.circuit c.nodes.result.now c.nodes.ensures.value c.in_ok-numbers.numbers.items c.in_ok-numbers.kept.items c.deref.result.now c.deref-2.result.now c.deref.ensures.value c.deref-2.ensures.value c.in_ok-numbers.ensures.numbers c.in_ok-numbers.ensures.kept

pub renumber-requires-clause-table : goal.renumber-requires-clause-table
renumber-requires-clause-table c = (tables c).count

pub renumber-requires-clause-there : goal.renumber-requires-clause-there
renumber-requires-clause-there c = (tables c).there

pub renumber-requires-clause-within : goal.renumber-requires-clause-within
renumber-requires-clause-within c = (tables c).within

pub renumber-requires-clause-places : goal.renumber-requires-clause-places
renumber-requires-clause-places c = (tables c).places

pub renumber-requires-clause-false_first : goal.renumber-requires-clause-false_first
renumber-requires-clause-false_first c = (tables c).false_first

pub returns : goal.returns
returns c =
    let tables = tables_of c.args.circuit.now c.nodes.ensures.circuit c.nodes.result.now c.nodes.ensures.value c.in_ok-numbers.numbers.items c.in_ok-numbers.kept.items c.deref.result.now c.deref-2.result.now c.deref.ensures.value c.deref-2.ensures.value c.in_ok-numbers.ensures.numbers c.in_ok-numbers.ensures.kept in
    MatchResult-weaker c.renumber.result c.renumber.ensures (λ lists made. made ∙ tables.circuit) (λ e h. tt)
