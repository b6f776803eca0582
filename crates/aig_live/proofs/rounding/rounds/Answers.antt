use Rattle.std.proofs.Common.{◌≡◌, ℕ, ◌++◌, ◌∷◌, [], List, Vec, Global, length, map, arith, subst, sym, ◌∙◌, ap}
use Rattle.std.specs.FinMap.{FinMap}
use Rattle.std.specs.Ordering.{nat_cmp}
use Rattle.aig_base.proofs.Words.{All}
use Rattle.aig_circuit.specs.declared.edge.AigEdge.{AigEdge}
use Rattle.aig_circuit.specs.declared.node.AigNode.{AigNode}
use Rattle.aig_circuit.proofs.Words.{AreNodes, Circuit, IsInRange, names_of}
use Rattle.aig_live.specs.Counting.{AreCounted}
use Rattle.aig_live.specs.Live.{false_latches}
use Rattle.aig_live.specs.Names.{rounds_names, with_row}
use Rattle.aig_live.proofs.Roundly.{IsRoundsOf-made}
use Rattle.aig_live.proofs.rounding.rounds.Goals as goal

pub count_rounds-requires : goal.count_rounds-requires
count_rounds-requires c =
    let same = c.in_ok-lists.ensures.copy in
    let nodes = ap (λ (m : Circuit). m.nodes) same in
    let is = c.nodes-n.ensures.circuit in
    record {
      sound = subst AreNodes (sym nodes) is.nodes;
      room = omega (arith, c.requires.room, ap (λ (ns : List AigNode). length ns) nodes);
      edges = subst (λ (ns : List AigNode). All (IsInRange ns) c.args.edges.now)
          (sym nodes) c.requires.edges;
    }

pub returns : goal.returns
returns c =
    let circuit = c.args.circuit.now in
    let edges = c.args.edges.now in
    let count = c.args.count in
    let counted = c.in_ok-counted.counted in
    let same = c.in_ok-lists.ensures.copy in
    let n = length c.nodes-n.result.now in
    let is_n : n ≡ length circuit.nodes = ap (λ (ns : List AigNode). length ns)
    c.nodes-n.ensures.value in
    let shape : List AigEdge → List AigEdge → List AigEdge → List (List AigEdge) → List AigEdge
    → FinMap nat_cmp (List ℕ) → List ℕ → Circuit =
    λ o b k j f ns ins. record {
      nodes = c.count_rounds.new.nodes.items;
      inputs = ins;
      latchs = c.push_latches.new.latchs.items;
      properties = record { outputs = o; bads = b; constraints = k; justice = j; fairness = f };
      names = ns;
    } in
    let new = shape c.clear.new.self.items c.push.new.self.items
    c.in_ok-lists.lists.properties.constraints.items
    (map (λ (set : Vec AigEdge Global). set.items) c.clear-3.new.self.items)
    c.clear-4.new.self.items
    (names_of c.put_rounds_names.new.names.entries) c.in_ok-lists.lists.inputs.items in
    let outputs = c.clear.ensures.items in
    let bads = c.in_ok-push.ensures.items
    ∙ ap (λ (es : List AigEdge). es ++ counted.bad ∷ []) c.clear-2.ensures.items in
    let constraints = ap (λ (m : Circuit). m.properties.constraints) same in
    let justice = ap (map (λ (set : Vec AigEdge Global). set.items)) c.clear-3.ensures.items in
    let fairness = c.clear-4.ensures.items in
    let names : names_of c.put_rounds_names.new.names.entries
    ≡ with_row circuit.names (length circuit.nodes) (rounds_names (length edges) count) =
    c.in_ok-put_rounds_names.ensures
    ∙ ap (λ (m : Circuit). with_row m.names n (rounds_names (length edges) count)) same
    ∙ ap (λ (m : ℕ). with_row circuit.names m (rounds_names (length edges) count)) is_n in
    let inputs = ap (λ (m : Circuit). m.inputs) same in
    let are : AreCounted circuit.nodes c.count_rounds.new.nodes.items edges count counted =
    subst (λ (ns : List AigNode). AreCounted ns c.count_rounds.new.nodes.items edges count counted)
    (ap (λ (m : Circuit). m.nodes) same) c.in_ok-counted.ensures in
    let latchs : c.push_latches.new.latchs.items
    ≡ circuit.latchs ++ false_latches (length circuit.nodes) counted.nexts.items =
    c.in_ok-push_latches.ensures
    ∙ ap (λ (m : Circuit). m.latchs ++ false_latches n c.deref.result.now) same
    ∙ ap (λ (es : List AigEdge). circuit.latchs ++ false_latches n es) c.deref.ensures.value
    ∙ ap (λ (m : ℕ). circuit.latchs ++ false_latches m counted.nexts.items) is_n in
    IsRoundsOf-made edges count circuit new counted are latchs
    (λ i. shape (outputs i) (bads i) (constraints i) (justice i) (fairness i) (names i) (inputs i))
