use Rattle.std.proofs.Common.{◌≡◌, ℕ, ◌+◌, ◌++◌, ◌∷◌, [], List, Vec, Global, length, map, arith, subst, sym, ◌∙◌, ap}
use Rattle.std.specs.FinMap.{FinMap}
use Rattle.std.specs.Ordering.{nat_cmp}
use Rattle.aig_base.proofs.Words.{All}
use Rattle.aig_circuit.specs.declared.edge.AigEdge.{AigEdge}
use Rattle.aig_circuit.specs.declared.node.AigNode.{AigNode}
use Rattle.aig_circuit.specs.declared.node.AigLatch.{AigLatch}
use Rattle.aig_circuit.proofs.Words.{AreNodes, Circuit, IsInRange, IsLatch, names_of}
use Rattle.aig_live.specs.Assembled.{AreParts}
use Rattle.aig_live.specs.Live.{false_latches}
use Rattle.aig_live.specs.Names.{live_names, with_row}
use Rattle.aig_live.proofs.Lived.{IsLiveOf-made}
use Rattle.aig_live.proofs.engine.live.Goals as goal

pub make_parts-requires : goal.make_parts-requires
make_parts-requires c =
    let same = c.in_ok-lists.ensures.copy in
    let nodes = ap (λ (m : Circuit). m.nodes) same in
    let is = c.latchs.ensures.circuit in
    let latchs = c.latchs.ensures.value in
    record {
      sound = subst AreNodes (sym nodes) is.nodes;
      room = omega (
        arith,
        c.requires.room,
        ap (λ (ns : List AigNode). length ns) nodes,
        ap (λ (ls :
            List AigLatch). length ls) latchs,
      );
      latches = subst (λ (ns : List AigNode). All (IsLatch ns) c.latchs.result.now) (sym nodes)
          (subst (All (IsLatch c.args.circuit.now.nodes)) (sym latchs) is.latchs);
      edges = subst (λ (ns : List AigNode). All (IsInRange ns) c.args.edges.now)
          (sym nodes) c.requires.edges;
    }

pub returns : goal.returns
returns c =
    let circuit = c.args.circuit.now in
    let edges = c.args.edges.now in
    let parts = c.in_ok-parts.parts in
    let same = c.in_ok-lists.ensures.copy in
    let n = length c.nodes-n.result.now in
    let is_n : n ≡ length circuit.nodes = ap (λ (ns : List AigNode). length ns)
    c.nodes-n.ensures.value in
    let count : length c.latchs-count.result.now ≡ length circuit.latchs = ap (λ (ls : List
    AigLatch). length ls) c.latchs-count.ensures.value in
    let shape : List AigEdge → List AigEdge → List AigEdge → List (List AigEdge) → List AigEdge
    → FinMap nat_cmp (List ℕ) → Circuit =
    λ o b k j f ns. record {
      nodes = c.make_parts.new.nodes.items;
      inputs = c.push.new.self.items;
      latchs = c.push_latches-3.new.latchs.items;
      properties = record { outputs = o; bads = b; constraints = k; justice = j; fairness = f };
      names = ns;
    } in
    let new = shape c.clear.new.self.items c.push-2.new.self.items
    c.in_ok-lists.lists.properties.constraints.items
    (map (λ (set : Vec AigEdge Global). set.items) c.clear-3.new.self.items)
    c.clear-4.new.self.items
    (names_of c.put_live_names.new.names.entries) in
    let outputs = c.clear.ensures.items in
    let bads = c.in_ok-push-2.ensures.items
    ∙ ap (λ (es : List AigEdge). es ++ parts.bad ∷ []) c.clear-2.ensures.items in
    let constraints = ap (λ (m : Circuit). m.properties.constraints) same in
    let justice = ap (map (λ (set : Vec AigEdge Global). set.items)) c.clear-3.ensures.items in
    let fairness = c.clear-4.ensures.items in
    let names : names_of c.put_live_names.new.names.entries
    ≡ with_row circuit.names (length circuit.nodes) (live_names circuit (length edges)) =
    c.in_ok-put_live_names.ensures
    ∙ ap (λ (m : Circuit). with_row m.names (length circuit.nodes)
    (live_names circuit (length edges))) same in
    let are : AreParts circuit.nodes c.make_parts.new.nodes.items circuit.latchs edges parts =
    subst (λ (ls : List AigLatch). AreParts circuit.nodes c.make_parts.new.nodes.items ls edges
    parts) c.latchs.ensures.value
    (subst (λ (ns : List AigNode). AreParts ns c.make_parts.new.nodes.items c.latchs.result.now
    edges parts) (ap (λ (m : Circuit). m.nodes) same)
    c.in_ok-parts.ensures) in
    let inputs : c.push.new.self.items ≡ circuit.inputs ++ length circuit.nodes ∷ [] =
    c.in_ok-push.ensures.items ∙ ap (λ (m : Circuit). m.inputs ++ n ∷ []) same
    ∙ ap (λ (m : ℕ). circuit.inputs ++ m ∷ []) is_n in
    let latchs : c.push_latches-3.new.latchs.items
    ≡ circuit.latchs ++ false_latches (length circuit.nodes + 1) (parts.active ∷ [])
    ++ false_latches (length circuit.nodes + 2) parts.starts.items
    ++ false_latches (length circuit.nodes + 2 + length circuit.latchs) parts.seen.items =
    c.in_ok-push_latches-3.ensures
    ∙ ap (λ (ls : List AigLatch). ls ++ false_latches
    (n + 2 + length c.latchs-count.result.now) c.deref-2.result.now)
    (c.in_ok-push_latches-2.ensures
    ∙ ap (λ (ls : List AigLatch). ls ++ false_latches (n + 2) c.deref.result.now)
    (c.in_ok-push_latches.ensures ∙ ap (λ (m : Circuit). m.latchs ++ false_latches (n + 1)
    (parts.active ∷ [])) same))
    ∙ ap (λ (es : List AigEdge). circuit.latchs ++ false_latches (n + 1)
    (parts.active ∷ []) ++ false_latches (n + 2) es ++ false_latches
    (n + 2 + length c.latchs-count.result.now) c.deref-2.result.now) c.deref.ensures.value
    ∙ ap (λ (es : List AigEdge). circuit.latchs ++ false_latches (n + 1)
    (parts.active ∷ []) ++ false_latches (n + 2) parts.starts.items ++ false_latches
    (n + 2 + length c.latchs-count.result.now) es) c.deref-2.ensures.value
    ∙ ap (λ (k : ℕ). circuit.latchs ++ false_latches (n + 1) (parts.active ∷ []) ++ false_latches
    (n + 2) parts.starts.items ++ false_latches (n + 2 + k) parts.seen.items) count
    ∙ ap (λ (m : ℕ). circuit.latchs ++ false_latches (m + 1) (parts.active ∷ []) ++ false_latches
    (m + 2) parts.starts.items ++ false_latches
    (m + 2 + length circuit.latchs) parts.seen.items) is_n in
    IsLiveOf-made edges circuit new parts are inputs latchs
    (λ i. shape (outputs i) (bads i) (constraints i) (justice i) (fairness i) (names i))
