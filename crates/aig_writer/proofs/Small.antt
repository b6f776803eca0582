-- The literals of a circuit's nodes fit.
use Rattle.aig_base.proofs.Words.{inl, inr, ◌≡◌, ℕ, ◌^◌, ◌<◌, ◌≤◌, Option, Some, None, List, [], length, map, get_or, refl, sym, subst, ap, ◌∙◌, arith, cases_lt, All-weaker, slice_get-get_or}
use Rattle.std.specs.Prelude.{All, IfSome, Vec, option_map}
use Rattle.std.specs.declared.alloc.Global.{Global}
use Rattle.std.proofs.lemmas.List.{get_or_past, get_or-map, length-map}
use Rattle.aig_circuit.specs.declared.edge.AigEdge.{AigEdge}
use Rattle.aig_circuit.specs.declared.prop_list.PropList.{PropList}
use Rattle.aig_circuit.specs.declared.prop_list.PropList.TheVariants.{Outputs, Bads, Constraints, Fairness}
use Rattle.aig_circuit.specs.declared.node.AigNodeType.TheVariants.{Leaf}
use Rattle.aig_circuit.specs.declared.node.AigNode.{AigNode}
use Rattle.aig_circuit.specs.declared.node.AigLatch.{AigLatch}
use Rattle.aig_circuit.proofs.Words.{Circuit, IsCircuit, IsClosed, IsInRange, edges_of}
use Rattle.aig_circuit.proofs.Trees.{kind_at-within}
use Rattle.aig_format.specs.declared.FileKind.TheVariants.{Text, Binary}
use Rattle.aig_writer.specs.Forms.{FitsForm}
use Rattle.aig_writer.specs.Literals.{HasLiteral, HasSmallNumbers, IsSmallEdge, IsSmallLatch, IsSmallNode}
use Rattle.aig_writer.specs.Numbering.{IsBinaryNumbering}

-- ---- what is to be written fits

pub FitsForm-text : (c : Circuit) → length c.nodes ≤ 2 ^ 63 → FitsForm Text c []
FitsForm-text c few = record { small = λ n h. omega arith; text = λ is. refl; binary = λ is. cc }

pub FitsForm-binary : (c : Circuit) (table : List ℕ) → IsClosed c → length c.nodes ≤ 2 ^ 31
    → IsBinaryNumbering c table → FitsForm Binary c table
FitsForm-binary c table closed few has = record {
  small = λ n h. elim (cases_lt n (length table)) [
    | inl within ↦ (let low = has.within n n within in omega arith)
    | inr past ↦ (let same = get_or_past table n n past in let low : n < 2 ^ 63 = omega arith in rw same low)
  ];
  text = λ is. cc;
  binary = λ is. record { closed = closed; few = few; numbering = has };
}

-- ---- entries of a circuit

module _ (c : Circuit) (is : IsCircuit c) (table : List ℕ) (small : HasSmallNumbers c table) where
  pub input_small : (inputs : List ℕ) (k : ℕ) → inputs ≡ c.inputs → k < length inputs
      → HasLiteral table (get_or inputs k 0)
  input_small inputs k same h =
      let low : k < length c.inputs = omega (arith, ap length same) in
      subst (λ (ns : List ℕ). HasLiteral table (get_or ns k 0)) (sym same) (small (get_or c.inputs k 0) (kind_at-within c.nodes (get_or c.inputs k 0) Leaf (is.inputs k 0 low)))

  edges_small : (es : List AigEdge) → All (IsInRange c.nodes) es → All (IsSmallEdge table) es
  edges_small es all = All-weaker (IsInRange c.nodes) (IsSmallEdge table) (λ e h. small e.node_id h) es all

  pub list_small : (list : PropList) → All (IsSmallEdge table) (edges_of list c)
  list_small Outputs = edges_small c.properties.outputs is.properties.outputs
  list_small Bads = edges_small c.properties.bads is.properties.bads
  list_small Constraints = edges_small c.properties.constraints is.properties.constraints
  list_small Fairness = edges_small c.properties.fairness is.properties.fairness

  pub sets_small : (sets : List (Vec AigEdge Global))
      → map (λ (set : Vec AigEdge Global). set.items) sets ≡ c.properties.justice
      → All (λ (set : Vec AigEdge Global). All (IsSmallEdge table) set.items) sets
  sets_small sets same = λ k d lt.
      let read = get_or-map (λ (set : Vec AigEdge Global). set.items) sets k d d.items lt in
      let all : All (All (IsInRange c.nodes)) (map (λ (set : Vec AigEdge Global). set.items) sets) = rw same is.properties.justice in
      edges_small (get_or sets k d).items (subst (All (IsInRange c.nodes)) read (all k d.items (let e = length-map sets (λ (set : Vec AigEdge Global). set.items) in omega arith)))

  init_small : (o : Option AigEdge) → IfSome o (IsInRange c.nodes) → IfSome o (IsSmallEdge table)
  init_small (Some e) h = small e.node_id h
  init_small None h = h

  pub latch_small : (latchs : List AigLatch) (k : ℕ) (d : AigLatch) → latchs ≡ c.latchs
      → k < length latchs → IsSmallLatch table (get_or latchs k d)
  latch_small latchs k d same h =
      let low : k < length c.latchs = omega (arith, ap length same) in
      let l = get_or c.latchs k d in
      let latch = is.latchs k d low in
      subst (λ (ls : List AigLatch). IsSmallLatch table (get_or ls k d)) (sym same) (record {
        leaf = small l.input (kind_at-within c.nodes l.input Leaf latch.leaf);
        next = small l.next.node_id latch.next;
        init = init_small l.init latch.init;
      })

  pub node_small : (nodes : List AigNode) (k : ℕ) (d : AigNode) → nodes ≡ c.nodes → k < length nodes
      → IsSmallNode table (get_or nodes k d)
  node_small nodes k d same h =
      let low : k < length c.nodes = omega (arith, ap length same) in
      let node = get_or c.nodes k d in
      let here = slice_get-get_or c.nodes k d low in
      subst (λ (ns : List AigNode). IsSmallNode table (get_or ns k d)) (sym same) (record {
        own = small node.node_id (let at = is.nodes.numbered k node here in omega arith);
        operands = λ a b typ.
            let gate = ap (option_map (λ (x : AigNode). x.typ)) here ∙ ap Some typ in
            let first = is.nodes.ordered.first_before k a b gate in
            let second = is.nodes.ordered.second_before k a b gate in
            (small a.node_id (omega arith), small b.node_id (omega arith));
      })
