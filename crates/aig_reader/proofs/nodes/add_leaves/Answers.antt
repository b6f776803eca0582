use Rattle.std.proofs.Common.{◌≡◌, ◌≤◌, ℕ, length, max, refl, sym, ap, vec_len, ◌∙◌, arith}
use Rattle.std.proofs.Math.Nat.{le-max_left, le-max_right, max-le}
use Rattle.aig_circuit.specs.declared.node.AigNode.{AigNode}
use Rattle.aig_circuit.specs.declared.node.AigNodeType.TheVariants.{Leaf}
use Rattle.aig_reader.proofs.PlacedNodes.{first_leaf}
use Rattle.aig_reader.proofs.nodes.add_leaves.Goals as goal

pub loop-id-init : goal.loop-id-init
loop-id-init c = record {
  exact = λ gates h. h;
  len = sym c.len-id.ensures;
  from = omega (arith, c.len-id.ensures);
  upto = omega (arith, c.len-id.ensures, le-max_left (vec_len c.args.nodes.now) c.args.len);
  capacity = refl;
}

pub loop-id-preserved : goal.loop-id-preserved
loop-id-preserved c =
    let now = c.loop-id.nodes in
    let here : c.loop-id.id ≡ length now.items = sym c.loop-id.invariant.len ∙ now.ok.0 in
    let leaf : ℕ → AigNode = λ n. record { node_id = n; typ = Leaf } in record {
      exact = λ gates h. rw c.push_reserved.ensures.items (first_leaf gates now.items c.leaf_node.result (c.loop-id.invariant.exact gates h) (c.leaf_node.ensures ∙ ap leaf here));
      len = omega (arith, c.push_reserved.ensures.len, c.loop-id.invariant.len);
      from = omega (arith, c.loop-id.invariant.from);
      upto = omega (arith, c.loop-id-test.true, le-max_right (vec_len c.args.nodes.now) c.args.len);
      capacity = c.push_reserved.ensures.capacity ∙ c.loop-id.invariant.capacity;
    }

pub returns-clause-len : goal.returns-clause-len
returns-clause-len c =
    let upto = c.loop-id.invariant.upto in
    let all : max (vec_len c.args.nodes.now) c.args.len ≤ c.loop-id.id = max-le c.loop-id.invariant.from (omega (arith, c.loop-id-test.false)) in
    omega (arith, c.loop-id.invariant.len, upto, all)
