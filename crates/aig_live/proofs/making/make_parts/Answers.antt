use Rattle.std.proofs.Common.{◌≡◌, ◌<◌, ◌+◌, ◌++◌, ◌∷◌, [], List, length, get_or, arith, subst, sym, ◌∙◌, ap}
use Rattle.aig_circuit.specs.declared.edge.AigEdge.{AigEdge}
use Rattle.aig_circuit.proofs.Words.{IsInRange}
use Rattle.aig_circuit.proofs.Trees.{kind_at-within}
use Rattle.aig_circuit.specs.declared.node.AigNodeType.TheVariants.{Leaf}
use Rattle.aig_circuit.proofs.Words.{inverse}
use Rattle.aig_live.proofs.Assembled.{are_parts, every_there}
use Rattle.aig_live.proofs.Made.{fold_few}
use Rattle.std.proofs.Common.{All}
use Rattle.aig_live.proofs.making.make_parts.Goals as goal

pub new_or_node-requires : goal.new_or_node-requires
new_or_node-requires c =
    let leaves = c.in_ok-add_leaves.ensures in
    let long = leaves.long in
    record {
      sound = leaves.grows.sound;
      first = subst (λ (e : AigEdge). e.node_id < length c.add_leaves.new.nodes.items)
          (sym c.from-saved.ensures) (let low : c.len-n.result + 1 < length
          c.add_leaves.new.nodes.items = omega (arith, long, c.len-n.ensures) in low);
      second = subst (λ (e : AigEdge). e.node_id < length c.add_leaves.new.nodes.items)
          (sym c.from.ensures) (let low : c.len-n.result < length c.add_leaves.new.nodes.items =
          omega (arith, long, c.len-n.ensures) in low);
    }

pub start_edges-requires : goal.start_edges-requires
start_edges-requires c =
    let leaves = c.in_ok-add_leaves.ensures in
    let long = leaves.long in
    let longer = c.in_ok-active.ensures.gates.grows.longer in
    record {
      sound = c.in_ok-active.ensures.gates.grows.sound;
      saved = subst (λ (e : AigEdge). e.node_id < length c.new_or_node.new.nodes.items)
          (sym c.from-saved.ensures) (let low : c.len-n.result + 1 < length
          c.new_or_node.new.nodes.items = omega (arith, long, longer, c.len-n.ensures) in low);
      leaves = omega (arith, long, longer, c.len-n.ensures);
      latches = λ k d h.
          let there = kind_at-within c.args.nodes.now.items
          (get_or c.args.latchs.now k d).input Leaf (c.requires.latches k d h).leaf in
          omega (arith, long, longer, there);
    }

pub seen_edges-requires : goal.seen_edges-requires
seen_edges-requires c =
    let leaves = c.in_ok-add_leaves.ensures in
    let long = leaves.long in
    let longer = c.in_ok-active.ensures.gates.grows.longer in
    let more = c.in_ok-starts.ensures.gates.grows.longer in
    record {
      sound = c.in_ok-starts.ensures.gates.grows.sound;
      active = omega (arith, more, c.in_ok-active.ensures.gives.there);
      leaves = omega (arith, long, longer, more, c.len-n.ensures);
      edges = λ k d h. omega (arith, long, longer, more, c.requires.edges k d h);
    }

pub same_edges-requires : goal.same_edges-requires
same_edges-requires c =
    let long = c.in_ok-add_leaves.ensures.long in
    let longer = c.in_ok-active.ensures.gates.grows.longer in
    let more = c.in_ok-starts.ensures.gates.grows.longer in
    let most = c.in_ok-seen.ensures.gates.grows.longer in
    record {
      sound = c.in_ok-seen.ensures.gates.grows.sound;
      count = ap length c.deref.ensures.value ∙ c.in_ok-starts.ensures.long;
      latches = λ k d h. omega (arith, long, longer, more, most, (c.requires.latches k d h).next);
      starts = subst (All (IsInRange c.seen_edges.new.nodes.items)) (sym c.deref.ensures.value)
          (λ k d h.
          let there = (c.in_ok-starts.ensures.each k d (omega
          (arith, h, c.in_ok-starts.ensures.long))).there in
          omega (arith, there, most));
    }

-- all edges of which the and is taken
every_is : (all more whole pushed seen same : List AigEdge) (active : AigEdge) → all ≡ pushed
    → pushed ≡ more ++ active ∷ [] → more ≡ same ++ whole → whole ≡ seen
    → all ≡ (same ++ seen) ++ active ∷ []
every_is all more whole pushed seen same active is last joined read =
    is ∙ last ∙ ap (λ (es : List AigEdge). es ++ active ∷ []) (joined
    ∙ ap (λ (es : List AigEdge). same ++ es) read)

pub new_ands_node-requires : goal.new_ands_node-requires
new_ands_node-requires c =
    record {
      sound = c.in_ok-all.ensures.gates.grows.sound;
      edges = every_there c.args.nodes.now.items c.new_or_node.new.nodes.items
          c.start_edges.new.nodes.items c.seen_edges.new.nodes.items c.same_edges.new.nodes.items
          c.args.latchs.now c.args.edges.now c.from-saved.result c.in_ok-active.active
          (c.len-n.result + 2) (c.len-n.result + 2 + length c.args.latchs.now) c.in_ok-all.all.items
          c.in_ok-seen.seen.items c.deref.result.now c.deref-3.result.now
          c.in_ok-starts.starts.items c.in_ok-starts.ensures c.in_ok-seen.ensures
          c.in_ok-all.ensures c.in_ok-active.ensures.gives.there
          (every_is _ _ _ _ _ _ _ c.deref-3.ensures.value c.in_ok-push.ensures.items
          c.in_ok-extend_from_slice.ensures.items c.deref-2.ensures.value);
    }

pub returns : goal.returns
returns c =
    let is_n : c.len-n.result ≡ length c.args.nodes.now.items = omega (arith, c.len-n.ensures) in
    let saved = c.from-saved.result in
    let save = c.from.result in
    let one = fold_few c.add_leaves.new.nodes.items c.new_or_node.new.nodes.items (inverse saved)
    (inverse save) (inverse c.in_ok-active.active) c.in_ok-active.ensures.rule in
    are_parts c.args.nodes.now.items c.add_leaves.new.nodes.items c.new_or_node.new.nodes.items
    c.start_edges.new.nodes.items c.seen_edges.new.nodes.items c.same_edges.new.nodes.items
    c.new_ands_node.new.nodes.items c.args.latchs.now c.args.edges.now c.len-n.result is_n
    c.requires.sound c.requires.latches c.requires.edges c.in_ok-add_leaves.ensures saved save
    c.in_ok-active.active c.from-saved.ensures c.from.ensures c.in_ok-active.ensures.gates one
    c.in_ok-active.ensures.gives c.in_ok-starts.starts c.in_ok-seen.seen c.in_ok-all.all.items
    c.deref.result.now c.deref-3.result.now c.in_ok-bad.bad c.in_ok-starts.ensures
    c.in_ok-seen.ensures c.deref.ensures.value c.in_ok-all.ensures
    (every_is _ _ _ _ _ _ _ c.deref-3.ensures.value c.in_ok-push.ensures.items
    c.in_ok-extend_from_slice.ensures.items c.deref-2.ensures.value)
    c.in_ok-bad.ensures.gates c.in_ok-bad.ensures.rule c.in_ok-bad.ensures.joins
