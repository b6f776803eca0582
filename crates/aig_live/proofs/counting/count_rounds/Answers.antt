use Rattle.std.proofs.Common.{◌≡◌, ◌<◌, ◌+◌, ◌-◌, ◌++◌, List, true, length, get_or, arith, subst, sym, ◌∙◌, ap}
use Rattle.aig_base.proofs.Words.{All}
use Rattle.aig_circuit.specs.declared.edge.AigEdge.{AigEdge}
use Rattle.aig_circuit.specs.declared.node.AigNodeType.TheVariants.{False}
use Rattle.aig_circuit.specs.Build.{FoldsOrAddsAll}
use Rattle.aig_circuit.proofs.Trees.{kind_at-within}
use Rattle.aig_circuit.proofs.Words.{IsInRange, JoinsByAnd, edge_to}
use Rattle.aig_live.specs.Counting.{kept_of}
use Rattle.aig_live.specs.Making.{GivesEach, seen_of}
use Rattle.aig_live.proofs.Assembled.{GivesEach-there, there_grown}
use Rattle.aig_live.proofs.Counted.{are_counted, befores_there}
use Rattle.aig_live.proofs.counting.count_rounds.Goals as goal

pub seen_edges-requires : goal.seen_edges-requires
seen_edges-requires c =
    let leaves = c.in_ok-add_leaves.ensures in
    let long = leaves.long in
    let n1 = c.add_leaves.new.nodes.items in
    record {
      sound = leaves.grows.sound;
      active = subst (IsInRange n1) (sym c.constant.ensures)
          (kind_at-within n1 0 False leaves.grows.sound.false_first);
      leaves = omega (arith, long, c.len-n.ensures);
      edges = λ k d h. let there = c.requires.edges k d h in omega (arith, long, there);
    }

pub new_ands_node-requires : goal.new_ands_node-requires
new_ands_node-requires c =
    let n1 = c.add_leaves.new.nodes.items in
    let n2 = c.seen_edges.new.nodes.items in
    let edges = c.args.edges.now in
    record {
      sound = c.in_ok-met.ensures.gates.grows.sound;
      edges = subst (All (IsInRange n2)) (sym c.deref.ensures.value)
          (GivesEach-there 2 n1 n2 (seen_of n1 c.constant.result c.len-n.result edges)
          (length edges) c.in_ok-met.met.items c.in_ok-met.ensures);
    }

pub seen_edges-requires-2 : goal.seen_edges-requires-2
seen_edges-requires-2 c =
    let long = c.in_ok-add_leaves.ensures.long in
    let longer = c.in_ok-met.ensures.gates.grows.longer in
    let more = c.in_ok-ends.ensures.gates.grows.longer in
    let n1 = c.add_leaves.new.nodes.items in
    let n3 = c.new_ands_node.new.nodes.items in
    let first = c.len-n.result + length c.args.edges.now in
    let count = ap (λ (es : List AigEdge). length es) c.deref-2.ensures.value
    ∙ c.in_ok-befores.ensures.long in
    record {
      sound = c.in_ok-ends.ensures.gates.grows.sound;
      active = c.in_ok-ends.ensures.joins.gives.there;
      leaves = omega (arith, long, longer, more, count, c.len-n.ensures);
      edges = subst (All (IsInRange n3)) (sym c.deref-2.ensures.value)
          (befores_there n3 first c.args.count c.in_ok-befores.befores.items
          c.in_ok-ends.ensures.gates.grows.sound (omega (
            arith,
            long,
            longer,
            more,
            c.len-n.ensures,
          )) c.in_ok-befores.ensures);
    }

pub kept_edges-requires : goal.kept_edges-requires
kept_edges-requires c =
    let more = c.in_ok-ends.ensures.gates.grows in
    let most = c.in_ok-ended.ensures.gates.grows in
    let n1 = c.add_leaves.new.nodes.items in
    let n2 = c.seen_edges.new.nodes.items in
    let n3 = c.new_ands_node.new.nodes.items in
    let n4 = c.seen_edges-2.new.nodes.items in
    let edges = c.args.edges.now in
    let met = c.in_ok-met.met.items in
    record {
      sound = most.sound;
      ends = let there = c.in_ok-ends.ensures.joins.gives.there in let longer = most.longer in
          omega (arith, there, longer);
      edges = subst (All (IsInRange n4)) (sym c.deref-3.ensures.value)
          (there_grown n3 n4 met most (there_grown n2 n3 met more
          (GivesEach-there 2 n1 n2 (seen_of n1 c.constant.result c.len-n.result edges)
          (length edges) met c.in_ok-met.ensures)));
    }

pub returns : goal.returns
returns c =
    let n0 = c.args.nodes.now.items in
    let n1 = c.add_leaves.new.nodes.items in
    let n2 = c.seen_edges.new.nodes.items in
    let n3 = c.new_ands_node.new.nodes.items in
    let n4 = c.seen_edges-2.new.nodes.items in
    let n5 = c.kept_edges.new.nodes.items in
    let edges = c.args.edges.now in
    let count = c.args.count in
    let n = c.len-n.result in
    let first = n + length edges in
    let met = c.in_ok-met.met.items in
    let befores = c.in_ok-befores.befores.items in
    let ended = c.in_ok-ended.ended.items in
    let kept = c.in_ok-nexts.nexts.items in
    let ends = c.in_ok-ends.ends in
    let is_n : n ≡ length n0 = omega (arith, c.len-n.ensures) in
    let is_first : first ≡ length n0 + length edges = omega (arith, c.len-n.ensures) in
    are_counted n0 n1 n2 n3 n4 n5 edges count n first is_n is_first c.requires.sound
    c.requires.edges c.in_ok-add_leaves.ensures met befores ended kept ends
    (subst (λ (e : AigEdge). GivesEach 2 n1 n2 (seen_of n1 e n edges) (length edges) met)
    c.constant.ensures c.in_ok-met.ensures)
    c.in_ok-ends.ensures.gates
    (subst (λ (es : List AigEdge). FoldsOrAddsAll n2 es n3 ends) c.deref.ensures.value
    c.in_ok-ends.ensures.rule)
    (subst (λ (es : List AigEdge). JoinsByAnd n2 n3 es ends) c.deref.ensures.value
    c.in_ok-ends.ensures.joins)
    c.in_ok-befores.ensures
    (subst (λ (es : List AigEdge). GivesEach 2 n3 n4 (seen_of n3 ends first es) (length es) ended)
    c.deref-2.ensures.value c.in_ok-ended.ensures)
    (subst (λ (es : List AigEdge). GivesEach 1 n4 n5 (kept_of n4 ends es) (length es) kept)
    c.deref-3.ensures.value c.in_ok-nexts.ensures)
    c.extend_from_slice.new.self c.last_of-bad.result
    (c.in_ok-extend_from_slice.ensures.items
    ∙ ap (λ (es : List AigEdge). kept ++ es) c.deref-4.ensures.value)
    (subst (λ (es : List AigEdge). length es ≡ 0 → c.last_of-bad.result ≡ edge_to 0 true)
    c.deref-5.ensures.value c.last_of-bad.ensures.none)
    (subst (λ (es : List AigEdge). (d : AigEdge) → 0 < length es
    → c.last_of-bad.result ≡ get_or es (length es - 1) d) c.deref-5.ensures.value
    c.last_of-bad.ensures.some)
