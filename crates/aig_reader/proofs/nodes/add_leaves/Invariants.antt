use Rattle.aig_base.proofs.Words.{◌≡◌, ◌≤◌, List, max, vec_len, vec_capacity}
use Rattle.aig_format.specs.File.{GateLine}
use Rattle.aig_reader.specs.Gates.{AreFirstNodes}
use Rattle.aig_reader.proofs.nodes.add_leaves.Given as goal

abbrev pub invariant-loop-id : goal.invariant-loop-id
invariant-loop-id l = record {
  exact : (gates : List GateLine) → AreFirstNodes gates l.fn.nodes.items → AreFirstNodes gates l.nodes.items;
  len : vec_len l.nodes ≡ l.id;
  from : vec_len l.fn.nodes ≤ l.id;
  upto : l.id ≤ max (vec_len l.fn.nodes) l.fn.len;
  capacity : vec_capacity l.nodes ≡ vec_capacity l.fn.nodes;
}
