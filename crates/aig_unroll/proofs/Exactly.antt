-- What one step adds, counted.
use Rattle.aig_base.proofs.Words.{◌≡◌, ℕ, ◌+◌, ◌<◌, ◌≤◌, ◌⊎◌, Bool, true, Some, length, sym, ap, subst, ◌∙◌, arith, inl, inr, length-append, Contains, length-map, Contains-append_right}
use Rattle.aig_circuit.specs.declared.edge.AigEdge.{AigEdge}
use Rattle.aig_circuit.specs.declared.node.AigNodeType.{AigNodeType}
use Rattle.aig_circuit.specs.declared.node.AigNodeType.TheVariants.{False, Leaf, And}
use Rattle.aig_circuit.specs.declared.node.AigLatch.{AigLatch}
use Rattle.aig_circuit.proofs.Words.{kind_at, Circuit, IsCircuit, IsLeaf, edge_value}
use Rattle.aig_circuit.proofs.Listed.{AreProperties-weaker}
use Rattle.aig_circuit.proofs.Trees.{kind_at-there, kind_at-within}
use Rattle.aig_unroll.specs.Places.{leaves_after}
use Rattle.aig_unroll.specs.Unroll.{AddsExactly, ReadsNext, UnrollsOnce}
use Rattle.aig_unroll.proofs.Added.{following-have}

module _ (from old new : Circuit) (is_old : IsCircuit old) (once : UnrollsOnce from old new) where
  -- all leaves true
  abbrev all_true : ℕ → Bool
  all_true n = true

  -- the values of a step under these
  abbrev read : (x : ℕ → Bool) × ReadsNext from old (leaves_after (length old.nodes) new.nodes) all_true x
  read = once.reads all_true

  pub counted : AddsExactly from old new
  counted = record {
    nodes = λ n h l. let k = kind_at-there new.nodes n l in node n h l k.0 k.1;
    inputs = ap length once.keeps.inputs ∙ length-append old.inputs (leaves_after (length old.nodes) new.nodes) ∙ ap (λ m. length old.inputs + m) once.count;
    latchs = sym (length-map new.latchs (λ (l : AigLatch). l.input)) ∙ ap length once.keeps.leaves ∙ length-map old.latchs (λ (l : AigLatch). l.input);
    added = once.added;
    properties = once.with_added;
    as_many = AreProperties-weaker (λ e f. edge_value new.nodes all_true f ≡ edge_value from.nodes read.0 e) (λ e f. Unit {0}) (λ e f h. tt) from.properties once.added (once.values all_true read.0 read.1).0;
  }
    where
      node : (n : ℕ) → length old.nodes ≤ n → n < length new.nodes → (k : AigNodeType) → kind_at new.nodes n ≡ Some k → (IsLeaf new.nodes n × Contains new.inputs n) ⊎ ((a b : AigEdge) × (kind_at new.nodes n ≡ Some (And a b)))
      node n h l (And a b) is = inr (a, b, is)
      node n h l Leaf is =
          let has = following-have new.nodes once.keeps.nodes.sound (length old.nodes) n is h in
          inl (is, subst (λ inputs. Contains inputs n) (sym once.keeps.inputs) (Contains-append_right old.inputs (leaves_after (length old.nodes) new.nodes) n has))
      node n h l False is = absurd (omega (arith, once.keeps.nodes.sound.false_once n is, kind_at-within old.nodes 0 False is_old.nodes.false_first))
