-- Constant starts that a state has.
use Rattle.aig_base.proofs.Words.{◌≡◌, ℕ, Bool, true, false, Some, None, Option, List, get_or, refl, sym, ap, subst, ◌∙◌, IfSome, AllZip}
use Rattle.aig_base.specs.declared.logic.three.Lbool.{Lbool}
use Rattle.aig_base.specs.declared.logic.three.Lbool.TheVariants.{NONE}
use Rattle.aig_base.specs.Three.{Agrees}
use Rattle.aig_circuit.specs.declared.edge.AigEdge.{AigEdge}
use Rattle.aig_circuit.specs.declared.node.AigLatch.{AigLatch}
use Rattle.aig_circuit.proofs.Words.{inverted_if, edge_value, node_value, Circuit, IsCircuit, latch_leaves, IsInitial}
use Rattle.aig_circuit.proofs.Trees.{node_value-false}
use Rattle.aig_unroll.proofs.Lists.{zip_at}
use Rattle.aig_witness.specs.Shown.{AreStarts, known_of}
use Rattle.aig_witness.proofs.Zips.{zip_unmade}

pub known_is : (b value : Bool) → Agrees (known_of b) value → value ≡ b
known_is true value h = h
known_is false value h = h

constant_value : (b : Bool) → inverted_if b false ≡ b
constant_value true = refl
constant_value false = refl

-- a constant edge has the value that it says
pub constant_edge : (c : Circuit) → IsCircuit c → (x : ℕ → Bool) (e : AigEdge) → e.node_id ≡ 0 → edge_value c.nodes x e ≡ e.compl
constant_edge c circuit x e zero_node =
    ap (inverted_if e.compl) (ap (node_value c.nodes x) zero_node ∙ node_value-false c.nodes x 0 circuit.nodes.false_first) ∙ constant_value e.compl

-- starts that the state has are an initial state of what agrees with it
pub starts_hold : (c : Circuit) (state : List Lbool) → IsCircuit c → AreStarts c.latchs state → (x : ℕ → Bool) → AllZip (λ n known. Agrees known (x n)) (latch_leaves c.latchs) state → IsInitial c x
starts_hold c state circuit starts x given i d h =
    let latch = get_or c.latchs i d in
    let Is = λ (l : AigLatch) (known : Lbool). Agrees known (x l.input) in
    let zip = zip_unmade (λ (l : AigLatch). l.input) (λ n known. Agrees known (x n)) c.latchs state given in
    by latch.init (starts i d h) (zip_at Is c.latchs state i d NONE zip h)
  where
    by : (init : Option AigEdge) → IfSome init (λ e. (e.node_id ≡ 0) × (get_or state i NONE ≡ known_of e.compl)) → Agrees (get_or state i NONE) (x (get_or c.latchs i d).input)
        → IfSome init (λ e. edge_value c.nodes x e ≡ x (get_or c.latchs i d).input)
    by None s a = tt
    by (Some e) s a =
        let leaf : x (get_or c.latchs i d).input ≡ e.compl = known_is e.compl (x (get_or c.latchs i d).input) (subst (λ known. Agrees known (x (get_or c.latchs i d).input)) s.1 a) in
        constant_edge c circuit x e s.0 ∙ sym leaf
