-- The initial states of a file's machine are those of its circuit.
use Rattle.aig_base.proofs.Words.{◌≡◌, ◌↔◌, ℕ, zero, suc, ◌/◌, ◌≤◌, Bool, true, false, cond, Option, Some, None, List, sym, ap, ◌∙◌, arith, IfSome, nat_lt, unwrap_or, ◌==◌, AllByRecursion, ne_eqb, nat_tests, All-from_recursion, recursion_from_All}
use Rattle.aig_circuit.specs.declared.edge.AigEdge.{AigEdge}
use Rattle.aig_circuit.specs.declared.node.AigNode.{AigNode}
use Rattle.aig_circuit.specs.declared.node.AigNodeType.TheVariants.{False}
use Rattle.aig_circuit.specs.declared.node.AigLatch.{AigLatch}
use Rattle.aig_circuit.proofs.Words.{edge_to, inverted_if, kind_at, IsLatch, IsLeaf, edge_value, IsInitial}
use Rattle.aig_circuit.proofs.Trees.{node_value-false, node_value-leaf}
use Rattle.aig_format.proofs.Words.{File, LatchLine, Fits, IsKnown, node_of_variable, circuit_of, latch_of}
use Rattle.aig_format.specs.Machine as machine
use Rattle.aig_format.proofs.Entries.{rec_both, rec_map, rec_unmap, rec_weaker}
use Rattle.aig_format.proofs.Circuits.{IsCircuit-of_file}
use Rattle.aig_format_laws.specs.Nodes.{HasNodeValues}
use Rattle.aig_format_laws.proofs.Joining.{latches_known}

-- the initial edge and the start of a reset say the same of a value
module _ (nodes : List AigNode) (x : ℕ → Bool) (zero_false : kind_at nodes 0 ≡ Some False) (w w' : Bool) (same : w ≡ w') where
  abbrev OfCircuit : Option AigEdge → Type 0
  OfCircuit o = IfSome o (λ e. edge_value nodes x e ≡ w')

  abbrev OfMachine : Option Bool → Type 0
  OfMachine o = IfSome o (λ b. w ≡ b)

  constant_is : (i : Bool) → edge_value nodes x (edge_to 0 i) ≡ i
  constant_is true = ap_not (node_value-false nodes x 0 zero_false)
    where
      ap_not : {b : Bool} → b ≡ false → inverted_if true b ≡ true
      ap_not e = ap (inverted_if true) e
  constant_is false = node_value-false nodes x 0 zero_false

  none_says : (a b d i : Bool) → a ≡ false → b ≡ false → d ≡ false → OfMachine (cond a (Some false) (cond b (Some true) None)) ↔ OfCircuit (cond d (Some (edge_to 0 i)) None)
  none_says false false false i e1 e2 e3 = (λ h. tt, λ h. tt)
  none_says false false true i e1 e2 e3 = cc
  none_says false true d i e1 e2 e3 = cc
  none_says true b d i e1 e2 e3 = cc

  by_reset : (r : ℕ) → OfMachine (cond (r == 0) (Some false) (cond (r == 1) (Some true) None)) ↔ OfCircuit (cond (nat_lt r 2) (Some (edge_to 0 (r == 1))) None)
  by_reset zero = (λ h. constant_is false ∙ sym h ∙ same, λ h. same ∙ sym h ∙ constant_is false)
  by_reset (suc zero) = (λ h. constant_is true ∙ sym h ∙ same, λ h. same ∙ sym h ∙ constant_is true)
  by_reset (suc (suc r)) =
      let large : nat_lt (suc (suc r)) 2 ≡ false = grind (arith, nat_tests) in
      none_says (suc (suc r) == 0) (suc (suc r) == 1) (nat_lt (suc (suc r)) 2) (suc (suc r) == 1) (ne_eqb (suc (suc r)) 0 (λ e. absurd (omega arith))) (ne_eqb (suc (suc r)) 1 (λ e. absurd (omega arith))) large

pub starts_agree : (f : File) (limit last : ℕ) (x run : ℕ → ℕ → Bool) → Fits f limit → HasNodeValues f last x run → machine.IsMachineInitial f run ↔ IsInitial (circuit_of f) (x 0)
starts_agree f limit last x run fits same = (forth, back)
  where
    c_nodes : List AigNode
    c_nodes = (circuit_of f).nodes

    Starts : LatchLine → Type 0
    Starts l = IfSome (machine.initial_value_of l) (λ b. run 0 (l.literal / 2) ≡ b)

    Begins : AigLatch → Type 0
    Begins latch = IfSome latch.init (λ e. edge_value (circuit_of f).nodes (x 0) e ≡ x 0 latch.input)

    Known : LatchLine → Type 0
    Known l = IsKnown f l.literal × IsLeaf (circuit_of f).nodes (node_of_variable f (l.literal / 2))

    known : AllByRecursion Known f.latches
    known =
        let are = rec_unmap (IsLatch (circuit_of f).nodes) (latch_of f) f.latches (recursion_from_All (IsLatch (circuit_of f).nodes) (circuit_of f).latchs (IsCircuit-of_file f limit fits).latchs) in
        rec_both (λ (l : LatchLine). IsKnown f l.literal) (λ (l : LatchLine). IsLeaf (circuit_of f).nodes (node_of_variable f (l.literal / 2))) f.latches (latches_known f)
        (rec_weaker (λ (l : LatchLine). IsLatch (circuit_of f).nodes (latch_of f l)) (λ (l : LatchLine). IsLeaf (circuit_of f).nodes (node_of_variable f (l.literal / 2))) (λ l h. h.leaf) f.latches are)

    each : (l : LatchLine) → Known l → Starts l ↔ Begins (latch_of f l)
    each l k =
        let none : 0 ≤ last = omega arith in
        by_reset (circuit_of f).nodes (x 0) (IsCircuit-of_file f limit fits).nodes.false_first (run 0 (l.literal / 2)) (x 0 (node_of_variable f (l.literal / 2)))
        (sym (same 0 (l.literal / 2) none k.0) ∙ node_value-leaf (circuit_of f).nodes (x 0) (node_of_variable f (l.literal / 2)) k.1) (unwrap_or l.reset 0)

    forth : machine.IsMachineInitial f run → IsInitial (circuit_of f) (x 0)
    forth start = All-from_recursion Begins (circuit_of f).latchs ((rec_map Begins (latch_of f) f.latches).1
        (rec_weaker (λ (l : LatchLine). Known l × Starts l) (λ (l : LatchLine). Begins (latch_of f l)) (λ l p. (each l p.0).0 p.1) f.latches (rec_both Known Starts f.latches known start)))

    back : IsInitial (circuit_of f) (x 0) → machine.IsMachineInitial f run
    back start =
        let begins = rec_unmap Begins (latch_of f) f.latches (recursion_from_All Begins (circuit_of f).latchs start) in
        rec_weaker (λ (l : LatchLine). Known l × Begins (latch_of f l)) Starts (λ l p. (each l p.0).1 p.1) f.latches (rec_both Known (λ (l : LatchLine). Begins (latch_of f l)) f.latches known begins)
