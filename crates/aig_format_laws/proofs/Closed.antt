-- No leaf of a file's circuit is free.
use Rattle.aig_base.proofs.Words.{ℕ, ◌/◌, ◌++◌, subst, Contains, All-contains_itself, recursion_from_All}
use Rattle.aig_circuit.specs.declared.node.AigNodeType.TheVariants.{Leaf}
use Rattle.aig_circuit.specs.declared.node.AigLatch.{AigLatch}
use Rattle.aig_circuit.specs.Circuit.{IsClosed, latch_leaves}
use Rattle.aig_format.proofs.Words.{File, node_of_variable, Fits, circuit_of, latch_of}
use Rattle.aig_format.proofs.Entries.{rec_parts, rec_unmap}
use Rattle.aig_format.proofs.Nodes.{stands_for}
use Rattle.aig_format_laws.proofs.Leaves.{leaf_is}

pub IsClosed-of_file : (f : File) (limit : ℕ) → Fits f limit → IsClosed (circuit_of f)
IsClosed-of_file f limit fits n leaf =
    let named = (circuit_of f).inputs ++ latch_leaves (circuit_of f).latchs in
    let Has = λ (m : ℕ). Contains named m in
    let parts = rec_parts Has (circuit_of f).inputs (latch_leaves (circuit_of f).latchs) (recursion_from_All Has named (All-contains_itself named)) in
    let inputs = rec_unmap Has (λ (e : ℕ). node_of_variable f (e / 2)) f.inputs parts.0 in
    let latches = rec_unmap (λ (latch : AigLatch). Has latch.input) (latch_of f) f.latches (rec_unmap Has (λ (latch : AigLatch). latch.input) (circuit_of f).latchs parts.1) in
    let s = stands_for f limit fits n Leaf leaf in
    subst Has s.is (leaf_is f (λ v. Has (node_of_variable f v)) inputs latches s.variable s.known s.kind)
