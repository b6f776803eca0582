-- The question of a small circuit, computed; and wrong questions, of which the definitions are
-- false.
use Rattle.aig_base.proofs.Words.{◌≡◌, ◌≢◌, ◌≤◌, ◌||◌, if◌then◌else◌, ℕ, zero, suc, Bool, true, false, IsTrue, Some, List, [], ◌∷◌, length, refl, sym, ap, subst, arith, inl, empty, slice_index_or}
use Rattle.aig_circuit.specs.declared.edge.AigEdge.{AigEdge}
use Rattle.aig_circuit.specs.declared.node.AigNodeType.{AigNodeType}
use Rattle.aig_circuit.specs.declared.node.AigNodeType.TheVariants.{False, Leaf, And}
use Rattle.aig_circuit.specs.declared.node.AigNode.{AigNode}
use Rattle.aig_circuit.specs.declared.node.AigLatch.{AigLatch}
use Rattle.aig_circuit.proofs.Words.{Circuit, IsFanin, IsReached, edge_to, no_properties, root, step}
use Rattle.aig_circuit.specs.Tree.{node_value, tree_of}
use Rattle.aig_bounded.specs.declared.place.Place.{Place}
use Rattle.aig_bounded.specs.Cut.{KeepsReached, marked_places}
use Rattle.aig_bounded.specs.Exact.{IsRead, ReadsExactly, reached_in, steps_to}
use Rattle.aig_bounded.specs.Exact.IsRead.{bad, constraint, operand, next}
use Rattle.aig_bounded.specs.Question.{IsPlace, IsQuestion, Reaches, question_size}
use Rattle.aig_bounded.specs.Shared.{Made, Netlist, shared_and, shared_or}

abbrev node : ℕ → AigNodeType → AigNode
node n kind = record { node_id = n; typ = kind }

abbrev gate : ℕ → AigEdge → AigEdge → AigNode
gate n a b = node n (And a b)

-- input 1, latch 2 from false with next 3, gate 3 = and(1,!2); the latch is bad where it is true
abbrev latch : AigLatch
latch = record { input = 2; next = edge_to 3 false; init = Some (edge_to 0 false) }

abbrev pulsed : Circuit
pulsed = record {
  nodes =
      node 0 False ∷ node 1 Leaf ∷ node 2 Leaf
      ∷ gate 3 (edge_to 1 false) (edge_to 2 true) ∷ [];
  inputs = 1 ∷ [];
  latchs = latch ∷ [];
  properties = record no_properties { bads = edge_to 2 false ∷ [] };
  names = empty;
}

-- ---- what is read

-- the bad edge reads the input a step before, and not at the same one
input_read_before : IsRead pulsed 1 1
input_read_before =
    operand (next (bad (0, omega arith, refl)) (latch, (0, omega arith, refl), refl, refl))
    (edge_to 1 false, edge_to 2 true, refl, inl refl)

reads_the_latch : (d n : ℕ) → IsRead pulsed d n → d ≡ 0 → n ≡ 2
reads_the_latch d n (bad (zero, within, is)) at = sym is
reads_the_latch d n (bad (suc i, within, is)) at = absurd (omega (arith, within))
reads_the_latch d n (constraint (i, within, is)) at = absurd (omega (arith, within))
reads_the_latch d n (operand {n = m} read fanin) at =
    absurd (no_gate n (subst (λ i. IsFanin pulsed.nodes i n) (reads_the_latch d m read at) fanin))
  where
    no_gate : (n : ℕ) → ¬ IsFanin pulsed.nodes 2 n
    no_gate n (a, b, kind, which) = cc
reads_the_latch (suc d) n (next after of) at = absurd (omega (arith, at))

-- so it is wrong that all nodes are read at each step
no_reading_of_all : (k : ℕ) → ¬ ReadsExactly pulsed k (λ d n. true)
no_reading_of_all k reads =
    let node : 1 ≡ 2 =
    reads_the_latch 0 1 ((reads 0 1 (omega arith) (omega arith)).0 refl) refl in omega (arith, node)

-- ---- what is made

-- what is read: all but the constant node, and the latch alone at the last step
abbrev is_read : ℕ → ℕ → Bool
is_read zero (suc (suc zero)) = true
is_read zero n = false
is_read (suc d) zero = false
is_read (suc d) (suc n) = true

abbrev place : ℕ → ℕ → Place
place t n = record { step = t; leaf = n }

-- with constants folded the question up to step 1 is the input at step 0
to_step_1 : reached_in (steps_to is_read pulsed 1 2) ≡ record {
  net = record {
    nodes = node 0 False ∷ node 1 Leaf ∷ [];
    inputs = 1 ∷ [];
    places = place 0 1 ∷ [];
  };
  edge = edge_to 1 false;
}
to_step_1 = refl

-- up to step 2 it is that input, or the one at step 1 without it
abbrev net_to_2 : Netlist
net_to_2 = record {
  nodes =
      node 0 False ∷ node 1 Leaf ∷ node 2 Leaf ∷ gate 3 (edge_to 1 true) (edge_to 2 false)
      ∷ gate 4 (edge_to 1 true) (edge_to 3 true) ∷ [];
  inputs = 1 ∷ 2 ∷ [];
  places = place 0 1 ∷ place 1 1 ∷ [];
}

to_step_2 : reached_in (steps_to is_read pulsed 2 3)
    ≡ record { net = net_to_2; edge = edge_to 4 true }
to_step_2 = refl

-- a step short
no_step_short : reached_in (steps_to is_read pulsed 2 3) ≢ reached_in (steps_to is_read pulsed 1 2)
no_step_short same =
    let inputs = ap (λ (made : Made). length made.net.inputs) same in omega (arith, inputs)

-- an input at the last step, which nothing reads
no_input_at_the_last_step : (steps_to (λ d n. true) pulsed 1 2).checks.net.places
    ≢ (steps_to is_read pulsed 1 2).checks.net.places
no_input_at_the_last_step same =
    let count = ap (λ (l : List Place). length l) same in omega (arith, count)

-- the gate is there, in either order of its operands, and isn't made twice
gate-shared : shared_and net_to_2 (edge_to 2 false) (edge_to 1 true)
    ≡ record { net = net_to_2; edge = edge_to 3 false }
gate-shared = refl

-- an or without its inversion
no_and_for_or : (shared_or net_to_2 (edge_to 1 false) (edge_to 3 false)).edge ≢ edge_to 4 false
no_and_for_or same = cc

-- ---- its cone

-- of the inputs 1 and 2 the second one alone is marked
one-kept : marked_places (false ∷ false ∷ true ∷ []) (1 ∷ 2 ∷ []) net_to_2.places ≡ place 1 1 ∷ []
one-kept = refl

leaf_alone : (n : ℕ) → IsReached (IsFanin net_to_2.nodes) (1 ∷ []) n → n ≡ 1
leaf_alone n (root (zero, within, is)) = sym is
leaf_alone n (root (suc i, within, is)) = absurd (omega (arith, within))
leaf_alone n (step {n = m} before fanin) =
    absurd (no_gate n (subst (λ i. IsFanin net_to_2.nodes i n) (leaf_alone m before) fanin))
  where
    no_gate : (n : ℕ) → ¬ IsFanin net_to_2.nodes 1 n
    no_gate n (a, b, kind, which) = cc

-- an input that the output doesn't reach
no_further_input : ¬ KeepsReached net_to_2 (edge_to 1 false) net_to_2.places
no_further_input keeps =
    let node : 2 ≡ 1 = leaf_alone 2 ((keeps.reached.exactly 2 (omega arith)).0
    (both (slice_index_or keeps.marks 1 false) (slice_index_or keeps.marks 2 false) keeps.exact)) in
    omega (arith, node)
  where
    both : (a b : Bool)
        → net_to_2.places ≡ (if a then place 0 1 ∷ (if b then place 1 1 ∷ [] else []) else
        (if b then place 1 1 ∷ [] else []))
        → IsTrue b
    both true true is = refl
    both true false is = cc
    both false true is = cc
    both false false is = cc

-- ---- what is asked

-- a gate, and the leaf of a latch that has an initial edge
no_place_of_a_gate : (t : ℕ) → ¬ IsPlace pulsed (place t 3)
no_place_of_a_gate t is = let leaf = is.leaf in cc

no_place_of_the_latch : (t : ℕ) → ¬ IsPlace pulsed (place t 2)
no_place_of_the_latch t is = let none = (is.start latch (0, omega arith, refl) refl).1 in cc

-- the input is true, and then the latch is
abbrev run : ℕ → ℕ → Bool
run zero (suc zero) = true
run (suc zero) (suc (suc zero)) = true
run t n = false

reached_at_1 : Reaches pulsed 1 run
unfolding node_value tree_of
reached_at_1 = record {
  step = 1;
  within = omega arith;
  constraints = λ s low i d h. absurd (omega arith);
  bad = refl;
}

-- a step before
not_reached_at_0 : ¬ Reaches pulsed 0 run
unfolding node_value tree_of
not_reached_at_0 reaches =
    let start : reaches.step ≡ 0 = omega (arith, reaches.within) in
    let shown = rw start at reaches.bad in cc

-- a constraint of the same step is left out
no_constraint_left_out : ¬ Reaches
    (record pulsed { properties = record pulsed.properties { constraints = edge_to 1 false ∷ [] } })
    1 run
unfolding node_value tree_of
no_constraint_left_out reaches =
    by reaches.step reaches.within reaches.bad
    (λ s low. reaches.constraints s low 0 (edge_to 0 false) (omega arith))
  where
    by : (t : ℕ) → t ≤ 1 → IsTrue (run t 2 || false) → ((s : ℕ) → s ≤ t → IsTrue (run s 1)) → ⊥
    by zero within shown held = cc
    by (suc zero) within shown held = let last = held 1 (omega arith) in cc
    by (suc (suc t)) within shown held = omega (arith, within)

-- a place after the last step, and one place for two inputs
no_later_place : (asks : Circuit) (output : AigEdge)
    → ¬ IsQuestion pulsed 1 asks output (place 2 1 ∷ [])
no_later_place asks output is =
    let low : 2 ≤ 1 = is.steps 0 (place 0 0) (omega arith) in omega (arith, low)

no_place_twice : (asks : Circuit) (output : AigEdge)
    → ¬ IsQuestion pulsed 1 asks output (place 0 1 ∷ place 0 1 ∷ [])
no_place_twice asks output is =
    is.distinct 0 1 (place 0 0) (omega arith) (omega arith) refl

-- 4 nodes, a bad edge and one more for each of 3 steps, and the constant
size-to-2 : question_size pulsed 2 ≡ 19
size-to-2 = refl
