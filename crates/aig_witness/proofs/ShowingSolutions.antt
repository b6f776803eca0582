-- The witness of a solution shows a bad state.
use Rattle.std.proofs.Common.{◌≡◌, ℕ, zero, suc, ◌+◌, ◌-◌, ◌*◌, ◌/◌, ◌<◌, ◌≤◌, Bool, true, false, Some, IsTrue, List, [], ◌∷◌, length, map, get_or, slice_get, refl, sym, ap, subst, ◌∙◌, arith}
use Rattle.aig_base.proofs.Words.{All, AllZip, get_or_from_slice_get, same_Some, slice_get-get_or, slice_get_within}
use Rattle.std.proofs.lemmas.List.{get_or-drop, length-drop, length-map}
use Rattle.aig_base.specs.declared.logic.literal.Lit.{Lit}
use Rattle.aig_base.specs.declared.logic.three.Lbool.{Lbool}
use Rattle.aig_base.specs.declared.logic.three.Lbool.TheVariants.{TRUE}
use Rattle.aig_base.specs.Three.{Agrees, lbool_not_if}
use Rattle.aig_circuit.specs.declared.node.AigLatch.{AigLatch}
use Rattle.aig_circuit.specs.declared.node.AigNodeType.TheVariants.{False, Leaf}
use Rattle.aig_circuit.proofs.Words.{edge_to, Circuit, IsCircuit, IsInRange, IsLatch, IsLeaf}
use Rattle.aig_circuit.proofs.Trees.{kind_at-within}
use Rattle.aig_cnf.specs.Cnf.{edge_in}
use Rattle.aig_format.proofs.Words.{File, LatchLine, Fits, IsMachineRun, value_of_literal, edge_of, IsKnown}
use Rattle.aig_format.proofs.Circuits.{IsCircuit-of_file, used_by_section}
use Rattle.aig_format.proofs.Numbers.{used_known}
use Rattle.aig_unroll.specs.Places.{place_at}
use Rattle.aig_unroll.proofs.Lists.{at_place, zip_weaker}
use Rattle.aig_runs.specs.Encodes.{Encodes}
use Rattle.aig_runs.specs.Files.{HasLeafValues, IsOneRun}
use Rattle.aig_runs.specs.Queries.{IsQueryOf, IsWitness, SatisfiesBoth, last_bads}
use Rattle.aig_witness.specs.Witness.{Witness}
use Rattle.aig_witness.specs.Machine.{HasGiven, ShowsBad}
use Rattle.aig_witness.specs.Shown.{known_of}
use Rattle.aig_witness.specs.Solutions.{AreValuesOf, IsWitnessIn, edge_at, inputs_in, value_at}
use Rattle.aig_format_laws.proofs.MachineRuns.{literal_same}
use Rattle.aig_witness.proofs.Started.{known_is}
use Rattle.aig_witness.proofs.Given.{known_not}

-- ---- values

known_agrees : (b x : Bool) → x ≡ b → Agrees (known_of b) x
known_agrees true x h = h
known_agrees false x h = h

known_true : (b : Bool) → known_of b ≡ TRUE → b ≡ true
known_true true h = refl
known_true false h = cc

-- ---- lists

-- an entry of numbers below m, or 0, is below m
pub get_below : (ns : List ℕ) (i m : ℕ) → All (λ n. n < m) ns → 0 < m → get_or ns i 0 < m
get_below [] i m all some = some
get_below (n ∷ ns) zero m all some = all 0 0 (omega arith)
get_below (n ∷ ns) (suc i) m all some = get_below ns i m (λ k d h. all (suc k) d (omega arith)) some

-- what is related to what the second entries are mapped to
zip_right : {A B C : Type 0} (g : B → C) (R : A → C → Type 0) (xs : List A) (ys : List B)
    → AllZip (λ x y. R x (g y)) xs ys → AllZip R xs (map g ys)
zip_right g R [] [] zip = tt
zip_right g R [] (y ∷ ys) zip = absurd zip
zip_right g R (x ∷ xs) [] zip = absurd zip
zip_right g R (x ∷ xs) (y ∷ ys) zip = (zip.0, zip_right g R xs ys zip.1)

zip_unright : {A B C : Type 0} (g : B → C) (R : A → C → Type 0) (xs : List A) (ys : List B)
    → AllZip R xs (map g ys) → AllZip (λ x y. R x (g y)) xs ys
zip_unright g R [] [] zip = tt
zip_unright g R [] (y ∷ ys) zip = absurd zip
zip_unright g R (x ∷ xs) [] zip = absurd zip
zip_unright g R (x ∷ xs) (y ∷ ys) zip = (zip.0, zip_unright g R xs ys zip.1)

module _ (f : File) (limit k : ℕ) (optimize : Bool) (c u : Circuit) (clauses : List (List (List Lit))) (extra : List (List Lit)) (v : ℕ → Bool) (values : List Lbool) (w : Witness)
    (fits : Fits f limit) (is : IsCircuit u) (encodes : Encodes f k optimize c u clauses) (asks : IsQueryOf f k c u clauses extra) (holds : SatisfiesBoth v clauses extra)
    (of : AreValuesOf v (length u.nodes) values) (says : IsWitnessIn c u k values w) where
  one : IsOneRun f c u k v
  one = encodes.assignments v holds.clauses_hold

  circuit : IsCircuit c
  circuit = subst IsCircuit (sym encodes.of_file) (IsCircuit-of_file f limit fits)

  last : length w.steps - 1 ≡ k
  last = omega (arith, says.steps.count)

  leaf_below : (n : ℕ) → IsLeaf c.nodes n → n < length u.nodes
  leaf_below n leaf = omega (arith, kind_at-within c.nodes n Leaf leaf, encodes.steps.keeps.nodes.longer)

  place_below : (t n : ℕ) → IsLeaf c.nodes n → place_at c u t n < length u.nodes
  place_below zero n leaf = leaf_below n leaf
  place_below (suc t) n leaf = get_below u.inputs _ (length u.nodes) (λ i d h. kind_at-within u.nodes _ Leaf (is.inputs i d h)) (kind_at-within u.nodes 0 False is.nodes.false_first)

  -- the leaf values of a run are the given ones
  state_given : (run : ℕ → ℕ → Bool) → HasLeafValues f c u k v run
      → AllZip (λ (l : LatchLine) known. Agrees known (run 0 (l.literal / 2))) f.latches w.state
  state_given run leaves =
      let Gives = λ (l : LatchLine) (known : Lbool). Agrees known (run 0 (l.literal / 2)) in
      let Has = λ (l : LatchLine) (latch : AigLatch). run 0 (l.literal / 2) ≡ v latch.input in
      let read = λ (latch : AigLatch). value_at values latch.input in
      subst (AllZip Gives f.latches) (sym says.state)
      (zip_right read Gives f.latches c.latchs
      (zip_weaker Has (λ l latch. Gives l (read latch)) (IsLatch c.nodes) f.latches c.latchs
      (λ l latch there same. subst (λ (known : Lbool). Gives l known) (sym (of latch.input (leaf_below latch.input there.leaf))) (known_agrees (v latch.input) (run 0 (l.literal / 2)) same)) circuit.latchs leaves.latches))

  inputs_given : (run : ℕ → ℕ → Bool) → HasLeafValues f c u k v run → (t : ℕ) (line : List Lbool)
      → slice_get w.steps t ≡ Some line
      → AllZip (λ (e : ℕ) known. Agrees known (run t (e / 2))) f.inputs line
  inputs_given run leaves t line there =
      let short = slice_get_within w.steps t line there in
      let low : t ≤ k = omega (arith, short, says.steps.count) in
      let row : inputs_in c u values t ≡ line = same_Some _ _ (sym (says.steps.each t low) ∙ there) in
      let Gives = λ (e : ℕ) (known : Lbool). Agrees known (run t (e / 2)) in
      let Has = λ (e n : ℕ). run t (e / 2) ≡ v (place_at c u t n) in
      let read = λ (n : ℕ). value_at values (place_at c u t n) in
      subst (AllZip Gives f.inputs) row
      (zip_right read Gives f.inputs c.inputs
      (zip_weaker Has (λ e n. Gives e (read n)) (IsLeaf c.nodes) f.inputs c.inputs
      (λ e n leaf same. subst (λ (known : Lbool). Gives e known) (sym (of (place_at c u t n) (place_below t n leaf))) (known_agrees (v (place_at c u t n)) (run t (e / 2)) same)) circuit.inputs (leaves.inputs t low)))

  given_from : (run : ℕ → ℕ → Bool) → HasLeafValues f c u k v run → HasGiven f w run
  given_from run leaves = record { state = state_given run leaves; inputs = inputs_given run leaves }

  -- and back
  leaves_from : (run : ℕ → ℕ → Bool) → HasGiven f w run → HasLeafValues f c u k v run
  leaves_from run given = record {
    inputs = λ t low.
        let Gives = λ (e : ℕ) (known : Lbool). Agrees known (run t (e / 2)) in
        let Has = λ (e n : ℕ). run t (e / 2) ≡ v (place_at c u t n) in
        let read = λ (n : ℕ). value_at values (place_at c u t n) in
        zip_weaker (λ e n. Gives e (read n)) Has (IsLeaf c.nodes) f.inputs c.inputs
        (λ e n leaf gives. known_is (v (place_at c u t n)) (run t (e / 2)) (subst (λ (known : Lbool). Gives e known) (of (place_at c u t n) (place_below t n leaf)) gives)) circuit.inputs
        (zip_unright read Gives f.inputs c.inputs (given.inputs t (inputs_in c u values t) (says.steps.each t low)));
    latches =
        let Gives = λ (l : LatchLine) (known : Lbool). Agrees known (run 0 (l.literal / 2)) in
        let Has = λ (l : LatchLine) (latch : AigLatch). run 0 (l.literal / 2) ≡ v latch.input in
        let read = λ (latch : AigLatch). value_at values latch.input in
        zip_weaker (λ l latch. Gives l (read latch)) Has (IsLatch c.nodes) f.latches c.latchs
        (λ l latch there gives. known_is (v latch.input) (run 0 (l.literal / 2)) (subst (λ (known : Lbool). Gives l known) (of latch.input (leaf_below latch.input there.leaf)) gives)) circuit.latchs
        (zip_unright read Gives f.latches c.latchs (subst (AllZip Gives f.latches) says.state given.state));
  }

  -- ---- the bad literal

  same_bads : length c.properties.bads ≡ length f.properties.bads
  same_bads = ap (λ (d : Circuit). length d.properties.bads) encodes.of_file ∙ length-map f.properties.bads (edge_of f)

  bad_below : w.bad < length f.properties.bads
  bad_below =
      let count = one.shows.properties.bads.count in
      let many = length-drop (k * length c.properties.bads) u.properties.bads in
      let place = ap (λ n. k * n) same_bads in
      omega (arith, says.bad.there, count, many, place)

  abbrev e : ℕ
  e = get_or f.properties.bads w.bad 0

  there : slice_get f.properties.bads w.bad ≡ Some e
  there = slice_get-get_or f.properties.bads w.bad 0 bad_below

  -- it is true on the one run
  true_once : value_of_literal (one.run k) e ≡ true
  true_once =
      let found = one.shows.properties.bads.each k w.bad e (omega arith) there in
      let edge = found.0 in
      let at : k * length f.properties.bads + w.bad ≡ k * length c.properties.bads + w.bad = ap (λ n. k * n + w.bad) (sym same_bads) in
      let named : get_or (last_bads c k u) w.bad (edge_to 0 false) ≡ edge =
      get_or-drop (k * length c.properties.bads) u.properties.bads w.bad (edge_to 0 false) ∙ ap (λ i. get_or u.properties.bads i (edge_to 0 false)) (sym at) ∙ get_or_from_slice_get u.properties.bads (k * length f.properties.bads + w.bad) edge (edge_to 0 false) found.1 in
      let range : IsInRange u.nodes edge = at_place (IsInRange u.nodes) u.properties.bads (k * length f.properties.bads + w.bad) edge is.properties.bads found.1 in
      let known : edge_at values edge ≡ known_of (edge_in v edge) = ap (lbool_not_if edge.compl) (of edge.node_id range) ∙ known_not edge.compl (v edge.node_id) in
      sym found.2 ∙ known_true (edge_in v edge) (sym known ∙ ap (edge_at values) (sym named) ∙ says.bad.here)

  -- and on each run with the given values
  true_always : (run : ℕ → ℕ → Bool) → IsMachineRun f k run → HasLeafValues f c u k v run
      → value_of_literal (run k) e ≡ true
  true_always run is_run leaves =
      let known : IsKnown f e = (used_by_section (IsKnown f) f (used_known f limit fits)).properties.bads w.bad 0 bad_below in
      sym (literal_same (one.run k) (run k) e (one.only run is_run leaves k (e / 2) (omega arith) known)) ∙ true_once

  pub solution_shows : ShowsBad f w
  solution_shows = record {
    some = omega (arith, says.steps.count);
    there = (one.run, subst (λ n. IsMachineRun f n one.run) (sym last) one.is_run, given_from one.run one.leaves);
    named = (e, there);
    each = λ run is_run given.
        let runs = subst (λ n. IsMachineRun f n run) last is_run in
        let leaves = leaves_from run given in
        (subst (λ n. IsWitness f n run) (sym last) (asks.read_off v holds run runs leaves), subst (λ n. IsTrue (value_of_literal (run n) e)) (sym last) (true_always run runs leaves));
  }
