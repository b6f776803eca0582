-- The values of inputs at each step and of latches at step 0 determine a run of a file's machine, and each such values have one.
use Rattle.aig_base.proofs.Words.{◌≡◌, ℕ, zero, suc, ◌+◌, ◌/◌, ◌%◌, ◌<◌, ◌≤◌, Bool, true, false, not, ◌&&◌, Option, Some, None, List, ◌++◌, map, refl, sym, ap, subst, ◌∙◌, arith, nat_eq, find, ◌==◌, if◌then◌else◌, AllByRecursion, eqb-true, All-from_recursion, All-map}
use Rattle.aig_circuit.specs.declared.node.AigLatch.{AigLatch}
use Rattle.aig_circuit.proofs.Words.{edge_value, IsRun}
use Rattle.aig_format.proofs.Words.{GateLine, LatchLine, File, is_known, IsKnown, node_of_variable, Fits, IsDefinable, IsStep, value_of_literal, circuit_of, edge_of, latch_of}
use Rattle.aig_format.specs.Machine as machine
use Rattle.aig_format.proofs.Entries.{rec_both, rec_unmap, rec_weaker}
use Rattle.aig_format.proofs.Searches.{find_none, find_some}
use Rattle.aig_format.proofs.Numbers.{operands_before, operands_known, variable_at, variable_at-number}
use Rattle.aig_format.proofs.Nodes.{VariableCase, at_gate, at_leaf, at_zero, nodes_of, variable_case}
use Rattle.aig_format.proofs.Circuits.{differ_from, differs_half, distinct_front}
use Rattle.aig_circuit.proofs.Trees.{by_smaller}
use Rattle.aig_format_laws.specs.MachineRuns.{AgreeOnInputs, AgreeOnKnown}
use Rattle.aig_format_laws.specs.Nodes.{values_over}
use Rattle.aig_format.proofs.Found.{found_all}
use Rattle.aig_format_laws.proofs.Joining.{back_run, input_values, inputs_definable, inputs_known, latch_values, latches_definable, latches_known, nexts_known}
use Rattle.aig_format_laws.proofs.Leaves.{leaf_is}
use Rattle.aig_format.proofs.Rules.{even_literal}

-- a literal has the same value where its variable has
pub literal_same : (values other : ℕ → Bool) (e : ℕ) → values (e / 2) ≡ other (e / 2) → value_of_literal values e ≡ value_of_literal other e
literal_same values other e h = ap (λ b. if e % 2 == 0 then b else not b) h

-- ---- one step

module _ (f : File) (limit : ℕ) (fits : Fits f limit) (values other : ℕ → Bool) (step : IsStep f values) (step_too : IsStep f other)
    (inputs : AllByRecursion (λ e. values (e / 2) ≡ other (e / 2)) f.inputs) (latches : AllByRecursion (λ (l : LatchLine). values (l.literal / 2) ≡ other (l.literal / 2)) f.latches) where
  -- the gate's equation
  abbrev Is : (ℕ → Bool) → GateLine → Type 0
  Is v g = v (g.lhs / 2) ≡ value_of_literal v g.rhs0 && value_of_literal v g.rhs1

  same_case : (v : ℕ) → is_known f v ≡ true → ((u : ℕ) → is_known f u ≡ true → node_of_variable f u < node_of_variable f v → values u ≡ other u) → VariableCase f v → values v ≡ other v
  same_case v known smaller (at_zero z k) = subst (λ u. values u ≡ other u) (sym z) (step.zero ∙ sym step_too.zero)
  same_case v known smaller (at_leaf z k) = leaf_is f (λ u. values u ≡ other u) inputs latches v known k
  same_case v known smaller (at_gate g found k) =
      let s = find_some (λ (g : GateLine). Is values g × Is other g) (λ (i : GateLine). i.lhs / 2 == v) f.gates g (rec_both (Is values) (Is other) f.gates step.gates step_too.gates) found in
      let e : g.lhs / 2 ≡ v = eqb-true (g.lhs / 2) v s.0 in
      let operands = operands_known f limit fits v g found in
      let before = operands_before f limit fits v g found in
      let first = literal_same values other g.rhs0 (smaller (g.rhs0 / 2) operands.0 before.0) in
      let second = literal_same values other g.rhs1 (smaller (g.rhs1 / 2) operands.1 before.1) in
      subst (λ u. values u ≡ other u) e
      (s.1.0 ∙ ap (λ b. b && value_of_literal values g.rhs1) first ∙ ap (λ b. value_of_literal other g.rhs0 && b) second ∙ sym s.1.1)

  -- the step's values agree on 0 and every defined variable
  same_step : (v : ℕ) → is_known f v ≡ true → values v ≡ other v
  same_step v known =
      by_smaller (λ n. (u : ℕ) → is_known f u ≡ true → node_of_variable f u ≡ n → values u ≡ other u)
      (λ n smaller u there is. same_case u there (λ w w_known less. smaller (node_of_variable f w) (subst (λ m. node_of_variable f w < m) is less) w w_known refl) (variable_case f u)) (node_of_variable f v) v known refl

-- ---- all steps

module _ (f : File) (limit last : ℕ) (fits : Fits f limit) (run other : ℕ → ℕ → Bool) (is : machine.IsMachineRun f last run) (is_too : machine.IsMachineRun f last other) (agree : AgreeOnInputs f last run other) where
  same_from : (t : ℕ) → t ≤ last → AllByRecursion (λ (l : LatchLine). run t (l.literal / 2) ≡ other t (l.literal / 2)) f.latches → (v : ℕ) → is_known f v ≡ true → run t v ≡ other t v
  same_from t h latches = same_step f limit fits (run t) (other t) (is.steps t h) (is_too.steps t h) (agree.inputs t h) latches

  latches_same : (t : ℕ) → t ≤ last → AllByRecursion (λ (l : LatchLine). run t (l.literal / 2) ≡ other t (l.literal / 2)) f.latches
  latches_same zero h = agree.latches
  latches_same (suc t) h =
      let To = λ (r : ℕ → ℕ → Bool) (l : LatchLine). r (t + 1) (l.literal / 2) ≡ value_of_literal (r t) l.next in
      let less : t < last = omega arith in
      let low : t ≤ last = omega arith in
      let next : t + 1 ≡ suc t = omega arith in
      let known = nexts_known f limit fits in
      subst (λ n. AllByRecursion (λ (l : LatchLine). run n (l.literal / 2) ≡ other n (l.literal / 2)) f.latches) next
      (rec_weaker (λ l. (To run l × To other l) × IsKnown f l.next) (λ (l : LatchLine). run (t + 1) (l.literal / 2) ≡ other (t + 1) (l.literal / 2))
      (λ l p. p.0.0 ∙ literal_same (run t) (other t) l.next (same_from t low (latches_same t low) (l.next / 2) p.1) ∙ sym p.0.1) f.latches
      (rec_both (λ l. To run l × To other l) (λ (l : LatchLine). IsKnown f l.next) f.latches (rec_both (To run) (To other) f.latches (is.moves t less) (is_too.moves t less)) known))

  -- runs with the same values of inputs and first values of latches agree
  pub agree_on_known : AgreeOnKnown f last run other
  agree_on_known t v h known = same_from t h (latches_same t h) v known

-- ---- there is one

module _ (f : File) (limit : ℕ) (fits : Fits f limit) (given : ℕ → ℕ → Bool) where
  -- a latch's value is that of its next edge, and others are given
  abbrev moved : (ℕ → Bool) → Bool → Option LatchLine → Bool
  moved x b (Some l) = edge_value (nodes_of f) x (edge_of f l.next)
  moved x b None = b

  -- the latch of a variable
  abbrev latch_at : ℕ → Option LatchLine
  latch_at v = find (λ (l : LatchLine). l.literal / 2 == v) f.latches

  -- leaf values over the steps
  abbrev pub leaf_run : ℕ → ℕ → Bool
  leaf_run zero n = given 0 (variable_at f n)
  leaf_run (suc t) n = moved (leaf_run t) (given (suc t) (variable_at f n)) (latch_at (variable_at f n))

  abbrev literals : List ℕ
  literals = map (λ (l : LatchLine). l.literal) f.latches

  -- each latch is found at its variable
  latches_found : AllByRecursion (λ (l : LatchLine). latch_at (l.literal / 2) ≡ Some l) f.latches
  latches_found =
      let Definable = λ (l : LatchLine). IsDefinable f.greatest l.literal in
      let leaves = distinct_front (f.inputs ++ literals) (map (λ (g : GateLine). g.lhs) f.gates) fits.distinct in
      found_all (λ (l : LatchLine). l.literal) f.latches (rec_weaker Definable (λ (l : LatchLine). l.literal % 2 ≡ 0) (λ l d. even_literal f.greatest l.literal d) f.latches (latches_definable f limit fits)) (differ_from f.inputs literals leaves).1

  -- and no latch at an input's
  no_latch : AllByRecursion (λ e. latch_at (e / 2) ≡ None) f.inputs
  no_latch =
      let Definable = λ (l : LatchLine). IsDefinable f.greatest l.literal in
      let Differs = λ (e : ℕ). AllByRecursion (λ y. nat_eq e y ≡ false) literals in
      let leaves = distinct_front (f.inputs ++ literals) (map (λ (g : GateLine). g.lhs) f.gates) fits.distinct in
      rec_weaker (λ e. IsDefinable f.greatest e × Differs e) (λ e. latch_at (e / 2) ≡ None)
      (λ e p.
      let Differ = λ (l : LatchLine). nat_eq e l.literal ≡ false in
      find_none (λ (l : LatchLine). l.literal / 2 == e / 2) f.latches
      (rec_weaker (λ l. Definable l × Differ l) (λ (l : LatchLine). (l.literal / 2 == e / 2) ≡ false) (λ l q. differs_half e l.literal (even_literal f.greatest e p.0) (even_literal f.greatest l.literal q.0) q.1) f.latches
      (rec_both Definable Differ f.latches (latches_definable f limit fits) (rec_unmap (λ y. nat_eq e y ≡ false) (λ (l : LatchLine). l.literal) f.latches p.1))))
      f.inputs (rec_both (IsDefinable f.greatest) Differs f.inputs (inputs_definable f limit fits) (differ_from f.inputs literals leaves).0)

  moves_to : (t : ℕ) (l : LatchLine) → IsKnown f l.literal → latch_at (l.literal / 2) ≡ Some l → leaf_run (suc t) (node_of_variable f (l.literal / 2)) ≡ edge_value (nodes_of f) (leaf_run t) (edge_of f l.next)
  moves_to t l known found =
      let n = node_of_variable f (l.literal / 2) in
      ap (λ o. moved (leaf_run t) (given (suc t) (variable_at f n)) o) (ap latch_at (variable_at-number f limit fits (l.literal / 2) known) ∙ found)

  is_leaf_run : (last : ℕ) → IsRun (circuit_of f) last leaf_run
  is_leaf_run last t h =
      let To = λ (l : AigLatch). leaf_run (t + 1) l.input ≡ edge_value (nodes_of f) (leaf_run t) l.next in
      let Known = λ (l : LatchLine). IsKnown f l.literal in
      let Found = λ (l : LatchLine). latch_at (l.literal / 2) ≡ Some l in
      let next : suc t ≡ t + 1 = omega arith in
      All-map To (latch_of f) f.latches (All-from_recursion (λ (l : LatchLine). To (latch_of f l)) f.latches
      (rec_weaker (λ l. Known l × Found l) (λ (l : LatchLine). To (latch_of f l))
      (λ l p. subst (λ k. leaf_run k (node_of_variable f (l.literal / 2)) ≡ edge_value (nodes_of f) (leaf_run t) (edge_of f l.next)) next (moves_to t l p.0 p.1))
      f.latches (rec_both Known Found f.latches (latches_known f) latches_found)))

  -- inputs have the given values
  given_at : (t e : ℕ) → IsKnown f e → latch_at (e / 2) ≡ None → leaf_run t (node_of_variable f (e / 2)) ≡ given t (e / 2)
  given_at zero e known none = ap (given 0) (variable_at-number f limit fits (e / 2) known)
  given_at (suc t) e known none =
      let n = node_of_variable f (e / 2) in
      let same = variable_at-number f limit fits (e / 2) known in
      ap (λ o. moved (leaf_run t) (given (suc t) (variable_at f n)) o) (ap latch_at same ∙ none) ∙ ap (given (suc t)) same

  pub agrees : (last : ℕ) → AgreeOnInputs f last given (values_over f leaf_run)
  agrees last = record {
    inputs = λ t h.
        let Is = λ (e : ℕ). values_over f leaf_run t (e / 2) ≡ leaf_run t (node_of_variable f (e / 2)) in
        let None_at = λ (e : ℕ). latch_at (e / 2) ≡ None in
        rec_weaker (λ e. (Is e × IsKnown f e) × None_at e) (λ e. given t (e / 2) ≡ values_over f leaf_run t (e / 2)) (λ e p. sym (p.0.0 ∙ given_at t e p.0.1 p.1)) f.inputs
        (rec_both (λ e. Is e × IsKnown f e) None_at f.inputs (rec_both Is (IsKnown f) f.inputs (input_values f limit fits (leaf_run t)) (inputs_known f)) no_latch);
    latches =
        let Is = λ (l : LatchLine). values_over f leaf_run 0 (l.literal / 2) ≡ leaf_run 0 (node_of_variable f (l.literal / 2)) in
        let Known = λ (l : LatchLine). IsKnown f l.literal in
        rec_weaker (λ l. Is l × Known l) (λ (l : LatchLine). given 0 (l.literal / 2) ≡ values_over f leaf_run 0 (l.literal / 2))
        (λ l p. sym (p.0 ∙ ap (given 0) (variable_at-number f limit fits (l.literal / 2) p.1))) f.latches (rec_both Is Known f.latches (latch_values f limit fits (leaf_run 0)) (latches_known f));
  }

-- given values of the inputs at each step and of the latches at step 0 are met by a run
pub given_run : (f : File) (limit last : ℕ) (given : ℕ → ℕ → Bool) → Fits f limit → (run : ℕ → ℕ → Bool) × machine.IsMachineRun f last run × AgreeOnInputs f last given run
given_run f limit last given fits =
    let x = leaf_run f limit fits given in
    (values_over f x, back_run f limit last x fits (is_leaf_run f limit fits given last), agrees f limit fits given last)
