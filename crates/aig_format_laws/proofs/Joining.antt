-- A run of a file's machine and a run of its circuit are one.
use Rattle.aig_base.proofs.Words.{◌≡◌, ℕ, zero, suc, ◌+◌, ◌/◌, ◌%◌, ◌<◌, ◌≤◌, Bool, true, false, not, ◌&&◌, List, ◌++◌, map, cond, refl, sym, ap, subst, ◌∙◌, arith, AllByRecursion, IsDistinct, eqb-true, ne_eqb, All-from_recursion, recursion_from_All, All-map}
use Rattle.std.specs.Prelude.{nat_eq, Some, None, ◌==◌, All, if◌then◌else◌}
use Rattle.aig_circuit.specs.declared.node.AigLatch.{AigLatch}
use Rattle.aig_circuit.specs.declared.node.AigNodeType.TheVariants.{False}
use Rattle.aig_circuit.proofs.Words.{inverted_if, kind_at, node_value, edge_value, IsRun}
use Rattle.aig_circuit.proofs.Building.{node_value-and_of}
use Rattle.aig_circuit.proofs.Trees.{by_smaller, node_value-false, node_value-leaf}
use Rattle.aig_format.proofs.Words.{LatchLine, GateLine, File, is_known, IsKnown, gate_of_variable, node_of_variable, Fits, IsDefinable, value_of_literal, IsStep, Moves, edge_of, kind_by, kind_of, latch_of, circuit_of}
use Rattle.aig_format.specs.Machine as machine
use Rattle.aig_format.proofs.Entries.{rec_weaker, rec_both, rec_parts, rec_unmap}
use Rattle.aig_format.proofs.Searches.{find_some}
use Rattle.aig_format.proofs.Numbers.{node_of_variable-zero, operands_before, operands_known, used_known, variable_at, variable_at-number}
use Rattle.aig_format.proofs.Nodes.{nodes_of, kind_at-number, VariableCase, at_zero, at_gate, at_leaf, variable_case, nodes-ordered}
use Rattle.aig_format.proofs.Circuits.{defined_known, differ_from, gates_definable, kind_missed, leaf_missed, used_by_section}
use Rattle.aig_format_laws.specs.Nodes.{HasNodeValues, values_over}
use Rattle.aig_format.proofs.Found.{found_all}
use Rattle.aig_format.proofs.Rules.{definable_told, even_literal}

by_parity : (r : ℕ) → r < 2 → (b : Bool) → inverted_if (r == 1) b ≡ (if r == 0 then b else not b)
by_parity zero h b = refl
by_parity (suc zero) h b = refl
by_parity (suc (suc r)) h b = absurd (omega arith)

-- an edge has its literal's value where its node has its variable's
pub edge_is : (f : File) (x values : ℕ → Bool) (e : ℕ) → node_value (nodes_of f) x (node_of_variable f (e / 2)) ≡ values (e / 2) → edge_value (nodes_of f) x (edge_of f e) ≡ value_of_literal values e
edge_is f x values e h = ap (inverted_if (e % 2 == 1)) h ∙ by_parity (e % 2) (omega arith) (values (e / 2))

-- so each literal of 0 or a defined variable has on a run the value of its edge
pub literal_is : (f : File) (last : ℕ) (x run : ℕ → ℕ → Bool) → HasNodeValues f last x run → (t e : ℕ) → t ≤ last → IsKnown f e → edge_value (circuit_of f).nodes (x t) (edge_of f e) ≡ value_of_literal (run t) e
literal_is f last x run same t e h known = edge_is f (x t) (run t) e (same t (e / 2) h known)

-- ---- from the machine to the circuit

-- each leaf has the value of its variable
abbrev pub leaf_values : File → (ℕ → Bool) → ℕ → Bool
leaf_values f values n = values (variable_at f n)

module _ (f : File) (limit : ℕ) (fits : Fits f limit) (values : ℕ → Bool) (step : IsStep f values) where
  abbrev x : ℕ → Bool
  x = leaf_values f values

  -- the node of this variable has its value
  abbrev HasValue : ℕ → Type 0
  HasValue v = node_value (nodes_of f) x (node_of_variable f v) ≡ values v

  has_value : (v : ℕ) → is_known f v ≡ true → ((u : ℕ) → is_known f u ≡ true → node_of_variable f u < node_of_variable f v → HasValue u) → VariableCase f v → HasValue v
  has_value v known smaller (at_zero z k) =
      node_value-false (nodes_of f) x (node_of_variable f v) (kind_at-number f limit fits v known ∙ ap Some k) ∙ sym (subst (λ m. values m ≡ false) (sym z) step.zero)
  has_value v known smaller (at_leaf z k) =
      node_value-leaf (nodes_of f) x (node_of_variable f v) (kind_at-number f limit fits v known ∙ ap Some k) ∙ ap values (variable_at-number f limit fits v known)
  has_value v known smaller (at_gate g found k) =
      let s = find_some (λ (g : GateLine). values (g.lhs / 2) ≡ value_of_literal values g.rhs0 && value_of_literal values g.rhs1) (λ (i : GateLine). i.lhs / 2 == v) f.gates g step.gates found in
      let e : g.lhs / 2 ≡ v = eqb-true (g.lhs / 2) v s.0 in
      let operands = operands_known f limit fits v g found in
      let before = operands_before f limit fits v g found in
      let first = edge_is f x values g.rhs0 (smaller (g.rhs0 / 2) operands.0 before.0) in
      let second = edge_is f x values g.rhs1 (smaller (g.rhs1 / 2) operands.1 before.1) in
      node_value-and_of (nodes_of f) (nodes-ordered f limit fits) x (node_of_variable f v) (edge_of f g.rhs0) (edge_of f g.rhs1) (kind_at-number f limit fits v known ∙ ap Some k)
      ∙ ap (λ b. b && edge_value (nodes_of f) x (edge_of f g.rhs1)) first
      ∙ ap (λ b. value_of_literal values g.rhs0 && b) second
      ∙ sym s.1 ∙ ap values e

  -- the nodes have the variables' values
  pub values_at : (v : ℕ) → is_known f v ≡ true → HasValue v
  values_at v known =
      by_smaller (λ n. (u : ℕ) → is_known f u ≡ true → node_of_variable f u ≡ n → HasValue u)
      (λ n smaller u there is. has_value u there (λ w w_known less. smaller (node_of_variable f w) (subst (λ m. node_of_variable f w < m) is less) w w_known refl) (variable_case f u)) (node_of_variable f v) v known refl

-- the variables of latches are defined
pub latches_known : (f : File) → AllByRecursion (λ (l : LatchLine). IsKnown f l.literal) f.latches
latches_known f =
    let literals = map (λ (l : LatchLine). l.literal) f.latches in
    let leaves = (rec_parts (IsKnown f) (f.inputs ++ literals) (map (λ (g : GateLine). g.lhs) f.gates) (defined_known f)).0 in
    rec_unmap (IsKnown f) (λ (l : LatchLine). l.literal) f.latches (rec_parts (IsKnown f) f.inputs literals leaves).1

-- and so are those of inputs
pub inputs_known : (f : File) → AllByRecursion (IsKnown f) f.inputs
inputs_known f =
    let literals = map (λ (l : LatchLine). l.literal) f.latches in
    (rec_parts (IsKnown f) f.inputs literals (rec_parts (IsKnown f) (f.inputs ++ literals) (map (λ (g : GateLine). g.lhs) f.gates) (defined_known f)).0).0

-- and those of gates
pub gates_known : (f : File) → AllByRecursion (λ (g : GateLine). IsKnown f g.lhs) f.gates
gates_known f =
    rec_unmap (IsKnown f) (λ (g : GateLine). g.lhs) f.gates
    (rec_parts (IsKnown f) (f.inputs ++ map (λ (l : LatchLine). l.literal) f.latches) (map (λ (g : GateLine). g.lhs) f.gates) (defined_known f)).1

-- the variables of the latches' next literals are 0 or defined
pub nexts_known : (f : File) (limit : ℕ) → Fits f limit → AllByRecursion (λ (l : LatchLine). IsKnown f l.next) f.latches
nexts_known f limit fits = rec_unmap (IsKnown f) (λ (l : LatchLine). l.next) f.latches (used_by_section (IsKnown f) f (used_known f limit fits)).nexts

-- the leaf values of a run of the machine
abbrev pub leaves_of : File → (ℕ → ℕ → Bool) → ℕ → ℕ → Bool
leaves_of f run t = leaf_values f (run t)

pub forth_values : (f : File) (limit last : ℕ) (run : ℕ → ℕ → Bool) → Fits f limit → machine.IsMachineRun f last run → HasNodeValues f last (leaves_of f run) run
forth_values f limit last run fits r t v h known = values_at f limit fits (run t) (r.steps t h) v known

pub forth_run : (f : File) (limit last : ℕ) (run : ℕ → ℕ → Bool) → Fits f limit → machine.IsMachineRun f last run → IsRun (circuit_of f) last (leaves_of f run)
forth_run f limit last run fits r t h =
    let x = leaves_of f run in
    let Moved = λ (l : LatchLine). run (t + 1) (l.literal / 2) ≡ value_of_literal (run t) l.next in
    let Known = λ (l : LatchLine). IsKnown f l.literal × IsKnown f l.next in
    let To = λ (l : AigLatch). x (t + 1) l.input ≡ edge_value (nodes_of f) (x t) l.next in
    let known = rec_both (λ (l : LatchLine). IsKnown f l.literal) (λ (l : LatchLine). IsKnown f l.next) f.latches (latches_known f) (nexts_known f limit fits) in
    All-map To (latch_of f) f.latches (All-from_recursion (λ (l : LatchLine). To (latch_of f l)) f.latches
    (rec_weaker (λ (l : LatchLine). Moved l × Known l) (λ (l : LatchLine). To (latch_of f l))
    (λ l p.
    ap (run (t + 1)) (variable_at-number f limit fits (l.literal / 2) p.1.0) ∙ p.0
    ∙ sym (literal_is f last x run (forth_values f limit last run fits r) t l.next (omega arith) p.1.1))
    f.latches (rec_both Moved Known f.latches (r.moves t h) known)))

-- ---- from the circuit to the machine

pub latches_definable : (f : File) (limit : ℕ) → Fits f limit → AllByRecursion (λ (l : LatchLine). IsDefinable f.greatest l.literal) f.latches
latches_definable f limit fits =
    let leaves = (rec_parts (IsDefinable f.greatest) (f.inputs ++ map (λ (l : LatchLine). l.literal) f.latches) (map (λ (g : GateLine). g.lhs) f.gates) fits.definable).0 in
    rec_unmap (IsDefinable f.greatest) (λ (l : LatchLine). l.literal) f.latches
    (rec_parts (IsDefinable f.greatest) f.inputs (map (λ (l : LatchLine). l.literal) f.latches) leaves).1

pub inputs_definable : (f : File) (limit : ℕ) → Fits f limit → AllByRecursion (IsDefinable f.greatest) f.inputs
inputs_definable f limit fits =
    let literals = map (λ (l : LatchLine). l.literal) f.latches in
    (rec_parts (IsDefinable f.greatest) f.inputs literals (rec_parts (IsDefinable f.greatest) (f.inputs ++ literals) (map (λ (g : GateLine). g.lhs) f.gates) fits.definable).0).0

-- latches differ from gates, and gates from one another
pub later_distinct : (f : File) (limit : ℕ) → Fits f limit → AllByRecursion (λ x. AllByRecursion (λ y. nat_eq x y ≡ false) (map (λ (g : GateLine). g.lhs) f.gates)) (map (λ (l : LatchLine). l.literal) f.latches) × IsDistinct nat_eq (map (λ (g : GateLine). g.lhs) f.gates)
later_distinct f limit fits =
    let Differs = λ (x : ℕ). AllByRecursion (λ y. nat_eq x y ≡ false) (map (λ (g : GateLine). g.lhs) f.gates) in
    let r = differ_from (f.inputs ++ map (λ (l : LatchLine). l.literal) f.latches) (map (λ (g : GateLine). g.lhs) f.gates) fits.distinct in
    ((rec_parts Differs f.inputs (map (λ (l : LatchLine). l.literal) f.latches) r.0).1, r.1)

kind_found : (f : File) (v : ℕ) (g : GateLine) → 1 ≤ v → gate_of_variable f v ≡ Some g → kind_of f v ≡ kind_by f (Some g)
kind_found f v g h is = ap (λ b. cond b False (kind_by f (gate_of_variable f v))) (ne_eqb v 0 (λ e. absurd (omega arith))) ∙ ap (kind_by f) is

-- a gate's node has the value of the and of its operands
gate_step : (f : File) (limit : ℕ) → Fits f limit → (x : ℕ → Bool) (g : GateLine) → IsDefinable f.greatest g.lhs → IsKnown f g.lhs → gate_of_variable f (g.lhs / 2) ≡ Some g
    → (let values = λ (v : ℕ). node_value (nodes_of f) x (node_of_variable f v) in
    values (g.lhs / 2) ≡ value_of_literal values g.rhs0 && value_of_literal values g.rhs1)
gate_step f limit fits x g d known is =
    let values = λ (v : ℕ). node_value (nodes_of f) x (node_of_variable f v) in
    let low = (definable_told f.greatest g.lhs d).1 in
    let some : 1 ≤ g.lhs / 2 = omega arith in
    node_value-and_of (nodes_of f) (nodes-ordered f limit fits) x (node_of_variable f (g.lhs / 2)) (edge_of f g.rhs0) (edge_of f g.rhs1) (kind_at-number f limit fits (g.lhs / 2) known ∙ ap Some (kind_found f (g.lhs / 2) g some is))
    ∙ ap (λ b. b && edge_value (nodes_of f) x (edge_of f g.rhs1)) (edge_is f x values g.rhs0 refl)
    ∙ ap (λ b. value_of_literal values g.rhs0 && b) (edge_is f x values g.rhs1 refl)

pub back_step : (f : File) (limit : ℕ) → Fits f limit → (x : ℕ → Bool) → IsStep f (λ v. node_value (nodes_of f) x (node_of_variable f v))
back_step f limit fits x =
    let values = λ (v : ℕ). node_value (nodes_of f) x (node_of_variable f v) in
    let Definable = λ (g : GateLine). IsDefinable f.greatest g.lhs in
    let Known = λ (g : GateLine). IsKnown f g.lhs in
    let Found = λ (g : GateLine). gate_of_variable f (g.lhs / 2) ≡ Some g in
    let definable = gates_definable f limit fits in
    let found = found_all (λ (g : GateLine). g.lhs) f.gates (rec_weaker Definable (λ (g : GateLine). g.lhs % 2 ≡ 0) (λ g d. even_literal f.greatest g.lhs d) f.gates definable) (later_distinct f limit fits).1 in record {
      zero = ap (node_value (nodes_of f) x) (node_of_variable-zero f) ∙ node_value-false (nodes_of f) x 0 (sym (ap (λ n. kind_at (nodes_of f) n) (node_of_variable-zero f)) ∙ kind_at-number f limit fits 0 refl);
      gates = rec_weaker (λ g. (Definable g × Known g) × Found g) (λ (g : GateLine). values (g.lhs / 2) ≡ value_of_literal values g.rhs0 && value_of_literal values g.rhs1)
          (λ g p. gate_step f limit fits x g p.0.0 p.0.1 p.1) f.gates (rec_both (λ g. Definable g × Known g) Found f.gates (rec_both Definable Known f.gates definable (gates_known f)) found);
    }

-- a leaf's node has its leaf value
pub leaf_value : (f : File) (limit : ℕ) → Fits f limit → (x : ℕ → Bool) (e : ℕ) → IsDefinable f.greatest e → IsKnown f e → gate_of_variable f (e / 2) ≡ None → node_value (nodes_of f) x (node_of_variable f (e / 2)) ≡ x (node_of_variable f (e / 2))
leaf_value f limit fits x e d known is =
    let low = (definable_told f.greatest e d).1 in
    let some : 1 ≤ e / 2 = omega arith in
    node_value-leaf (nodes_of f) x (node_of_variable f (e / 2)) (kind_at-number f limit fits (e / 2) known ∙ ap Some (kind_missed f (e / 2) some is))

pub all_unmap : {X Y : Type 0} (P : X → Type 0) (g : Y → X) (ys : List Y) → All P (map g ys) → AllByRecursion (λ y. P (g y)) ys
all_unmap P g ys h = rec_unmap P g ys (recursion_from_All P (map g ys) h)

-- each latch's node has its leaf value
pub latch_values : (f : File) (limit : ℕ) → Fits f limit → (x : ℕ → Bool) → AllByRecursion (λ (l : LatchLine). node_value (nodes_of f) x (node_of_variable f (l.literal / 2)) ≡ x (node_of_variable f (l.literal / 2))) f.latches
latch_values f limit fits x =
    let Definable = λ (l : LatchLine). IsDefinable f.greatest l.literal in
    let Known = λ (l : LatchLine). IsKnown f l.literal in
    let Differs = λ (l : LatchLine). AllByRecursion (λ y. nat_eq l.literal y ≡ false) (map (λ (g : GateLine). g.lhs) f.gates) in
    let differs = rec_unmap (λ y. AllByRecursion (λ z. nat_eq y z ≡ false) (map (λ (g : GateLine). g.lhs) f.gates)) (λ (l : LatchLine). l.literal) f.latches (later_distinct f limit fits).0 in
    rec_weaker (λ l. (Definable l × Known l) × Differs l) (λ (l : LatchLine). node_value (nodes_of f) x (node_of_variable f (l.literal / 2)) ≡ x (node_of_variable f (l.literal / 2)))
    (λ l p. leaf_value f limit fits x l.literal p.0.0 p.0.1 (leaf_missed f limit fits l.literal (even_literal f.greatest l.literal p.0.0) p.1)) f.latches
    (rec_both (λ l. Definable l × Known l) Differs f.latches (rec_both Definable Known f.latches (latches_definable f limit fits) (latches_known f)) differs)

-- and so has each input's
pub input_values : (f : File) (limit : ℕ) → Fits f limit → (x : ℕ → Bool) → AllByRecursion (λ e. node_value (nodes_of f) x (node_of_variable f (e / 2)) ≡ x (node_of_variable f (e / 2))) f.inputs
input_values f limit fits x =
    let lefts = map (λ (g : GateLine). g.lhs) f.gates in
    let literals = map (λ (l : LatchLine). l.literal) f.latches in
    let Definable = IsDefinable f.greatest in
    let Differs = λ (e : ℕ). AllByRecursion (λ y. nat_eq e y ≡ false) lefts in
    let differs = (rec_parts Differs f.inputs literals (differ_from (f.inputs ++ literals) lefts fits.distinct).0).0 in
    rec_weaker (λ e. (Definable e × IsKnown f e) × Differs e) (λ e. node_value (nodes_of f) x (node_of_variable f (e / 2)) ≡ x (node_of_variable f (e / 2)))
    (λ e p. leaf_value f limit fits x e p.0.0 p.0.1 (leaf_missed f limit fits e (even_literal f.greatest e p.0.0) p.1)) f.inputs
    (rec_both (λ e. Definable e × IsKnown f e) Differs f.inputs (rec_both Definable (IsKnown f) f.inputs (inputs_definable f limit fits) (inputs_known f)) differs)

pub back_moves : (f : File) (limit last : ℕ) (x : ℕ → ℕ → Bool) → Fits f limit → IsRun (circuit_of f) last x → (t : ℕ) → t < last → Moves f (values_over f x t) (values_over f x (t + 1))
back_moves f limit last x fits r t h =
    let To = λ (l : AigLatch). x (t + 1) l.input ≡ edge_value (nodes_of f) (x t) l.next in
    let Goes = λ (l : LatchLine). To (latch_of f l) in
    let Is = λ (l : LatchLine). values_over f x (t + 1) (l.literal / 2) ≡ x (t + 1) (node_of_variable f (l.literal / 2)) in
    rec_weaker (λ l. Is l × Goes l) (λ (l : LatchLine). values_over f x (t + 1) (l.literal / 2) ≡ value_of_literal (values_over f x t) l.next)
    (λ l p. p.0 ∙ p.1 ∙ edge_is f (x t) (values_over f x t) l.next refl)
    f.latches (rec_both Is Goes f.latches (latch_values f limit fits (x (t + 1))) (all_unmap To (latch_of f) f.latches (r t h)))

pub back_run : (f : File) (limit last : ℕ) (x : ℕ → ℕ → Bool) → Fits f limit → IsRun (circuit_of f) last x → machine.IsMachineRun f last (values_over f x)
back_run f limit last x fits r = record { steps = λ t h. back_step f limit fits (x t); moves = λ t h. back_moves f limit last x fits r t h }
