-- A fair lasso of a file's machine and one of its circuit are one.
use Rattle.aig_base.proofs.Words.{◌≡◌, ℕ, ◌/◌, ◌≤◌, Bool, IsTrue, Some, List, [], map, refl, sym, ap, subst, ◌∙◌, arith, All, All-append, All-nil, same_Some, All-from_recursion, All-map, recursion_from_All, AllByRecursion, slice_get_within, get_or_from_slice_get}
use Rattle.aig_circuit.specs.declared.edge.AigEdge.{AigEdge}
use Rattle.aig_circuit.specs.declared.node.AigLatch.{AigLatch}
use Rattle.aig_circuit.proofs.Words.{Circuit, IsRun, Properties, edge_value, AllProperties}
use Rattle.aig_circuit.proofs.Listed.{AllProperties-weaker}
use Rattle.aig_circuit.proofs.Lists.{All-from_map}
use Rattle.aig_format.proofs.Words.{LatchLine, circuit_of, edge_of, latch_of, File, Fits, value_of_literal, IsKnown}
use Rattle.aig_format.specs.Machine as machine
use Rattle.aig_format.proofs.Circuits.{used_by_section}
use Rattle.aig_format.proofs.Entries.{rec_both, rec_weaker}
use Rattle.aig_format.proofs.Numbers.{used_known, variable_at-number}
use Rattle.aig_format_laws.specs.Nodes.{HasNodeValues, values_over}
use Rattle.aig_format_laws.proofs.Joining.{all_unmap, back_run, edge_is, forth_run, forth_values, latch_values, latches_known, leaves_of, literal_is, nexts_known}
use Rattle.aig_format_laws.proofs.Starts.{starts_agree}
use Rattle.aig_live.specs.Met.{IsMet}
use Rattle.aig_change.specs.Runs.{IsAllowedRun}
use Rattle.aig_live.specs.Lassos.{IsLasso}
use Rattle.aig_edit_laws.specs.Fair.{AreAsked, AreAskedBy, IsFairLasso, LacksJustice, own_of}
use Rattle.aig_edit_laws.specs.declared.fairness.Fairness.{Fairness}
use Rattle.aig_edit_laws.specs.declared.fairness.Fairness.TheVariants.{Alone, Justice}
use Rattle.aig_edit_laws.specs.Shown.{IsAllowedMachineRun}

module _ (f : File) (limit k : ℕ) (fits : Fits f limit) (literals : List ℕ)
    (known : AllByRecursion (IsKnown f) literals) (x run : ℕ → ℕ → Bool)
    (values : HasNodeValues f k x run) where
  abbrev c : Circuit
  c = circuit_of f

  -- the literal has at the step the value of its edge
  abbrev Keeps : ℕ → ℕ → Type 0
  Keeps t e = edge_value c.nodes (x t) (edge_of f e) ≡ value_of_literal (run t) e

  keeps : (t : ℕ) → t ≤ k → AllProperties (Keeps t) f.properties
  keeps t h = AllProperties-weaker (IsKnown f) (Keeps t)
      (λ e is. literal_is f k x run values t e h is) f.properties (used_by_section (IsKnown f) f
      (used_known f limit fits)).properties

  abbrev IsTrueEdge : ℕ → AigEdge → Type 0
  IsTrueEdge t e = IsTrue (edge_value c.nodes (x t) e)

  abbrev IsTrueLiteral : ℕ → ℕ → Type 0
  IsTrueLiteral t e = IsTrue (value_of_literal (run t) e)

  pub allowed_forth : IsRun c k x → IsAllowedMachineRun f k run → IsAllowedRun c k x
  allowed_forth is a = record {
    from_start = record { run = is; start = (starts_agree f limit k x run fits values).0 a.start };
    allowed = λ t h.
        let holds = All-from_recursion (IsTrueLiteral t) f.properties.constraints (a.allowed t h) in
        All-map (IsTrueEdge t) (edge_of f) f.properties.constraints (λ j d l.
        (keeps t h).constraints j d l ∙ holds j d l);
  }

  pub allowed_back : machine.IsMachineRun f k run → IsAllowedRun c k x → IsAllowedMachineRun f k run
  allowed_back is a = record {
    is_run = is;
    start = (starts_agree f limit k x run fits values).1 a.from_start.start;
    allowed = λ t h.
        let holds = All-from_map (edge_of f) (IsTrueEdge t) f.properties.constraints
        (a.allowed t h) in
        recursion_from_All (IsTrueLiteral t) f.properties.constraints (λ j d l. sym
        ((keeps t h).constraints j d l) ∙ holds j d l);
  }

  -- what is met of a literal is met of its edge
  pub met_forth : (l : ℕ) → AllByRecursion (λ e. IsMet (λ t. value_of_literal
      (run t) e) l k) literals
      → All (λ e. IsMet (λ t. edge_value c.nodes (x t) e) l k) (map (edge_of f) literals)
  met_forth l met =
      All-map (λ e. IsMet (λ t. edge_value c.nodes (x t) e) l k) (edge_of f) literals
      (All-from_recursion (λ e. IsMet (λ t. edge_value c.nodes (x t) (edge_of f e)) l k) literals
      (rec_weaker (λ e. IsKnown f e × IsMet (λ t. value_of_literal (run t) e) l k)
      (λ e. IsMet (λ t. edge_value c.nodes (x t) (edge_of f e)) l k)
      (λ e p. (p.1.0, p.1.1, p.1.2, literal_is f k x run values p.1.0 e p.1.2 p.0 ∙ p.1.3)) literals
      (rec_both (IsKnown f) (λ e. IsMet (λ t. value_of_literal (run t) e) l k) literals known met)))

  pub met_back : (l : ℕ) → All (λ e. IsMet (λ t. edge_value c.nodes (x t) e) l k) (map
      (edge_of f) literals)
      → AllByRecursion (λ e. IsMet (λ t. value_of_literal (run t) e) l k) literals
  met_back l met =
      rec_weaker (λ e. IsKnown f e × IsMet (λ t. edge_value c.nodes (x t) (edge_of f e)) l k)
      (λ e. IsMet (λ t. value_of_literal (run t) e) l k)
      (λ e p. (
        p.1.0,
        p.1.1,
        p.1.2,
        sym (literal_is f k x run values p.1.0 e p.1.2 p.0)
            ∙ p.1.3,
      )) literals
      (rec_both (IsKnown f) (λ e. IsMet (λ t. edge_value c.nodes (x t)
      (edge_of f e)) l k) literals known
      (all_unmap (λ e. IsMet (λ t. edge_value c.nodes (x t) e) l k) (edge_of f) literals met))

pub lasso_forth : (f : File) (limit l k : ℕ) (literals : List ℕ) (run : ℕ → ℕ → Bool) → Fits f limit
    → AllByRecursion (IsKnown f) literals → IsFairLasso f literals l k run
    → IsLasso (map (edge_of f) literals) (circuit_of f) l k (leaves_of f run)
lasso_forth f limit l k literals run fits known lasso =
    let x = leaves_of f run in
    let values = forth_values f limit k run fits lasso.allowed.is_run in
    let Moved = λ (line : LatchLine). run l (line.literal / 2) ≡ value_of_literal
    (run k) line.next in
    let Known = λ (line : LatchLine). IsKnown f line.literal × IsKnown f line.next in
    let To = λ (latch : AigLatch). x l latch.input ≡ edge_value (circuit_of f).nodes
    (x k) latch.next in
    let both = rec_both (λ (line : LatchLine). IsKnown f line.literal) (λ (line : LatchLine).
    IsKnown f line.next) f.latches (latches_known f) (nexts_known f limit fits) in
    record {
      allowed = allowed_forth f limit k fits literals known x run values
          (forth_run f limit k run fits lasso.allowed.is_run) lasso.allowed;
      order = lasso.order;
      loops = All-map To (latch_of f) f.latches (All-from_recursion (λ (line : LatchLine). To
          (latch_of f line)) f.latches
          (rec_weaker (λ (line : LatchLine). Moved line × Known line) (λ (line : LatchLine). To
          (latch_of f line))
          (λ line p.
          ap (run l) (variable_at-number f limit fits (line.literal / 2) p.1.0) ∙ p.0
          ∙ sym (literal_is f k x run values k line.next (omega arith) p.1.1))
          f.latches (rec_both Moved Known f.latches lasso.loops both)));
      fair = met_forth f limit k fits literals known x run values l lasso.fair;
    }

pub lasso_back : (f : File) (limit l k : ℕ) (literals : List ℕ) (x : ℕ → ℕ → Bool) → Fits f limit
    → AllByRecursion (IsKnown f) literals → IsLasso (map (edge_of f) literals) (circuit_of f) l k x
    → IsFairLasso f literals l k (values_over f x)
lasso_back f limit l k literals x fits known lasso =
    let run = values_over f x in
    let values : HasNodeValues f k x run = λ t v h is_known. refl in
    let To = λ (latch : AigLatch). x l latch.input ≡ edge_value (circuit_of f).nodes
    (x k) latch.next in
    let Goes = λ (line : LatchLine). To (latch_of f line) in
    let Is = λ (line : LatchLine). values_over f x l (line.literal / 2) ≡ x l
    (latch_of f line).input in
    record {
      allowed = allowed_back f limit k fits literals known x run values
          (back_run f limit k x fits lasso.allowed.from_start.run) lasso.allowed;
      order = lasso.order;
      loops = rec_weaker (λ line. Is line × Goes line) (λ (line : LatchLine). run l
          (line.literal / 2) ≡ value_of_literal (run k) line.next)
          (λ line p. p.0 ∙ p.1 ∙ edge_is f (x k) (run k) line.next refl)
          f.latches (rec_both Is Goes f.latches (latch_values f limit fits (x l)) (all_unmap To
          (latch_of f) f.latches lasso.loops));
      fair = met_back f limit k fits literals known x run values l lasso.fair;
    }

-- what holds of all entries of properties holds of those that are asked for
pub asked_all : {E : Type 0} (P : E → Type 0) (properties : Properties E) (fairness : Fairness)
    (asked : List E) → AllProperties P properties → AreAsked properties fairness asked
    → All P asked
asked_all P properties fairness asked all (own, there, is) =
    subst (All P) (sym is) (All-append P own properties.fairness (of_own fairness there)
    all.fairness)
  where
    of_own : (fairness : Fairness) → own_of properties fairness ≡ Some own → All P own
    of_own (Justice j) there =
        subst (All P) (get_or_from_slice_get properties.justice j own own there)
        (all.justice j own (slice_get_within properties.justice j own there))
    of_own Alone there = subst (All P) (same_Some [] own there) (All-nil P)

-- what is asked for isn't of a justice property that is missing
pub asked_of_some : {E : Type 0} (properties : Properties E) (fairness : Fairness)
    (asked : List E) → AreAsked properties fairness asked → ¬ LacksJustice properties fairness
asked_of_some properties (Justice j) asked (own, there, is) none =
    let within = slice_get_within properties.justice j own there in omega (arith, within, none)
asked_of_some properties Alone asked are none = none

-- the literals that are asked for are known
pub asked_known : (f : File) (limit : ℕ) (fairness : Fairness) (literals : List ℕ) → Fits f limit
    → AreAskedBy f fairness literals → AllByRecursion (IsKnown f) literals
asked_known f limit fairness literals fits asked =
    recursion_from_All (IsKnown f) literals (asked_all (IsKnown f) f.properties fairness literals
    (used_by_section (IsKnown f) f (used_known f limit fits)).properties asked)
