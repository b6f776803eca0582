-- From known lassos of a file's circuit to the runs of its machine.
use Rattle.aig_base.proofs.Words.{◌≡◌, ◌≢◌, ℕ, zero, suc, ◌+◌, ◌-◌, ◌/◌, ◌<◌, ◌≤◌, Bool, IsTrue, List, [], ◌++◌, length, map, get_or, refl, sym, ap, subst, ◌∙◌, arith, All, All-append, All-map, AllByRecursion, get_or-map, length-map, map-append, slice_get-get_or, slice_index_or}
use Rattle.aig_base.specs.declared.logic.three.Lbool.{Lbool}
use Rattle.aig_base.specs.declared.logic.three.Lbool.TheVariants.{FALSE, TRUE, NONE}
use Rattle.aig_base.specs.Three.{Agrees}
use Rattle.aig_circuit.specs.declared.edge.AigEdge.{AigEdge}
use Rattle.aig_circuit.specs.declared.node.AigLatch.{AigLatch}
use Rattle.aig_circuit.proofs.Words.{Circuit, IsCircuit, IsInRange, edge_value, latch_leaves}
use Rattle.aig_format.proofs.Words.{LatchLine, circuit_of, edge_of, latch_of, File, Fits, value_of_literal, IsKnown}
use Rattle.aig_format.specs.Machine.{IsMachineRun, Moves}
use Rattle.aig_format.proofs.Circuits.{IsCircuit-of_file}
use Rattle.aig_format.proofs.Entries.{rec_both, rec_weaker}
use Rattle.aig_format_laws.specs.Nodes.{HasNodeValues}
use Rattle.aig_format_laws.proofs.Joining.{all_unmap, forth_values, latches_known, leaves_of, literal_is, nexts_known}
use Rattle.aig_live.specs.Met.{IsMet}
use Rattle.aig_edit_laws.specs.Fair.{AreAskedBy, IsFairLasso}
use Rattle.aig_edit_laws.specs.declared.fairness.Fairness.TheVariants.{Justice}
use Rattle.aig_edit_laws.proofs.Files.{asked_known, met_back}
use Rattle.aig_ternary.specs.Ternary.{value_in}
use Rattle.aig_unroll.proofs.Lists.{zip_at}
use Rattle.aig_witness.specs.Machine.{HasGiven}
use Rattle.aig_witness.specs.Shown.{simulated}
use Rattle.aig_witness.specs.Witness.{Witness}
use Rattle.aig_witness.proofs.ShownRuns.{KnownHold, constraints_hold, edge_agrees, edge_holds, first_agrees, given_is_there, is_filling, is_initial, leaf_is}
use Rattle.aig_witness.proofs.Zips.{zip_unmade}
use Rattle.aig_witness.specs.Lassos.{IsKnownLasso, IsMetFrom, named_justice, state_before}
use Rattle.aig_witness.specs.ShownLassos.{ShowsLasso}
use Rattle.aig_witness.proofs.States.{state_is, state_long}

-- a known value is of one truth value
both_known : (v : Lbool) (a b : Bool) → v ≢ NONE → Agrees v a → Agrees v b → a ≡ b
both_known FALSE a b ne h k = h ∙ sym k
both_known TRUE a b ne h k = h ∙ sym k
both_known NONE a b ne h k = absurd (ne refl)

-- ---- which literals are asked for

-- the literals of the property of a number, and those of fairness
abbrev pub asked_of : File → ℕ → List ℕ
asked_of f j = get_or f.properties.justice j [] ++ f.properties.fairness

pub asked_there : (f : File) (j : ℕ) → j < length f.properties.justice
    → AreAskedBy f (Justice j) (asked_of f j)
asked_there f j h = (
  get_or f.properties.justice j [],
  slice_get-get_or f.properties.justice j [] h,
  refl,
)

-- their edges
pub asked_edges : (f : File) (w : Witness) → w.bad < length f.properties.justice
    → named_justice (circuit_of f) w ++ (circuit_of f).properties.fairness
    ≡ map (edge_of f) (asked_of f w.bad)
asked_edges f w h =
    ap (λ own. own ++ map (edge_of f) f.properties.fairness)
    (get_or-map (map (edge_of f)) f.properties.justice w.bad [] [] h)
    ∙ sym (map-append (edge_of f) (get_or f.properties.justice w.bad []) f.properties.fairness)

pub many_justice : (f : File) (w : Witness)
    → w.bad < length (circuit_of f).properties.justice → w.bad < length f.properties.justice
many_justice f w h = omega (arith, length-map f.properties.justice (map (edge_of f)))

module _ (f : File) (limit l : ℕ) (w : Witness) (fits : Fits f limit) (hold : KnownHold)
    (known : IsKnownLasso (circuit_of f) w l) where
  abbrev c : Circuit
  c = circuit_of f

  abbrev last : ℕ
  last = length w.steps - 1

  is_circuit : IsCircuit c
  is_circuit = IsCircuit-of_file f limit fits

  some : 0 < length w.steps
  some = known.started.some

  in_order : l ≤ last
  in_order = let within = known.loop.within in omega arith

  named : w.bad < length f.properties.justice
  named = many_justice f w known.started.named

  abbrev literals : List ℕ
  literals = asked_of f w.bad

  asked : AreAskedBy f (Justice w.bad) literals
  asked = asked_there f w.bad named

  abbrev edges : List AigEdge
  edges = named_justice c w ++ c.properties.fairness

  edges_there : All (IsInRange c.nodes) edges
  edges_there = All-append (IsInRange c.nodes) (named_justice c w) c.properties.fairness
      (is_circuit.properties.justice w.bad [] known.started.named) is_circuit.properties.fairness

  edges_met : All (IsMetFrom c w l) edges
  edges_met = All-append (IsMetFrom c w l) (named_justice c w) c.properties.fairness known.justice
      known.fairness

  module _ (run : ℕ → ℕ → Bool) (is_run : IsMachineRun f last run) (has : HasGiven f w run) where
    abbrev x : ℕ → ℕ → Bool
    x = leaves_of f run

    values : HasNodeValues f last x run
    values = forth_values f limit last run fits is_run

    agrees : (t : ℕ) (e : AigEdge) → t < length w.steps → IsInRange c.nodes e
        → Agrees (value_in (simulated c w t) e) (edge_value c.nodes (x t) e)
    agrees = edge_agrees f limit w fits hold some run is_run has

    -- what is known of a latch after a step
    after_step : (t : ℕ) → t < length w.steps → (i : ℕ) (d : AigLatch) → i < length c.latchs
        → slice_index_or (state_before c w (t + 1)) i NONE
        ≡ value_in (simulated c w t) (get_or c.latchs i d).next
    after_step t h i d lt =
        ap (λ state. slice_index_or state i NONE) (state_is c is_circuit w t h)
        ∙ get_or-map (λ (latch : AigLatch). value_in (simulated c w t) latch.next) c.latchs i d NONE
        lt

    -- what is known of a latch before a step is its value
    state_agrees : (t : ℕ) → t < length w.steps → (i : ℕ) (d : AigLatch) → i < length c.latchs
        → Agrees (slice_index_or (state_before c w t) i NONE) (x t (get_or c.latchs i d).input)
    state_agrees zero h i d lt =
        zip_at (λ (latch : AigLatch) v. Agrees v (x 0 latch.input)) c.latchs w.state i d NONE
        (zip_unmade (λ (latch : AigLatch). latch.input) (λ n v. Agrees v (x 0 n)) c.latchs w.state
        (first_agrees f limit w fits run is_run has)) lt
    state_agrees (suc t) h i d lt =
        let next : t + 1 ≡ suc t = omega arith in
        let before : t < length w.steps = omega arith in
        let e = (get_or c.latchs i d).next in
        let move : x (t + 1) (get_or c.latchs i d).input ≡ edge_value c.nodes (x t) e =
        (is_filling f limit w fits run is_run has).run t (omega arith) i d lt in
        subst (λ n. Agrees (slice_index_or (state_before c w n) i NONE)
        (x n (get_or c.latchs i d).input)) next
        (subst (λ v. Agrees v (x (t + 1) (get_or c.latchs i d).input))
        (sym (after_step t before i d lt))
        (subst (Agrees (value_in (simulated c w t) e)) (sym move)
        (agrees t e before (is_circuit.latchs i d lt).next)))

    comes_again : All (λ (latch : AigLatch). x l latch.input ≡ edge_value c.nodes (x last)
        latch.next) c.latchs
    comes_again i d lt =
        let e = (get_or c.latchs i d).next in
        let within : l < length w.steps = known.loop.within in
        let long : length (state_before c w l) ≡ length c.latchs =
        state_long c is_circuit w known.started.latches l (omega arith) in
        let there : i < length (state_before c w l) = omega arith in
        let again = known.loop.again i there in
        let end : last < length w.steps = omega (arith, some) in
        let whole : last + 1 ≡ length w.steps = omega (arith, some) in
        let same : slice_index_or (state_before c w l) i NONE ≡ value_in (simulated c w last) e =
        again.1 ∙ ap (λ n. slice_index_or (state_before c w n) i NONE) (sym whole)
        ∙ after_step last end i d lt in
        both_known (slice_index_or (state_before c w l) i NONE) (x l (get_or c.latchs i d).input)
        (edge_value c.nodes (x last) e) again.0 (state_agrees l within i d lt)
        (subst (λ v. Agrees v (edge_value c.nodes (x last) e)) (sym same)
        (agrees last e end (is_circuit.latchs i d lt).next))

    moves : Moves f (run last) (run l)
    moves =
        let To = λ (latch : AigLatch). x l latch.input ≡ edge_value c.nodes (x last) latch.next in
        let Known = λ (line : LatchLine). IsKnown f line.literal × IsKnown f line.next in
        let Goes = λ (line : LatchLine). To (latch_of f line) in
        rec_weaker (λ (line : LatchLine). Goes line × Known line)
        (λ (line : LatchLine). run l (line.literal / 2) ≡ value_of_literal (run last) line.next)
        (λ line p. sym (leaf_is f limit w fits run is_run has l line.literal p.1.0) ∙ p.0
        ∙ literal_is f last x run values last line.next (omega arith) p.1.1)
        f.latches
        (rec_both Goes Known f.latches (all_unmap To (latch_of f) f.latches comes_again)
        (rec_both (λ (line : LatchLine). IsKnown f line.literal)
        (λ (line : LatchLine). IsKnown f line.next) f.latches (latches_known f)
        (nexts_known f limit fits)))

    -- what is known to be met is met
    is_met : (e : AigEdge) → IsInRange c.nodes e → IsMetFrom c w l e
        → IsMet (λ t. edge_value c.nodes (x t) e) l last
    is_met e there met =
        let within : met.0 < length w.steps = met.2 in (
          met.0,
          met.1,
          omega arith,
          edge_holds f limit w fits hold some run is_run has met.0 e within there met.3,
        )

    are_met : All (λ e. IsMet (λ t. edge_value c.nodes (x t) e) l last) (map (edge_of f) literals)
    are_met = subst (All (λ e. IsMet (λ t. edge_value c.nodes (x t) e) l last))
        (asked_edges f w named)
        (λ i d lt. is_met (get_or edges i d) (edges_there i d lt) (edges_met i d lt))

    pub fair_lasso : IsFairLasso f literals l last run
    fair_lasso = record {
      allowed = record {
        is_run = is_run;
        start = is_initial f limit w fits hold some run is_run has known.started.start;
        allowed = constraints_hold f limit w fits hold some run is_run has known.steps;
      };
      order = in_order;
      loops = moves;
      fair = met_back f limit last fits literals
          (asked_known f limit (Justice w.bad) literals fits asked) x run values l are_met;
    }

  pub shows_lasso : ShowsLasso f w l
  shows_lasso = record {
    some = some;
    there = given_is_there f limit w fits known.started.latches known.steps.inputs some;
    asked = (literals, asked);
    each = fair_lasso;
  }
