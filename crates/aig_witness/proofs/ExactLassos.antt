-- A witness all of whose values are given shows a fair lasso only where nothing is wrong with it.
use Rattle.aig_base.proofs.Words.{◌≡◌, ◌≢◌, ◌⊎◌, ℕ, zero, suc, ◌+◌, ◌-◌, ◌<◌, ◌≤◌, Bool, true, false, IsTrue, List, [], ◌++◌, length, map, get_or, refl, sym, ap, subst, ◌∙◌, arith, inl, inr, All, All-map, get_or-map, length-map, slice_get_within, get_or_from_slice_get, slice_index_or, cases_lt, All-append}
use Rattle.std.specs.Prelude.{None}
use Rattle.aig_base.specs.declared.logic.three.Lbool.{Lbool}
use Rattle.aig_base.specs.declared.logic.three.Lbool.TheVariants.{FALSE, TRUE, NONE}
use Rattle.aig_circuit.specs.declared.edge.AigEdge.{AigEdge}
use Rattle.aig_circuit.specs.declared.node.AigLatch.{AigLatch}
use Rattle.aig_circuit.proofs.Words.{Circuit, IsCircuit, IsInRange, edge_to, edge_value}
use Rattle.aig_circuit.proofs.Lists.{All-first, All-second}
use Rattle.aig_format.proofs.Words.{circuit_of, edge_of, File, Fits}
use Rattle.aig_format.proofs.Circuits.{IsCircuit-of_file}
use Rattle.aig_format_laws.proofs.Joining.{leaves_of}
use Rattle.aig_live.specs.Met.{IsMet}
use Rattle.aig_live.specs.Lassos.{IsLasso}
use Rattle.aig_edit_laws.specs.declared.fairness.Fairness.TheVariants.{Justice}
use Rattle.aig_edit_laws.proofs.Files.{asked_known, lasso_forth}
use Rattle.aig_ternary.specs.Ternary.{value_in}
use Rattle.aig_witness.specs.declared.fault.WitnessFault.{WitnessFault}
use Rattle.aig_witness.specs.declared.fault.WitnessFault.TheVariants as witness
use Rattle.aig_witness.specs.Machine.{IsGiven}
use Rattle.aig_witness.specs.Shown.{HoldsSteps, known_of, simulated}
use Rattle.aig_witness.specs.Witness.{Witness}
use Rattle.aig_witness.proofs.Exact.{edge_known, first_known, given_latches, given_starts, given_steps}
use Rattle.aig_witness.proofs.ShownRuns.{is_filling}
use Rattle.aig_witness.specs.declared.fair.fault.LassoFault.{LassoFault}
use Rattle.aig_witness.specs.declared.fair.fault.LassoFault.TheVariants as errors
use Rattle.aig_witness.specs.WrongLassos.{IsWrongLasso, IsWrongRun}
use Rattle.aig_witness.specs.Lassos.{ComesAgain, IsLassoStarted, IsLoopStart, IsMetFrom, named_justice, state_before}
use Rattle.aig_witness.specs.ShownLassos.{ShowsLasso}
use Rattle.aig_witness.proofs.Lassos.{asked_edges, asked_of}
use Rattle.aig_witness.proofs.States.{state_is, state_long}

known_some : (b : Bool) → known_of b ≢ NONE
known_some true is = cc
known_some false is = cc

module _ (f : File) (limit l : ℕ) (w : Witness) (fits : Fits f limit) (given : IsGiven w)
    (shows : ShowsLasso f w l) where
  abbrev c : Circuit
  c = circuit_of f

  abbrev last : ℕ
  last = length w.steps - 1

  is_circuit : IsCircuit c
  is_circuit = IsCircuit-of_file f limit fits

  some : 0 < length w.steps
  some = shows.some

  abbrev run : ℕ → ℕ → Bool
  run = shows.there.0

  abbrev x : ℕ → ℕ → Bool
  x = leaves_of f run

  abbrev literals : List ℕ
  literals = shows.asked.0

  lasso : IsLasso (map (edge_of f) literals) c l last x
  lasso = lasso_forth f limit l last literals run fits (asked_known f limit (Justice w.bad) literals
      fits shows.asked.1) (shows.each run shows.there.1 shows.there.2)

  named : w.bad < length f.properties.justice
  named = slice_get_within f.properties.justice w.bad shows.asked.1.0 shows.asked.1.1

  asked_is : literals ≡ asked_of f w.bad
  asked_is = shows.asked.1.2
      ∙ ap (λ own. own ++ f.properties.fairness) (sym (get_or_from_slice_get f.properties.justice
      w.bad shows.asked.1.0 [] shows.asked.1.1))

  within : l < length w.steps
  within = let order = lasso.order in omega (arith, some)

  edges_are : map (edge_of f) literals ≡ named_justice c w ++ c.properties.fairness
  edges_are = ap (map (edge_of f)) asked_is ∙ sym (asked_edges f w named)

  value : (t : ℕ) → t < length w.steps → (e : AigEdge) → IsInRange c.nodes e
      → value_in (simulated c w t) e ≡ known_of (edge_value c.nodes (x t) e)
  value = edge_known f limit w fits given run shows.there.1 shows.there.2

  pub started : IsLassoStarted c w
  started = record {
    latches = given_latches f limit w fits given run shows.there.1 shows.there.2;
    some = some;
    named = omega (arith, named, length-map f.properties.justice (map (edge_of f)));
    start = given_starts f limit w fits given run shows.there.1 shows.there.2
        (shows.each run shows.there.1 shows.there.2).allowed.start;
  }

  pub steps : HoldsSteps c w
  steps = given_steps f limit w fits given run shows.there.1 shows.there.2
      (shows.each run shows.there.1 shows.there.2).allowed.allowed

  -- the value of a latch after a step is known
  after_step : (t : ℕ) → t < length w.steps → (i : ℕ) (d : AigLatch) → i < length c.latchs
      → slice_index_or (state_before c w (t + 1)) i NONE
      ≡ known_of (edge_value c.nodes (x t) (get_or c.latchs i d).next)
  after_step t h i d lt =
      ap (λ state. slice_index_or state i NONE) (state_is c is_circuit w t h)
      ∙ get_or-map (λ (latch : AigLatch). value_in (simulated c w t) latch.next) c.latchs i d NONE
      lt
      ∙ value t h (get_or c.latchs i d).next (is_circuit.latchs i d lt).next

  -- and before one
  before_step : (t : ℕ) → t < length w.steps → (i : ℕ) (d : AigLatch) → i < length c.latchs
      → slice_index_or (state_before c w t) i NONE ≡ known_of (x t (get_or c.latchs i d).input)
  before_step zero h i d lt = first_known f limit w fits given run shows.there.1 shows.there.2 i d
      lt
  before_step (suc t) h i d lt =
      let next : t + 1 ≡ suc t = omega arith in
      let move : x (t + 1) (get_or c.latchs i d).input
      ≡ edge_value c.nodes (x t) (get_or c.latchs i d).next =
      (is_filling f limit w fits run shows.there.1 shows.there.2).run t (omega arith) i d lt in
      subst (λ n. slice_index_or (state_before c w n) i NONE
      ≡ known_of (x n (get_or c.latchs i d).input)) next
      (after_step t (omega arith) i d lt ∙ ap known_of (sym move))

  pub comes_again : ComesAgain c w l
  comes_again i h =
      let long : length (state_before c w l) ≡ length c.latchs =
      state_long c is_circuit w started.latches l (omega (arith, within)) in
      let lt : i < length c.latchs = omega arith in
      let d = get_or c.latchs i (record { input = 0; next = edge_to 0 false; init = None }) in
      let at = before_step l within i d lt in
      let end : last < length w.steps = omega (arith, some) in
      let whole : last + 1 ≡ length w.steps = omega (arith, some) in (
        λ none. known_some (x l (get_or c.latchs i d).input) (sym at ∙ none),
        at ∙ ap known_of (lasso.loops i d lt) ∙ sym (after_step last end i d lt)
            ∙ ap (λ n. slice_index_or (state_before c w n) i NONE) whole,
      )

  edges_there : All (IsInRange c.nodes) (named_justice c w ++ c.properties.fairness)
  edges_there = All-append (IsInRange c.nodes) (named_justice c w) c.properties.fairness
      (is_circuit.properties.justice w.bad [] started.named) is_circuit.properties.fairness

  met : (m : ℕ) → m ≤ l → All (IsMetFrom c w m) (named_justice c w ++ c.properties.fairness)
  met m low i d lt =
      let edges = named_justice c w ++ c.properties.fairness in
      let fair = subst (All (λ e. IsMet (λ t. edge_value c.nodes (x t) e) l last)) edges_are
      lasso.fair in
      let one = fair i d lt in
      let after : l ≤ one.0 = one.1 in
      let before : one.0 ≤ last = one.2 in
      let there : one.0 < length w.steps = omega (arith, some) in (
        one.0,
        omega arith,
        there,
        value one.0 there (get_or edges i d) (edges_there i d lt) ∙ ap known_of one.3,
      )

  -- the loop's start is no later step
  start_first : (m : ℕ) → IsLoopStart c w m → m ≤ l
  start_first m at = by (cases_lt l m)
    where
      by : (l < m) ⊎ (m ≤ l) → m ≤ l
      by (inl later) = absurd (at.first l later comes_again)
      by (inr first) = first

  wrong_run : (e : WitnessFault) → e ≢ witness.Memory → ¬ IsWrongRun c w e
  wrong_run witness.Memory ne wrong = ne refl
  wrong_run witness.Latches ne wrong = wrong started.latches
  wrong_run (witness.Inputs t) ne wrong = wrong.1.2 (steps.inputs t wrong.1.1)
  wrong_run witness.NoStep ne wrong = let none = wrong.1 in absurd (omega (arith, some))
  wrong_run witness.NoBad ne wrong = wrong
  wrong_run witness.Start ne wrong = wrong.3 started.start
  wrong_run (witness.Constraint t) ne wrong = wrong.1.3 (steps.constraints t wrong.1.1)
  wrong_run witness.Bad ne wrong = wrong

  pub nothing_wrong : (e : LassoFault) → e ≢ errors.Run witness.Memory → ¬ IsWrongLasso c w e
  nothing_wrong (errors.Run e) ne wrong = wrong_run e (λ is. ne (ap errors.Run is)) wrong
  nothing_wrong errors.NoJustice ne wrong =
      let few = wrong.2 in let many = started.named in absurd (omega arith)
  nothing_wrong errors.NoLoop ne wrong = wrong.2 l within comes_again
  nothing_wrong (errors.Literal n) ne wrong =
      let m = wrong.2.0 in
      let first = wrong.2.2 in
      let all = met m (start_first m wrong.2.1) in
      first.unmet (All-first (IsMetFrom c w m) (named_justice c w) c.properties.fairness all n
      (edge_to 0 false) first.there)
  nothing_wrong (errors.Fairness n) ne wrong =
      let m = wrong.2.0 in
      let first = wrong.2.3 in
      let all = met m (start_first m wrong.2.1) in
      first.unmet (All-second (IsMetFrom c w m) (named_justice c w) c.properties.fairness all n
      (edge_to 0 false) first.there)
