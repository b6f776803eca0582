-- A witness all of whose values are given shows a bad state only where its values are a known witness of the circuit.
use Rattle.aig_base.proofs.Words.{◌≡◌, ◌≢◌, ℕ, ◌-◌, ◌/◌, ◌<◌, ◌≤◌, Bool, true, false, cond, Option, [], length, get_or, Some, None, IsTrue, refl, sym, ap, subst, ◌∙◌, arith, All, AllByRecursion, IfSome, nat_lt, unwrap_or, ◌==◌, get_or-map, length-map, All-from_recursion, All-map, get_or_from_slice_get, slice_get-get_or, slice_get_within}
use Rattle.aig_base.specs.declared.logic.three.Lbool.{Lbool}
use Rattle.aig_base.specs.declared.logic.three.Lbool.TheVariants.{TRUE, NONE}
use Rattle.aig_base.specs.Three.{Agrees}
use Rattle.aig_circuit.specs.declared.edge.AigEdge.{AigEdge}
use Rattle.aig_circuit.specs.declared.node.AigLatch.{AigLatch}
use Rattle.aig_circuit.proofs.Words.{edge_to, edge_value, Circuit, IsCircuit, IsInRange, latch_leaves, IsInitial}
use Rattle.aig_format.proofs.Words.{File, LatchLine, Fits, value_of_literal, circuit_of, edge_of, initial_of, latch_of, node_of_variable, IsKnown}
use Rattle.aig_format.specs.Machine.{IsMachineInitial, IsMachineRun}
use Rattle.aig_format.proofs.Circuits.{IsCircuit-of_file, used_by_section}
use Rattle.aig_format.proofs.Numbers.{used_known}
use Rattle.aig_format_laws.specs.Nodes.{HasNodeValues}
use Rattle.aig_format_laws.proofs.Closed.{IsClosed-of_file}
use Rattle.aig_format_laws.proofs.Joining.{forth_values, leaves_of, literal_is}
use Rattle.aig_format_laws.proofs.Starts.{starts_agree}
use Rattle.aig_circuit.proofs.Lists.{All-from_map}
use Rattle.aig_ternary.specs.Ternary.{IsFilling, value_in}
use Rattle.aig_unroll.proofs.Lists.{zip_at}
use Rattle.aig_witness.specs.Witness.{Witness}
use Rattle.aig_witness.specs.declared.fault.WitnessFault.{WitnessFault}
use Rattle.aig_witness.specs.declared.fault.WitnessFault.TheVariants as errors
use Rattle.aig_witness.specs.Answers.{IsWrong}
use Rattle.aig_witness.specs.Machine.{HasGiven, IsGiven, ShowsBad}
use Rattle.aig_witness.specs.Shown.{AreStarts, HoldsSteps, IsKnownWitness, known_of, simulated}
use Rattle.aig_witness.proofs.Given.{known_zip, value_known, zip_long}
use Rattle.aig_witness.proofs.ShownRuns.{is_filling}
use Rattle.aig_witness.proofs.Started.{constant_edge}
use Rattle.aig_witness.proofs.Zips.{zip_unmade}

-- the initial edges of a file's latches are constant
constant_init : (l : LatchLine) → IfSome (initial_of l) (λ e. e.node_id ≡ 0)
constant_init l = by (nat_lt (unwrap_or l.reset 0) 2)
  where
    by : (t : Bool) → IfSome (cond t (Some (edge_to 0 (unwrap_or l.reset 0 == 1))) None)
        (λ (e : AigEdge). e.node_id ≡ 0)
    by true = refl
    by false = tt

-- a start whose leaf has a known value
known_start : (c : Circuit) → IsCircuit c → (x : ℕ → Bool) (leaf : ℕ) (v : Lbool)
    (init : Option AigEdge) → IfSome init (λ e. e.node_id ≡ 0)
    → IfSome init (λ e. edge_value c.nodes x e ≡ x leaf) → v ≡ known_of (x leaf)
    → IfSome init (λ e. (e.node_id ≡ 0) × (v ≡ known_of e.compl))
known_start c is x leaf v None constant start known = tt
known_start c is x leaf v (Some e) constant start known =
    (constant, known ∙ ap known_of (sym start ∙ constant_edge c is x e constant))

module _ (f : File) (limit : ℕ) (w : Witness) (fits : Fits f limit) (given : IsGiven w) where
  abbrev c : Circuit
  c = circuit_of f

  abbrev last : ℕ
  last = length w.steps - 1

  is_circuit : IsCircuit c
  is_circuit = IsCircuit-of_file f limit fits

  -- ---- of a run with the given values

  module _ (run : ℕ → ℕ → Bool) (is_run : IsMachineRun f last run) (has : HasGiven f w run) where
    abbrev x : ℕ → ℕ → Bool
    x = leaves_of f run

    values : HasNodeValues f last x run
    values = forth_values f limit last run fits is_run

    filling : IsFilling c w.state w.steps x
    filling = is_filling f limit w fits run is_run has

    -- the value of an edge is known
    pub edge_known : (t : ℕ) → t < length w.steps → (e : AigEdge) → IsInRange c.nodes e
        → value_in (simulated c w t) e ≡ known_of (edge_value c.nodes (x t) e)
    edge_known t h e there = value_known c is_circuit (IsClosed-of_file f limit fits) w given x
        filling t h e there

    -- a literal that holds has an edge that is known to
    seen : (t e : ℕ) → t < length w.steps → IsKnown f e → IsInRange c.nodes (edge_of f e)
        → IsTrue (value_of_literal (run t) e) → value_in (simulated c w t) (edge_of f e) ≡ TRUE
    seen t e h is there holds =
        let low : t ≤ last = omega arith in
        edge_known t h (edge_of f e) there
        ∙ ap known_of (literal_is f last x run values t e low is ∙ holds)

    -- the value of a latch at the start is known
    pub first_known : (i : ℕ) (d : AigLatch) → i < length c.latchs
        → get_or w.state i NONE ≡ known_of (x 0 (get_or c.latchs i d).input)
    first_known i d h =
        let zip = zip_unmade (λ (l : AigLatch). l.input) (λ n v. v ≡ known_of (x 0 n)) c.latchs
        w.state (known_zip (x 0) (latch_leaves c.latchs) w.state given.state filling.first) in
        zip_at (λ (l : AigLatch) v. v ≡ known_of (x 0 l.input)) c.latchs w.state i d NONE zip h

    pub given_latches : length w.state ≡ length c.latchs
    given_latches =
        zip_long (λ (l : LatchLine) known. Agrees known (run 0 (l.literal / 2))) f.latches
        w.state has.state ∙ sym (length-map f.latches (latch_of f))

    pub given_starts : IsMachineInitial f run → AreStarts c.latchs w.state
    given_starts initial i d h =
        let latch = get_or c.latchs i d in
        let constant : All (λ (l : AigLatch). IfSome l.init (λ e. e.node_id ≡ 0)) c.latchs = All-map
        (λ (l : AigLatch). IfSome l.init (λ e. e.node_id ≡ 0)) (latch_of f) f.latches
        (λ j b lt. constant_init (get_or f.latches j b)) in
        let start : IsInitial c (x 0) = (starts_agree f limit last x run fits values).0 initial in
        known_start c is_circuit (x 0) latch.input (get_or w.state i NONE) latch.init
        (constant i d h) (start i d h) (first_known i d h)

    pub given_steps : ((t : ℕ) → t ≤ last
        → AllByRecursion (λ e. IsTrue (value_of_literal (run t) e)) f.properties.constraints)
        → HoldsSteps c w
    given_steps constraints =
        let used = used_by_section (IsKnown f) f (used_known f limit fits) in
        record {
          inputs = λ t h.
              zip_long (λ e known. Agrees known (run t (e / 2))) f.inputs (get_or w.steps t [])
              (has.inputs t (get_or w.steps t []) (slice_get-get_or w.steps t [] h))
              ∙ sym (length-map f.inputs (λ e. node_of_variable f (e / 2)));
          constraints = λ t h. All-map (λ e. value_in (simulated c w t) e ≡ TRUE)
              (edge_of f) f.properties.constraints (λ i d lt.
              let low : t ≤ last = omega arith in
              seen t (get_or f.properties.constraints i d) h (used.properties.constraints i d lt)
              (All-from_map (edge_of f) (IsInRange c.nodes) f.properties.constraints
              is_circuit.properties.constraints i d lt)
              (All-from_recursion (λ e. IsTrue (value_of_literal (run t) e))
              f.properties.constraints (constraints t low) i d lt));
        }

  -- ---- where a bad state is shown

  pub given_known_witness : ShowsBad f w → IsKnownWitness c w
  given_known_witness shows =
      let some = shows.some in
      let run = shows.there.0 in
      let is_run = shows.there.1 in
      let has = shows.there.2 in
      let shown = shows.each run is_run has in
      let used = used_by_section (IsKnown f) f (used_known f limit fits) in
      let within : w.bad < length f.properties.bads = slice_get_within f.properties.bads w.bad
      shows.named.0 shows.named.1 in
      let named : get_or f.properties.bads w.bad 0 ≡ shows.named.0 =
      get_or_from_slice_get f.properties.bads w.bad shows.named.0 0 shows.named.1 in
      let end : last < length w.steps = omega arith in
      record {
        latches = given_latches run is_run has;
        some = some;
        named = omega (arith, within, length-map f.properties.bads (edge_of f));
        start = given_starts run is_run has shown.0.start;
        steps = given_steps run is_run has shown.0.constraints;
        bad =
            ap (value_in (simulated c w last)) (get_or-map (edge_of f) f.properties.bads w.bad 0
            (edge_to 0 false) within)
            ∙ seen run is_run has last (get_or f.properties.bads w.bad 0) end
            (used.properties.bads w.bad 0 within)
            (All-from_map (edge_of f) (IsInRange c.nodes) f.properties.bads
            is_circuit.properties.bads w.bad 0 within)
            (subst (λ e. IsTrue (value_of_literal (run last) e)) (sym named) shown.1);
      }

-- what is wrong of a witness is not so of a known one
wrong_not_known : (c : Circuit) (w : Witness) (e : WitnessFault) → e ≢ errors.Memory → IsWrong c w e
    → ¬ IsKnownWitness c w
wrong_not_known c w errors.Memory memory wrong known = memory refl
wrong_not_known c w errors.Latches memory wrong known = wrong known.latches
wrong_not_known c w (errors.Inputs t) memory wrong known = wrong.1.2
    (known.steps.inputs t wrong.1.1)
wrong_not_known c w errors.NoStep memory wrong known = let some = known.some in let none =
    wrong.1 in omega arith
wrong_not_known c w errors.NoBad memory wrong known = let named = known.named in let above =
    wrong.2 in omega arith
wrong_not_known c w errors.Start memory wrong known = wrong.3 known.start
wrong_not_known c w (errors.Constraint t) memory wrong known = wrong.1.3
    (known.steps.constraints t wrong.1.1)
wrong_not_known c w errors.Bad memory wrong known = wrong.2 known.bad

-- so a refusal of given values shows that there is nothing to show
pub wrong_shows_nothing : (f : File) (limit : ℕ) (w : Witness) (e : WitnessFault) → Fits f limit
    → IsGiven w → e ≢ errors.Memory → IsWrong (circuit_of f) w e → ¬ ShowsBad f w
wrong_shows_nothing f limit w e fits given memory wrong shows = wrong_not_known (circuit_of f) w e
    memory wrong (given_known_witness f limit w fits given shows)
