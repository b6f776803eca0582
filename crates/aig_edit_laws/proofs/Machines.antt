-- A file's machine shows what the file's circuit shows.
use Rattle.aig_base.proofs.Words.{◌≡◌, ◌↔◌, ℕ, ◌≤◌, Bool, Option, Some, None, List, map, IsTrue, refl, sym, subst, ◌∙◌, arith, All, IfSome, IsSomeAnd, option_map, slice_get, AllByRecursion, list_any, All-from_recursion, All-map, recursion_from_All}
use Rattle.std.proofs.lemmas.Option.{get_or_from_slice_get, slice_get-map, slice_get_within}
use Rattle.aig_circuit.specs.declared.edge.AigEdge.{AigEdge}
use Rattle.aig_circuit.proofs.Words.{Circuit, AllProperties, IsInitial, IsRun, edge_value}
use Rattle.aig_circuit.proofs.Listed.{AllProperties-weaker}
use Rattle.aig_circuit.proofs.Lists.{All-from_map, AllZip-map}
use Rattle.aig_change.specs.Runs.{IsAllowedRun}
use Rattle.aig_format.proofs.Words.{circuit_of, edge_of, File, used, Fits, value_of_literal, IsMachineInitial, IsMachineRun, IsKnown}
use Rattle.aig_format.proofs.Circuits.{used_by_section}
use Rattle.aig_format_laws.specs.Nodes.{HasNodeValues, values_over}
use Rattle.aig_runs.proofs.Rows.{any_zip}
use Rattle.aig_edit_laws.specs.Shown.{HasBadAt, HasBadBy, HasCircuitBadAt, HasCircuitBadBy, HasCircuitOutput, HasCircuitOutputAt, HasCircuitRun, HasOutput, HasOutputAt, HasRun, IsAllowedMachineRun}

-- what holds of all entries holds of the one at a place
at_place : {E : Type 0} (P : E → Type 0) (es : List E) (n : ℕ) → All P es
    → IfSome (slice_get es n) P
at_place P es n all = by_entry (slice_get es n) refl
  where
    by_entry : (o : Option _) → slice_get es n ≡ o → IfSome o P
    by_entry None at = tt
    by_entry (Some e) at =
        subst P (get_or_from_slice_get es n e e at) (all n e (slice_get_within es n e at))

-- what joins the runs of a file's machine and of its circuit, and what a file uses
pub record Joined : Type 0 where
  pub forth : (f : File) (limit last : ℕ) (run : ℕ → ℕ → Bool) → Fits f limit
      → IsMachineRun f last run
      → (x : ℕ → ℕ → Bool) × IsRun (circuit_of f) last x × HasNodeValues f last x run
  pub back : (f : File) (limit last : ℕ) (x : ℕ → ℕ → Bool) → Fits f limit
      → IsRun (circuit_of f) last x
      → IsMachineRun f last (values_over f x)
  pub starts : (f : File) (limit last : ℕ) (x run : ℕ → ℕ → Bool) → Fits f limit
      → HasNodeValues f last x run
      → IsMachineInitial f run ↔ IsInitial (circuit_of f) (x 0)
  pub literals : (f : File) (last : ℕ) (x run : ℕ → ℕ → Bool) → HasNodeValues f last x run
      → (t e : ℕ) → t ≤ last
      → IsKnown f e
      → edge_value (circuit_of f).nodes (x t) (edge_of f e) ≡ value_of_literal (run t) e
  pub known : (f : File) (limit : ℕ) → Fits f limit → AllByRecursion (IsKnown f) (used f)

module _ (joined : Joined) (f : File) (limit k : ℕ) (fits : Fits f limit) where
  abbrev c : Circuit
  c = circuit_of f

  module _ (x run : ℕ → ℕ → Bool) (values : HasNodeValues f k x run) where
    -- the literal has at the step the value of its edge
    abbrev Keeps : ℕ → ℕ → Type 0
    Keeps t e = edge_value c.nodes (x t) (edge_of f e) ≡ value_of_literal (run t) e

    keeps : (t : ℕ) → t ≤ k → AllProperties (Keeps t) f.properties
    keeps t h = AllProperties-weaker (IsKnown f) (Keeps t) (λ e is. joined.literals f k x run values t e h is) f.properties (used_by_section (IsKnown f) f (joined.known f limit fits)).properties

    -- some edge of a list is true where some literal is
    any_same : (t : ℕ) (es : List ℕ) → All (Keeps t) es → list_any (edge_value c.nodes (x t)) (map (edge_of f) es) ≡ list_any (value_of_literal (run t)) es
    any_same t es all =
        let value = edge_value c.nodes (x t) in
        any_zip (value_of_literal (run t)) value es (map (edge_of f) es)
        (AllZip-map (edge_of f) (λ e edge. value edge ≡ value_of_literal (run t) e) es all)

    abbrev IsTrueEdge : ℕ → AigEdge → Type 0
    IsTrueEdge t e = IsTrue (edge_value c.nodes (x t) e)

    abbrev IsTrueLiteral : ℕ → ℕ → Type 0
    IsTrueLiteral t e = IsTrue (value_of_literal (run t) e)

    to_circuit : IsRun c k x → IsAllowedMachineRun f k run → IsAllowedRun c k x
    to_circuit is w = record {
      from_start =
          record { run = is; start = (joined.starts f limit k x run fits values).0 w.start };
      allowed = λ t h.
          let holds = All-from_recursion (IsTrueLiteral t) f.properties.constraints (w.allowed t h) in
          All-map (IsTrueEdge t) (edge_of f) f.properties.constraints (λ j d l. (keeps t h).constraints j d l ∙ holds j d l);
    }

    to_machine : IsMachineRun f k run → IsAllowedRun c k x → IsAllowedMachineRun f k run
    to_machine is w = record {
      is_run = is;
      start = (joined.starts f limit k x run fits values).1 w.from_start.start;
      allowed = λ t h.
          let holds = All-from_map (edge_of f) (IsTrueEdge t) f.properties.constraints (w.allowed t h) in
          recursion_from_All (IsTrueLiteral t) f.properties.constraints (λ j d l. sym ((keeps t h).constraints j d l) ∙ holds j d l);
    }

    outputs_same : list_any (edge_value c.nodes (x k)) c.properties.outputs ≡ list_any (value_of_literal (run k)) f.properties.outputs
    outputs_same = any_same k f.properties.outputs (keeps k (omega arith)).outputs

    one_forth : (o : Option ℕ) → IfSome o (Keeps k)
        → IsSomeAnd (option_map (edge_of f) o) (IsTrueEdge k)
        → IsSomeAnd o (IsTrueLiteral k)
    one_forth (Some e) same is = sym same ∙ is
    one_forth None same is = is

    one_back : (o : Option ℕ) → IfSome o (Keeps k) → IsSomeAnd o (IsTrueLiteral k)
        → IsSomeAnd (option_map (edge_of f) o) (IsTrueEdge k)
    one_back (Some e) same is = same ∙ is
    one_back None same is = is

    -- edge n of a list is true at the last step where its literal is
    one_same : (literals : List ℕ) (n : ℕ) → All (Keeps k) literals
        → IsSomeAnd (slice_get (map (edge_of f) literals) n) (IsTrueEdge k)
        ↔ IsSomeAnd (slice_get literals n) (IsTrueLiteral k)
    one_same literals n all =
        let literal = slice_get literals n in
        let same = at_place (Keeps k) literals n all in
        let HasEdge = λ (o : Option AigEdge). IsSomeAnd o (IsTrueEdge k) in
        let edges = slice_get-map (edge_of f) literals n in (
          λ is. one_forth literal same (subst HasEdge edges is),
          λ is. subst HasEdge (sym edges) (one_back literal same is),
        )

    output_same : (n : ℕ) → IsSomeAnd (slice_get c.properties.outputs n) (IsTrueEdge k)
        ↔ IsSomeAnd (slice_get f.properties.outputs n) (IsTrueLiteral k)
    output_same n = one_same f.properties.outputs n (keeps k (omega arith)).outputs

    bad_same : (n : ℕ) → IsSomeAnd (slice_get c.properties.bads n) (IsTrueEdge k)
        ↔ IsSomeAnd (slice_get f.properties.bads n) (IsTrueLiteral k)
    bad_same n = one_same f.properties.bads n (keeps k (omega arith)).bads

    bads_same : (t : ℕ) → t ≤ k → list_any (edge_value c.nodes (x t)) c.properties.bads ≡ list_any (value_of_literal (run t)) f.properties.bads
    bads_same t h = any_same t f.properties.bads (keeps t h).bads

  -- ---- from one to the other

  over : (x : ℕ → ℕ → Bool) → HasNodeValues f k x (values_over f x)
  over x t v h known = refl

  -- allowed runs of the circuit with a property are allowed runs of the machine with another, where
  -- these are the same of runs with the same values
  both_shown : (P Q : (ℕ → ℕ → Bool) → Type 0)
      → ((x run : ℕ → ℕ → Bool) → HasNodeValues f k x run → P x ↔ Q run)
      → ((x : ℕ → ℕ → Bool) × IsAllowedRun c k x × P x)
      ↔ ((run : ℕ → ℕ → Bool) × IsAllowedMachineRun f k run × Q run)
  both_shown P Q same = (
    λ (x, allowed, shown).
        let run = values_over f x in
        let is = joined.back f limit k x fits allowed.from_start.run in
        (run, to_machine x run (over x) is allowed, (same x run (over x)).0 shown),
    λ (run, allowed, shown).
        let found = joined.forth f limit k run fits allowed.is_run in
        let x = found.0 in
        let values = found.2 in
        (x, to_circuit x run values found.1 allowed, (same x run values).1 shown),
  )

  pub outputs_shown : HasCircuitOutput c k ↔ HasOutput f k
  outputs_shown = both_shown _ _ (λ x run values.
      let same = outputs_same x run values in
      (λ is. sym same ∙ is, λ is. same ∙ is))

  pub output_shown : (n : ℕ) → HasCircuitOutputAt c n k ↔ HasOutputAt f n k
  output_shown n = both_shown _ _ (λ x run values. output_same x run values n)

  pub bad_shown : (n : ℕ) → HasCircuitBadAt c n k ↔ HasBadAt f n k
  bad_shown n = both_shown _ _ (λ x run values. bad_same x run values n)

  pub bads_shown : HasCircuitBadBy c k ↔ HasBadBy f k
  bads_shown = both_shown _ _ (λ x run values. (
    λ (t, h, is). (t, h, sym (bads_same x run values t h) ∙ is),
    λ (t, h, is). (t, h, bads_same x run values t h ∙ is),
  ))

  pub runs_shown : HasCircuitRun c k ↔ HasRun f k
  runs_shown = (
    λ s.
        let run = values_over f s.0 in
        (run, to_machine s.0 run (over s.0) (joined.back f limit k s.0 fits s.1.from_start.run) s.1),
    λ s.
        let found = joined.forth f limit k s.0 fits s.1.is_run in
        (found.0, to_circuit found.0 s.0 found.2 found.1 s.1),
  )
