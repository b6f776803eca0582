-- What small machines and circuits show, computed; and wrong results, of which the definitions are
-- false.
use Rattle.aig_base.proofs.Words.{◌≡◌, ◌≢◌, ℕ, zero, suc, ◌+◌, Bool, true, false, not, None, [], ◌∷◌, length, refl, sym, ap, ◌∙◌, arith, ◌==◌, if◌then◌else◌, false≢true}
use Rattle.aig_circuit.specs.declared.edge.AigEdge.{AigEdge}
use Rattle.aig_circuit.specs.declared.node.AigNodeType.TheVariants.{False, Leaf}
use Rattle.aig_circuit.proofs.Words.{Circuit, only_false, edge_to, no_properties}
use Rattle.aig_format.specs.declared.FileKind.TheVariants.{Text}
use Rattle.aig_format.specs.File.{File}
use Rattle.aig_edit_laws.specs.Plain.{IsPlain}
use Rattle.aig_edit_laws.specs.Shown.{HasBadAt, HasBadBy, HasOutput, HasOutputAt, HasRun, HasWitness, IsAllowedMachineRun, IsConeOf, IsPropertyOf, output_alone, outputs_as_bads}
use Rattle.aig_edit_laws.proofs.Compressed.{or_false}

-- ---- a machine

-- The file of a latch that toggles from false. It is output 0 and bad, and its inverse is output 1.
abbrev toggle : File
toggle = record {
  kind = Text;
  greatest = 1;
  inputs = [];
  latches = record { literal = 2; next = 3; reset = None } ∷ [];
  properties = record no_properties { outputs = 2 ∷ 3 ∷ []; bads = 2 ∷ [] };
  gates = [];
  names = [];
}

-- the latch is true at odd steps
abbrev is_odd : ℕ → Bool
is_odd zero = false
is_odd (suc t) = not (is_odd t)

abbrev toggles : ℕ → ℕ → Bool
toggles t v = if v == 1 then is_odd t else false

runs : (k : ℕ) → IsAllowedMachineRun toggle k toggles
runs k = record {
  is_run = record {
    steps = λ t h. record { zero = refl; gates = tt };
    moves = λ t h. let next : t + 1 ≡ suc t = omega arith in (ap is_odd next, tt);
  };
  start = (refl, tt);
  allowed = λ t h. tt;
}

output_of_step_1 : HasOutputAt toggle 0 1
output_of_step_1 = (toggles, runs 1, refl)

-- output 1 is some output of step 0, and output 0 isn't
some_output_of_step_0 : HasOutput toggle 0
some_output_of_step_0 = (toggles, runs 0, refl)

other_output_of_step_0 : HasOutputAt toggle 1 0
other_output_of_step_0 = (toggles, runs 0, refl)

no_output_of_step_0 : ¬ HasOutputAt toggle 0 0
no_output_of_step_0 (run, allowed, shown) = false≢true (sym allowed.start.0 ∙ shown)

-- a number past the outputs
no_third_output : (k : ℕ) → ¬ HasOutputAt toggle 2 k
no_third_output k (run, allowed, shown) = shown

-- the latch is bad at step 1, so by step 2, and not at step 0
witness_of_step_1 : HasWitness toggle 1
witness_of_step_1 = (toggles, record { is_run = (runs 1).is_run; start = (refl, tt); constraints = λ t h. tt; bad = refl })

bad_by_step_2 : HasBadBy toggle 2
bad_by_step_2 = (toggles, runs 2, (1, omega arith, refl))

no_witness_of_step_0 : ¬ HasWitness toggle 0
no_witness_of_step_0 (run, witness) =
    false≢true (sym witness.start.0 ∙ sym (or_false (run 0 1)) ∙ witness.bad)

-- its one bad literal is number 0
bad_0_of_step_1 : HasBadAt toggle 0 1
bad_0_of_step_1 = (toggles, runs 1, refl)

no_bad_0_of_step_0 : ¬ HasBadAt toggle 0 0
no_bad_0_of_step_0 (run, allowed, shown) = false≢true (sym allowed.start.0 ∙ shown)

no_bad_1 : (k : ℕ) → ¬ HasBadAt toggle 1 k
no_bad_1 k (run, allowed, shown) = shown

-- the same latch, which must be false
abbrev held : File
held =
    record toggle { properties = record no_properties { outputs = 2 ∷ []; constraints = 3 ∷ [] } }

-- at step 1 it isn't, so no longer run is allowed
no_run_past_the_constraint : ¬ HasRun held 1
no_run_past_the_constraint (run, allowed) =
    let start = allowed.start.0 in
    let moves = (allowed.is_run.moves 0 (omega arith)).0 in
    let must = (allowed.allowed 1 (omega arith)).0 in
    false≢true (ap not (sym (moves ∙ ap not start)) ∙ must)

-- ---- circuits

-- an input, which is output 1 and a constraint; output 0 is false, and true is bad
abbrev small : Circuit
small = record only_false {
  nodes = record { node_id = 0; typ = False } ∷ record { node_id = 1; typ = Leaf } ∷ [];
  inputs = 1 ∷ [];
  properties = record no_properties {
    outputs = edge_to 0 false ∷ edge_to 1 false ∷ [];
    bads = edge_to 0 true ∷ [];
    constraints = edge_to 1 false ∷ [];
  };
}

small-bads : (outputs_as_bads small).properties.bads ≡ edge_to 0 false ∷ edge_to 1 false ∷ []
small-bads = refl

-- outputs that stay beside the bad edges
no_outputs_beside_bads : (outputs_as_bads small).properties.outputs ≢ small.properties.outputs
no_outputs_beside_bads same = cc

small-alone : (output_alone small (edge_to 1 false)).properties
    ≡ record no_properties { outputs = edge_to 1 false ∷ []; constraints = edge_to 1 false ∷ [] }
small-alone = refl

-- the cone of an output that isn't there
no_third_cone : (cone : Circuit) → ¬ IsConeOf 2 small cone
no_third_cone cone of = let there = of.there in cc

-- a cone with bad edges, without its output, and without its constraints
no_bads_in_a_cone : (n : ℕ) (e : AigEdge)
    → ¬ IsConeOf n small (record small { properties = record no_properties { bads = e ∷ [] } })
no_bads_in_a_cone n e of =
    let bads = ap (λ (m : Circuit). length m.properties.bads) of.exact in omega (arith, bads)

no_cone_without_output : (n : ℕ) → ¬ IsConeOf n small (record small { properties = no_properties })
no_cone_without_output n of = let outputs = ap (λ (m : Circuit). length m.properties.outputs) of.exact in omega (arith, outputs)

no_cone_without_constraints : (n : ℕ) (e : AigEdge)
    → ¬ IsConeOf n small (record small { properties = record no_properties { outputs = e ∷ [] } })
no_cone_without_constraints n e of =
    let constraints =
    ap (λ (m : Circuit). length m.properties.constraints) of.exact in omega (arith, constraints)

-- the circuit has one bad edge, and has it alone
small-property : IsPropertyOf 0 small small
small-property = record { bad = edge_to 0 true; there = refl; exact = refl }

no_property_past_the_bads : (new : Circuit) → ¬ IsPropertyOf 1 small new
no_property_past_the_bads new of = let there = of.there in cc

-- outputs and constraints stay
no_property_without_outputs : (n : ℕ) → ¬ IsPropertyOf n small
    (record small { properties = record small.properties { outputs = [] } })
no_property_without_outputs n of =
    let outputs = ap (λ (m : Circuit). length m.properties.outputs) of.exact in
    omega (arith, outputs)

no_property_without_constraints : (n : ℕ) → ¬ IsPropertyOf n small
    (record small { properties = record small.properties { constraints = [] } })
no_property_without_constraints n of =
    let constraints = ap (λ (m : Circuit). length m.properties.constraints) of.exact in
    omega (arith, constraints)

-- a leaf that is neither an input nor a latch's
no_free_leaf : ¬ IsPlain (record small { inputs = [] })
no_free_leaf plain = let at = plain.closed 1 refl in omega (arith, at.1)
