-- What values of a small query's clauses say, computed; and wrong witnesses, of which the
-- definitions are false.
use Rattle.aig_base.proofs.Words.{◌≡◌, ℕ, zero, suc, ◌≤◌, true, false, None, Some, List, [], ◌∷◌, refl, arith, slice_get}
use Rattle.aig_base.specs.declared.logic.three.Lbool.{Lbool}
use Rattle.aig_base.specs.declared.logic.three.Lbool.TheVariants.{FALSE, TRUE, NONE}
use Rattle.aig_circuit.specs.declared.node.AigNodeType.TheVariants.{False, Leaf}
use Rattle.aig_circuit.proofs.Words.{Circuit, only_false, edge_to, no_properties}
use Rattle.aig_runs.specs.Queries.{last_bads}
use Rattle.aig_witness.specs.Witness.{Witness}
use Rattle.aig_witness.specs.Shown.{IsKnownWitness}
use Rattle.aig_witness.specs.Solutions.{AreInputsTo, IsFirstTrue, IsWitnessIn, inputs_in}

-- Latch 1 keeps what it has, and is bad where it is true, as input 2 is where it is false. With one
-- step more the input is node 3.
abbrev held : Circuit
held = record only_false {
  nodes =
      record { node_id = 0; typ = False } ∷ record { node_id = 1; typ = Leaf }
      ∷ record { node_id = 2; typ = Leaf } ∷ [];
  inputs = 2 ∷ [];
  latchs = record { input = 1; next = edge_to 1 false; init = None } ∷ [];
  properties = record no_properties { bads = edge_to 2 true ∷ edge_to 1 false ∷ [] };
}

abbrev held_once : Circuit
held_once = record held {
  nodes =
      record { node_id = 0; typ = False } ∷ record { node_id = 1; typ = Leaf }
      ∷ record { node_id = 2; typ = Leaf } ∷ record { node_id = 3; typ = Leaf } ∷ [];
  inputs = 2 ∷ 3 ∷ [];
  properties = record no_properties {
    bads = edge_to 2 true ∷ edge_to 1 false ∷ edge_to 3 true ∷ edge_to 1 false ∷ [];
  };
}

-- the latch is true, and the input at step 0 alone
abbrev values : List Lbool
values = FALSE ∷ TRUE ∷ TRUE ∷ FALSE ∷ []

abbrev said : Witness
said = record { bad = 0; state = TRUE ∷ []; steps = (TRUE ∷ []) ∷ (FALSE ∷ []) ∷ [] }

said-in : IsWitnessIn held held_once 1 values said
said-in = record {
  state = refl;
  steps = record { count = refl; each = each };
  bad = record { there = omega arith; here = refl; first = λ j low. absurd (omega arith) };
}
  where
    each : (t : ℕ) → t ≤ 1 → slice_get said.steps t ≡ Some (inputs_in held held_once values t)
    each zero low = refl
    each (suc zero) low = refl
    each (suc (suc t)) low = absurd (omega arith)

-- step 1 has the inputs of step 0
no_first_inputs : ¬ AreInputsTo held held_once 1 values ((TRUE ∷ []) ∷ (TRUE ∷ []) ∷ [])
no_first_inputs are = let row = are.each 1 (omega arith) in cc

-- the last step is left out
no_step_left_out : ¬ AreInputsTo held held_once 1 values ((TRUE ∷ []) ∷ [])
no_step_left_out are = let count : 1 ≡ 2 = are.count in omega (arith, count)

-- the bad edge that is true first at step 0 is named
no_bad_of_the_first_step : ¬ IsFirstTrue (last_bads held 1 held_once) values 1
no_bad_of_the_first_step is = is.first 0 (omega arith) refl

-- a bad edge of which nothing is known is named
no_unknown_bad : ¬ IsFirstTrue (last_bads held 1 held_once) (FALSE ∷ NONE ∷ TRUE ∷ NONE ∷ []) 0
no_unknown_bad is = let here = is.here in cc

-- a witness is given that isn't checked: the input has no value
no_unchecked : ¬ IsKnownWitness held (record { bad = 0; state = TRUE ∷ []; steps = [] ∷ [] })
no_unchecked known =
    let count : 0 ≡ 1 = known.steps.inputs 0 (omega arith) in omega (arith, count)
