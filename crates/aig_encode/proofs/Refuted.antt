-- A wrong refusal, and an answer past the limit, of which the definition is false.
use Rattle.std.proofs.Common.{◌≡◌, ℕ, None, List, [], ◌∷◌, refl, arith}
use Rattle.aig_format.specs.declared.FileKind.TheVariants.{Text}
use Rattle.aig_format.proofs.Words.{File, GateLine, LatchLine, Accepts, circuit_of}
use Rattle.aig_format.specs.Numbering.{node_of_variable, variables_in_order}
use Rattle.aig_unroll.specs.Places.{unrolled_size}
use Rattle.aig_circuit.specs.Properties.{no_properties}
use Rattle.aig_reader.specs.Verdicts.{Accepted, IsVerdictOn, TooLarge}
use Rattle.aig_encode.specs.Encoding.{encoded_verdict}
use Rattle.aig_encode.proofs.Verdicts.{encoded_verdict-beyond, encoded_verdict-within}

-- a text file of these sections alone
abbrev file_with : ℕ → List ℕ → List LatchLine → List ℕ → List GateLine → File
file_with greatest inputs latches outputs gates =
    record {
      kind = Text;
      greatest = greatest;
      inputs = inputs;
      latches = latches;
      properties = record no_properties { outputs = outputs };
      gates = gates;
      names = [];
    }

-- a latch that toggles: its steps add no node
abbrev toggle : File
toggle = file_with 1 [] (record { literal = 2; next = 3; reset = None } ∷ []) (2 ∷ []) []

toggle-size : (k : ℕ) → unrolled_size (circuit_of toggle) k ≡ 2
unfolding node_of_variable variables_in_order
toggle-size k = omega arith

-- it is refused for each step above 0
no_refusal_above_0 : (k : ℕ) (bytes : List ℕ) → Accepts bytes 2 toggle
    → ¬ IsVerdictOn (encoded_verdict 2 k) 2 bytes TooLarge
no_refusal_above_0 k bytes accepts on =
    let said = on.each toggle accepts in
    let within = encoded_verdict-within 2 k toggle (omega (arith, toggle-size k)) in
    cc

-- input 1, latch 2 with the next literal true, and the gate 3 = and(1,2): of the gate of the second
-- step no node is left
abbrev folding : File
folding =
    file_with 3 (2 ∷ []) (record { literal = 4; next = 1; reset = None } ∷ []) (6 ∷ [])
    (record { lhs = 6; rhs0 = 4; rhs1 = 2 } ∷ [])

folding-size : unrolled_size (circuit_of folding) 1 ≡ 6
unfolding node_of_variable variables_in_order
folding-size = refl

-- it is answered where the limit allows the nodes that are left, and no gate more
no_answer_by_nodes_left : (bytes : List ℕ) → Accepts bytes 5 folding
    → ¬ IsVerdictOn (encoded_verdict 5 1) 5 bytes Accepted
no_answer_by_nodes_left bytes accepts on =
    let said = on.each folding accepts in
    let beyond = encoded_verdict-beyond 5 1 folding (omega (arith, folding-size)) in
    cc
