use Rattle.aig_base.proofs.Words.{◌≡◌, List, take, ℕ, contains_text}
use Rattle.aig_circuit.specs.View.{names_of}
use Rattle.aig_join.specs.Names.{is_name_of}
use Rattle.aig_join.proofs.names.node_names.Given as goal

abbrev pub invariant-loop-n : goal.invariant-loop-n
invariant-loop-n l = (text : List ℕ)
    → contains_text l.set text ≡ is_name_of (names_of l.names.entries) (take l.n-index l.nodes) text
