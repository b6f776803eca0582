-- Nodes and tables that have no place in a form, of which the definitions are false.
use Rattle.std.specs.Prelude.{◌≡◌, false, [], ◌∷◌, refl}
use Rattle.std.proofs.Common.{arith}
use Rattle.aig_circuit.proofs.Words.{Circuit, edge_to}
use Rattle.aig_circuit.specs.declared.node.AigNodeType.TheVariants.{And}
use Rattle.aig_format.specs.declared.FileKind.TheVariants.{Text}
use Rattle.aig_writer.specs.Forms.{FitsForm}
use Rattle.aig_writer.specs.Literals.{FallsBelow}
use Rattle.aig_writer.specs.Numbering.{written_number}

-- a table has the numbers of its places, and a node past its end keeps its own
moved : written_number (0 ∷ 2 ∷ 1 ∷ []) 1 ≡ 2
moved = refl

kept : written_number (0 ∷ 2 ∷ 1 ∷ []) 3 ≡ 3
kept = refl

-- a gate below its second operand has no differences
no_later_operand : ¬ FallsBelow [] (record { node_id = 2; typ = And (edge_to 1 false) (edge_to 3 false) })
no_later_operand h = let less = (h.operands (edge_to 1 false) (edge_to 3 false) refl).1 in absurd (omega (arith, less))

-- nor has one whose number a table puts below an operand's
no_lower_number : ¬ FallsBelow (0 ∷ 2 ∷ 3 ∷ 1 ∷ []) (record { node_id = 3; typ = And (edge_to 1 false) (edge_to 2 false) })
no_lower_number h = let less = (h.operands (edge_to 1 false) (edge_to 2 false) refl).0 in absurd (omega (arith, less))

-- the text form has the nodes' own numbers
no_text_by_table : (c : Circuit) → ¬ FitsForm Text c (0 ∷ 2 ∷ 1 ∷ [])
no_text_by_table c h = let none = h.text refl in cc
