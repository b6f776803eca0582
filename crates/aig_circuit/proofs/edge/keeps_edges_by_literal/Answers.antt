use Rattle.std.proofs.Common.{◌≡◌, ℕ, Bool, true, false, not, refl, ap, ◌∙◌}
use Rattle.std.proofs.Math.Bool.{not-not}
use Rattle.aig_base.specs.Clauses.{is_positive, lit_to, number_of_lit}
use Rattle.aig_base.proofs.Literals.{variable_of-lit_to, is_positive-lit_to}
use Rattle.aig_circuit.specs.Edge.{edge_from_lit, edge_to, lit_of, literal_of}
use Rattle.aig_circuit.proofs.edge.keeps_edges_by_literal.Goals as goal

same_edge : (node : ℕ) (inverted : Bool) → edge_from_lit (lit_of (edge_to node inverted)) ≡ edge_to node inverted
same_edge node inverted =
    ap (λ n. edge_to n (not (is_positive (lit_to node (not inverted))))) (variable_of-lit_to node (not inverted))
    ∙ ap (λ p. edge_to node (not p)) (is_positive-lit_to node (not inverted))
    ∙ ap (edge_to node) (not-not inverted)

same_number : (node : ℕ) (inverted : Bool) → number_of_lit (lit_of (edge_to node inverted)) ≡ literal_of (edge_to node inverted)
same_number node true = refl
same_number node false = refl

pub returns-clause-edge : goal.returns-clause-edge
returns-clause-edge c = λ e. same_edge e.node_id e.compl

pub returns-clause-number : goal.returns-clause-number
returns-clause-number c = λ e. same_number e.node_id e.compl
