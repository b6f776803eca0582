-- A caller's results: the literal of an edge has the edge's value, and a literal that is turned hasn't.
use Rattle.aig_base.proofs.Words.{◌≡◌, ℕ, Bool, true, false, refl, false≢true}
use Rattle.aig_base.specs.Clauses.{inverse_lit, literal_value}
use Rattle.aig_circuit.specs.Edge.{edge_to, lit_of}
use Rattle.aig_cnf.specs.Cnf.{edge_in}

-- the literal of an edge has the edge's value
literal_has_value : literal_value (λ n. true) (lit_of (edge_to 1 false)) ≡ edge_in (λ n. true) (edge_to 1 false)
unfolding literal_value
literal_has_value = refl

-- a literal that is turned has the other value
no_turned_literal : ¬ ((v : ℕ → Bool) → literal_value v (inverse_lit (lit_of (edge_to 1 false))) ≡ edge_in v (edge_to 1 false))
unfolding literal_value
no_turned_literal same = let h : false ≡ true = same (λ n. true) in false≢true h
