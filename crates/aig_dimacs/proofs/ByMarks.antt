-- The clauses of nodes by their marks.
use Rattle.aig_base.proofs.Words.{◌≡◌, ◌+◌, ◌^◌, ◌<◌, ◌≤◌, ◌++◌, ℕ, zero, suc, Bool, false, List, [], Some, get_or, length, refl, sym, ap, ◌∙◌, append-nil, arith, slice_get, flat_map-append, same_Some, slice_get-get_or, All-append, All-weaker}
use Rattle.std.specs.Prelude.{replicate}
use Rattle.std.specs.List.{All}
use Rattle.std.proofs.lemmas.List.{length-append, length-replicate}
use Rattle.aig_base.specs.Clauses.{AreBelow, variable_of}
use Rattle.aig_base.specs.Formula.{clauses_in}
use Rattle.aig_base.specs.declared.logic.literal.Lit.{Lit}
use Rattle.aig_circuit.specs.Circuit.{Circuit}
use Rattle.aig_circuit.specs.declared.node.AigNode.{AigNode}
use Rattle.aig_cnf.specs.Cnf.{AreNeeded}
use Rattle.aig_cnf.specs.Marks.{AreClausesOf}
use Rattle.aig_dimacs.specs.Circuit.{AreByMarks}
use Rattle.aig_dimacs.specs.Text.{IsFormula}
use Rattle.aig_dimacs.proofs.Pieces.{all_below}

-- the clauses of a circuit are those of its nodes by the marks of what needs clauses
pub by_marks : (c : Circuit) (optimize : Bool) (marks : List Bool) (total : ℕ) (h : AreNeeded c optimize marks total)
    → AreByMarks c.nodes optimize marks h.lists
by_marks c optimize marks total h = record {
  count = h.has_clauses.count;
  zero = h.has_clauses.zero;
  each = λ n ne within.
      let at : slice_get h.lists n ≡ Some (get_or h.lists n []) = slice_get-get_or h.lists n [] (omega (arith, within, h.has_clauses.count)) in
      let is = h.exactly.exactly n within in
      record {
        gate = λ form marked has. same_Some _ _ (sym at ∙ h.has_clauses.needed n form (is.0 marked) has);
        none = λ no. h.has_clauses.none n (get_or h.lists n []) ne (λ form p. no form (is.1 p.0, p.1)) at;
      };
}

-- a node that is not marked has none
pub unmarked : (nodes : List AigNode) (optimize : Bool) (n : ℕ) (clauses : List (List Lit))
    → AreClausesOf nodes optimize false n clauses → clauses ≡ []
unmarked nodes optimize n clauses are = are.none (λ form p. let is = p.0 in cc)

-- free variables have no clauses
free_none : (n : ℕ) → clauses_in (replicate n []) ≡ []
free_none zero = refl
free_none (suc n) = free_none n

pub free_clauses : (lists : List (List (List Lit))) (n : ℕ)
    → clauses_in (lists ++ replicate n []) ≡ clauses_in lists
free_clauses lists n =
    flat_map-append (λ clauses. clauses) lists (replicate n [])
    ∙ ap (λ rest. clauses_in lists ++ rest) (free_none n) ∙ append-nil (clauses_in lists)

pub free_length : (lists : List (List (List Lit))) (n : ℕ)
    → length (lists ++ replicate n []) ≡ length lists + n
free_length lists n =
    length-append lists (replicate n []) ∙ ap (λ m. length lists + m) (length-replicate n [])

-- clauses of so many variables are of more
more_below : (a b : ℕ) → a ≤ b → (clauses : List (List Lit)) → AreBelow a clauses
    → AreBelow b clauses
more_below a b low =
    All-weaker (λ clause. All (λ lit. variable_of lit < a) clause)
    (λ clause. All (λ lit. variable_of lit < b) clause)
    (λ clause. All-weaker (λ lit. variable_of lit < a) (λ lit. variable_of lit < b)
    (λ lit less. omega (arith, less, low)) clause)

-- the clauses and further ones, which may be of free variables behind those of the nodes, are a
-- formula
pub formula_of : (c : Circuit) (optimize : Bool) (marks : List Bool) (total free : ℕ)
    (extra : List (List Lit)) → length c.nodes + free ≤ 2 ^ 31
    → (h : AreNeeded c optimize marks total) → AreBelow (length c.nodes + free) extra
    → length extra < 2 ^ 63
    → IsFormula (length (h.lists ++ replicate free []))
    (clauses_in (h.lists ++ replicate free []) ++ extra)
formula_of c optimize marks total free extra few h below short =
    let same = h.has_clauses.count in
    let long : length (h.lists ++ replicate free []) ≡ length c.nodes + free =
    free_length h.lists free ∙ ap (λ n. n + free) same in
    let own = more_below (length h.lists) (length c.nodes + free) (omega (arith, same))
    (clauses_in h.lists) (all_below (length h.lists) h.lists h.below) in
    rw (long, free_clauses h.lists free) (record {
      few = omega (arith, few);
      count = omega (arith, length-append (clauses_in h.lists) extra, h.count, h.few, few, short);
      below = All-append (λ clause. All (λ lit. variable_of lit < length c.nodes + free) clause)
          (clauses_in h.lists) extra own below;
    })
