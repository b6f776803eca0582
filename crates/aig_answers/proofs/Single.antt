-- A circuit's question has one list of clauses.
use Rattle.aig_answers.proofs.Words.{◌≡◌, ◌++◌, ◌∷◌, [], ℕ, Bool, false, Option, List, length, Ok, Err, sym, ap, ap₂, subst, ◌∙◌, All, clauses_in, Lit, are_true, edge_to, lit_of, HasClauses, SolutionError, GivesSolution, solution_in, Witness, Lbool, BoundedClauses, SaysRun, SaysValues, AreSaid, AsksOfBads, IsSettled, RefusesAnswer, assigned}
use Rattle.aig_base.proofs.Words.{IfSome}
use Rattle.aig_circuit.proofs.Words.{Circuit, lists_circuit}
use Rattle.aig_cnf.proofs.OneList.{one_list}
use Rattle.aig_witness.specs.declared.solutions.error.SolutionError.TheVariants as solutions
use Rattle.aig_bounded.proofs.Single.{question_same}

module _ (c : Circuit) (k : ℕ) (optimize : Bool) (one other : BoundedClauses)
    (is : AsksOfBads c k optimize one) (are : AsksOfBads c k optimize other) where
  abbrev first : Circuit
  first = lists_circuit one.question.circuit

  abbrev second : Circuit
  second = lists_circuit other.question.circuit

  same : (first ≡ second) × (is.output ≡ are.output) × (one.question.places.items ≡ other.question.places.items)
  same = question_same c first second k is.output are.output one.question.places.items other.question.places.items is.asks are.asks

  same_clauses : one.clauses ≡ other.clauses
  same_clauses = one_list second optimize one.clauses other.clauses
      (subst (λ c. HasClauses c optimize one.clauses) same.0 is.has_clauses) are.has_clauses

  same_further : one.extra ≡ other.extra
  same_further = is.exact ∙ ap (λ o. (lit_of o ∷ []) ∷ []) same.1 ∙ sym are.exact

  -- the clauses and the further one are the same, and so is the circuit
  pub clauses_same : (one.clauses ≡ other.clauses) × (one.extra ≡ other.extra)
      × (lists_circuit one.question.circuit ≡ lists_circuit other.question.circuit)
      × (one.question.places.items ≡ other.question.places.items)
  clauses_same = (same_clauses, same_further, same.0, same.2)

  pub settled_back : IsSettled other → IsSettled one
  settled_back settled =
      subst (λ (c : Circuit). All (λ e. e ≡ edge_to 0 false) c.properties.outputs) (sym same.0)
      settled

  -- an answer says the same of both
  same_said : (text : Option (List ℕ)) (values : List Lbool) → AreSaid text one values
      → AreSaid text other values
  same_said text values said = (
    said.0 ∙ ap length same_clauses,
    subst (λ n. IfSome text (λ bytes. solution_in n bytes ≡ Ok values)) (ap length same_clauses) said.1,
  )

  -- and says one witness
  pub values_same : (text : Option (List ℕ)) (d : Circuit) (w : Witness) → SaysValues text one d w
      → SaysValues text other d w
  values_same text d w (values, said, run) = (
    values,
    same_said text values said,
    subst (λ places. SaysRun d second.inputs places (assigned values) w) same.2
        (subst (λ (x : Circuit). SaysRun d x.inputs one.question.places.items (assigned values) w)
        same.0 run),
  )

  -- and is refused with both
  pub refused_same : (text : Option (List ℕ)) (failed : Bool) (bads : ℕ) (e : SolutionError)
      → RefusesAnswer text failed bads one e → RefusesAnswer text failed bads other e
  refused_same text failed bads (solutions.Check e) refused = absurd refused
  refused_same text failed bads solutions.NoBad (values, said, none) = (
    values,
    same_said text values said,
    λ few holds. none few (ap₂ (λ (lists : List (List (List Lit))) (extra : List (List Lit)). are_true (assigned values) (clauses_in lists ++ extra)) same_clauses same_further ∙ holds),
  )
  refused_same text failed bads e refused =
      subst (λ n. GivesSolution text n failed (Err e)) (ap length same_clauses) refused
