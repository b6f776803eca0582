-- What is told of a proof of some clauses is told of equal ones.
use Rattle.aig_answers.proofs.Words.{◌≡◌, ℕ, Bool, List, Option, Result, sym, ap, subst, ◌∙◌, Lit, Circuit, HasClauses, query_clauses, AsksWindow, Window, CircuitQuery, IsCircuitQuery, TellsOfCircuit, TellsOfProof}
use Rattle.aig_refutation.specs.declared.error.RefutationError.{RefutationError}

pub told_alike : (lists others : List (List (List Lit))) (extra more : List (List Lit))
    (text : Option (List ℕ)) (answer : Result (Unit {0}) RefutationError) → lists ≡ others
    → extra ≡ more → TellsOfProof lists extra text answer
    → TellsOfProof others more text answer
told_alike lists others extra more text answer same also told =
    subst (λ (ls : List (List (List Lit))). TellsOfProof ls more text answer) same
    (subst (λ (fs : List (List Lit)). TellsOfProof lists fs text answer) also told)

-- what is known of clauses: a circuit has one list of them
abbrev pub AreOne : Type 0
AreOne =
    (c : Circuit) (optimize : Bool) (lists others : List (List (List Lit)))
    → HasClauses c optimize lists → HasClauses c optimize others → lists ≡ others

abbrev pub WindowsAreOne : Type 0
WindowsAreOne =
    (form : Window) (c : Circuit) (k : ℕ) (optimize : Bool)
    (lists others : List (List (List Lit))) (extra more : List (List Lit))
    → AsksWindow form c k optimize lists extra → AsksWindow form c k optimize others more
    → (lists ≡ others) × (extra ≡ more)

-- so what is told of the clauses of one query of a circuit is told of those of each
pub query_told : AreOne → (c : Circuit) (k : ℕ) (optimize : Bool) (text : Option (List ℕ))
    (answer : Result (Unit {0}) RefutationError) (q : CircuitQuery) → IsCircuitQuery c k optimize q
    → TellsOfProof q.clauses q.extra text answer → TellsOfCircuit k optimize text c answer
query_told are_one c k optimize text answer q is told = (
  (q, is),
  λ other also.
      let steps : q.unrolled ≡ other.unrolled = is.steps.exact ∙ sym also.steps.exact in
      let one = are_one other.unrolled optimize q.clauses other.clauses
      (subst (λ u. HasClauses u optimize q.clauses) steps is.has_clauses) also.has_clauses in
      let extra = is.asks.exact ∙ ap (query_clauses c k) steps ∙ sym also.asks.exact in
      told_alike q.clauses other.clauses q.extra other.extra text answer one extra told,
)
