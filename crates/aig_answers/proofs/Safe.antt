-- What refuted clauses of a question say of a circuit, and of a file's machine.
use Rattle.aig_answers.proofs.Words.{◌≡◌, ◌≤◌, ◌↔◌, ◌++◌, ◌∷◌, [], ◌||◌, ℕ, Bool, true, false, IsTrue, List, suc, refl, sym, ap, subst, ◌∙◌, arith, false≢true, All-cons, All-nil, list_all-append, ◌&&◌, Lit, Satisfies, are_true, is_true_clause, IsSatisfiable, clauses_in, AigEdge, Properties, no_properties, edge_to, lit_of, edge_value, node_value, node_value-false, FixesRoots, IsFixed, edge_in, circuit_of, File, Fits, IsCircuit-of_file, IsSafeTo, IsCircuitSafeAt, safe_is, witness_back, witness_forth, values_over, BoundedClauses, AsksBounded, AsksOfBads, HasCircuitWitness}
use Rattle.std.specs.Prelude.{All}
use Rattle.aig_base.specs.Clauses.{literal_value}
use Rattle.aig_circuit.proofs.Words.{Circuit, IsCircuit, lists_circuit}
use Rattle.aig_bounded.proofs.Witnesses.{question_asks}

and_first : (a b : Bool) → (a && b) ≡ true → a ≡ true
and_first true b h = refl
and_first false b h = h

and_second : (a b : Bool) → (a && b) ≡ true → b ≡ true
and_second true b h = h
and_second false b h = absurd (false≢true h)

or_only : (a : Bool) → (a || false) ≡ true → a ≡ true
or_only true h = refl
or_only false h = h

-- where the clauses in a row are true, those of each variable are
satisfied_by : (v : ℕ → Bool) (lists : List (List (List Lit))) → IsTrue (are_true v (clauses_in
    lists))
    → Satisfies v lists
satisfied_by v [] h = All-nil (λ clauses. IsTrue (are_true v clauses))
satisfied_by v (clauses ∷ lists) h =
    let both = sym (list_all-append (is_true_clause v) clauses (clauses_in lists)) ∙ h in
    All-cons (λ clauses. IsTrue (are_true v clauses)) clauses lists (and_first (are_true v clauses)
    (are_true v (clauses_in lists)) both)
    (satisfied_by v lists (and_second (are_true v clauses) (are_true v (clauses_in lists)) both))

both_true : (a b : Bool) → a ≡ true → b ≡ true → (a && b) ≡ true
both_true true b p q = q
both_true false b p q = p

-- and the other way round
all_by : (v : ℕ → Bool) (lists : List (List (List Lit))) → Satisfies v lists
    → IsTrue (are_true v (clauses_in lists))
all_by v [] s = refl
all_by v (clauses ∷ lists) s =
    list_all-append (is_true_clause v) clauses (clauses_in lists)
    ∙ both_true (are_true v clauses) (are_true v (clauses_in lists)) (s 0 clauses (omega arith))
    (all_by v lists (λ k d h. s (suc k) d (omega arith)))

-- where an assignment satisfies the clauses of a question, its output is true
pub output_holds : (asks : Circuit) (made : BoundedClauses) (output : AigEdge) → FixesRoots asks
    made.clauses
    → asks.properties ≡ record no_properties { outputs = output ∷ [] } → made.extra ≡ (lit_of
    output ∷ []) ∷ []
    → ((v : ℕ → Bool) (e : AigEdge) → literal_value v (lit_of e) ≡ edge_in v e)
    → (v : ℕ → Bool) → IsTrue (are_true v (clauses_in made.clauses ++ made.extra))
    → IsTrue (edge_value asks.nodes v output)
output_holds asks made output fixes properties exact literals v h =
    let both = sym (list_all-append (is_true_clause v) (clauses_in made.clauses) made.extra) ∙ h
    in
    let first = satisfied_by v made.clauses (and_first (are_true v (clauses_in made.clauses))
    (are_true v made.extra) both) in
    let second = and_second (are_true v (clauses_in made.clauses)) (are_true v made.extra) both in
    let unit : ((literal_value v (lit_of output) || false) && true) ≡ true = subst (λ clauses.
    are_true v clauses ≡ true) exact second in
    let literal = or_only (literal_value v (lit_of output)) (and_first (literal_value v (lit_of
    output) || false) true unit) in
    let outputs = subst (λ (p : Properties AigEdge). All (IsFixed asks made.clauses) p.outputs)
    properties fixes.properties.outputs in
    sym (outputs 0 output (omega arith) v first) ∙ sym (literals v output) ∙ literal

-- ---- refuted clauses

module _ (c : Circuit) (k : ℕ) (optimize : Bool) (made : BoundedClauses)
    (is : AsksOfBads c k optimize made)
    (literals : (v : ℕ → Bool) (e : AigEdge) → literal_value v (lit_of e) ≡ edge_in v e) where
  abbrev asks : Circuit
  asks = lists_circuit made.question.circuit

  satisfied_where : (y : ℕ → Bool) → IsTrue (edge_value asks.nodes y is.output)
      → IsSatisfiable (clauses_in made.clauses ++ made.extra)
  satisfied_where y holds =
      let v = node_value asks.nodes y in
      let literal : literal_value v (lit_of is.output) ≡ true = literals v is.output ∙ holds in
      let extra : IsTrue (are_true v ((lit_of is.output ∷ []) ∷ [])) = ap (λ b. (b || false) &&
      true) literal in
      let rest : IsTrue (are_true v made.extra) = subst (λ clauses. IsTrue (are_true v clauses))
      (sym is.exact) extra in (
        v,
        list_all-append (is_true_clause v) (clauses_in made.clauses) made.extra
            ∙ both_true (are_true v (clauses_in made.clauses)) (are_true v made.extra) (all_by v
            made.clauses (is.satisfied y)) rest,
      )

  true_where : IsSatisfiable (clauses_in made.clauses ++ made.extra)
      → (y : ℕ → Bool) × IsTrue (edge_value asks.nodes y is.output)
  true_where (v, h) = (
    v,
    output_holds asks made is.output is.fixes is.asks.properties is.exact literals v h,
  )

  -- the question's output is never true
  abbrev Never : Type 0
  Never = (y : ℕ → Bool) → IsTrue (edge_value asks.nodes y is.output) → ⊥

  refuted_never : (¬ IsSatisfiable (clauses_in made.clauses ++ made.extra)) ↔ Never
  refuted_never = (
    λ none y holds. none (satisfied_where y holds),
    λ never s. let y = true_where s in never y.0 y.1,
  )

  folded_never : All (λ e. e ≡ edge_to 0 false) asks.properties.outputs → Never
  folded_never all y holds =
      let outputs = subst (λ (p : Properties AigEdge). All (λ e. e ≡ edge_to 0 false) p.outputs)
      is.asks.properties all in
      let false_is : is.output ≡ edge_to 0 false = outputs 0 is.output (omega arith) in
      false≢true (sym (node_value-false asks.nodes y 0 is.asks.circuit.nodes.false_first) ∙ sym (ap
      (edge_value asks.nodes y) false_is) ∙ holds)

-- ---- a bad state that is reached

module _ (c : Circuit) (k : ℕ) (optimize : Bool) (made : BoundedClauses) (circuit : IsCircuit c)
    (is : AsksOfBads c k optimize made)
    (literals : (v : ℕ → Bool) (e : AigEdge) → literal_value v (lit_of e) ≡ edge_in v e) where
  abbrev question : Circuit
  question = lists_circuit made.question.circuit

  abbrev NeverReached : Type 0
  NeverReached = (y : ℕ → Bool) → IsTrue (edge_value question.nodes y is.output) → ⊥

  -- no bad edge is reached up to step k
  abbrev SafeTo : Type 0
  SafeTo = (n : ℕ) → n ≤ k → IsCircuitSafeAt c n

  asked : ((y : ℕ → Bool) × IsTrue (edge_value question.nodes y is.output))
      ↔ ((t : ℕ) × (t ≤ k) × HasCircuitWitness c t)
  asked = question_asks c k question is.output made.question.places.items circuit is.asks

  never_is : NeverReached ↔ SafeTo
  never_is = (
    λ none n h w. let y = asked.1 (n, h, w) in none y.0 y.1,
    λ safe y holds. let reached = asked.0 (y, holds) in safe reached.0 reached.1 reached.2,
  )

  pub refuted_circuit : (¬ IsSatisfiable (clauses_in made.clauses ++ made.extra)) ↔ SafeTo
  refuted_circuit =
      let never = refuted_never c k optimize made is literals in
      (λ none. never_is.0 (never.0 none), λ safe. never.1 (never_is.1 safe))

  pub folded_circuit : All (λ e. e ≡ edge_to 0 false) question.properties.outputs → SafeTo
  folded_circuit all = never_is.0 (folded_never c k optimize made is literals all)

-- ---- of a file

module _ (f : File) (limit k : ℕ) (fits : Fits f limit) where
  -- a file's machine is safe up to a step exactly where its circuit is
  file_is : ((n : ℕ) → n ≤ k → IsCircuitSafeAt (circuit_of f) n) ↔ IsSafeTo f k
  file_is = (
    λ safe. (safe_is f k).0 (λ t h w.
        let x = witness_forth f limit t w.0 fits w.1 in
        safe t h (x.0, x.1)),
    λ safe t h w.
        (safe_is f k).1 safe t h (values_over f w.0, witness_back f limit t w.0 fits w.1),
  )

  module _ (optimize : Bool) (made : BoundedClauses) (is : AsksBounded f k optimize made)
      (literals : (v : ℕ → Bool) (e : AigEdge) → literal_value v (lit_of e) ≡ edge_in v e) where
    abbrev circuit : IsCircuit (circuit_of f)
    circuit = IsCircuit-of_file f limit fits

    pub refuted_is_safe : (¬ IsSatisfiable (clauses_in made.clauses ++ made.extra))
        ↔ IsSafeTo f k
    refuted_is_safe =
        let refuted = refuted_circuit (circuit_of f) k optimize made circuit is literals in
        (λ none. file_is.0 (refuted.0 none), λ safe. refuted.1 (file_is.1 safe))

    pub folded_is_safe : All (λ e. e ≡ edge_to 0 false)
        (lists_circuit made.question.circuit).properties.outputs
        → IsSafeTo f k
    folded_is_safe all =
        file_is.0 (folded_circuit (circuit_of f) k optimize made circuit is literals all)
