-- What is asked of a file that was read.
use Rattle.aig_answers.proofs.Words.{◌≡◌, ◌≢◌, ℕ, ◌<◌, Bool, not, Option, List, [], ◌∷◌, length, map, refl, sym, ap, subst, ◌∙◌, arith, ◌+◌, ◌≤◌, All-from_recursion, All, AllZip, AreBelow, variable_of, variable_of-lit_to, AigEdge, CircuitLists, IsInRange, lit_of, HasConstantInit, Properties, circuit_of, edge_of, File, Accepts, Fits, IsCircuit-of_file, IsClosed-of_file, plain_starts, AreListsOf, IsReadAs, unit_clauses, SolutionError, IsKnownWitness, Witness, said_by, IsQuestion, question_size, BoundedAnswerError, BoundedClauses, AsksBounded, AsksOfBads, IsAskedWithin, IsSaidOfBads, RefusesAnswer, RefusesSolution, TellsOfSize, IsEncoded, IsEncodedQuestion, IsNamed, WitnessWithin, SaysValues, SaysWitness, Named}
use Rattle.aig_circuit.proofs.Words.{Circuit, IsCircuit, IsClosed, lists_circuit}
use Rattle.aig_witness.specs.declared.witness.Witness as witnesses
use Rattle.aig_witness.specs.Machine.{ShowsBad}
use Rattle.aig_bounded.specs.declared.error.BoundedError.TheVariants.{TooLarge}
use Rattle.aig_answers.specs.declared.bounded_checks.error.BoundedAnswerError.TheVariants as errors
use Rattle.aig_answers.specs.Asking.{verdict_of}
use Rattle.aig_answers.proofs.Single.{refused_same, values_same}
use Rattle.aig_answers.proofs.BoundedVerdicts.{count_of}
use Rattle.aig_bounded.specs.declared.question.BoundedCircuit.{BoundedCircuit}

-- ---- of a circuit

-- what is encoded is a question of the circuit
pub asks_of : (c : Circuit) (k : ℕ) (optimize : Bool) (made : BoundedClauses)
    → IsEncodedQuestion c k optimize made → AsksOfBads c k optimize made
asks_of c k optimize made e = record {
  output = e.output;
  asks = e.asks;
  named = e.named;
  has_clauses = e.encoded.has_clauses;
  fixes = e.encoded.fixes;
  satisfied = e.encoded.satisfied;
  exact = e.encoded.exact ∙ ap (λ (p : Properties AigEdge). unit_clauses p.outputs)
      e.asks.properties;
}

-- ---- of a file

pub lists_closed : (f : File) (bound : ℕ) (lists : CircuitLists) → Fits f bound
    → AreListsOf f lists → IsClosed (lists_circuit lists)
lists_closed f bound lists fits is = subst IsClosed (sym is) (IsClosed-of_file f bound fits)

pub lists_start : (f : File) (lists : CircuitLists) → AreListsOf f lists
    → All HasConstantInit lists.latchs.items
lists_start f lists is =
    subst (λ (c : Circuit). All HasConstantInit c.latchs) (sym is) (plain_starts f)

module _ (limit k : ℕ) (optimize : Bool) (lists : CircuitLists)
    (old new : Option (List ℕ))
    (read : IsReadAs (λ bytes. Accepts bytes limit) AreListsOf old new lists) where
  pub read_circuit : IsCircuit (lists_circuit lists)
  read_circuit = subst IsCircuit (sym read.means) (IsCircuit-of_file read.file limit read.holds.1)

  pub read_closed : IsClosed (lists_circuit lists)
  read_closed = lists_closed read.file limit lists read.holds.1 read.means

  pub read_starts : All HasConstantInit lists.latchs.items
  read_starts = lists_start read.file lists read.means

  bads_of : lists.properties.bads.items ≢ [] → read.file.properties.bads ≢ []
  bads_of some none = some (ap (λ (c : Circuit). c.properties.bads) read.means ∙ ap (λ bads. map
      (edge_of read.file) bads) none)

  -- the question is one of the file
  asks_file : (made : BoundedClauses)
      → IsEncodedQuestion (lists_circuit lists) k optimize made
      → AsksBounded read.file k optimize made
  asks_file made e =
      subst (λ c. AsksOfBads c k optimize made) read.means
      (asks_of (lists_circuit lists) k optimize made e)

  pub asked_of : (made : BoundedClauses) → lists.properties.bads.items ≢ []
      → IsEncodedQuestion (lists_circuit lists) k optimize made
      → IsReadAs (IsAskedWithin limit) (λ f. AsksBounded f k optimize) old new made
  asked_of made some is = record {
    file = read.file;
    bytes = read.bytes;
    holds = (read.holds, bads_of some);
    means = asks_file made is;
    taken = read.taken;
  }

  -- a question that is too large is one of the file
  pub size_of : (e : BoundedAnswerError) → IsSaidOfBads lists.properties.bads.items (verdict_of e)
      → (e ≡ errors.Question TooLarge → limit < question_size (lists_circuit lists) k)
      → TellsOfSize limit (λ c. question_size c k) old new e
  size_of (errors.Question TooLarge) some large = record {
    file = read.file;
    bytes = read.bytes;
    holds = (read.holds, bads_of some);
    means = subst (λ c. limit < question_size c k) read.means (large refl);
    taken = read.taken;
  }
  size_of e some large = tt

-- of whether a bad state is reached
module _ (limit k : ℕ) (optimize : Bool) (lists : CircuitLists) (old new : Option (List ℕ))
    (read : IsReadAs (λ bytes. Accepts bytes limit) AreListsOf old new lists) where
  -- a refusal of a solver's answer is of a question of the file
  pub refusal_of : (text : Option (List ℕ)) (refused : Bool) (made : BoundedClauses) (e :
      SolutionError)
      → lists.properties.bads.items ≢ []
      → IsEncodedQuestion (lists_circuit lists) k optimize made
      → RefusesAnswer text refused (length lists.properties.bads.items) made e
      → IsReadAs (IsAskedWithin limit) (RefusesSolution text refused k optimize) old new e
  refusal_of text refused made e some is refusal = record {
    file = read.file;
    bytes = read.bytes;
    holds = (read.holds, bads_of limit k optimize lists old new read some);
    means = (
      (made, asks_file limit k optimize lists old new read made is),
      λ other asks. refused_same (circuit_of read.file) k optimize made other
          (asks_file limit k optimize lists old new read made is) asks text refused
          (length read.file.properties.bads) e
          (subst (λ n. RefusesAnswer text refused n made e) (count_of
          read.file lists read.means) refusal),
    );
    taken = read.taken;
  }

  -- a known witness of the lists' circuit shows a bad state of the file's machine, and is the one that
  -- the answer says
  pub shown_of : ((f : File) (limit : ℕ) (w : Witness) → Fits f limit → IsKnownWitness (circuit_of
      f) w → ShowsBad f w)
      → (text : Option (List ℕ)) (made : BoundedClauses) (w : witnesses.Witness)
      → lists.properties.bads.items ≢ []
      → IsEncodedQuestion (lists_circuit lists) k optimize made
      → WitnessWithin (lists_circuit lists) k (said_by w)
      → SaysValues text made (lists_circuit lists) (said_by w)
      → IsReadAs (IsAskedWithin limit) (λ f w. ShowsBad f (said_by w) × (length (said_by w).steps ≤
      k + 1) × SaysWitness text k optimize f (said_by w)) old new w
  shown_of law text made w some is known said = record {
    file = read.file;
    bytes = read.bytes;
    holds = (read.holds, bads_of limit k optimize lists old new read some);
    means = (
      law read.file limit (said_by w) read.holds.1 (subst (λ c. IsKnownWitness c (said_by
          w)) read.means known.0),
      known.1,
      (
        (made, asks_file limit k optimize lists old new read made is),
        λ other asks. values_same (circuit_of read.file) k optimize made other
            (asks_file limit k optimize lists old new read made is) asks text (circuit_of read.file)
            (said_by w) (subst (λ c. SaysValues text made c (said_by w)) read.means said),
      ),
    );
    taken = read.taken;
  }

-- the further clause is of variables that are there
pub AreBelow-extra : (c : Circuit) (k : ℕ) (optimize : Bool) (made : BoundedClauses)
    → AsksOfBads c k optimize made → AreBelow (length made.clauses) made.extra
AreBelow-extra c k optimize made is =
    let asks = lists_circuit made.question.circuit in
    let outputs = subst (λ (p : Properties AigEdge). All (IsInRange asks.nodes) p.outputs)
    is.asks.properties is.asks.circuit.properties.outputs in
    let there : is.output.node_id < length asks.nodes = outputs 0 is.output (omega arith) in
    let count : length made.clauses ≡ length asks.nodes = is.has_clauses.count in
    let below : variable_of (lit_of is.output) < length made.clauses = omega (
      arith,
      variable_of-lit_to is.output.node_id (not is.output.compl),
      there,
      count,
    ) in
    let literal = All-from_recursion (λ lit. variable_of lit < length made.clauses) (lit_of
    is.output ∷ []) (below, tt) in
    subst (AreBelow (length made.clauses)) (sym is.exact) (All-from_recursion (All (λ lit.
    variable_of lit < length made.clauses)) ((lit_of is.output ∷ []) ∷ []) (literal, tt))

-- a question with its clauses
pub encoded_question : (c : Circuit) (k : ℕ) (optimize : Bool) (q : BoundedCircuit)
    (made : BoundedClauses) (named : List Named)
    → (e : AigEdge) × IsQuestion c k (lists_circuit q.circuit) e q.places.items
    → AllZip (IsNamed c) q.places.items named
    → IsEncoded q named optimize made → IsEncodedQuestion c k optimize made
encoded_question c k optimize q made named asks names encoded = record {
  output = asks.0;
  asks = subst (λ (x : BoundedCircuit). IsQuestion c k (lists_circuit x.circuit) asks.0
      x.places.items)
      (sym encoded.same) asks.1;
  named = subst (λ (x : BoundedCircuit). AllZip (IsNamed c) x.places.items made.named.items) (sym
      encoded.same) (subst (AllZip (IsNamed c) q.places.items) (sym encoded.same_names) names);
  encoded = subst (λ x. IsEncoded x made.named.items optimize made) (sym encoded.same) (subst (λ
      ns. IsEncoded q ns optimize made) (sym encoded.same_names) encoded);
}
