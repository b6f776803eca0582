-- The query and the window of the file that was read.
use Rattle.aig_answers.proofs.Words.{◌≡◌, ◌≢◌, ℕ, ◌≤◌, Bool, Option, List, [], sym, subst, Lit, Circuit, lists_circuit, CircuitLists, FixesRoots, HasClauses, NodeValuesSatisfy, circuit_of, File, Accepts, Fits, AreListsOf, IsReadAs, Accepted, IsFileCircuit, unrolled_size, UnrollsTo, AsksOfCircuit, Encodes, IsQueryOf, IsQuery, CircuitQuery, IsAsked, IsCircuitQuery, circuit_verdict}
use Rattle.aig_answers.proofs.Verdicts.{read_unrolled, bads_of}

-- that what encodes a file's circuit encodes the file
abbrev pub EncodesFiles : Type 0
EncodesFiles = (f : File) (limit k : ℕ) (optimize : Bool) (unrolled : Circuit) (clauses : List (List (List Lit))) → Fits f limit → UnrollsTo (circuit_of f) k unrolled → HasClauses unrolled optimize clauses
    → FixesRoots unrolled clauses → NodeValuesSatisfy unrolled clauses → Encodes f k optimize (circuit_of f) unrolled clauses

-- that what asks for witnesses of a file's circuit asks for those of its machine
abbrev pub AsksFiles : Type 0
AsksFiles = (f : File) (limit k : ℕ) (unrolled : Circuit) (clauses : List (List (List Lit))) (extra : List (List Lit)) → Fits f limit → AsksOfCircuit (circuit_of f) k unrolled clauses extra
    → IsQueryOf f k (circuit_of f) unrolled clauses extra

-- the query of a file's circuit is the file's
query_of_file : (limit k : ℕ) (c : Circuit) (optimize : Bool) (q : CircuitQuery) → EncodesFiles → AsksFiles → IsCircuitQuery c k optimize q → (f : File) → Fits f limit → IsFileCircuit f c
    → IsQuery k optimize f (record { encoded = record { circuit = c; unrolled = q.unrolled; clauses = q.clauses }; extra = q.extra })
query_of_file limit k c optimize q encodes asks made f fits is =
    let steps = subst (λ d. UnrollsTo d k q.unrolled) is made.steps in
    let asked = subst (λ d. AsksOfCircuit d k q.unrolled q.clauses q.extra) is made.asks in (
      subst (λ d. Encodes f k optimize d q.unrolled q.clauses) (sym is) (encodes f limit k optimize q.unrolled q.clauses fits steps made.has_clauses made.fixes made.satisfied),
      subst (λ d. IsQueryOf f k d q.unrolled q.clauses q.extra) (sym is) (asks f limit k q.unrolled q.clauses q.extra fits asked),
    )

-- the circuit of lists that were read
pub read_lists : (limit : ℕ) (lists : CircuitLists) (old new : Option (List ℕ))
    → IsReadAs (λ bytes. Accepts bytes limit) AreListsOf old new lists
    → IsReadAs (λ bytes. Accepts bytes limit) IsFileCircuit old new (lists_circuit lists)
read_lists limit lists old new read = record {
  file = read.file;
  bytes = read.bytes;
  holds = read.holds;
  means = read.means;
  taken = read.taken;
}

-- a circuit was read of which something is asked
module _ (limit k : ℕ) (c : Circuit) (old new : Option (List ℕ)) (read : IsReadAs (λ bytes. Accepts bytes limit) IsFileCircuit old new c) where
  pub asked_file : {X : Type 0} (steps : ℕ) (Means : File → X → Type 0) (x : X) → (unrolled_size c steps ≤ limit) × (c.properties.bads ≢ []) → ((f : File) → Fits f limit → IsFileCircuit f c → Means f x)
      → IsReadAs (IsAsked limit steps) Means old new x
  asked_file steps Means x asked means = record {
    file = read.file;
    bytes = read.bytes;
    holds = ((read.holds, subst (λ d. unrolled_size d steps ≤ limit) read.means asked.0), bads_of c read.file read.means asked.1);
    means = means read.file read.holds.1 read.means;
    taken = read.taken;
  }

  pub query_answers : EncodesFiles → AsksFiles → (optimize : Bool) (q : CircuitQuery) → IsCircuitQuery c k optimize q → Accepted ≡ circuit_verdict limit k c
      → IsReadAs (IsAsked limit k) (IsQuery k optimize) old new (record { encoded = record { circuit = c; unrolled = q.unrolled; clauses = q.clauses }; extra = q.extra })
  query_answers encodes asks optimize q made said = asked_file k (IsQuery k optimize) _ (read_unrolled limit k c Accepted said) (query_of_file limit k c optimize q encodes asks made)
