-- What is said of a circuit, and of the file that it is of.
use Rattle.aig_answers.proofs.Words.{◌≡◌, ◌≢◌, ℕ, ◌≤◌, Bool, true, false, Option, List, [], length, map, refl, sym, ap, subst, ◌∙◌, ◌==◌, nat_lt, if◌then◌else◌, length-map, eqb-false, ltb-false, Circuit, AigEdge, AigLatch, AigNode, circuit_of, edge_of, File, Accepts, ReadError, IsReadAs, Accepted, IsOfFile, IsSaidOf, Judges, NoBads, Short, TooLarge, Verdict, of_no_file, refused_again, said_of_read, IsFileCircuit, unrolled_size, IsSaidBy, asked_verdict, asks_verdict, circuit_verdict}
use Rattle.aig_reader.specs.Verdicts as reading

-- ---- by tests

-- what is said by the tests of a query, and further where something is asked
abbrev said_if : Bool → Bool → Verdict → Verdict
said_if large empty extra = if large then TooLarge else if empty then NoBads else extra

module _ (extra : Verdict) where
  of_file_by : (large empty : Bool) → IsOfFile extra → IsOfFile (said_if large empty extra)
  of_file_by true empty is = tt
  of_file_by false true is = tt
  of_file_by false false is = is

  -- what is asked has room for its further steps, and bad edges
  asked_by : (large empty : Bool) → Accepted ≡ said_if large empty extra
      → (large ≡ false) × (empty ≡ false)
  asked_by true empty is = cc
  asked_by false true is = cc
  asked_by false false is = (refl, refl)

-- ---- of a circuit

asked_said : (large empty : Bool)
    → IsSaidBy (said_if large empty Accepted) (said_if large empty Accepted)
asked_said true empty = refl
asked_said false true = refl
asked_said false false = refl

module _ (limit k : ℕ) (c : Circuit) where
  -- the verdict itself is said of the circuit
  pub circuit_said : (v : Verdict) → v ≡ circuit_verdict limit k c
      → IsSaidBy (circuit_verdict limit k c) v
  circuit_said v is =
      subst (IsSaidBy (circuit_verdict limit k c)) (sym is)
      (asked_said (nat_lt limit (unrolled_size c k)) (length c.properties.bads == 0))

  -- and by its lists
  pub asks_alike : (nodes : List AigNode) (latchs : List AigLatch) (bads : List AigEdge)
      → nodes ≡ c.nodes → latchs ≡ c.latchs → bads ≡ c.properties.bads
      → asks_verdict limit k (length nodes) (length latchs) (length bads)
      ≡ circuit_verdict limit k c
  asks_alike nodes latchs bads of_nodes of_latchs of_bads = rw (of_nodes, of_latchs, of_bads) refl

  pub circuit_of_file : IsOfFile (circuit_verdict limit k c)
  circuit_of_file = of_file_by Accepted (nat_lt limit (unrolled_size c k)) (length c.properties.bads == 0) tt

  -- what is asked has room for its further steps, and a bad edge
  pub read_unrolled : (extra : Verdict)
      → Accepted ≡ said_if (nat_lt limit (unrolled_size c k)) (length c.properties.bads == 0) extra
      → (unrolled_size c k ≤ limit) × (c.properties.bads ≢ [])
  read_unrolled extra is =
      let tests = asked_by extra (nat_lt limit (unrolled_size c k)) (length c.properties.bads == 0) is in
      (ltb-false limit (unrolled_size c k) tests.0, λ none. eqb-false (length c.properties.bads) 0 tests.1 (ap length none))

-- ---- of a file

-- a bad edge is a bad literal
pub bads_of : (c : Circuit) (f : File) → IsFileCircuit f c → c.properties.bads ≢ []
    → f.properties.bads ≢ []
bads_of c f is some none = some (ap (λ (d : Circuit). d.properties.bads) is ∙ ap (λ bads. map (edge_of f) bads) none)

empty_alike : (f : File)
    → (length (circuit_of f).properties.bads == 0) ≡ (length f.properties.bads == 0)
empty_alike f = ap (λ (n : ℕ). n == 0) (length-map f.properties.bads (edge_of f))

-- the verdict on a file is that on its circuit
pub asked_alike : (limit k : ℕ) (f : File)
    → circuit_verdict limit k (circuit_of f) ≡ asked_verdict limit k f
asked_alike limit k f = ap (λ (empty : Bool). said_if (nat_lt limit (unrolled_size (circuit_of f) k)) empty Accepted) (empty_alike f)

said_of_some : (of v : Verdict) → IsOfFile of → IsSaidBy of v → IsOfFile v
said_of_some of Short is said = tt
said_of_some of v is said = subst IsOfFile (sym said) is

module _ (of : Circuit → Verdict) (also : File → Verdict) (alike : (f : File) → of (circuit_of f) ≡ also f) where
  -- what is said of a circuit is said of a file that it is of
  said_of : (c : Circuit) (v : Verdict) → IsSaidBy (of c) v → (f : File) → IsFileCircuit f c
      → IsSaidOf also f v
  said_of c Short said f is = sym (alike f) ∙ subst (λ d. of d ≡ Accepted) is said
  said_of c v said f is = said ∙ ap of is ∙ alike f

  module _ (limit : ℕ) (old new : Option (List ℕ)) (failed : Bool) where
    -- the bytes are refused in reading
    pub unread : (e : ReadError)
        → Judges (λ f. Accepted) limit old new failed (reading.verdict_of e)
        → Judges also limit old new failed (reading.verdict_of e)
    unread e told = refused_again (λ f. Accepted) also limit old new failed (reading.verdict_of e) (of_no_file e) (λ f. tt) told

    -- it is said of the circuit that was read
    pub judged : (c : Circuit) (v : Verdict) → IsOfFile (of c)
        → IsReadAs (λ bytes. Accepts bytes limit) IsFileCircuit old new c
        → Judges (λ f. Accepted) limit old new failed Accepted → IsSaidBy (of c) v
        → Judges also limit old new failed v
    judged c v is read told said = said_of_read (λ f. Accepted) also limit old new failed v (said_of_some (of c) v is said) told read (said_of c v said)

-- so with the verdict on a circuit that is asked for a bad state at a step
module _ (limit k : ℕ) (old new : Option (List ℕ)) (failed : Bool) where
  pub asked_unread : (e : ReadError)
      → Judges (λ f. Accepted) limit old new failed (reading.verdict_of e)
      → Judges (asked_verdict limit k) limit old new failed (reading.verdict_of e)
  asked_unread e told =
      unread (circuit_verdict limit k) (asked_verdict limit k) (asked_alike limit k) limit old new
      failed e told

  pub asked_judged : (c : Circuit) (v : Verdict)
      → IsReadAs (λ bytes. Accepts bytes limit) IsFileCircuit old new c
      → Judges (λ f. Accepted) limit old new failed Accepted → IsSaidBy (circuit_verdict limit k c) v
      → Judges (asked_verdict limit k) limit old new failed v
  asked_judged c v read told said =
      judged (circuit_verdict limit k) (asked_verdict limit k) (asked_alike limit k) limit old new
      failed c v (circuit_of_file limit k c) read told said
