-- What answers about the conditions of a claim tell of the file and the witness circuit.
use Rattle.aig_witness_circuit_checks.proofs.Words.{◌≡◌, ℕ, ◌≤◌, ◌^◌, Bool, List, [], ◌∷◌, None, Option, Result, Ok, Err, refl, sym, ap, subst, ◌∙◌, IfErr, OnOk, fun_ext, IsCircuitQuery, query_with, Circuit, IsCircuit, lists_circuit, Accepts, File, Shares, model_leaf, question_of, IsCertificate, Sharing, Condition, Reset, Transition, Property, Base, Step, Claim, SimulationError, ChecksClaim, HoldsIn, IsAsked, Certifies, ChecksModel, Claims, ClaimsNothing, IsClaim, IsOfClaim, IsOwn, IsQuestionOf, MakesClaim, Proofs, file_error, part_of, proof_for, question_in, refusal_of}
use Rattle.aig_answers.specs.declared.windows.WindowClauses.{WindowClauses}
use Rattle.aig_runs.specs.Safety.{IsCircuitSafeAt}
use Rattle.aig_runs.specs.Unrolled.{UnrolledCircuit}
use Rattle.aig_subjects.specs.Reads.{AreAccepted}
use Rattle.aig_subjects.specs.Shown.{ShowsAlways}
use Rattle.aig_subjects.specs.Subjects.{IsSubject}
use Rattle.aig_subjects.specs.declared.subject.FileSubject.{FileSubject}
use Rattle.aig_subjects.specs.declared.subject.Subject.{Subject}
use Rattle.aig_subjects.specs.declared.subject.Subject.TheVariants.{File as of_file}
use Rattle.aig_witness_circuit_checks.specs.declared.error.SimulationError.TheVariants as errors

-- ---- the conditions

-- the clauses that were made are those of the question's query for step 0
pub query_asked : (limit : ℕ) (optimize : Bool) (condition : Condition) (claim : Claim)
    (asked : UnrolledCircuit) (made : WindowClauses) → IsAsked limit condition claim asked
    → IsCircuitQuery asked.circuit asked.steps optimize (query_with asked.unrolled made)
    → IsCircuitQuery (question_in condition claim) 0 optimize (query_with asked.unrolled made)
query_asked limit optimize condition claim asked made is query =
    subst
    (λ (k : ℕ). IsCircuitQuery (question_in condition claim) k optimize
    (query_with asked.unrolled made)) is.unrolls.steps
    (subst
    (λ (c : Circuit). IsCircuitQuery c asked.steps optimize (query_with asked.unrolled made))
    is.unrolls.circuit query)

-- where all conditions hold, the witness circuit certifies the model
certificate : (claim : Claim) → IsClaim claim → ((condition : Condition) → HoldsIn claim condition)
    → IsCertificate claim.shared.items (lists_circuit claim.model) (lists_circuit claim.witness)
certificate claim is holds = record {
  sharing = is.shared.sharing;
  can_start = is.can_start;
  reset = holds Reset;
  transition = holds Transition;
  property = holds Property;
  base = holds Base;
  step = holds Step;
}

-- ---- the models

-- the laws by which a certificate shows that what is asked about a file is so
pub record Known : Type 0 where
  pub certified : (shared : Sharing) (model witness : Circuit) → IsCircuit witness
      → IsCertificate shared model witness → (k : ℕ) → IsCircuitSafeAt model k
  pub always : (subject : Subject) (files : List File) (limit : ℕ) (m : Circuit)
      → limit ≤ 2 ^ 31 → AreAccepted limit files → IsSubject subject files m
      → ((k : ℕ) → IsCircuitSafeAt m k) → ShowsAlways subject files

module _ (node : ℕ → Option ℕ) (m w : Circuit) (claim : Claim)
    (made : MakesClaim node m w (Ok claim))
  where
    -- the question of a claim is that of its circuits
    pub question_of_model : (condition : Condition)
        → IsQuestionOf condition node m w (question_in condition claim)
    question_of_model condition = (
      claim.shared.items,
      made.3,
      ap (λ (c : Circuit). question_of condition (model_leaf claim.shared.items) c
          (lists_circuit claim.witness)) made.1
          ∙ ap (λ (c : Circuit). question_of condition (model_leaf claim.shared.items) m c) made.2,
    )

-- of two lists of shared leaves that say the same there is one question
pub one_question : (condition : Condition) (node : ℕ → Option ℕ) (m w q other : Circuit)
    → ((node : ℕ → Option ℕ) (model witness : Circuit) (shared more : Sharing)
    → Shares node model witness shared → Shares node model witness more → (n : ℕ)
    → model_leaf shared n ≡ model_leaf more n)
    → IsQuestionOf condition node m w q → IsQuestionOf condition node m w other → q ≡ other
one_question condition node m w q other alike is also =
    is.2
    ∙ ap (λ leaf. question_of condition leaf m w)
    (fun_ext (alike node m w is.0 also.0 is.1 also.1))
    ∙ sym also.2

module _ {P : Type 0} (known : Known) (limit : ℕ) (low : limit ≤ 2 ^ 31) (optimize : Bool)
    (left : P → Option (List ℕ)) (proofs : Proofs P) (own : FileSubject) (f g : File)
    (bytes : List ℕ) (claim : Claim) (accepts : Accepts bytes limit f) (is : IsClaim claim)
    (claims : Claims own f g (Ok claim)) where
  abbrev texts : Condition → Option (List ℕ)
  texts condition = left (proof_for proofs condition)

  shown : (made : Result Unit SimulationError) → ChecksClaim left limit optimize claim proofs made
      → OnOk made (ShowsAlways (of_file own) (f ∷ []))
  shown (Ok done) told =
      known.always (of_file own) (f ∷ []) limit claims.0 low ((bytes, accepts), tt) claims.1
      (λ k. subst (λ (m : Circuit). IsCircuitSafeAt m k) claims.2.1
      (known.certified claim.shared.items (lists_circuit claim.model) (lists_circuit claim.witness)
      is.witness (certificate claim is told.0) k))
  shown (Err e) told = tt

  checks : (node : ℕ → Option ℕ) (m w : Circuit) → MakesClaim node m w (Ok claim)
      → (made : Result Unit SimulationError) → ChecksClaim left limit optimize claim proofs made
      → ChecksModel limit optimize texts node m w made
  checks node m w made (Ok done) told = (
    made.0,
    λ condition. (
      question_in condition claim,
      question_of_model node m w claim made condition,
      told.1 condition,
    ),
  )
  checks node m w made (Err (errors.Condition failing e)) told = (
    made.0,
    λ condition before. (
      question_in condition claim,
      question_of_model node m w claim made condition,
      told.0 condition before,
    ),
    (question_in failing claim, question_of_model node m w claim made failing, told.1),
  )
  checks node m w made (Err (errors.File e)) told = absurd told
  checks node m w made (Err (errors.Witness e)) told = absurd told
  checks node m w made (Err errors.NoBads) told = absurd told
  checks node m w made (Err (errors.Sharing e)) told = absurd told
  checks node m w made (Err errors.Circular) told = absurd told

  -- what is asked about is so at every step, or it is said why that isn't shown
  pub certifies : (made : Result Unit SimulationError)
      → ChecksClaim left limit optimize claim proofs made
      → Certifies limit optimize texts own f g made
  certifies made told =
      (shown made told, (claims.0, claims.1, checks _ claims.0 _ claims.2 made told))

-- ---- errors

-- of both files' bytes it is said that they are taken, and the errors are those of a check
pub check_said : {P : Type 0} (limit : ℕ) (optimize : Bool) (left : P → Option (List ℕ))
    (proofs : Proofs P) (claim : Claim) (made : Result Unit SimulationError)
    → ChecksClaim left limit optimize claim proofs made
    → (part_of file_error made ≡ None) × (part_of refusal_of made ≡ None) × IfErr made IsOwn
check_said limit optimize left proofs claim (Ok done) told = (refl, refl, tt)
check_said limit optimize left proofs claim (Err (errors.Condition failing e)) told =
    (refl, refl, tt)
check_said limit optimize left proofs claim (Err (errors.File e)) told = absurd told
check_said limit optimize left proofs claim (Err (errors.Witness e)) told = absurd told
check_said limit optimize left proofs claim (Err errors.NoBads) told = absurd told
check_said limit optimize left proofs claim (Err (errors.Sharing e)) told = absurd told
check_said limit optimize left proofs claim (Err errors.Circular) told = absurd told

-- an error of a claim is one of the check
pub own_of_claim : (e : SimulationError) → IsOfClaim e → IsOwn e
own_of_claim (errors.File e) own = own
own_of_claim (errors.Witness e) own = own
own_of_claim errors.NoBads own = tt
own_of_claim (errors.Sharing e) own = tt
own_of_claim errors.Circular own = tt
own_of_claim (errors.Condition failing e) own = absurd own

-- why there is no claim is why there is no answer
checks_none : (limit : ℕ) (optimize : Bool) (given : Condition → Option (List ℕ))
    (node : ℕ → Option ℕ) (m w : Circuit) (e : SimulationError) → ClaimsNothing node m w e
    → ChecksModel limit optimize given node m w (Err e)
checks_none limit optimize given node m w (errors.Condition failing e) none = absurd none
checks_none limit optimize given node m w e none = none

pub not_certified : (limit : ℕ) (optimize : Bool) (given : Condition → Option (List ℕ))
    (own : FileSubject) (f g : File) (e : SimulationError) → Claims own f g (Err e)
    → Certifies limit optimize given own f g (Err e)
not_certified limit optimize given own f g e none =
    (tt, (none.0, none.1, checks_none limit optimize given _ none.0 _ e none.2))
