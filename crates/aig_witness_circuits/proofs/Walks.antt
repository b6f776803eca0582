-- Walks along steps, and nodes from which none goes on for ever.
use Rattle.aig_witness_circuits.proofs.Words.{◌≡◌, ℕ, ◌⊎◌, List, [], ◌∷◌, inl, inr, sym, subst, arith, Contains, Contains-push, Contains-push_cases, IsReached, root, IsGrounded, grounded}
use Rattle.aig_circuit.specs.Reach.{step}

-- the one node of a list
only_one : (n k : ℕ) → Contains (n ∷ []) k → n ≡ k
only_one n k has = elim (Contains-push_cases [] n k has) [
  | inl none ↦ absurd (omega (arith, none.1))
  | inr same ↦ same
]

module _ (Step : ℕ → ℕ → Type 0) where
  abbrev pub From : ℕ → ℕ → Type 0
  From n m = IsReached Step (n ∷ []) m

  pub from_itself : (n : ℕ) → From n n
  from_itself n = root (Contains-push [] n)

  pub joined : (n m k : ℕ) → From n m → From m k → From n k
  joined n m k before (root has) = subst (From n) (only_one m k has) before
  joined n m k before (step {n = j} reached one) = step (joined n m j before reached) one

  -- a walk is none, or begins with a step
  first_step : (n k : ℕ) → From n k → (n ≡ k) ⊎ ((m : ℕ) × Step n m × From m k)
  first_step n k (root has) = inl (only_one n k has)
  first_step n k (step {n = j} reached one) = elim (first_step n j reached) [
    | inl same ↦ inr (k, subst (λ i. Step i k) (sym same) one, from_itself k)
    | inr found ↦ inr (found.0, found.1, step found.2 one)
  ]

  -- a claim on each grounded node follows where it follows from the claims on the next ones
  pub ground_ind : (P : ℕ → Type 0) → ((n : ℕ) → ((m : ℕ) → Step n m → P m) → P n) → (n : ℕ)
      → IsGrounded Step n → P n
  ground_ind P by n (grounded below) = by n (λ m one. ground_ind P by m (below m one))

  -- no walk from a grounded node comes back to it
  pub no_way_back : (n : ℕ) → IsGrounded Step n → (m : ℕ) → Step n m → From m n → ⊥
  no_way_back =
      ground_ind (λ n. (m : ℕ) → Step n m → From m n → ⊥)
      (λ n below m one walk. elim (first_step m n walk) [
        | inl same ↦
            below m one m (subst (λ (k : ℕ). Step k m) (sym same) one) (from_itself m)
        | inr found ↦ below m one found.0 found.1 (step found.2 one)
      ])

-- the same walk along other steps
pub walk_by : (Step Other : ℕ → ℕ → Type 0) → ((n m : ℕ) → Step n m → Other n m)
    → (roots : List ℕ) (k : ℕ) → IsReached Step roots k → IsReached Other roots k
walk_by Step Other each roots k (root has) = root has
walk_by Step Other each roots k (step {n = j} reached one) =
    step (walk_by Step Other each roots j reached) (each j k one)
