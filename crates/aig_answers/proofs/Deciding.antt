-- Whether some assignment satisfies clauses is decided, since they have finitely many variables.
use Rattle.aig_answers.proofs.Words.{◌≡◌, ℕ, zero, suc, ◌+◌, ◌<◌, Bool, true, false, ◌||◌, ◌⊎◌, inl, inr, List, [], ◌∷◌, IsTrue, refl, sym, ap, ◌∙◌, arith, false≢true, ◌&&◌, Lit, are_true, is_positive, is_true_clause, variable_of, with_polarity, IsSatisfiable}
use Rattle.aig_base.specs.Clauses.{literal_value}

-- ---- tests of assignments

-- the values below n are the same
abbrev Agree : ℕ → (ℕ → Bool) → (ℕ → Bool) → Type 0
Agree n v w = (m : ℕ) → m < n → v m ≡ w m

-- a test that looks at the values below n alone
abbrev LooksBelow : ℕ → ((ℕ → Bool) → Bool) → Type 0
LooksBelow n test = (v w : ℕ → Bool) → Agree n v w → test v ≡ test w

-- one value before the others
abbrev before : Bool → (ℕ → Bool) → ℕ → Bool
before b v zero = b
before b v (suc m) = v m

before_agree : (b : Bool) (n : ℕ) (v w : ℕ → Bool) → Agree n v w
    → Agree (suc n) (before b v) (before b w)
before_agree b n v w agree zero low = refl
before_agree b n v w agree (suc m) low = agree m (omega arith)

before_rest : (n : ℕ) (v : ℕ → Bool) → Agree n v (before (v zero) (λ m. v (suc m)))
before_rest n v zero low = refl
before_rest n v (suc m) low = refl

-- some assignment passes
abbrev SomePasses : ((ℕ → Bool) → Bool) → Type 0
SomePasses test = (v : ℕ → Bool) × IsTrue (test v)

-- none does
abbrev NonePasses : ((ℕ → Bool) → Bool) → Type 0
NonePasses test = (v : ℕ → Bool) → test v ≡ false

without_variables : (test : (ℕ → Bool) → Bool) → LooksBelow 0 test → (b : Bool)
    → test (λ m. false) ≡ b → SomePasses test ⊎ NonePasses test
without_variables test looks true is = inl (λ m. false, is)
without_variables test looks false is =
    inr (λ v. looks v (λ m. false) (λ m low. absurd (omega arith)) ∙ is)

-- where neither value before the others passes, none does
none_of_both : (n : ℕ) (test : (ℕ → Bool) → Bool) → LooksBelow n test
    → NonePasses (λ v. test (before true v)) → NonePasses (λ v. test (before false v))
    → NonePasses test
none_of_both n test looks first second v =
    looks v (before (v zero) (λ m. v (suc m))) (before_rest n v) ∙ by (v zero)
  where
    by : (b : Bool) → test (before b (λ m. v (suc m))) ≡ false
    by true = first (λ m. v (suc m))
    by false = second (λ m. v (suc m))

decided : (n : ℕ) (test : (ℕ → Bool) → Bool) → LooksBelow n test → SomePasses test ⊎ NonePasses test
decided zero test looks = without_variables test looks (test (λ m. false)) refl
decided (suc n) test looks =
    let half = λ (b : Bool). decided n (λ v. test (before b v))
    (λ v w agree. looks (before b v) (before b w) (before_agree b n v w agree)) in
    elim (half true) [
      | inl some ↦ inl (before true some.0, some.1)
      | inr first ↦ elim (half false) [
        | inl some ↦ inl (before false some.0, some.1)
        | inr second ↦ inr (none_of_both (suc n) test looks first second)
      ]
    ]

-- ---- clauses

literal_looks : (lit : Lit) → LooksBelow (variable_of lit + 1) (λ v. literal_value v lit)
unfolding literal_value
literal_looks lit v w agree =
    ap (with_polarity (is_positive lit)) (agree (variable_of lit) (omega arith))

-- the variables of a clause are below this
abbrev clause_bound : List Lit → ℕ
clause_bound [] = 0
clause_bound (lit ∷ rest) = (variable_of lit + 1) + clause_bound rest

clause_looks : (clause : List Lit) → LooksBelow (clause_bound clause) (λ v. is_true_clause v clause)
clause_looks [] v w agree = refl
clause_looks (lit ∷ rest) v w agree =
    ap (λ b. b || is_true_clause v rest)
    (literal_looks lit v w (λ m low. agree m (omega (arith, low))))
    ∙ ap (λ b. literal_value w lit || b)
    (clause_looks rest v w (λ m low. agree m (omega (arith, low))))

-- and those of clauses below this
abbrev clauses_bound : List (List Lit) → ℕ
clauses_bound [] = 0
clauses_bound (clause ∷ rest) = clause_bound clause + clauses_bound rest

clauses_look : (clauses : List (List Lit))
    → LooksBelow (clauses_bound clauses) (λ v. are_true v clauses)
clauses_look [] v w agree = refl
clauses_look (clause ∷ rest) v w agree =
    ap (λ b. b && are_true v rest)
    (clause_looks clause v w (λ m low. agree m (omega (arith, low))))
    ∙ ap (λ b. is_true_clause w clause && b)
    (clauses_look rest v w (λ m low. agree m (omega (arith, low))))

-- so clauses can be satisfied where it is impossible that they can't
pub satisfiable_unless : (clauses : List (List Lit)) → ¬ ¬ IsSatisfiable clauses
    → IsSatisfiable clauses
satisfiable_unless clauses not_none =
    elim (decided (clauses_bound clauses) (λ v. are_true v clauses) (clauses_look clauses)) [
      | inl some ↦ some
      | inr none ↦ absurd (not_none (λ s. false≢true (sym (none s.0) ∙ s.1)))
    ]
