use Rattle.std.proofs.Common.{◌≡◌, ℕ, Bool, true, false, not, if◌then◌else◌, List, [], ◌∷◌, ◌&&◌, ◌||◌, ◌↔◌, IsTrue, map, refl, ap, ◌∙◌, arith}
use Rattle.aig_base.proofs.Words.{list_any, list_all, nat_tests, list_all-append}
use Rattle.aig_base.specs.declared.logic.literal.Lit.{Lit}
use Rattle.aig_base.specs.Clauses.{lit_to, variable_of, is_positive, inverse_lit, with_polarity, literal_value, are_true, and_clauses, xor_clauses, ite_clauses}

-- a literal is that of its variable and polarity
pub variable_of-lit_to : (n : ℕ) (polarity : Bool) → variable_of (lit_to n polarity) ≡ n
variable_of-lit_to n true = omega arith
variable_of-lit_to n false = omega arith

pub is_positive-lit_to : (n : ℕ) (polarity : Bool) → is_positive (lit_to n polarity) ≡ polarity
is_positive-lit_to n true = grind (arith, nat_tests)
is_positive-lit_to n false = grind (arith, nat_tests)

pub literal_value-lit_to : (v : ℕ → Bool) (n : ℕ) (polarity : Bool) → literal_value v (lit_to n polarity) ≡ with_polarity polarity (v n)
unfolding literal_value
literal_value-lit_to v n polarity =
    ap (λ p. with_polarity p (v (variable_of (lit_to n polarity)))) (is_positive-lit_to n polarity)
    ∙ ap (λ m. with_polarity polarity (v m)) (variable_of-lit_to n polarity)

with_polarity-not : (polarity value : Bool) → with_polarity (not polarity) value ≡ not (with_polarity polarity value)
with_polarity-not true value = refl
with_polarity-not false true = refl
with_polarity-not false false = refl

pub literal_value-inverse_lit : (v : ℕ → Bool) (lit : Lit) → literal_value v (inverse_lit lit) ≡ not (literal_value v lit)
unfolding literal_value
literal_value-inverse_lit v lit =
    literal_value-lit_to v (variable_of lit) (not (is_positive lit)) ∙ with_polarity-not (is_positive lit) (v (variable_of lit))

-- n implies each of the literals
implies_each : (v : ℕ → Bool) (n : Lit) (lits : List Lit) → are_true v (map (λ a. inverse_lit n ∷ a ∷ []) lits) ≡ (not (literal_value v n) || list_all (literal_value v) lits)
implies_each v n [] = by (literal_value v n)
  where
    by : (b : Bool) → true ≡ (not b || true)
    by true = refl
    by false = refl
implies_each v n (lit ∷ lits) =
    rw (literal_value-inverse_lit v n, implies_each v n lits) (by (literal_value v n) (literal_value v lit) (list_all (literal_value v) lits))
  where
    by : (b a rest : Bool) → ((not b || (a || false)) && (not b || rest)) ≡ (not b || (a && rest))
    by true true rest = refl
    by true false rest = refl
    by false a rest = refl

-- some inverse is true where not all literals are
some_inverse : (v : ℕ → Bool) (lits : List Lit) → list_any (literal_value v) (map inverse_lit lits) ≡ not (list_all (literal_value v) lits)
some_inverse v [] = refl
some_inverse v (lit ∷ lits) =
    rw (literal_value-inverse_lit v lit, some_inverse v lits) (by (literal_value v lit) (list_all (literal_value v) lits))
  where
    by : (a rest : Bool) → (not a || not rest) ≡ not (a && rest)
    by true rest = refl
    by false rest = refl

-- the clauses of an and hold exactly where n is the and
pub are_true-and_clauses : (v : ℕ → Bool) (n : Lit) (lits : List Lit) → IsTrue (are_true v (and_clauses n lits)) ↔ (literal_value v n ≡ list_all (literal_value v) lits)
are_true-and_clauses v n lits =
    rw (list_all-append, implies_each v n lits, some_inverse v lits) (by (literal_value v n) (list_all (literal_value v) lits))
  where
    by : (b all : Bool) → IsTrue ((not b || all) && ((b || not all) && true)) ↔ (b ≡ all)
    by true true = (λ h. refl, λ h. refl)
    by true false = (λ h. cc, λ h. cc)
    by false true = (λ h. cc, λ h. cc)
    by false false = (λ h. refl, λ h. refl)

-- the clauses of an exclusive or hold exactly where n is it
pub are_true-xor_clauses : (v : ℕ → Bool) (n x y : Lit) → IsTrue (are_true v (xor_clauses n x y)) ↔ (literal_value v n ≡ (if literal_value v x then not (literal_value v y) else literal_value v y))
are_true-xor_clauses v n x y =
    rw (literal_value-inverse_lit v n, literal_value-inverse_lit v x, literal_value-inverse_lit v y) (by (literal_value v n) (literal_value v x) (literal_value v y))
  where
    by : (n x y : Bool) → IsTrue ((not n || (x || (y || false))) && ((not n || (not x || (not y || false))) && ((n || (not x || (y || false))) && ((n || (x || (not y || false))) && true)))) ↔ (n ≡ (if x then not y else y))
    by true true true = (λ h. cc, λ h. cc)
    by true true false = (λ h. refl, λ h. refl)
    by true false true = (λ h. refl, λ h. refl)
    by true false false = (λ h. cc, λ h. cc)
    by false true true = (λ h. refl, λ h. refl)
    by false true false = (λ h. cc, λ h. cc)
    by false false true = (λ h. cc, λ h. cc)
    by false false false = (λ h. refl, λ h. refl)

-- the clauses of a choice hold exactly where n is it
pub are_true-ite_clauses : (v : ℕ → Bool) (n c t e : Lit) → IsTrue (are_true v (ite_clauses n c t e)) ↔ (literal_value v n ≡ (if literal_value v c then literal_value v t else literal_value v e))
are_true-ite_clauses v n c t e =
    rw (literal_value-inverse_lit v n, literal_value-inverse_lit v c, literal_value-inverse_lit v t, literal_value-inverse_lit v e) (by (literal_value v n) (literal_value v c) (literal_value v t) (literal_value v e))
  where
    by : (n c t e : Bool) → IsTrue ((not c || (not t || (n || false))) && ((not c || (t || (not n || false))) && ((c || (not e || (n || false))) && ((c || (e || (not n || false))) && true)))) ↔ (n ≡ (if c then t else e))
    by true true true e = (λ h. refl, λ h. refl)
    by true true false e = (λ h. cc, λ h. cc)
    by true false t true = (λ h. refl, λ h. refl)
    by true false t false = (λ h. cc, λ h. cc)
    by false true true e = (λ h. cc, λ h. cc)
    by false true false e = (λ h. refl, λ h. refl)
    by false false t true = (λ h. cc, λ h. cc)
    by false false t false = (λ h. refl, λ h. refl)
