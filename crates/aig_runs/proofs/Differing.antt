-- An assignment under which states differ, with values for the free variables that say so.
use Rattle.aig_base.proofs.Words.{◌≡◌, ℕ, zero, suc, ◌+◌, ◌*◌, ◌<◌, ◌≤◌, Bool, true, false, cond, not, ◌||◌, List, [], ◌∷◌, ◌++◌, length, IsTrue, refl, sym, ap, ◌∙◌, arith, nat_eq, AllByRecursion, add-mul, nat_tests}
use Rattle.aig_base.specs.declared.logic.literal.Lit.{Lit}
use Rattle.aig_base.specs.Clauses.{is_true_clause, lit_to, literal_value, variable_of}
use Rattle.aig_base.proofs.Literals.{literal_value-lit_to, variable_of-lit_to}
use Rattle.aig_circuit.specs.declared.edge.AigEdge.{AigEdge}
use Rattle.aig_circuit.specs.Edge.{inverse, inverted_if}
use Rattle.aig_cnf.specs.Cnf.{edge_in}
use Rattle.aig_cnf.proofs.Forms.{literal_value-lit_of, edge_in-inverse}
use Rattle.aig_format.proofs.Entries.{rec_append}
use Rattle.aig_runs.proofs.Further.{Holds}
use Rattle.aig_runs.specs.WindowClauses.{apart_clauses, count_pairs, difference_clauses, distinct_clauses, pair_clauses, pairwise_clauses, state_at, variables_from}

-- ---- variables below a bound

-- each literal's variable is below n
abbrev pub IsBelow : ℕ → List Lit → Type 0
IsBelow n clause = AllByRecursion (λ lit. variable_of lit < n) clause

abbrev pub AreBelow : ℕ → List (List Lit) → Type 0
AreBelow n clauses = AllByRecursion (IsBelow n) clauses

-- the values below n are the same
abbrev pub Agree : ℕ → (ℕ → Bool) → (ℕ → Bool) → Type 0
Agree n v w = (m : ℕ) → m < n → w m ≡ v m

module _ (n : ℕ) (v w : ℕ → Bool) (agree : Agree n v w) where
  literal_alike : (lit : Lit) → variable_of lit < n → literal_value w lit ≡ literal_value v lit
  unfolding literal_value
  literal_alike lit h = rw (agree (variable_of lit) h) refl

  clause_alike : (clause : List Lit) → IsBelow n clause → is_true_clause w clause ≡ is_true_clause v clause
  clause_alike [] low = refl
  clause_alike (lit ∷ rest) low = ap (λ b. b || is_true_clause w rest) (literal_alike lit low.0) ∙ ap (λ b. literal_value v lit || b) (clause_alike rest low.1)

  pub hold_alike : (clauses : List (List Lit)) → AreBelow n clauses → AllByRecursion (Holds v) clauses → AllByRecursion (Holds w) clauses
  hold_alike [] low holds = tt
  hold_alike (clause ∷ rest) low holds = (clause_alike clause low.0 ∙ holds.0, hold_alike rest low.1 holds.1)

  pub edge_alike : (e : AigEdge) → e.node_id < n → edge_in w e ≡ edge_in v e
  edge_alike e h = ap (inverted_if e.compl) (agree e.node_id h)

-- an assignment that agrees with v below n, and makes the clauses true
pub record Extends (v : ℕ → Bool) (n : ℕ) (clauses : List (List Lit)) : Type 0 where
  pub values : ℕ → Bool
  pub agree : Agree n v values
  pub hold : AllByRecursion (Holds values) clauses

-- clauses of variables below m, and others after them
extends_both : (v : ℕ → Bool) (n m : ℕ) (clauses others : List (List Lit)) → n ≤ m → AreBelow m clauses → (first : Extends v n clauses) → Extends first.values m others → Extends v n (clauses ++ others)
extends_both v n m clauses others low below first second = record {
  values = second.values;
  agree = λ i h. second.agree i (omega arith) ∙ first.agree i h;
  hold = (rec_append (Holds second.values) clauses others).1 (hold_alike m first.values second.values second.agree clauses below first.hold, second.hold);
}

-- ---- one pair of states

-- the states have the same values
abbrev pub AreEqual : (ℕ → Bool) → List AigEdge → List AigEdge → Type 0
AreEqual v [] ys = Unit {0}
AreEqual v (x ∷ xs) [] = Unit {0}
AreEqual v (x ∷ xs) (y ∷ ys) = (edge_in v x ≡ edge_in v y) × AreEqual v xs ys

-- the nodes of the edges are below n
abbrev pub AreEdgesBelow : ℕ → List AigEdge → Type 0
AreEdgesBelow n es = AllByRecursion (λ e. e.node_id < n) es

-- whether two values differ
abbrev pub differ : Bool → Bool → Bool
differ true b = not b
differ false b = b

-- variable n says whether the first edges differ, n + 1 whether the second do, and so on
abbrev pub Tells : (ℕ → Bool) → ℕ → List AigEdge → List AigEdge → Type 0
Tells w n [] ys = Unit {0}
Tells w n (x ∷ xs) [] = Unit {0}
Tells w n (x ∷ xs) (y ∷ ys) = (w n ≡ differ (edge_in w x) (edge_in w y)) × Tells w (n + 1) xs ys

-- one value more
abbrev pub with_value : (ℕ → Bool) → ℕ → Bool → ℕ → Bool
with_value v n b m = cond (nat_eq m n) b (v m)

with_value-same : (v : ℕ → Bool) (n : ℕ) (b : Bool) → with_value v n b n ≡ b
with_value-same v n b = let is : nat_eq n n ≡ true = grind (arith, nat_tests) in ap (λ t. cond t b (v n)) is

with_value-other : (v : ℕ → Bool) (n : ℕ) (b : Bool) (m : ℕ) → m < n → with_value v n b m ≡ v m
with_value-other v n b m h = let is : nat_eq m n ≡ false = grind (arith, nat_tests) in ap (λ t. cond t b (v m)) is

-- there are such values
telling : (low n : ℕ) → low ≤ n → (v : ℕ → Bool) (xs ys : List AigEdge) → AreEdgesBelow low xs → AreEdgesBelow low ys → (w : ℕ → Bool) × Agree n v w × Tells w n xs ys
telling low n h v [] ys p q = (v, (λ m less. refl), tt)
telling low n h v (x ∷ xs) [] p q = (v, (λ m less. refl), tt)
telling low n h v (x ∷ xs) (y ∷ ys) p q =
    let b = differ (edge_in v x) (edge_in v y) in
    let one = with_value v n b in
    let rest = telling low (n + 1) (omega arith) one xs ys p.1 q.1 in
    let agree : Agree n v rest.0 = λ m less. rest.1 m (omega arith) ∙ with_value-other v n b m less in
    let here = p.0 in
    let there = q.0 in (
      rest.0,
      agree,
      (
        rest.1 n (omega arith) ∙ with_value-same v n b
            ∙ ap (λ c. differ c (edge_in v y)) (sym (edge_alike n v rest.0 agree x (omega arith)))
            ∙ ap (λ c. differ (edge_in rest.0 x) c) (sym (edge_alike n v rest.0 agree y (omega arith))),
        rest.2,
      ),
    )

-- what they say is true
two_clauses : (d a b : Bool) → d ≡ differ a b → IsTrue (not d || (a || (b || false))) × IsTrue (not d || (not a || (not b || false)))
two_clauses true true true is = cc
two_clauses true true false is = (refl, refl)
two_clauses true false true is = (refl, refl)
two_clauses true false false is = cc
two_clauses false a b is = (refl, refl)

differences_hold : (w : ℕ → Bool) (n : ℕ) (xs ys : List AigEdge) → Tells w n xs ys → AllByRecursion (Holds w) (difference_clauses n xs ys)
differences_hold w n [] ys tells = tt
differences_hold w n (x ∷ xs) [] tells = tt
differences_hold w n (x ∷ xs) (y ∷ ys) tells =
    let two = two_clauses (w n) (edge_in w x) (edge_in w y) tells.0 in
    let free = literal_value-lit_to w n false in (
      rw (free, literal_value-lit_of w x, literal_value-lit_of w y) two.0,
      (rw (free, literal_value-lit_of w (inverse x), literal_value-lit_of w (inverse y), edge_in-inverse w x, edge_in-inverse w y) two.1, differences_hold w (n + 1) xs ys tells.1),
    )

-- where no variable says so, no edges differ
no_difference : (a b : Bool) → false ≡ differ a b → a ≡ b
no_difference true true is = refl
no_difference true false is = cc
no_difference false true is = cc
no_difference false false is = refl

some_differs : (w : ℕ → Bool) (n : ℕ) (xs ys : List AigEdge) → length ys ≡ length xs → Tells w n xs ys → ¬ AreEqual w xs ys → Holds w (variables_from n (length xs))
some_differs w n [] ys long tells not_equal = absurd (not_equal tt)
some_differs w n (x ∷ xs) [] long tells not_equal = absurd (omega (arith, long))
some_differs w n (x ∷ xs) (y ∷ ys) long tells not_equal =
    let rest = λ (is : w n ≡ false). some_differs w (n + 1) xs ys (omega (arith, long)) tells.1 (λ equal. not_equal (no_difference (edge_in w x) (edge_in w y) (sym is ∙ tells.0), equal)) in
    rw (literal_value-lit_to w n true) (by (w n) refl rest)
  where
    by : (b : Bool) → w n ≡ b → (w n ≡ false → IsTrue (is_true_clause w (variables_from (n + 1) (length xs)))) → IsTrue (b || is_true_clause w (variables_from (n + 1) (length xs)))
    by true is rest = refl
    by false is rest = rest is

-- ---- the variables of their clauses

variables_below : (n count top : ℕ) → n + count ≤ top → IsBelow top (variables_from n count)
variables_below n zero top h = tt
variables_below n (suc count) top h = (omega (arith, variable_of-lit_to n true), variables_below (n + 1) count top (omega arith))

differences_below : (low n top : ℕ) (xs ys : List AigEdge) → low ≤ n → n + length xs ≤ top → AreEdgesBelow low xs → AreEdgesBelow low ys → AreBelow top (difference_clauses n xs ys)
differences_below low n top [] ys h l p q = tt
differences_below low n top (x ∷ xs) [] h l p q = tt
differences_below low n top (x ∷ xs) (y ∷ ys) h l p q =
    let here = p.0 in
    let there = q.0 in
    let free : variable_of (lit_to n false) < top = omega (arith, variable_of-lit_to n false) in (
      (free, (omega (arith, variable_of-lit_to x.node_id (not x.compl)), (omega (arith, variable_of-lit_to y.node_id (not y.compl)), tt))),
      (
        (free, (omega (arith, variable_of-lit_to x.node_id (not (not x.compl))), (omega (arith, variable_of-lit_to y.node_id (not (not y.compl))), tt))),
        differences_below low (n + 1) top xs ys (omega arith) (omega arith) p.1 q.1,
      ),
    )

pub pair_below : (low n top : ℕ) (xs ys : List AigEdge) → low ≤ n → n + length xs ≤ top → AreEdgesBelow low xs → AreEdgesBelow low ys → AreBelow top (pair_clauses n xs ys)
pair_below low n top xs ys h l p q = (rec_append (IsBelow top) (difference_clauses n xs ys) (variables_from n (length xs) ∷ [])).1 (differences_below low n top xs ys h l p q, (variables_below n (length xs) top l, tt))

-- the values for one pair
equal_alike : (low : ℕ) (v w : ℕ → Bool) → Agree low v w → (xs ys : List AigEdge) → AreEdgesBelow low xs → AreEdgesBelow low ys → AreEqual w xs ys → AreEqual v xs ys
equal_alike low v w agree [] ys p q equal = tt
equal_alike low v w agree (x ∷ xs) [] p q equal = tt
equal_alike low v w agree (x ∷ xs) (y ∷ ys) p q equal =
    (sym (edge_alike low v w agree x p.0) ∙ equal.0 ∙ edge_alike low v w agree y q.0, equal_alike low v w agree xs ys p.1 q.1 equal.1)

extends_pair : (low n : ℕ) → low ≤ n → (v : ℕ → Bool) (xs ys : List AigEdge) → length ys ≡ length xs → AreEdgesBelow low xs → AreEdgesBelow low ys → ¬ AreEqual v xs ys → Extends v n (pair_clauses n xs ys)
extends_pair low n h v xs ys long p q differ_there =
    let told = telling low n h v xs ys p q in
    let agree : Agree low v told.0 = λ m less. told.1 m (omega arith) in
    record {
      values = told.0;
      agree = told.1;
      hold = (rec_append (Holds told.0) (difference_clauses n xs ys) (variables_from n (length xs) ∷ [])).1
          (differences_hold told.0 n xs ys told.2, (some_differs told.0 n xs ys long told.2 (λ equal. differ_there (equal_alike low v told.0 agree xs ys p q equal)), tt));
    }

-- ---- all pairs

module _ (low l steps : ℕ) (edges : List AigEdge) (states : (t : ℕ) → t < steps → (length (state_at l edges t) ≡ l) × AreEdgesBelow low (state_at l edges t)) where
  apart_below : (n t s top : ℕ) → low ≤ n → t < steps → s ≤ t → n + s * l ≤ top → AreBelow top (apart_clauses n l edges t s)
  apart_below n t zero top h there less room = tt
  apart_below n t (suc s) top h there less room =
      let first = states s (omega arith) in
      let second = states t there in
      let long = first.0 in
      let more : (s + 1) * l ≡ s * l + l = omega (arith, add-mul s 1 l) in
      (rec_append (IsBelow top) (apart_clauses n l edges t s) (pair_clauses (n + s * l) (state_at l edges s) (state_at l edges t))).1
      (apart_below n t s top h there (omega arith) (omega (arith, more)), pair_below low (n + s * l) top (state_at l edges s) (state_at l edges t) (omega arith) (omega (arith, more, long)) first.1 second.1)

  pairwise_below : (n t top : ℕ) → low ≤ n → t ≤ steps → n + count_pairs t * l ≤ top → AreBelow top (pairwise_clauses n l edges t)
  pairwise_below n zero top h there room = tt
  pairwise_below n (suc t) top h there room =
      let more : (count_pairs t + t) * l ≡ count_pairs t * l + t * l = add-mul (count_pairs t) t l in
      (rec_append (IsBelow top) (pairwise_clauses n l edges t) (apart_clauses (n + count_pairs t * l) l edges t t)).1
      (pairwise_below n t top h (omega arith) (omega (arith, more)), apart_below (n + count_pairs t * l) t t top (omega arith) (omega arith) (omega arith) (omega (arith, more)))

  module _ (v : ℕ → Bool) (differ_there : (s t : ℕ) → s < t → t < steps → ¬ AreEqual v (state_at l edges s) (state_at l edges t)) where
    -- under an assignment that agrees with v on the edges
    still : (w : ℕ → Bool) → Agree low v w → (s t : ℕ) → s < t → t < steps → ¬ AreEqual w (state_at l edges s) (state_at l edges t)
    still w agree s t less there equal =
        let first = states s (omega arith) in
        let second = states t there in
        differ_there s t less there (equal_alike low v w agree (state_at l edges s) (state_at l edges t) first.1 second.1 equal)

    apart_extends : (w : ℕ → Bool) → Agree low v w → (n t s : ℕ) → low ≤ n → t < steps → s ≤ t → Extends w n (apart_clauses n l edges t s)
    apart_extends w agree n t zero h there less = record { values = w; agree = λ m low. refl; hold = tt }
    apart_extends w agree n t (suc s) h there less =
        let first = states s (omega arith) in
        let second = states t there in
        let before = apart_extends w agree n t s h there (omega arith) in
        let now : Agree low v before.values = λ m less. before.agree m (omega arith) ∙ agree m less in
        let long = first.0 in
        let also = second.0 in
        extends_both w n (n + s * l) (apart_clauses n l edges t s) (pair_clauses (n + s * l) (state_at l edges s) (state_at l edges t)) (omega arith) (apart_below n t s (n + s * l) h there (omega arith) (omega arith)) before
        (extends_pair low (n + s * l) (omega arith) before.values (state_at l edges s) (state_at l edges t) (omega arith) first.1 second.1 (still before.values now s t (omega arith) there))

    pairwise_extends : (n t : ℕ) → low ≤ n → t ≤ steps → Extends v n (pairwise_clauses n l edges t)
    pairwise_extends n zero h there = record { values = v; agree = λ m low. refl; hold = tt }
    pairwise_extends n (suc t) h there =
        let before = pairwise_extends n t h (omega arith) in
        let agree : Agree low v before.values = λ m less. before.agree m (omega arith) in
        let m = n + count_pairs t * l in
        extends_both v n m (pairwise_clauses n l edges t) (apart_clauses m l edges t t) (omega arith) (pairwise_below n t m h (omega arith) (omega arith)) before
        (apart_extends before.values agree m t t (omega arith) (omega arith) (omega arith))

-- ---- all states

module _ (low steps : ℕ) (edges : List AigEdge) where
  -- the states at the steps have l edges that are there
  abbrev AreStates : ℕ → Type 0
  AreStates l = (t : ℕ) → t < steps → (length (state_at l edges t) ≡ l) × AreEdgesBelow low (state_at l edges t)

  pub distinct_below : (l : ℕ) → AreStates l → (n t top : ℕ) → low ≤ n → t ≤ steps → n + count_pairs t * l ≤ top → AreBelow top (distinct_clauses n l edges t)
  distinct_below zero states n t top h there room = (tt, tt)
  distinct_below (suc l) states n t top h there room = pairwise_below low (suc l) steps edges states n t top h there room

  -- without latches no two states differ
  pub distinct_extends : (l : ℕ) → AreStates l → (v : ℕ → Bool) → ((s t : ℕ) → s < t → t < steps → ¬ AreEqual v (state_at l edges s) (state_at l edges t))
      → (n t : ℕ) → low ≤ n → 2 ≤ t → t ≤ steps → Extends v n (distinct_clauses n l edges t)
  distinct_extends zero states v differ_there n t h two there = absurd (differ_there 0 1 (omega arith) (omega arith) tt)
  distinct_extends (suc l) states v differ_there n t h two there = pairwise_extends low (suc l) steps edges states v differ_there n t h there
