-- Lists of clauses and variables that grow by one.
use Rattle.aig_answers.proofs.Words.{◌≡◌, ℕ, zero, suc, ◌+◌, ◌<◌, true, false, List, [], ◌∷◌, ◌++◌, length, take, get_or, refl, sym, ap, ◌∙◌, arith, append_assoc, length-append, replicate, length-replicate, replicate-append-replicate, Lit, lit_to, AigEdge, inverse, difference_clauses, pair_clauses, variables_from}
use Rattle.std.proofs.lemmas.List.{take_all}
use Rattle.aig_circuit.specs.Edge.{lit_of}

-- the two clauses of one pair of edges
abbrev pub two_clauses : ℕ → AigEdge → AigEdge → List (List Lit)
two_clauses n x y = (lit_to n false ∷ lit_of x ∷ lit_of y ∷ []) ∷ (lit_to n false ∷ lit_of (inverse x) ∷ lit_of (inverse y) ∷ []) ∷ []

difference_next : (n i : ℕ) (xs ys : List AigEdge) (d e : AigEdge) → i < length xs → i < length ys
    → difference_clauses n (take (suc i) xs) (take (suc i) ys) ≡ difference_clauses n (take i xs) (take i ys) ++ two_clauses (n + i) (get_or xs i d) (get_or ys i e)
difference_next n i [] ys d e low also = absurd (omega arith)
difference_next n i (x ∷ xs) [] d e low also = absurd (omega arith)
difference_next n zero (x ∷ xs) (y ∷ ys) d e low also = let same : n ≡ n + 0 = omega arith in ap (λ m. two_clauses m x y) same
difference_next n (suc i) (x ∷ xs) (y ∷ ys) d e low also =
    let same : n + 1 + i ≡ n + suc i = omega arith in
    ap (λ rest. two_clauses n x y ++ rest) (difference_next (n + 1) i xs ys d e (omega arith) (omega arith)
    ∙ ap (λ m. difference_clauses (n + 1) (take i xs) (take i ys) ++ two_clauses m (get_or xs i d) (get_or ys i e)) same)

pub difference_more : (n i : ℕ) (xs ys : List AigEdge) (d e : AigEdge) → i < length xs → i < length ys
    → difference_clauses n (take (i + 1) xs) (take (i + 1) ys) ≡ difference_clauses n (take i xs) (take i ys) ++ two_clauses (n + i) (get_or xs i d) (get_or ys i e)
difference_more n i xs ys d e low also =
    let next : i + 1 ≡ suc i = omega arith in
    ap (λ m. difference_clauses n (take m xs) (take m ys)) next ∙ difference_next n i xs ys d e low also

variables_next : (n i : ℕ) → variables_from n (suc i) ≡ variables_from n i ++ lit_to (n + i) true ∷ []
variables_next n zero = let same : n ≡ n + 0 = omega arith in ap (λ m. lit_to m true ∷ []) same
variables_next n (suc i) =
    let same : n + 1 + i ≡ n + suc i = omega arith in
    ap (λ rest. lit_to n true ∷ rest) (variables_next (n + 1) i ∙ ap (λ m. variables_from (n + 1) i ++ lit_to m true ∷ []) same)

pub variables_more : (n i : ℕ) → variables_from n (i + 1) ≡ variables_from n i ++ lit_to (n + i) true ∷ []
variables_more n i = let next : i + 1 ≡ suc i = omega arith in ap (variables_from n) next ∙ variables_next n i

-- ---- free variables

abbrev pub free : ℕ → List (List (List Lit))
free n = replicate n []

pub free_more : (old : List (List (List Lit))) (a b : ℕ) → (old ++ free a) ++ free b ≡ old ++ free (a + b)
free_more old a b = rw append_assoc (ap (λ (rest : List (List (List Lit))). old ++ rest) (replicate-append-replicate a b []))

pub free_length : (old : List (List (List Lit))) (n : ℕ) → length (old ++ free n) ≡ length old + n
free_length old n = length-append old (free n) ∙ ap (λ m. length old + m) (length-replicate n [])

-- ---- steps of loops

-- one pair of edges more
pub difference_step : (made old now : List (List Lit)) (n v i : ℕ) (xs ys : List AigEdge) (x y d e : AigEdge) → i < length xs → i < length ys → v ≡ n + i → x ≡ get_or xs i d → y ≡ get_or ys i e
    → now ≡ old ++ difference_clauses n (take i xs) (take i ys) → made ≡ now ++ two_clauses v x y → made ≡ old ++ difference_clauses n (take (i + 1) xs) (take (i + 1) ys)
difference_step made old now n v i xs ys x y d e low also at is_x is_y before step =
    let more = difference_more n i xs ys d e low also in
    let whole : now ++ two_clauses v x y ≡ old ++ (difference_clauses n (take i xs) (take i ys) ++ two_clauses (n + i) (get_or xs i d) (get_or ys i e)) = rw (before, at, is_x, is_y, append_assoc) refl in
    step ∙ whole ∙ ap (λ rest. old ++ rest) (sym more)

-- all pairs of edges, and that some differ
pub pair_done : (made old now : List (List Lit)) (some : List Lit) (n i : ℕ) (xs ys : List AigEdge)
    → i ≡ length xs → length ys ≡ length xs
    → now ≡ old ++ difference_clauses n (take i xs) (take i ys) → some ≡ variables_from n i
    → made ≡ now ++ some ∷ [] → made ≡ old ++ pair_clauses n xs ys
pair_done made old now some n i xs ys end long before variables step =
    let all : take i xs ≡ xs = take_all i xs (omega arith) in
    let also : take i ys ≡ ys = take_all i ys (omega arith) in
    let whole : now ++ some ∷ [] ≡ old ++ pair_clauses n xs ys = rw (before, all, also, variables, end, append_assoc) refl in
    step ∙ whole

-- one variable more
pub variables_step : (made now : List Lit) (n v i : ℕ) → v ≡ n + i → now ≡ variables_from n i → made ≡ now ++ lit_to v true ∷ [] → made ≡ variables_from n (i + 1)
variables_step made now n v i at before step = step ∙ ap (λ list. list ++ lit_to v true ∷ []) before ∙ ap (λ m. variables_from n i ++ lit_to m true ∷ []) at ∙ sym (variables_more n i)

-- more free variables
pub free_step : (made old now : List (List (List Lit))) (a b : ℕ) → now ≡ old ++ free a → made ≡ now ++ free b → made ≡ old ++ free (a + b)
free_step made old now a b before step = step ∙ ap (λ list. list ++ free b) before ∙ free_more old a b

-- more clauses
pub more_step : (made old now part more : List (List Lit)) → now ≡ old ++ part → made ≡ now ++ more → made ≡ old ++ (part ++ more)
more_step made old now part more before step = step ∙ ap (λ list. list ++ more) before ∙ append_assoc_of old part more
  where
    append_assoc_of : (a b c : List (List Lit)) → (a ++ b) ++ c ≡ a ++ (b ++ c)
    append_assoc_of a b c = rw append_assoc refl
