-- What a name says, and pairs by order.
use Rattle.aig_witness_circuits.proofs.Words.{◌≡◌, ◌≢◌, ℕ, zero, suc, ◌+◌, ◌*◌, ◌<◌, ◌≤◌, Bool, Option, Some, None, List, [], ◌∷◌, ◌++◌, length, get_or, refl, sym, ap, subst, ◌∙◌, arith, MatchOption, same_Some, zip, add-one, Bor, get, IsAt, IsMapping, IsFor, IsLiteralOf, IsNamed, Names, sharing_prefix}
use Rattle.aig_base.proofs.Words.{take}

-- what follows both bytes of the prefix
pub both_bytes : (name rest : List ℕ) (r : Option (Bor (List ℕ))) → name ≡ 61 ∷ rest
    → MatchOption r ((more : List ℕ) → rest ≢ 32 ∷ more) (λ x. rest ≡ 32 ∷ x.now)
    → MatchOption r ((more : List ℕ) → name ≢ sharing_prefix ++ more)
    (λ x. name ≡ sharing_prefix ++ x.now)
both_bytes name rest (Some x) first then = first ∙ ap (λ l. 61 ∷ l) then
both_bytes name rest None first none = λ more is. none more (same_rest (sym first ∙ is))
  where
    same_rest : {more : List ℕ} → 61 ∷ rest ≡ 61 ∷ 32 ∷ more → rest ≡ 32 ∷ more
    same_rest e = cc

-- digits are those of the literal of one node
pub one_leaf : (node : ℕ → Option ℕ) (m k : ℕ) (digits : List ℕ) → IsLiteralOf node m digits
    → IsLiteralOf node k digits → m ≡ k
one_leaf node m k digits one other =
    let twice : 2 * one.0 ≡ 2 * other.0 = sym one.1.value ∙ other.1.value in
    let same : one.0 ≡ other.0 = omega arith in
    same_Some m k (sym one.2 ∙ ap node same ∙ other.2)

-- what is said of a text is said of the node whose name it is
pub said : (of : ℕ → Option ℕ) (names : Names) (n : ℕ) (text : List ℕ) (marks : List Bool)
    (node : Option ℕ)
    → get names n ≡ Some text
    → MatchOption node (¬ IsMapping text) (λ m. IsAt marks m × IsFor of m text)
    → MatchOption node (¬ IsNamed IsMapping names n)
    (λ m. IsAt marks m × IsNamed (IsFor of m) names n)
said of names n text marks None known none = λ named.
    none (subst IsMapping (same_Some _ _ (sym named.1 ∙ known)) named.2)
said of names n text marks (Some m) known is = (is.0, (text, known, is.1))

-- ---- pairs by order

pub zip_short : (n : ℕ) (xs ys : List ℕ) → length ys ≤ n → zip (take n xs) (take n ys) ≡ zip xs ys
zip_short zero [] [] h = refl
zip_short zero (x ∷ xs) [] h = refl
zip_short zero xs (y ∷ ys) h = absurd (omega (arith, h))
zip_short (suc n) [] ys h = refl
zip_short (suc n) (x ∷ xs) [] h = refl
zip_short (suc n) (x ∷ xs) (y ∷ ys) h =
    ap (λ l. (x, y) ∷ l) (zip_short n xs ys (omega (arith, h)))

pub zip_long : (n : ℕ) (xs ys : List ℕ) → length xs ≤ n → zip (take n xs) (take n ys) ≡ zip xs ys
zip_long zero [] ys h = refl
zip_long zero (x ∷ xs) ys h = absurd (omega (arith, h))
zip_long (suc n) [] ys h = refl
zip_long (suc n) (x ∷ xs) [] h = refl
zip_long (suc n) (x ∷ xs) (y ∷ ys) h =
    ap (λ l. (x, y) ∷ l) (zip_long n xs ys (omega (arith, h)))

zip_suc : (i : ℕ) (xs ys : List ℕ) (d e : ℕ) → i < length xs → i < length ys
    → zip (take (suc i) xs) (take (suc i) ys)
    ≡ zip (take i xs) (take i ys) ++ (get_or xs i d, get_or ys i e) ∷ []
zip_suc i [] ys d e h l = absurd (omega (arith, h))
zip_suc i (x ∷ xs) [] d e h l = absurd (omega (arith, l))
zip_suc zero (x ∷ xs) (y ∷ ys) d e h l = refl
zip_suc (suc i) (x ∷ xs) (y ∷ ys) d e h l =
    ap (λ l. (x, y) ∷ l) (zip_suc i xs ys d e (omega (arith, h)) (omega (arith, l)))

-- one pair more
pub zip_more : (i : ℕ) (xs ys : List ℕ) (d e : ℕ) → i < length xs → i < length ys
    → zip (take (i + 1) xs) (take (i + 1) ys)
    ≡ zip (take i xs) (take i ys) ++ (get_or xs i d, get_or ys i e) ∷ []
zip_more i xs ys d e h l =
    ap (λ n. zip (take n xs) (take n ys)) (add-one i) ∙ zip_suc i xs ys d e h l

-- ---- lists that are the same

pub carry4 : {A B C D : Type 0} (P : A → B → C → D → Type 0) (a a' : A) (b b' : B) (c c' : C)
    (d d' : D) → a ≡ a' → b ≡ b' → c ≡ c' → d ≡ d' → P a b c d → P a' b' c' d'
carry4 P a a' b b' c c' d d' e f g h p =
    subst (P a' b' c') h
    (subst (λ z. P a' b' z d) g (subst (λ y. P a' y c d) f (subst (λ x. P x b c d) e p)))

pub none_left : {X : Type 0} (xs : List X) → length xs ≡ 0 → xs ≡ []
none_left [] h = refl
none_left (x ∷ xs) h = absurd (omega (arith, h))

pub carry3 : {A B C : Type 0} (P : A → B → C → Type 0) (a a' : A) (b b' : B) (c c' : C) → a ≡ a'
    → b ≡ b' → c ≡ c' → P a b c → P a' b' c'
carry3 P a a' b b' c c' e f g p =
    subst (P a' b') g (subst (λ y. P a' y c) f (subst (λ x. P x b c) e p))
