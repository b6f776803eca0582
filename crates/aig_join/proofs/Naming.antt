-- Names of the second circuit's nodes among those of the first.
use Rattle.std.proofs.Common.{◌≡◌, ◌≢◌, ℕ, zero, suc, ◌+◌, ◌<◌, Bool, true, false, cond, Option, Some, None, List, [], ◌∷◌, ◌++◌, ◌||◌, String, Global, length, get_or, take, nat_cmp, nat_eq, refl, sym, ap, subst, ◌∙◌, arith, IsTrue}
use Rattle.aig_base.proofs.Words.{All, AllPairs, IfSome, is_some, option_map, string_bytes, FinMap, contains_key, get, get-insert, insert, lookup, eqb-true, eq-eqb, false≢true, ne_eqb, nat_cmp_total, take_more, All-head, All-tail, list_any_more}
use Rattle.std.proofs.Math.Bool.{or-false, or-true}
use Rattle.aig_base.proofs.Mapping.{same_test}
use Rattle.aig_circuit.specs.View.{names_of}
use Rattle.aig_circuit.proofs.Names.{get_names, names_insert}
use Rattle.aig_join.specs.Names.{is_called, is_name_of, other_name, other_prefix, with_name, with_names}

-- names of nodes
abbrev pub Names : Type 0
Names = FinMap nat_cmp (List ℕ)

-- another node keeps its name
pub get-with_name_other : (names : Names) (n : ℕ) (o : Option (List ℕ)) (q : ℕ) → n ≢ q
    → get (with_name names n o) q ≡ get names q
get-with_name_other names n (Some name) q apart = get-insert nat_cmp_total names n name q
    ∙ ap (λ b. cond b (Some name) (get names q)) (same_test q n ∙ ne_eqb q n (λ e. apart (sym e)))
get-with_name_other names n None q apart = refl

-- the node has the name
pub get-with_name : (names : Names) (n : ℕ) (o : Option (List ℕ)) → get names n ≡ None
    → get (with_name names n o) n ≡ o
get-with_name names n (Some name) none = get-insert nat_cmp_total names n name n
    ∙ ap (λ b. cond b (Some name) (get names n)) (same_test n n ∙ eq-eqb n n refl)
get-with_name names n None none = none

module _ (taken : List ℕ → Bool) (theirs : Names) where
  -- one node more
  pub with_names-push : (number : ℕ → ℕ) (names : Names) (ns : List ℕ) (n : ℕ)
      → with_names number taken theirs names (ns ++ n ∷ [])
      ≡ with_name (with_names number taken theirs names ns) (number n)
      (other_name taken (get theirs n))
  with_names-push number names [] n = refl
  with_names-push number names (m ∷ ms) n = with_names-push number
      (with_name names (number m) (other_name taken (get theirs m))) ms n

  -- numbers that agree give the same names
  pub with_names-agree : (f g : ℕ → ℕ) (names : Names) (ns : List ℕ) → All (λ n. f n ≡ g n) ns
      → with_names f taken theirs names ns ≡ with_names g taken theirs names ns
  with_names-agree f g names [] all = refl
  with_names-agree f g names (n ∷ ns) all =
      ap (λ m. with_names f taken theirs (with_name names m (other_name taken (get theirs n))) ns)
      (All-head (λ n. f n ≡ g n) n ns all)
      ∙ with_names-agree f g (with_name names (g n) (other_name taken (get theirs n))) ns
      (All-tail (λ n. f n ≡ g n) n ns all)

  -- nodes that aren't among them keep their names
  pub get-with_names_other : (number : ℕ → ℕ) (names : Names) (ns : List ℕ) (q : ℕ)
      → All (λ n. number n ≢ q) ns → get (with_names number taken theirs names ns) q ≡ get names q
  get-with_names_other number names [] q all = refl
  get-with_names_other number names (n ∷ ns) q all =
      let o = other_name taken (get theirs n) in
      get-with_names_other number (with_name names (number n) o) ns q
      (All-tail (λ n. number n ≢ q) n ns all)
      ∙ get-with_name_other names (number n) o q (All-head (λ n. number n ≢ q) n ns all)

  -- and those among them have theirs
  pub get-with_names : (number : ℕ → ℕ) (names : Names) (ns : List ℕ)
      → AllPairs (λ m n. number m ≢ number n) ns → All (λ n. get names (number n) ≡ None) ns
      → All (λ n. get (with_names number taken theirs names ns) (number n)
      ≡ other_name taken (get theirs n)) ns
  get-with_names number names [] apart none k d h = absurd (omega arith)
  get-with_names number names (n ∷ ns) apart none zero d h =
      let o = other_name taken (get theirs n) in
      get-with_names_other number (with_name names (number n) o) ns (number n)
      (λ k d h e. apart 0 (suc k) d (omega arith) (omega arith) (sym e))
      ∙ get-with_name names (number n) o
      (All-head (λ n. get names (number n) ≡ None) n ns none)
  get-with_names number names (n ∷ ns) apart none (suc k) d h =
      let o = other_name taken (get theirs n) in
      get-with_names number (with_name names (number n) o) ns
      (λ i j e l r. apart (suc i) (suc j) e (omega arith) (omega arith))
      (λ i e l.
      get-with_name_other names (number n) o (number (get_or ns i e))
      (apart 0 (suc i) e (omega arith) (omega arith))
      ∙ All-tail (λ n. get names (number n) ≡ None) n ns none i e l)
      k d (omega arith)

-- what holds of a name behind the prefix holds of the name that a node gets
pub other_name-has : (P : List ℕ → Type 0) (taken : List ℕ → Bool) (o : Option (List ℕ))
    → IfSome o (λ name. P (other_prefix ++ name)) → IfSome (other_name taken o) P
other_name-has P taken None h = tt
other_name-has P taken (Some name) h = by_test (taken (other_prefix ++ name))
  where
    by_test : (b : Bool) → IfSome (cond b None (Some (other_prefix ++ name))) P
    by_test true = tt
    by_test false = h

module _ (P : ℕ → List ℕ → Type 0) where
  -- it holds of each node and its name
  abbrev pub AllNames : Names → Type 0
  AllNames names = (n : ℕ) → IfSome (get names n) (P n)

  with_name-has : (names : Names) → AllNames names → (n : ℕ) (o : Option (List ℕ)) → IfSome o (P n)
      → AllNames (with_name names n o)
  with_name-has names all n None h q = all q
  with_name-has names all n (Some name) h q = subst (λ o. IfSome o (P q))
      (sym (get-insert nat_cmp_total names n name q ∙ ap (λ b. cond b (Some name) (get names q))
      (same_test q n))) (by_test (nat_eq q n) refl)
    where
      by_test : (b : Bool) → nat_eq q n ≡ b → IfSome (cond b (Some name) (get names q)) (P q)
      by_test true same = subst (λ m. P m name) (sym (eqb-true q n same)) h
      by_test false same = all q

  -- what holds of the names and of those that are added holds of all
  pub with_names-have : (number : ℕ → ℕ) (taken : List ℕ → Bool) (theirs names : Names)
      (ns : List ℕ) → AllNames names
      → All (λ n. IfSome (get theirs n) (λ name. P (number n) (other_prefix ++ name))) ns
      → AllNames (with_names number taken theirs names ns)
  with_names-have number taken theirs names [] all more = all
  with_names-have number taken theirs names (n ∷ ns) all more =
      let Has : ℕ → Type 0 = λ n. IfSome (get theirs n)
      (λ name. P (number n) (other_prefix ++ name)) in
      with_names-have number taken theirs
      (with_name names (number n) (other_name taken (get theirs n))) ns
      (with_name-has names all (number n) (other_name taken (get theirs n))
      (other_name-has (P (number n)) taken (get theirs n) (All-head Has n ns more)))
      (All-tail Has n ns more)

-- what holds of each number with a name, said of the names
pub names-within : (S : ℕ → Type 0) (names : Names)
    → ((n : ℕ) → IsTrue (contains_key names n) → S n) → AllNames (λ n name. S n) names
names-within S names named n = by_name (get names n) (named n)
  where
    by_name : (o : Option (List ℕ)) → (IsTrue (is_some o) → S n) → IfSome o (λ name. S n)
    by_name (Some name) there = there refl
    by_name None there = tt

pub within-names : (S : ℕ → Type 0) (names : Names) → AllNames (λ n name. S n) names → (n : ℕ)
    → IsTrue (contains_key names n) → S n
within-names S names all n = by_name (get names n) (all n)
  where
    by_name : (o : Option (List ℕ)) → IfSome o (λ name. S n) → IsTrue (is_some o) → S n
    by_name (Some name) h has = h
    by_name None h has = absurd (false≢true has)

-- what holds whatever the name is
pub any-name : (P : Type 0) (o : Option (List ℕ)) → P → IfSome o (λ name. P)
any-name P (Some name) p = p
any-name P None p = tt

-- a node that can't have a name has none
pub unnamed : (names : Names) (n : ℕ) → (IsTrue (contains_key names n) → ⊥) → get names n ≡ None
unnamed names n never = by_name (get names n) never
  where
    by_name : (o : Option (List ℕ)) → (IsTrue (is_some o) → ⊥) → o ≡ None
    by_name (Some name) never = absurd (never refl)
    by_name None never = refl

-- ---- the loops

-- one name more among those that are taken
pub called-more : (es : List (ℕ × String Global)) (nodes : List ℕ) (i d : ℕ) → i < length nodes
    → (name : Option (String Global)) → name ≡ lookup (nat_eq (get_or nodes i d)) es
    → (before after : List ℕ → Bool)
    → ((text : List ℕ) → before text ≡ is_name_of (names_of es) (take i nodes) text)
    → ((text : List ℕ) → after text
    ≡ (before text || is_called text (option_map string_bytes name))) → (text : List ℕ)
    → after text ≡ is_name_of (names_of es) (take (i + 1) nodes) text
called-more es nodes i d h name found before after so_far more text =
    let named : option_map string_bytes name ≡ get (names_of es) (get_or nodes i d) = ap
    (option_map string_bytes) found ∙ sym (get_names es (get_or nodes i d)) in
    more text ∙ ap (λ b. b || is_called text (option_map string_bytes name)) (so_far text)
    ∙ ap (λ o. is_name_of (names_of es) (take i nodes) text || is_called text o) named
    ∙ sym (list_any_more (λ n. is_called text (get (names_of es) n)) nodes i d h)

-- a choice of true is a disjunction
pub cond-or : (b c : Bool) → cond b true c ≡ (c || b)
cond-or true c = sym (or-true c)
cond-or false c = sym (or-false c)

-- one node more that has its name
pub names-more : (es after : List (ℕ × String Global)) (number : ℕ → ℕ) (taken : List ℕ → Bool)
    (theirs start : Names) (nodes : List ℕ) (i d : ℕ) → i < length nodes
    → names_of es ≡ with_names number taken theirs start (take i nodes)
    → (name : Option (String Global))
    → option_map string_bytes name ≡ other_name taken (get theirs (get_or nodes i d))
    → names_of after
    ≡ with_name (names_of es) (number (get_or nodes i d)) (option_map string_bytes name)
    → names_of after ≡ with_names number taken theirs start (take (i + 1) nodes)
names-more es after number taken theirs start nodes i d h so_far name is more =
    let n = get_or nodes i d in
    more ∙ ap (λ names. with_name names (number n) (option_map string_bytes name)) so_far
    ∙ ap (with_name (with_names number taken theirs start (take i nodes)) (number n)) is
    ∙ sym (with_names-push taken theirs number start (take i nodes) n)
    ∙ ap (with_names number taken theirs start) (sym (take_more nodes i d h))

-- a name that was put in
pub with_name-put : (es after : List (ℕ × String Global)) (k n : ℕ) (text : String Global)
    (name : Option (String Global)) → name ≡ Some text → k ≡ n
    → ((q : ℕ) → lookup (nat_eq q) after ≡ cond (nat_eq k q) (Some text) (lookup (nat_eq q) es))
    → names_of after ≡ with_name (names_of es) n (option_map string_bytes name)
with_name-put es after k n text name is same updates = names_insert es after k text updates
    ∙ ap (λ m. insert (names_of es) m (string_bytes text)) same
    ∙ ap (λ o. with_name (names_of es) n (option_map string_bytes o)) (sym is)
