-- The steps of a search for levels.
use Rattle.std.proofs.Common.{◌≡◌, ◌≢◌, ℕ, zero, suc, ◌+◌, ◌<◌, ◌≤◌, Bool, true, false, not, List, [], ◌∷◌, ◌++◌, length, get_or, set, Option, Some, None, refl, sym, ap, subst, ◌∙◌, arith, inl, inr, ◌⊎◌, length-set, get_or-set_other, get_or-set_same}
use Rattle.std.specs.Prelude.{All, Contains, IsSome, MatchOption, filter, option_to_list}
use Rattle.aig_base.proofs.Words.{cases_eq, false≢true, same_Some}
use Rattle.std.proofs.lemmas.List.{append-nil, length_push}
use Rattle.std.proofs.lemmas.List.Elements.{All-nil, All-push, All-pop, Contains-append_cases, Contains-append_left, Contains-push, Contains-push_cases}
use Rattle.aig_circuit.specs.declared.node.AigNode.{AigNode}
use Rattle.aig_circuit.specs.declared.node.AigNodeType.{AigNodeType}
use Rattle.aig_circuit.specs.declared.node.AigNodeType.TheVariants.{False, Leaf, And}
use Rattle.aig_circuit.specs.Node.{IfAnd}
use Rattle.aig_format.proofs.Words.{File, level_of}
use Rattle.aig_format.proofs.Levels.{level_of-le}
use Rattle.aig_ordering.specs.declared.levels.Search.{Search}
use Rattle.aig_ordering.specs.Lists.{kind_among}
use Rattle.aig_ordering.specs.Tables.{AreNodesOf, all_have_levels, level_at, entry_value}
use Rattle.aig_ordering.specs.Search.{Descends, IsAt, IsAtRest, IsAtSome, IsFound, IsLevelBy, IsOperandOf, IsPath, IsSearch, Opens, work_of}
use Rattle.aig_ordering.proofs.Tables.{gate_at, gate_level, leaf_level, operands_below, operands_within, some_level_missing, entry_value-more}

-- ---- paths

path-push : (f : File) (xs : List ℕ) (v u : ℕ) → IsPath f (xs ++ v ∷ []) → Descends f v u → IsPath f ((xs ++ v ∷ []) ++ u ∷ [])
path-push f [] v u path down = (down, tt)
path-push f (x ∷ []) v u path down = (path.0, path-push f [] v u path.1 down)
path-push f (x ∷ y ∷ xs) v u path down = (path.0, path-push f (y ∷ xs) v u path.1 down)

path-front : (f : File) (xs : List ℕ) (v : ℕ) → IsPath f (xs ++ v ∷ []) → IsPath f xs
path-front f [] v path = tt
path-front f (x ∷ []) v path = tt
path-front f (x ∷ y ∷ xs) v path = (path.0, path-front f (y ∷ xs) v path.1)

-- the last variable of a path stands no higher than the first
last_below : (f : File) (x : ℕ) (xs : List ℕ) (v k : ℕ) → IsPath f (x ∷ (xs ++ v ∷ [])) → level_of f x ≡ Some k → (j : ℕ) × (level_of f v ≡ Some j) × (j ≤ k)
last_below f x [] v k path is = let s = path.0 k is in (s.0, s.1, omega (arith, s.2))
last_below f x (y ∷ xs) v k path is =
    let s = path.0 k is in
    let t = last_below f y xs v s.0 path.1 s.1 in
    (t.0, t.1, omega (arith, s.2, t.2))

-- nor higher than any
each_above : (f : File) (xs : List ℕ) (v u k : ℕ) → IsPath f (xs ++ v ∷ []) → Contains (xs ++ v ∷ []) u → level_of f u ≡ Some k → (j : ℕ) × (level_of f v ≡ Some j) × (j ≤ k)
each_above f [] v u k path there is = elim (Contains-push_cases [] v u there) [
  | inl none ↦ absurd (omega (arith, none.1))
  | inr same ↦ (k, ap (level_of f) same ∙ is, omega arith)
]
each_above f (x ∷ xs) v u k path there is = elim (Contains-append_cases (x ∷ []) (xs ++ v ∷ []) u there) [
  | inl first ↦ elim (Contains-push_cases [] x u first) [
    | inl none ↦ absurd (omega (arith, none.1))
    | inr same ↦ last_below f x xs v k path (ap (level_of f) same ∙ is)
  ]
  | inr rest ↦ each_above f xs v u k (tail x xs path) rest is
]
  where
    tail : (x : ℕ) (xs : List ℕ) → IsPath f (x ∷ (xs ++ v ∷ [])) → IsPath f (xs ++ v ∷ [])
    tail x [] path = path.1
    tail x (y ∷ xs) path = path.1

-- ---- what is left to do

closed_fewer : (marks : List Bool) (i : ℕ) → i < length marks → get_or marks i false ≡ false → length (filter not (set marks i true)) + 1 ≡ length (filter not marks)
closed_fewer [] i h is = absurd (omega arith)
closed_fewer (m ∷ marks) zero h is = rw is (omega arith)
closed_fewer (m ∷ marks) (suc i) h is = by_mark m (closed_fewer marks i (omega arith) is)
  where
    by_mark : (m : Bool) → length (filter not (set marks i true)) + 1 ≡ length (filter not marks) → length (filter not (m ∷ set marks i true)) + 1 ≡ length (filter not (m ∷ marks))
    by_mark true rest = rest
    by_mark false rest = omega arith

pub opening_is_work : (s t : Search) (v u : ℕ) → u < length s.opened.items → Opens s t v u → work_of t < work_of s
opening_is_work s t v u h o =
    let fewer = closed_fewer s.opened.items u h o.closed in
    let marks = ap (λ (ms : List Bool). length (filter not ms)) o.opened in
    let path = ap length o.path ∙ length_push s.path.items v in
    omega (arith, fewer, marks, path)

-- ---- steps

-- the search is at a variable of the file
pub at_within : (f : File) (s : Search) (v : ℕ) → IsAt f s v → v < f.greatest + 1
at_within f s v at = (All-pop (λ w. w < f.greatest + 1) (s.path.items ++ v ∷ []) s.path.items (Some v) refl at.within).1

module _ (f : File) (nodes : List AigNode) (are : AreNodesOf f nodes) where
  -- an operand that is opened
  pub at_operand : (s t : Search) (v u : ℕ) → IsAt f s v → Descends f v u → u < f.greatest + 1 → Opens s t v u → IsAt f t u
  at_operand s t v u at down within o =
      let kept = λ (w k : ℕ) (is : level_at t.levels.items w ≡ Some k). at.search.right w k (ap (λ (ls : List ℕ). level_at ls w) (sym o.levels) ∙ is) in
      record {
        search = record {
          levels = ap length o.levels ∙ at.search.levels;
          opened = ap length o.opened ∙ length-set s.opened.items u true ∙ at.search.opened;
          right = kept;
        };
        within = rw o.path (All-push (λ w. w < f.greatest + 1) (s.path.items ++ v ∷ []) u at.within within);
        path = rw o.path (path-push f s.path.items v u at.path down);
        opened = λ w is. rw o.path (by_case w (cases_eq w u) is);
      }
    where
      found : (w : ℕ) → IsFound s w → IsFound t w
      found w has = (has.0, ap (λ (ls : List ℕ). level_at ls w) o.levels ∙ has.1)

      by_case : (w : ℕ) → (w ≡ u) ⊎ (w ≢ u) → get_or t.opened.items w false ≡ true → IsFound t w ⊎ Contains ((s.path.items ++ v ∷ []) ++ u ∷ []) w
      by_case w (inl same) is = inr (rw same (Contains-push (s.path.items ++ v ∷ []) u))
      by_case w (inr differs) is =
          let old : get_or s.opened.items w false ≡ true = sym (get_or-set_other s.opened.items u w true false differs) ∙ ap (λ (ms : List Bool). get_or ms w false) (sym o.opened) ∙ is in
          elim (at.opened w old) [ inl has ↦ inl (found w has) | inr there ↦ inr (Contains-append_left (s.path.items ++ v ∷ []) (u ∷ []) w there) ]

  -- a variable that is open already depends on itself
  pub cycle : (s : Search) (v u : ℕ) → IsAt f s v → Descends f v u → get_or s.opened.items u false ≡ true → level_at s.levels.items u ≡ None → all_have_levels f ≡ false
  cycle s v u at down opened unknown = some_level_missing f u (λ k is. by_case k is (at.opened u opened))
    where
      by_case : (k : ℕ) → level_of f u ≡ Some k → IsFound s u ⊎ Contains (s.path.items ++ v ∷ []) u → ⊥
      by_case k is (inl has) = let none : ◌≡◌ {A = Option ℕ} None (Some has.0) = sym unknown ∙ has.1 in absurd cc
      by_case k is (inr there) =
          let j = each_above f s.path.items v u k at.path there is in
          let below = down j.0 j.1 in
          let same : below.0 ≡ k = same_Some _ _ (sym below.1 ∙ is) in
          omega (arith, j.2, below.2, same)

  -- ---- a variable whose level is found

  module _ (s t : Search) (v k : ℕ) (at : IsAt f s v) (known : t.levels.items ≡ set s.levels.items v (k + 1)) (same_marks : t.opened.items ≡ s.opened.items) (right : level_of f v ≡ Some k) where
    within_levels : v < length s.levels.items
    within_levels = omega (arith, at.search.levels, at_within f s v at)

    level_here : level_at t.levels.items v ≡ Some k
    level_here = ap (λ (ls : List ℕ). level_at ls v) known ∙ ap entry_value (get_or-set_same s.levels.items v (k + 1) 0 within_levels) ∙ entry_value-more k

    found_here : IsFound t v
    found_here = (k, level_here)

    found_still : (w : ℕ) → IsFound s w → IsFound t w
    found_still w has = by_case (cases_eq w v)
      where
        by_case : (w ≡ v) ⊎ (w ≢ v) → IsFound t w
        by_case (inl same) = rw same found_here
        by_case (inr differs) = (has.0, ap (λ (ls : List ℕ). level_at ls w) known ∙ ap entry_value (get_or-set_other s.levels.items v w (k + 1) 0 differs) ∙ has.1)

    search_still : IsSearch f t
    search_still = record {
      levels = ap length known ∙ length-set s.levels.items v (k + 1) ∙ at.search.levels;
      opened = ap length same_marks ∙ at.search.opened;
      right = λ w j is. by_case w j (cases_eq w v) is;
    }
      where
        by_case : (w j : ℕ) → (w ≡ v) ⊎ (w ≢ v) → level_at t.levels.items w ≡ Some j → level_of f w ≡ Some j
        by_case w j (inl same) is = ap (level_of f) same ∙ right ∙ sym level_here ∙ ap (level_at t.levels.items) (sym same) ∙ is
        by_case w j (inr differs) is = at.search.right w j (ap entry_value (sym (get_or-set_other s.levels.items v w (k + 1) 0 differs)) ∙ ap (λ (ls : List ℕ). level_at ls w) (sym known) ∙ is)

    open_still : (w : ℕ) → get_or t.opened.items w false ≡ true → IsFound t w ⊎ Contains s.path.items w
    open_still w is = elim (at.opened w (ap (λ (ms : List Bool). get_or ms w false) (sym same_marks) ∙ is)) [
      | inl has ↦ inl (found_still w has)
      | inr there ↦ elim (Contains-push_cases s.path.items v w there) [ inl front ↦ inr front | inr same ↦ inl (subst (IsFound t) same found_here) ]
    ]

    -- the search goes on at the variable that waits, or rests
    pub settled : (o : Option ℕ) → s.path.items ≡ t.path.items ++ option_to_list o → (0 < length s.path.items → IsSome o) → IsAtSome f t o
    settled (Some w) popped some = record {
      search = search_still;
      within = subst (All (λ x. x < f.greatest + 1)) popped (All-pop (λ x. x < f.greatest + 1) (s.path.items ++ v ∷ []) s.path.items (Some v) refl at.within).0;
      path = subst (IsPath f) popped (path-front f s.path.items v at.path);
      opened = λ u is. subst (λ xs. IsFound t u ⊎ Contains xs u) popped (open_still u is);
    }
    settled None popped some = record {
      search = search_still;
      path = empty s.path.items (sym (append-nil t.path.items) ∙ sym popped) some;
      opened = λ u is. elim (open_still u is) [ inl has ↦ has | inr there ↦ absurd (false≢true (some (omega (arith, there.1)))) ];
    }
      where
        empty : (xs : List ℕ) → t.path.items ≡ xs → (0 < length xs → IsSome {T = ℕ} None) → t.path.items ≡ []
        empty [] is some = is
        empty (x ∷ xs) is some = absurd (false≢true (some (omega arith)))

  -- ---- what is to be done for a variable

  module _ (v : ℕ) (kind : AigNodeType) (is_kind : kind_among f.gates v ≡ kind) where
    pub kind_within : IfAnd kind (λ n. n < f.greatest + 1)
    kind_within = by_kind kind is_kind
      where
        by_kind : (kind : AigNodeType) → kind_among f.gates v ≡ kind → IfAnd kind (λ n. n < f.greatest + 1)
        by_kind False is = tt
        by_kind Leaf is = tt
        by_kind (And a b) is = operands_within f nodes are v a b (gate_at f v a b is)

    pub operand_below : (u : ℕ) → IsOperandOf kind u → (u < f.greatest + 1) × Descends f v u
    operand_below u is = by_kind kind is_kind is
      where
        by_kind : (kind : AigNodeType) → kind_among f.gates v ≡ kind → IsOperandOf kind u → (u < f.greatest + 1) × Descends f v u
        by_kind False is h = absurd h
        by_kind Leaf is h = absurd h
        by_kind (And a b) is h =
            let at = gate_at f v a b is in
            let within = operands_within f nodes are v a b at in
            let below = operands_below f nodes are v a b at in
            elim h [ inl e ↦ (rw e within.0, rw e below.0) | inr e ↦ (rw e within.1, rw e below.1) ]

    pub level_right : (levels : List ℕ) (k : ℕ) → ((w j : ℕ) → level_at levels w ≡ Some j → level_of f w ≡ Some j) → IsLevelBy levels kind k → level_of f v ≡ Some k
    level_right levels k right is = by_kind kind is_kind is
      where
        by_kind : (kind : AigNodeType) → kind_among f.gates v ≡ kind → IsLevelBy levels kind k → level_of f v ≡ Some k
        by_kind False is h = leaf_level f nodes are v (inl is) ∙ ap Some (sym h)
        by_kind Leaf is h = leaf_level f nodes are v (inr is) ∙ ap Some (sym h)
        by_kind (And a b) is h =
            gate_level f nodes are v a b (gate_at f v a b is) h.0 h.1 (right a.node_id h.0 h.2) (right b.node_id h.1 h.3) ∙ ap Some (sym h.4)

  -- a level is less than the count of variables
  pub level_small : (w k : ℕ) → level_of f w ≡ Some k → k < f.greatest + 1
  level_small w k is = let few = are.few in omega (arith, level_of-le f w k is)

-- ---- a search from a variable on

-- a mark that is set, and all that were
pub marks_stay : (marks : List Bool) (v u : ℕ) → get_or marks u false ≡ true → get_or (set marks v true) u false ≡ true
marks_stay [] v u is = is
marks_stay (m ∷ marks) zero zero is = refl
marks_stay (m ∷ marks) zero (suc u) is = is
marks_stay (m ∷ marks) (suc v) zero is = is
marks_stay (m ∷ marks) (suc v) (suc u) is = marks_stay marks v u is

-- the search begins at a variable
pub at_start : (f : File) (s t : Search) (v : ℕ) → IsAtRest f s → v < f.greatest + 1 → t.levels.items ≡ s.levels.items → t.opened.items ≡ set s.opened.items v true → t.path.items ≡ s.path.items → IsAt f t v
at_start f s t v rest within levels marks path =
    let empty : t.path.items ++ v ∷ [] ≡ v ∷ [] = ap (λ (xs : List ℕ). xs ++ v ∷ []) (path ∙ rest.path) in
    record {
      search = record {
        levels = ap length levels ∙ rest.search.levels;
        opened = ap length marks ∙ length-set s.opened.items v true ∙ rest.search.opened;
        right = λ w k is. rest.search.right w k (ap (λ (ls : List ℕ). level_at ls w) (sym levels) ∙ is);
      };
      within = rw empty (All-push (λ w. w < f.greatest + 1) [] v (All-nil (λ w. w < f.greatest + 1)) within);
      path = rw empty tt;
      opened = λ w is. rw empty (by_case w (cases_eq w v) is);
    }
  where
    by_case : (w : ℕ) → (w ≡ v) ⊎ (w ≢ v) → get_or t.opened.items w false ≡ true → IsFound t w ⊎ Contains (v ∷ []) w
    by_case w (inl same) is = inr (rw same (Contains-push [] v))
    by_case w (inr differs) is =
        let old : get_or s.opened.items w false ≡ true = sym (get_or-set_other s.opened.items v w true false differs) ∙ ap (λ (ms : List Bool). get_or ms w false) (sym marks) ∙ is in
        let has = rest.opened w old in
        inl (has.0, ap (λ (ls : List ℕ). level_at ls w) levels ∙ has.1)

-- with each step there is less to do
pub less_left : (o : Option ℕ) (old new : ℕ) → MatchOption o (new ≤ old) (λ _. new < old) → new + length (option_to_list o) < old + 1
less_left (Some v) old new h = omega arith
less_left None old new h = omega arith
