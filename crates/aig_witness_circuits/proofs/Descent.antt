-- The steps of a search for a circle.
use Rattle.aig_witness_circuits.proofs.Words.{◌≡◌, ◌≢◌, ℕ, ◌+◌, ◌<◌, ◌⊎◌, Bool, true, false, cond, Option, Some, List, [], ◌∷◌, ◌++◌, length, get_or, set, inl, inr, refl, sym, ap, subst, ◌∙◌, arith, All, AllPairs, All-contains, All-push, Contains, Contains-append_left, Contains-push, Contains-push_cases, all_pairs_push, cases_eq, false≢true, suc, zero, get_or-set_other, get_or-set_same, length-append, length-replicate, length-set, replicate, same_Some, sum_by-set, get_or_push, All-pop, AigEdge, AigNode, IsFanin, kind_at, step, And, kind_at-within, HasCircle, IsAtRest, IsGrounded, IsNew, IsSearch, IsTable, Leads, Opens, Rests, Settles, Turns, closed_count, grounded, work_of}
use Rattle.std.proofs.lemmas.List.{get_or_append_left}
use Rattle.aig_circuit.proofs.Words.{IsMarked}
use Rattle.aig_witness_circuits.specs.declared.circles.Search.{Search}
use Rattle.aig_witness_circuits.specs.declared.circles.Turn.{Turn}
use Rattle.aig_witness_circuits.specs.declared.circles.Turn.TheVariants.{Node, Done, Circle}
use Rattle.aig_witness_circuits.specs.Circles.{IsAt}
use Rattle.aig_witness_circuits.proofs.Walks.{from_itself}

-- ---- pairs of a list with one entry more

module _ {X : Type 0} (R : X → X → Type 0) (xs : List X) (y : X)
    (all : AllPairs R (xs ++ y ∷ [])) where
  pub pairs_front : AllPairs R xs
  pairs_front i j d less within =
      let long : length (xs ++ y ∷ []) ≡ length xs + 1 = length-append xs (y ∷ []) in
      let low = get_or_append_left xs (y ∷ []) d i (omega arith) in
      let high = get_or_append_left xs (y ∷ []) d j within in
      subst (R (get_or xs i d)) high
      (subst (λ x. R x (get_or (xs ++ y ∷ []) j d)) low (all i j d less (omega arith)))

  pub pairs_last : All (λ x. R x y) xs
  pairs_last i d within =
      let long : length (xs ++ y ∷ []) ≡ length xs + 1 = length-append xs (y ∷ []) in
      let low = get_or_append_left xs (y ∷ []) d i within in
      let last = get_or_push xs y d (length xs) refl in
      subst (R (get_or xs i d)) last
      (subst (λ x. R x (get_or (xs ++ y ∷ []) (length xs) d)) low
      (all i (length xs) d within (omega arith)))

-- ---- marks

pub marked_here : (marks : List Bool) (n : ℕ) → n < length marks → IsMarked (set marks n true) n
marked_here marks n low = get_or-set_same marks n true false low

pub marked_still : (marks : List Bool) (n m : ℕ) → n < length marks → IsMarked marks m
    → IsMarked (set marks n true) m
marked_still marks n m low is = elim (cases_eq m n) [
  | inl same ↦ subst (IsMarked (set marks n true)) (sym same) (marked_here marks n low)
  | inr differs ↦ get_or-set_other marks n m true false differs ∙ is
]

marked_before : (marks : List Bool) (n m : ℕ) → m ≢ n → IsMarked (set marks n true) m
    → IsMarked marks m
marked_before marks n m differs is = sym (get_or-set_other marks n m true false differs) ∙ is

-- ---- what is left to do

pub opening_is_work : (s t : Search) (n m : ℕ) → m < length s.opened.items
    → get_or s.opened.items m false ≡ false → t.opened.items ≡ set s.opened.items m true
    → t.path.items ≡ s.path.items ++ n ∷ [] → work_of t < work_of s
opening_is_work s t n m low closed opened path =
    let f : Bool → ℕ = λ marked. cond marked 0 1 in
    let one : f (get_or s.opened.items m false) ≡ 1 = ap f closed in
    let less = sum_by-set f s.opened.items m true false low in
    let long : length t.path.items ≡ length s.path.items + 1 =
    ap length path ∙ length-append s.path.items (n ∷ []) in
    let count = ap closed_count opened in
    omega (arith, less, one, long, count)

pub closing_is_work : (s t : Search) (n : ℕ) → t.opened.items ≡ s.opened.items
    → s.path.items ≡ t.path.items ++ n ∷ [] → work_of t < work_of s
closing_is_work s t n opened path =
    let long : length s.path.items ≡ length t.path.items + 1 =
    ap length path ∙ length-append t.path.items (n ∷ []) in
    let count = ap closed_count opened in
    omega (arith, long, count)

module _ (nodes : List AigNode) (resets : List (Option AigEdge)) where
  abbrev Step : ℕ → ℕ → Type 0
  Step = Rests nodes resets

  -- ---- the start

  pub at_rest : (s : Search) → IsNew (length nodes) s → IsAtRest nodes resets s
  at_rest s new = record {
    search = record {
      settled = ap length new.settled ∙ length-replicate (length nodes) false;
      opened = ap length new.opened ∙ length-replicate (length nodes) false;
      right = λ n is. absurd (none s.settled.items n new.settled is);
    };
    path = new.path;
    opened = λ n is. absurd (none s.opened.items n new.opened is);
  }
    where
      none_of : (count n : ℕ) → ¬ IsMarked (replicate count false) n
      none_of zero n is = false≢true is
      none_of (suc count) zero is = false≢true is
      none_of (suc count) (suc n) is = none_of count n is

      none : (marks : List Bool) (n : ℕ) → marks ≡ replicate (length nodes) false
          → ¬ IsMarked marks n
      none marks n same is =
          none_of (length nodes) n (subst (λ (ms : List Bool). IsMarked ms n) same is)

  pub at_start : (s t : Search) (n : ℕ) → IsAtRest nodes resets s → n < length nodes
      → t.settled.items ≡ s.settled.items → t.opened.items ≡ set s.opened.items n true
      → t.path.items ≡ s.path.items → IsAt nodes resets t n
  at_start s t n rest low settled opened path = record {
    search = record {
      settled = ap length settled ∙ rest.search.settled;
      opened = ap length opened ∙ length-set s.opened.items n true ∙ rest.search.opened;
      right = λ m is.
          rest.search.right m (subst (λ (ms : List Bool). IsMarked ms m) settled is);
    };
    within = low;
    all_within = subst (All (λ m. m < length nodes)) (sym none) (nothing (λ m. m < length nodes));
    waits = subst (AllPairs (Leads nodes resets)) (sym none)
        (λ i j d less within. absurd (omega (arith, within)));
    leads = subst (All (λ m. Leads nodes resets m n)) (sym none)
        (nothing (λ m. Leads nodes resets m n));
    opened = λ m is. by_case m (cases_eq m n)
        (subst (λ (ms : List Bool). IsMarked ms m) opened is);
  }
    where
      none : t.path.items ≡ []
      none = path ∙ rest.path

      nothing : (P : ℕ → Type 0) → All P []
      nothing P i d within = absurd (omega (arith, within))

      by_case : (m : ℕ) → (m ≡ n) ⊎ (m ≢ n) → IsMarked (set s.opened.items n true) m
          → IsMarked t.settled.items m ⊎ (Contains t.path.items m ⊎ (m ≡ n))
      by_case m (inl same) is = inr (inr same)
      by_case m (inr differs) is =
          inl
          (subst (λ (ms : List Bool). IsMarked ms m) (sym settled)
          (rest.opened m (marked_before s.opened.items n m differs is)))

  -- ---- a node on which this one rests

  module _ (s : Search) (n m : ℕ) (at : IsAt nodes resets s n) (one : Step n m) where
    pub at_next : (t : Search) → m < length nodes → t.settled.items ≡ s.settled.items
        → t.opened.items ≡ set s.opened.items m true → t.path.items ≡ s.path.items ++ n ∷ []
        → IsAt nodes resets t m
    at_next t low settled opened path = record {
      search = record {
        settled = ap length settled ∙ at.search.settled;
        opened = ap length opened ∙ length-set s.opened.items m true ∙ at.search.opened;
        right = λ k is.
            at.search.right k (subst (λ (ms : List Bool). IsMarked ms k) settled is);
      };
      within = low;
      all_within = subst (All (λ k. k < length nodes)) (sym path)
          (All-push (λ k. k < length nodes) s.path.items n at.all_within at.within);
      waits = subst (AllPairs (Leads nodes resets)) (sym path)
          (all_pairs_push (Leads nodes resets) s.path.items n at.waits at.leads);
      leads = subst (All (λ k. Leads nodes resets k m)) (sym path)
          (All-push (λ k. Leads nodes resets k m) s.path.items n
          (λ i d within. step (at.leads i d within) one)
          (step (from_itself Step n) one));
      opened = λ k is. by_case k (cases_eq k m)
          (subst (λ (ms : List Bool). IsMarked ms k) opened is);
    }
      where
        waiting : (k : ℕ) → Contains s.path.items k ⊎ (k ≡ n) → Contains t.path.items k
        waiting k there = subst (λ (ks : List ℕ). Contains ks k) (sym path) (elim there [
          | inl before ↦ Contains-append_left s.path.items (n ∷ []) k before
          | inr same ↦
              subst (Contains (s.path.items ++ n ∷ [])) (sym same) (Contains-push s.path.items n)
        ])

        by_case : (k : ℕ) → (k ≡ m) ⊎ (k ≢ m) → IsMarked (set s.opened.items m true) k
            → IsMarked t.settled.items k ⊎ (Contains t.path.items k ⊎ (k ≡ m))
        by_case k (inl same) is = inr (inr same)
        by_case k (inr differs) is =
            elim (at.opened k (marked_before s.opened.items m k differs is)) [
              | inl done ↦ inl (subst (λ (ms : List Bool). IsMarked ms k) (sym settled) done)
              | inr there ↦ inr (inl (waiting k there))
            ]

    -- if it was opened and isn't settled, it rests on this one
    pub circle_closed : IsMarked s.opened.items m → get_or s.settled.items m false ≡ false
        → HasCircle nodes resets
    circle_closed opened unsettled = elim (at.opened m opened) [
      | inl done ↦ absurd (false≢true (sym unsettled ∙ done))
      | inr there ↦ (
        n,
        m,
        one,
        elim there [
          | inl waits ↦
              All-contains (λ k. Leads nodes resets k n) s.path.items m at.leads waits
          | inr same ↦ subst (λ (k : ℕ). Leads nodes resets k n) (sym same) (from_itself Step n)
        ],
      )
    ]

  -- ---- a node that is settled

  module _ (s t : Search) (n : ℕ) (at : IsAt nodes resets s n)
      (all : (m : ℕ) → Step n m → IsMarked s.settled.items m)
      (settled : t.settled.items ≡ set s.settled.items n true)
      (opened : t.opened.items ≡ s.opened.items) where
    low : n < length s.settled.items
    low = let count = at.search.settled in let within = at.within in omega arith

    settled_still : (m : ℕ) → IsMarked s.settled.items m → IsMarked t.settled.items m
    settled_still m is =
        subst (λ (ms : List Bool). IsMarked ms m) (sym settled)
        (marked_still s.settled.items n m low is)

    settled_here : IsMarked t.settled.items n
    settled_here =
        subst (λ (ms : List Bool). IsMarked ms n) (sym settled) (marked_here s.settled.items n low)

    search_still : IsSearch nodes resets t
    search_still = record {
      settled = ap length settled ∙ length-set s.settled.items n true ∙ at.search.settled;
      opened = ap length opened ∙ at.search.opened;
      right = λ m is. by_case m (cases_eq m n)
          (subst (λ (ms : List Bool). IsMarked ms m) settled is);
    }
      where
        by_case : (m : ℕ) → (m ≡ n) ⊎ (m ≢ n) → IsMarked (set s.settled.items n true) m
            → IsGrounded Step m
        by_case m (inl same) is =
            subst (IsGrounded Step) (sym same)
            (grounded (λ k one. at.search.right k (all k one)))
        by_case m (inr differs) is =
            at.search.right m (marked_before s.settled.items n m differs is)

    open_still : (m : ℕ) → IsMarked t.opened.items m
        → IsMarked t.settled.items m ⊎ Contains s.path.items m
    open_still m is =
        elim (at.opened m (subst (λ (ms : List Bool). IsMarked ms m) opened is)) [
          | inl done ↦ inl (settled_still m done)
          | inr there ↦ elim there [
            | inl waits ↦ inr waits
            | inr same ↦ inl (subst (IsMarked t.settled.items) (sym same) settled_here)
          ]
        ]

    -- the search goes on at the node that waits
    pub at_waiting : (w : ℕ) → s.path.items ≡ t.path.items ++ w ∷ [] → IsAt nodes resets t w
    at_waiting w popped =
        let below = All-pop (λ k. k < length nodes) s.path.items t.path.items (Some w) popped
        at.all_within in
        let pairs = subst (AllPairs (Leads nodes resets)) popped at.waits in
        record {
          search = search_still;
          within = below.1;
          all_within = below.0;
          waits = pairs_front (Leads nodes resets) t.path.items w pairs;
          leads = pairs_last (Leads nodes resets) t.path.items w pairs;
          opened = λ m is. elim (open_still m is) [
            | inl done ↦ inl done
            | inr there ↦
                elim
                (Contains-push_cases t.path.items w m
                (subst (λ (ks : List ℕ). Contains ks m) popped there)) [
                  | inl before ↦ inr (inl before)
                  | inr same ↦ inr (inr (sym same))
                ]
          ];
        }

    -- or rests
    pub rests_then : s.path.items ≡ [] → t.path.items ≡ [] → IsAtRest nodes resets t
    rests_then none still = record {
      search = search_still;
      path = still;
      opened = λ m is. elim (open_still m is) [
        | inl done ↦ done
        | inr there ↦
            (let has = subst (λ (ks : List ℕ). Contains ks m) none there in
            absurd (omega (arith, has.1)))
      ];
    }

  -- ---- one step

  pub opened_next : (s t : Search) (n m : ℕ) (turn : Turn) → IsAt nodes resets s n → Step n m
      → get_or s.settled.items m false ≡ false → m < length nodes → Opens s t n m turn
      → Turns nodes resets s t turn
  opened_next s t n m (Node k) at one unsettled low (same, closed, opened, path, settled) =
      let within : m < length s.opened.items = let count = at.search.opened in omega arith in (
        subst (IsAt nodes resets t) (sym same) (at_next s n m at one t low settled opened path),
        λ j is.
            subst (λ (ms : List Bool). IsMarked ms j) (sym opened)
            (marked_still s.opened.items m j within is),
        opening_is_work s t n m within closed opened path,
      )
  opened_next s t n m Done at one unsettled low opens = absurd opens
  opened_next s t n m Circle at one unsettled low opens =
      circle_closed s n m at one opens unsettled

  pub settled_next : (s t : Search) (n : ℕ) (turn : Turn) → IsAt nodes resets s n
      → ((m : ℕ) → Step n m → IsMarked s.settled.items m) → Settles s t n turn
      → Turns nodes resets s t turn
  settled_next s t n (Node k) at all (settled, opened, path) = (
    at_waiting s t n at all settled opened k path,
    λ j is. subst (λ (ms : List Bool). IsMarked ms j) (sym opened) is,
    closing_is_work s t k opened path,
  )
  settled_next s t n Done at all (settled, opened, none, still) = (
    rests_then s t n at all settled opened none still,
    λ j is. subst (λ (ms : List Bool). IsMarked ms j) (sym opened) is,
  )
  settled_next s t n Circle at all settles = absurd settles

  -- what a node rests on is there
  pub rest_within : IsTable nodes resets → (n m : ℕ) → Step n m → m < length nodes
  rest_within table n m (inr (e, has, same)) =
      let low = table.there n e has in omega (arith, same)
  rest_within table n m (inl (a, b, kind, inl same)) =
      let below = table.sound.ordered.first_before n a b kind in
      let within = kind_at-within nodes n (And a b) kind in
      omega arith
  rest_within table n m (inl (a, b, kind, inr same)) =
      let below = table.sound.ordered.second_before n a b kind in
      let within = kind_at-within nodes n (And a b) kind in
      omega arith

-- where both operands of a gate are settled, all are
pub operands_settled : (nodes : List AigNode) (settled : List Bool) (n : ℕ) (a b : AigEdge)
    → kind_at nodes n ≡ Some (And a b) → IsMarked settled a.node_id → IsMarked settled b.node_id
    → (m : ℕ) → IsFanin nodes n m → IsMarked settled m
operands_settled nodes settled n a b gate first second m (x, y, kind, inl same) =
    let one = same_Some _ _ (sym kind ∙ gate) in
    let at : m ≡ a.node_id = cc in
    subst (IsMarked settled) (sym at) first
operands_settled nodes settled n a b gate first second m (x, y, kind, inr same) =
    let one = same_Some _ _ (sym kind ∙ gate) in
    let at : m ≡ b.node_id = cc in
    subst (IsMarked settled) (sym at) second
