-- What is made of claims has the values that they say.
use Rattle.aig_witness_circuits.proofs.Words.{AddsGates-with_node, AigEdge, AigNode, All, All-head, All-nil, All-push, All-tail, All-weaker, AreNodes, Bool, Claim, Edge, Equal, False, GivesEdge, GivesEdge-AddsGate, GivesEdge-Folds, GivesEdge-both_or_neither, GivesEdge-inverse, GivesEdge-same, Grows, Grows-itself, Grows-then, IfSome, IsClaimIn, IsInRange, List, Listed, Made, None, Option, Some, [], and-true, and_assoc, and_of, ap, append-nil, append_assoc, ap₂, arith, beq, cond, edge_to, edge_value, edge_value-inverse, eqb-true, false, folded, inverse, kind_at-within, length, list_all, list_all-agrees, list_all-append, listed_in, literals-same, made_by, made_in, make_all, make_and, make_ands, make_claim, make_equal, make_refuting, node_value-false, not, refl, subst, sym, true, with_claims, with_made, with_node, ℕ, ◌&&◌, ◌++◌, ◌==◌, ◌||◌, ◌∙◌, ◌∷◌, ◌≡◌}
use Rattle.aig_circuit.specs.Build.{Folds}
use Rattle.aig_circuit.specs.Build.Folds.{true_first, true_second, false_first, false_second, same, opposite}
use Rattle.aig_circuit.specs.Edge.{literal_of}

-- the value of the claim
abbrev pub claim_value : List AigNode → (ℕ → Bool) → Claim → Bool
claim_value nodes z (Edge e) = edge_value nodes z e
claim_value nodes z (Equal a b) = beq (edge_value nodes z a) (edge_value nodes z b)

-- nodes are added, and the edge has this value
pub record Gives (old : List AigNode) (made : Made) (wanted : (ℕ → Bool) → Bool) : Type 0 where
  pub grows : Grows old made.nodes
  pub gives : GivesEdge made.nodes wanted made.edge

-- an edge is still there
pub still_there : (old new : List AigNode) (e : AigEdge) → Grows old new → IsInRange old e
    → IsInRange new e
still_there old new e grows there = omega (arith, there, grows.longer)

-- ---- gates

by_test : {X : Type 0} (P : X → Type 0) (b : Bool) (x y : X) → (b ≡ true → P x)
    → (b ≡ false → P y) → P (cond b x y)
by_test P true x y p q = p refl
by_test P false x y p q = q refl

-- what two edges are folded to is what they fold to
and_folds : (a b : AigEdge) → IfSome (folded a b) (Folds a b)
and_folds a b =
    by_test P (is a 1) _ _ (λ t. true_first (at a (edge_to 0 true) t) refl)
    (λ f. by_test P (is b 1) _ _ (λ t. true_second (at b (edge_to 0 true) t) refl)
    (λ f. by_test P (is a 0) _ _ (λ t. false_first (at a (edge_to 0 false) t) refl)
    (λ f. by_test P (is b 0) _ _ (λ t. false_second (at b (edge_to 0 false) t) refl)
    (λ f. by_test P (is a (literal_of b)) _ _ (λ t. same (at a b t) refl)
    (λ f. by_test P (is a (literal_of (inverse b))) _ _ (λ t. opposite (at a (inverse b) t) refl)
    (λ f. tt))))))
  where
    P : Option AigEdge → Type 0
    P o = IfSome o (Folds a b)

    is : AigEdge → ℕ → Bool
    is e n = literal_of e == n

    at : (e f : AigEdge) → is e (literal_of f) ≡ true → e ≡ f
    at e f t = literals-same e f (eqb-true (literal_of e) (literal_of f) t)

pub and_gives : (nodes : List AigNode) → AreNodes nodes → (a b : AigEdge) → IsInRange nodes a
    → IsInRange nodes b
    → Gives nodes (make_and nodes a b) (λ z. edge_value nodes z a && edge_value nodes z b)
and_gives nodes are a b first second = by (folded a b) (and_folds a b)
  where
    by : (o : Option AigEdge) → IfSome o (Folds a b)
        → Gives nodes (made_by o (and_of a b) nodes)
        (λ z. edge_value nodes z a && edge_value nodes z b)
    by (Some e) folds = record {
      grows = Grows-itself nodes are;
      gives = GivesEdge-Folds nodes a b e are first second folds;
    }
    by None u = record {
      grows = (AddsGates-with_node nodes a b are first second).grows;
      gives = GivesEdge-AddsGate nodes (with_node nodes (and_of a b)) a b
          (edge_to (length nodes) false) are first second (record { gate = refl; edge = refl });
    }

either : (a b : Bool) → not (not a && not b) ≡ (a || b)
either true b = refl
either false true = refl
either false false = refl

equal_gives : (nodes : List AigNode) → AreNodes nodes → (a b : AigEdge) → IsInRange nodes a
    → IsInRange nodes b
    → Gives nodes (make_equal nodes a b) (λ z. beq (edge_value nodes z a) (edge_value nodes z b))
equal_gives nodes are a b first second =
    let both = make_and nodes a b in
    let one = and_gives nodes are a b first second in
    let neither = make_and both.nodes (inverse a) (inverse b) in
    let two = and_gives both.nodes one.grows.sound (inverse a) (inverse b)
    (still_there nodes both.nodes a one.grows first)
    (still_there nodes both.nodes b one.grows second) in
    let differ = make_and neither.nodes (inverse both.edge) (inverse neither.edge) in
    let three = and_gives neither.nodes two.grows.sound (inverse both.edge) (inverse neither.edge)
    (still_there both.nodes neither.nodes both.edge two.grows one.gives.there) two.gives.there in
    let N = neither.nodes in
    let is_either = GivesEdge-same differ.nodes (inverse differ.edge)
    (λ z. ap not (ap₂ ◌&&◌ (edge_value-inverse N z both.edge)
    (edge_value-inverse N z neither.edge))
    ∙ either (edge_value N z both.edge) (edge_value N z neither.edge))
    (GivesEdge-inverse differ.nodes differ.edge three.gives) in
    record {
      grows = Grows-then nodes neither.nodes differ.nodes
          (Grows-then nodes both.nodes neither.nodes one.grows two.grows) three.grows;
      gives = GivesEdge-both_or_neither nodes both.nodes neither.nodes differ.nodes a b both.edge
          neither.edge (inverse differ.edge) are one.grows two.grows first second one.gives
          two.gives is_either;
    }

-- edges are still there, and have their values
pub All-later : (old new : List AigNode) → Grows old new → (es : List AigEdge)
    → All (IsInRange old) es → All (IsInRange new) es
All-later old new grows = All-weaker (IsInRange old) (IsInRange new)
    (λ e. still_there old new e grows)

all_later : (old new : List AigNode) → Grows old new → (z : ℕ → Bool) (es : List AigEdge)
    → All (IsInRange old) es → list_all (edge_value new z) es ≡ list_all (edge_value old z) es
all_later old new grows z es there =
    list_all-agrees (edge_value new z) (edge_value old z) es
    (All-weaker (IsInRange old) _ (λ e. grows.values z e) es there)

ands_give : (es : List AigEdge) (made : Made) → AreNodes made.nodes → IsInRange made.nodes made.edge
    → All (IsInRange made.nodes) es
    → Gives made.nodes (make_ands made es)
    (λ z. edge_value made.nodes z made.edge && list_all (edge_value made.nodes z) es)
ands_give [] made are there all = record {
  grows = Grows-itself made.nodes are;
  gives = record { there = there; value = λ z. sym (and-true _) };
}
ands_give (e ∷ es) made are there all =
    let later = All-tail (IsInRange made.nodes) e es all in
    let next = make_and made.nodes made.edge e in
    let one = and_gives made.nodes are made.edge e there
    (All-head (IsInRange made.nodes) e es all) in
    let rest = ands_give es next one.grows.sound one.gives.there
    (All-later made.nodes next.nodes one.grows es later) in
    record {
      grows = Grows-then made.nodes next.nodes _ one.grows rest.grows;
      gives = GivesEdge-same _ _
          (λ z.
          ap₂ ◌&&◌ (one.gives.value z) (all_later made.nodes next.nodes one.grows z es later)
          ∙ and_assoc (edge_value made.nodes z made.edge) (edge_value made.nodes z e)
          (list_all (edge_value made.nodes z) es))
          rest.gives;
    }

all_give : (nodes : List AigNode) → AreNodes nodes → (es : List AigEdge)
    → All (IsInRange nodes) es
    → Gives nodes (make_all nodes es) (λ z. list_all (edge_value nodes z) es)
all_give nodes are es there =
    let all = ands_give es (made_in nodes (edge_to 0 true)) are
    (kind_at-within nodes 0 False are.false_first) there in
    record {
      grows = all.grows;
      gives = GivesEdge-same _ _
          (λ z. ap (λ v. not v && list_all (edge_value nodes z) es)
          (node_value-false nodes z 0 are.false_first)) all.gives;
    }

-- ---- claims

-- their edges are still there, and they have their values
pub claim_later : (old new : List AigNode) → Grows old new → (c : Claim) → IsClaimIn old c
    → IsClaimIn new c
claim_later old new grows (Edge e) there = still_there old new e grows there
claim_later old new grows (Equal a b) there =
    (still_there old new a grows there.0, still_there old new b grows there.1)

value_later : (old new : List AigNode) → Grows old new → (z : ℕ → Bool) (c : Claim)
    → IsClaimIn old c → claim_value new z c ≡ claim_value old z c
value_later old new grows z (Edge e) there = grows.values z e there
value_later old new grows z (Equal a b) there =
    ap₂ beq (grows.values z a there.0) (grows.values z b there.1)

claim_gives : (nodes : List AigNode) → AreNodes nodes → (c : Claim) → IsClaimIn nodes c
    → Gives nodes (make_claim nodes c) (λ z. claim_value nodes z c)
claim_gives nodes are (Edge e) there = record {
  grows = Grows-itself nodes are;
  gives = record { there = there; value = λ z. refl };
}
claim_gives nodes are (Equal a b) there = equal_gives nodes are a b there.0 there.1

-- the edges are those of the claims so far
pub record Lists (base : List AigNode) (l : Listed) (claims : List Claim) : Type 0 where
  pub grows : Grows base l.nodes
  pub there : All (IsInRange l.nodes) l.edges
  pub values : (z : ℕ → Bool)
      → list_all (edge_value l.nodes z) l.edges ≡ list_all (claim_value base z) claims

-- one claim more
lists_more : (base : List AigNode) (l : Listed) (claims : List Claim) → Lists base l claims
    → (c : Claim) → IsClaimIn base c
    → Lists base (with_made l.edges (make_claim l.nodes c)) (claims ++ c ∷ [])
lists_more base l claims so_far c there =
    let made = make_claim l.nodes c in
    let one = claim_gives l.nodes so_far.grows.sound c (claim_later base l.nodes so_far.grows c
    there) in
    record {
      grows = Grows-then base l.nodes made.nodes so_far.grows one.grows;
      there = All-push (IsInRange made.nodes) l.edges made.edge
          (All-later l.nodes made.nodes one.grows l.edges so_far.there) one.gives.there;
      values = λ z.
          list_all-append (edge_value made.nodes z) l.edges (made.edge ∷ [])
          ∙ ap₂ (λ a b. a && (b && true))
          (all_later l.nodes made.nodes one.grows z l.edges so_far.there ∙ so_far.values z)
          (one.gives.value z ∙ value_later base l.nodes so_far.grows z c there)
          ∙ sym (list_all-append (claim_value base z) claims (c ∷ []));
    }

lists_all : (base : List AigNode) (cs : List Claim) → All (IsClaimIn base) cs → (l : Listed)
    (claims : List Claim) → Lists base l claims → Lists base (with_claims l cs) (claims ++ cs)
lists_all base [] all l claims so_far =
    subst (Lists base l) (sym (append-nil claims)) so_far
lists_all base (c ∷ cs) all l claims so_far =
    subst (Lists base (with_claims l (c ∷ cs))) (append_assoc claims (c ∷ []) cs)
    (lists_all base cs (All-tail (IsClaimIn base) c cs all)
    (with_made l.edges (make_claim l.nodes c)) (claims ++ c ∷ [])
    (lists_more base l claims so_far c (All-head (IsClaimIn base) c cs all)))

pub lists : (base : List AigNode) → AreNodes base → (cs : List Claim) → All (IsClaimIn base) cs
    → (l : Listed) → l ≡ with_claims (listed_in base []) cs → Lists base l cs
lists base are cs all l is =
    subst (λ (k : Listed). Lists base k cs) (sym is)
    (lists_all base cs all (listed_in base []) []
    (record {
      grows = Grows-itself base are;
      there = All-nil (IsInRange base);
      values = λ z. refl;
    }))

-- ---- all premises, and not all conclusions

module _ (base : List AigNode) (are : AreNodes base) (premises conclusions : List Claim)
    (first : All (IsClaimIn base) premises) (second : All (IsClaimIn base) conclusions)
    (given : Listed) (is_given : given ≡ with_claims (listed_in base []) premises) where
  pub premises_list : Lists base given premises
  premises_list = lists base are premises first given is_given

  pub conclusions_there : All (IsClaimIn given.nodes) conclusions
  conclusions_there =
      All-weaker (IsClaimIn base) (IsClaimIn given.nodes)
      (claim_later base given.nodes premises_list.grows) conclusions second

  module _ (wanted : Listed)
      (is_wanted : wanted ≡ with_claims (listed_in given.nodes []) conclusions) where
    pub conclusions_list : Lists given.nodes wanted conclusions
    conclusions_list =
        lists given.nodes premises_list.grows.sound conclusions conclusions_there wanted is_wanted

    pub premises_stay : All (IsInRange wanted.nodes) given.edges
    premises_stay =
        All-later given.nodes wanted.nodes conclusions_list.grows given.edges premises_list.there

    refuting_after : Gives base
        (let asked = make_all wanted.nodes given.edges in
        let shown = make_all asked.nodes wanted.edges in
        make_and shown.nodes asked.edge (inverse shown.edge))
        (λ z. list_all (claim_value base z) premises
        && not (list_all (claim_value base z) conclusions))
    refuting_after =
        let asked = make_all wanted.nodes given.edges in
        let one = all_give wanted.nodes conclusions_list.grows.sound given.edges premises_stay in
        let shown = make_all asked.nodes wanted.edges in
        let two = all_give asked.nodes one.grows.sound wanted.edges
        (All-later wanted.nodes asked.nodes one.grows wanted.edges conclusions_list.there) in
        let last = and_gives shown.nodes two.grows.sound asked.edge (inverse shown.edge)
        (still_there asked.nodes shown.nodes asked.edge two.grows one.gives.there)
        two.gives.there in
        record {
          grows = Grows-then base given.nodes _ premises_list.grows
              (Grows-then given.nodes wanted.nodes _ conclusions_list.grows
              (Grows-then wanted.nodes asked.nodes _ one.grows
              (Grows-then asked.nodes shown.nodes _ two.grows last.grows)));
          gives = GivesEdge-same _ _
              (λ z. ap₂ ◌&&◌
              (two.grows.values z asked.edge one.gives.there
              ∙ one.gives.value z
              ∙ all_later given.nodes wanted.nodes conclusions_list.grows z given.edges
              premises_list.there
              ∙ premises_list.values z)
              (edge_value-inverse shown.nodes z shown.edge
              ∙ ap not
              (two.gives.value z
              ∙ all_later wanted.nodes asked.nodes one.grows z wanted.edges conclusions_list.there
              ∙ conclusions_list.values z
              ∙ list_all-agrees _ _ conclusions
              (All-weaker (IsClaimIn base) _
              (value_later base given.nodes premises_list.grows z) conclusions second))))
              last.gives;
        }

pub refuting_gives : (base : List AigNode) → AreNodes base → (premises conclusions : List Claim)
    → All (IsClaimIn base) premises → All (IsClaimIn base) conclusions
    → Gives base (make_refuting base premises conclusions)
    (λ z. list_all (claim_value base z) premises
    && not (list_all (claim_value base z) conclusions))
refuting_gives base are premises conclusions first second =
    refuting_after base are premises conclusions first second _ refl _ refl
