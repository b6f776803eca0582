-- Constraints in place of initial edges that aren't constant, from what the builders promise.
use Rattle.aig_base.proofs.Words.{◌≡◌, ◌≢◌, ◌↔◌, ℕ, zero, suc, ◌+◌, ◌<◌, Bool, true, false, not, ◌||◌, cond, eqb, Option, Some, None, List, [], ◌∷◌, ◌++◌, length, map, take, get_or, refl, sym, ap, subst, ◌∙◌, arith, append_assoc, append-nil, AllZip, eq-eqb, ne_eqb, take_at, take_more, All-append, All-nil, All-filter, All-map, All-push, filter-append}
use Rattle.std.specs.Bool.{beq}
use Rattle.std.specs.Prelude.{All, Contains, IfSome, IsTrue}
use Rattle.aig_circuit.specs.declared.edge.AigEdge.{AigEdge}
use Rattle.aig_circuit.specs.declared.node.AigNode.{AigNode}
use Rattle.aig_circuit.specs.declared.node.AigNodeType.TheVariants.{False, Leaf}
use Rattle.aig_circuit.specs.declared.node.AigLatch.{AigLatch}
use Rattle.aig_circuit.proofs.Words.{edge_to, inverse, edge_value, AreNodes, Circuit, IsCircuit, IsFree, IsInRange, IsLatch, latch_leaves, AllProperties, AddsGates, FoldsOrAdds, FoldsOrAddsEq, GivesEdge, Grows, with_node, HasConstantInit}
use Rattle.aig_change.specs.Runs.{IsAllowedRun}
use Rattle.aig_circuit.proofs.Building.{Grows-itself, Grows-leaf, edge_value-Grows}
use Rattle.aig_circuit.proofs.Circuits.{IsCircuit-grown, IsFree-fresh}
use Rattle.aig_circuit.proofs.Joining.{edge_value-inverse, inverse_twice, true_where_equal}
use Rattle.aig_circuit.proofs.Trees.{kind_at-last, kind_at-within, node_value-leaf}
use Rattle.aig_circuit.proofs.Writing.{IsCircuit-add_latch, IsCircuit-latchs}
use Rattle.aig_change.specs.Changes.{ConstrainsInits, constant_start, first_step_latch, with_constant_start}
use Rattle.aig_change.specs.Inits.{Constrains, MeetsInit, SayInSteps, ImpliesInit, is_variable, variable_latchs}
use Rattle.aig_change.proofs.FirstStep.{AddsFirst, AreOldRuns-gated, AreOldRuns-itself}
use Rattle.aig_change.proofs.Grown.{AddsLeaf-gates}
use Rattle.aig_circuit.proofs.Lists.{All-first, All-second, map-same}
use Rattle.aig_change.proofs.Lists.{AllZip-append, AllZip-weaker}
use Rattle.aig_change.proofs.Moving.{All-grown}

-- what holds of the one entry holds of all
All-one : {X : Type 0} (P : X → Type 0) (x : X) → P x → All P (x ∷ [])
All-one P x p zero d h = p
All-one P x p (suc k) d h = absurd (omega arith)

implies_says : (p q : Bool) (A : Type 0) → IsTrue q ↔ A → IsTrue (not p || q) ↔ (p ≡ true → A)
implies_says true q A says = (λ h is. says.0 h, λ h. says.1 (h refl))
implies_says false q A says = (λ h is. cc, λ h. refl)

-- an initial edge to an old node says the same over grown nodes
module _ (old new : List AigNode) (are : AreNodes old) (grows : Grows old new) (x : ℕ → Bool) (v : Bool) where
  open_forth : (o : Option AigEdge) → IfSome o (IsInRange old)
      → IfSome o (λ e. e.node_id ≢ 0 → edge_value new x e ≡ v)
      → IfSome o (λ e. e.node_id ≢ 0 → edge_value old x e ≡ v)
  open_forth (Some e) s h = λ differs. sym (edge_value-Grows old new are grows x e s) ∙ h differs
  open_forth None s h = tt

  open_back : (o : Option AigEdge) → IfSome o (IsInRange old)
      → IfSome o (λ e. e.node_id ≢ 0 → edge_value old x e ≡ v)
      → IfSome o (λ e. e.node_id ≢ 0 → edge_value new x e ≡ v)
  open_back (Some e) s h = λ differs. edge_value-Grows old new are grows x e s ∙ h differs
  open_back None s h = tt

-- some constraints and then others
SayInSteps-append : (old mid new : List AigNode) (first : AigEdge) (cs : List AigEdge) (ls : List AigLatch) (ds : List AigEdge) (ms : List AigLatch)
    → SayInSteps old first cs ls mid → SayInSteps mid first ds ms new → SayInSteps old first (cs ++ ds) (ls ++ ms) new
SayInSteps-append old mid new first [] [] ds ms same more = subst (λ nodes. SayInSteps nodes first ds ms new) same more
SayInSteps-append old mid new first [] (l ∷ ls) ds ms none more = elim none [ ]
SayInSteps-append old mid new first (c ∷ cs) [] ds ms none more = elim none [ ]
SayInSteps-append old mid new first (c ∷ cs) (l ∷ ls) ds ms steps more =
    (steps.0, steps.1, SayInSteps-append steps.0 mid new first cs ls ds ms steps.2 more)

-- the constraint of one latch
pub constrained_one : (old one two : List AigNode) (first equal implied not_first leaf_edge start : AigEdge) (latch : AigLatch) (before after : List AigEdge)
    → AreNodes old → IsInRange old first → IsLatch old latch → latch.init ≡ Some start → start.node_id ≢ 0
    → AddsGates old one → GivesEdge one (λ x. beq (edge_value old x leaf_edge) (edge_value old x start)) equal → leaf_edge ≡ edge_to latch.input false
    → FoldsOrAddsEq old one leaf_edge start equal → FoldsOrAdds one two (inverse not_first) (inverse equal) (inverse implied)
    → GivesEdge two (λ x. edge_value one x not_first || edge_value one x equal) implied → not_first ≡ inverse first
    → after ≡ before ++ implied ∷ [] → Constrains old two first (latch ∷ []) before after
constrained_one old one two first equal implied not_first leaf_edge start latch before after are there is init_is differs gates equals edge_is equal_rule implied_rule implies not_is appended = record {
  constrained = implied ∷ [];
  appended = appended;
  there = All-one (IsInRange two) implied implies.there;
  steps = subst (λ b. SayInSteps old first (implied ∷ []) (cond b (latch ∷ []) []) two) (sym variable) (
    two,
    record {
      start = start;
      is_start = init_is;
      mid = one;
      equal = equal;
      compares = subst (λ e. FoldsOrAddsEq old one e start equal) edge_is equal_rule;
      implies = subst (λ e. FoldsOrAdds one two e (inverse equal) (inverse implied)) (ap inverse not_is ∙ inverse_twice first) implied_rule;
    },
    refl,
  );
  each = subst (λ b. AllZip (ImpliesInit old two first) (implied ∷ []) (cond b (latch ∷ []) [])) (sym variable)
      (λ x. (λ h. (says_one x).0 (All-one (λ e. IsTrue (edge_value two x e)) implied h), λ f. (says_one x).1 f 0 implied (omega arith)), tt);
  says = λ x. (λ all holds. All-one (MeetsInit old x) latch ((says_one x).0 all holds), λ all. (says_one x).1 (λ holds. all holds 0 latch (omega arith)));
}
  where
    variable : is_variable latch.init ≡ true
    variable = ap is_variable init_is ∙ ap not (ne_eqb start.node_id 0 differs)

    implied_is : (x : ℕ → Bool)
        → edge_value two x implied ≡ (not (edge_value old x first) || edge_value one x equal)
    implied_is x = implies.value x ∙ ap (λ b. b || edge_value one x equal) (ap (edge_value one x) not_is ∙ edge_value-inverse one x first ∙ ap not (edge_value-Grows old one are gates.grows x first there))

    leaf_is : (x : ℕ → Bool) → edge_value old x leaf_edge ≡ x latch.input
    leaf_is x = ap (edge_value old x) edge_is ∙ node_value-leaf old x latch.input is.leaf

    equal_says : (x : ℕ → Bool)
        → IsTrue (edge_value one x equal) ↔ (edge_value old x start ≡ x latch.input)
    equal_says x =
        let says = true_where_equal one equal _ _ equals x in
        (λ h. sym (says.0 h) ∙ leaf_is x, λ e. says.1 (leaf_is x ∙ sym e))

    says_one : (x : ℕ → Bool)
        → All (λ e. IsTrue (edge_value two x e)) (implied ∷ [])
        ↔ (edge_value old x first ≡ true → MeetsInit old x latch)
    says_one x =
        let both = implies_says (edge_value old x first) (edge_value one x equal) (edge_value old x start ≡ x latch.input) (equal_says x) in (
          λ all holds. subst (λ (o : Option AigEdge). IfSome o (λ e. e.node_id ≢ 0 → edge_value old x e ≡ x latch.input)) (sym init_is) (λ other. both.0 (sym (implied_is x) ∙ all 0 implied (omega arith)) holds),
          λ opens. All-one (λ e. IsTrue (edge_value two x e)) implied (implied_is x ∙ both.1 (λ holds. subst (λ (o : Option AigEdge). IfSome o (λ e. e.node_id ≢ 0 → edge_value old x e ≡ x latch.input)) init_is (opens holds) differs)),
        )

-- no constraint for no latch
pub Constrains-none : (nodes : List AigNode) (first : AigEdge) (before : List AigEdge)
    → Constrains nodes nodes first [] before before
Constrains-none nodes first before = record {
  constrained = [];
  appended = sym (append-nil before);
  there = All-nil (IsInRange nodes);
  says = λ x. ((λ all holds. All-nil (MeetsInit nodes x)), λ opens. All-nil (λ e. IsTrue (edge_value nodes x e)));
  each = tt;
  steps = refl;
}

-- what is appended leaves what was there
pub first_kept : (before after added : List AigEdge) → after ≡ before ++ added
    → take (length before) after ≡ before
first_kept before after added appended = ap (take (length before)) appended ∙ take_at before added (length before) refl

-- the constraints of one latch more
pub Constrains-push : (old mid new : List AigNode) (first : AigEdge) (latchs : List AigLatch) (latch : AigLatch) (before between after : List AigEdge)
    → AreNodes old → IsInRange old first → IsLatch old latch → AddsGates old mid → Constrains old mid first latchs before between → AddsGates mid new → Constrains mid new first (latch ∷ []) between after
    → Constrains old new first (latchs ++ latch ∷ []) before after
Constrains-push old mid new first latchs latch before between after are there is adds p more q = record {
  constrained = p.constrained ++ q.constrained;
  appended = q.appended ∙ ap (λ l. l ++ q.constrained) p.appended ∙ append_assoc before p.constrained q.constrained;
  there = All-append (IsInRange new) p.constrained q.constrained (All-grown mid new p.constrained more.grows p.there) q.there;
  steps = subst (λ ls. SayInSteps old first (p.constrained ++ q.constrained) ls new) (sym (filter-append (λ (l : AigLatch). is_variable l.init) latchs (latch ∷ [])))
      (SayInSteps-append old mid new first p.constrained (variable_latchs latchs) q.constrained (variable_latchs (latch ∷ [])) p.steps q.steps);
  each = subst (AllZip (ImpliesInit old new first) (p.constrained ++ q.constrained)) (sym (filter-append (λ (l : AigLatch). is_variable l.init) latchs (latch ∷ [])))
      (AllZip-append (ImpliesInit old new first) p.constrained (variable_latchs latchs) q.constrained (variable_latchs (latch ∷ []))
      (AllZip-weaker (ImpliesInit old mid first) (ImpliesInit old new first) (IsInRange mid) (λ l. Unit {0}) (λ e l low any says x. (
        λ h. (says x).0 (sym (edge_value-Grows mid new adds.grows.sound more.grows x e low) ∙ h),
        λ opens. edge_value-Grows mid new adds.grows.sound more.grows x e low ∙ (says x).1 opens,
      )) p.constrained (variable_latchs latchs) p.there (λ k d h. tt) p.each)
      (AllZip-weaker (ImpliesInit mid new first) (ImpliesInit old new first) (IsInRange new) (IsLatch old) (λ e l low was says x. (
        λ h holds. open_forth old mid are adds.grows x (x l.input) l.init was.init ((says x).0 h (first_is x ∙ holds)),
        λ opens. (says x).1 (λ holds. open_back old mid are adds.grows x (x l.input) l.init was.init (opens (sym (first_is x) ∙ holds))),
      )) q.constrained (variable_latchs (latch ∷ [])) q.there (All-filter (λ (l : AigLatch). is_variable l.init) (IsLatch old) (latch ∷ []) (All-one (IsLatch old) latch is)) q.each));
  says = λ x. (
    λ all holds.
        let firsts = All-first (λ e. IsTrue (edge_value new x e)) p.constrained q.constrained all in
        let old_ones = (p.says x).0 (λ k d h. sym (edge_value-Grows mid new adds.grows.sound more.grows x (get_or p.constrained k d) (p.there k d h)) ∙ firsts k d h) holds in
        let last = (q.says x).0 (All-second (λ e. IsTrue (edge_value new x e)) p.constrained q.constrained all) (first_is x ∙ holds) 0 latch (omega arith) in
        All-push (MeetsInit old x) latchs latch old_ones (open_forth old mid are adds.grows x (x latch.input) latch.init is.init last),
    λ opens. All-append (λ e. IsTrue (edge_value new x e)) p.constrained q.constrained
        (λ k d h. edge_value-Grows mid new adds.grows.sound more.grows x (get_or p.constrained k d) (p.there k d h) ∙ (p.says x).1 (λ holds. All-first (MeetsInit old x) latchs (latch ∷ []) (opens holds)) k d h)
        ((q.says x).1 (λ holds. All-one (MeetsInit mid x) latch (open_back old mid are adds.grows x (x latch.input) latch.init is.init (All-second (MeetsInit old x) latchs (latch ∷ []) (opens (sym (first_is x) ∙ holds)) 0 latch (omega arith))))),
  );
}
  where
    first_is : (x : ℕ → Bool) → edge_value mid x first ≡ edge_value old x first
    first_is x = edge_value-Grows old mid are adds.grows x first there

-- one turn of the loop over latches
pub Constrains-turn : (old mid new : List AigNode) (first : AigEdge) (latchs : List AigLatch) (i : ℕ) (d : AigLatch) (before between after : List AigEdge)
    → AreNodes old → IsInRange old first → All (IsLatch old) latchs → i < length latchs → AddsGates old mid → Constrains old mid first (take i latchs) before between → AddsGates mid new → Constrains mid new first (get_or latchs i d ∷ []) between after
    → Constrains old new first (take (i + 1) latchs) before after
Constrains-turn old mid new first latchs i d before between after are there is h adds p more q =
    subst (λ ls. Constrains old new first ls before after) (sym (take_more latchs i d h)) (Constrains-push old mid new first (take i latchs) (get_or latchs i d) before between after are there (is i d h) adds p more q)

-- ---- the whole change

leaves_kept : (latchs : List AigLatch)
    → latch_leaves (map with_constant_start latchs) ≡ latch_leaves latchs
leaves_kept [] = refl
leaves_kept (l ∷ ls) = ap (λ ns. l.input ∷ ns) (leaves_kept ls)

constant_there : (nodes : List AigNode) (o : Option AigEdge) → IfSome o (IsInRange nodes)
    → IfSome (constant_start o) (IsInRange nodes)
constant_there nodes None h = tt
constant_there nodes (Some e) h = by_test (eqb e.node_id 0)
  where
    by_test : (b : Bool) → IfSome (cond b (Some e) None) (IsInRange nodes)
    by_test true = h
    by_test false = tt

module _ (old : Circuit) (is : IsCircuit old) (new : List AigNode) (constraints : List AigEdge) (adds : AddsGates (with_node old.nodes Leaf) new) (c : Constrains (with_node old.nodes Leaf) new (edge_to (length old.nodes) false) old.latchs old.properties.constraints constraints) where
  abbrev leaf : ℕ
  leaf = length old.nodes

  abbrev mid : List AigNode
  mid = with_node old.nodes Leaf

  abbrev pub gated : Circuit
  gated = record old { nodes = new; latchs = map with_constant_start old.latchs ++ first_step_latch leaf ∷ []; properties = record old.properties { constraints = constraints } }

  leaf_is : (x : ℕ → Bool) → edge_value mid x (edge_to leaf false) ≡ x leaf
  leaf_is x = node_value-leaf mid x leaf (kind_at-last old.nodes _)

  adds_first : AddsFirst old gated leaf c.constrained
  adds_first = record {
    nodes = AddsLeaf-gates old.nodes new is.nodes adds;
    latchs = refl;
    constraints = c.appended;
    says = λ x. (
      λ all holds k d h.
          let latch = get_or old.latchs k d in
          open_forth old.nodes mid is.nodes (Grows-leaf old.nodes is.nodes) x (x latch.input) latch.init (is.latchs k d h).init ((c.says x).0 all (leaf_is x ∙ holds) k d h),
      λ opens. (c.says x).1 (λ holds k d h.
          let latch = get_or old.latchs k d in
          open_back old.nodes mid is.nodes (Grows-leaf old.nodes is.nodes) x (x latch.input) latch.init (is.latchs k d h).init (opens (sym (leaf_is x) ∙ holds) k d h)),
    );
  }

  pub ConstrainsInits-built : (All HasConstantInit old.latchs → ⊥) → ConstrainsInits old gated
  ConstrainsInits-built some_open = record {
    leaf = Some leaf;
    latchs = refl;
    constrained = c.constrained;
    constraints = c.appended;
    nodes = adds_first.nodes.grows;
    rest = refl;
    some = λ variable. (refl, adds);
    each = λ variable. c.each;
    steps = λ variable. c.steps;
    runs = AreOldRuns-gated old gated leaf c.constrained is adds_first;
    none = λ all. absurd (some_open all);
  }

  pub IsCircuit-gated : IsCircuit gated
  IsCircuit-gated =
      let over = IsCircuit-grown old new is adds_first.nodes.grows in
      let here : 0 < length new = kind_at-within new 0 False adds.grows.sound.false_first in
      let latches : All (IsLatch new) (map with_constant_start old.latchs) = All-map (IsLatch new) with_constant_start old.latchs (λ k d h.
      let was = over.latchs k d h in record { leaf = was.leaf; next = was.next; init = constant_there new (get_or old.latchs k d).init was.init }) in
      let plain = IsCircuit-latchs (record old { nodes = new }) (map with_constant_start old.latchs) over latches (leaves_kept old.latchs) in
      let fresh = IsFree-fresh old is in
      let free : IsFree old.inputs (map with_constant_start old.latchs) leaf = record { no_input = fresh.no_input; no_latch = λ has. fresh.no_latch (subst (λ ns. Contains ns leaf) (leaves_kept old.latchs) has) } in
      let latched = IsCircuit-add_latch (record old { nodes = new; latchs = map with_constant_start old.latchs }) (first_step_latch leaf) plain (record { leaf = adds_first.nodes.there; next = here; init = here }) free in
      let all : All (IsInRange new) constraints = subst (All (IsInRange new)) (sym c.appended) (All-append (IsInRange new) old.properties.constraints c.constrained (All-grown old.nodes new old.properties.constraints adds_first.nodes.grows is.properties.constraints) c.there) in
      let properties : AllProperties (IsInRange new) (record old.properties { constraints = constraints }) = assumption (latched.properties, all) in
      assumption (latched, properties)

-- a constant initial edge stays
plain_start : (o : Option AigEdge) → IfSome o (λ e. e.node_id ≡ 0) → constant_start o ≡ o
plain_start None h = refl
plain_start (Some e) h = ap (λ b. cond b (Some e) None) (eq-eqb e.node_id 0 h)

-- where all initial edges are constant, nothing changes
pub ConstrainsInits-plain : (c : Circuit) → IsCircuit c → All HasConstantInit c.latchs
    → ConstrainsInits c c
ConstrainsInits-plain c is plain = record {
  leaf = None;
  latchs = sym (append-nil (map with_constant_start c.latchs) ∙ map-same with_constant_start c.latchs (λ k d h. ap (λ (o : Option AigEdge). record { input = (get_or c.latchs k d).input; next = (get_or c.latchs k d).next; init = o }) (plain_start (get_or c.latchs k d).init (plain k d h))));
  constrained = [];
  constraints = sym (append-nil c.properties.constraints);
  nodes = Grows-itself c.nodes is.nodes;
  rest = refl;
  some = λ variable. absurd (variable plain);
  each = λ variable. absurd (variable plain);
  steps = λ variable. absurd (variable plain);
  runs = AreOldRuns-itself c (IsAllowedRun c);
  none = λ all. refl;
}

-- what is built
pub gated_starts : (old : Circuit) → IsCircuit old → (All HasConstantInit old.latchs → ⊥) → (one : List AigNode) (id : ℕ) (latch : AigLatch) (plains latchs : List AigLatch) (constraints : List AigEdge)
    → id ≡ length old.nodes → AddsGates (with_node old.nodes Leaf) one → Constrains (with_node old.nodes Leaf) one (edge_to id false) old.latchs old.properties.constraints constraints
    → plains ≡ map with_constant_start old.latchs → latch ≡ first_step_latch id → latchs ≡ plains ++ latch ∷ []
    → IsCircuit (record old { nodes = one; latchs = latchs; properties = record old.properties { constraints = constraints } }) × ConstrainsInits old (record old { nodes = one; latchs = latchs; properties = record old.properties { constraints = constraints } })
gated_starts old is some_open one id latch plains latchs constraints id_is adds constrains plains_are latch_is latchs_are =
    let says = subst (λ n. Constrains (with_node old.nodes Leaf) one (edge_to n false) old.latchs old.properties.constraints constraints) id_is constrains in
    let added : map with_constant_start old.latchs ++ first_step_latch (length old.nodes) ∷ [] ≡ latchs =
    ap (λ n. map with_constant_start old.latchs ++ first_step_latch n ∷ []) (sym id_is)
    ∙ ap (λ ls. ls ++ first_step_latch id ∷ []) (sym plains_are)
    ∙ ap (λ l. plains ++ l ∷ []) (sym latch_is) ∙ sym latchs_are in
    let result : gated old is one constraints adds says ≡ record old { nodes = one; latchs = latchs; properties = record old.properties { constraints = constraints } } = ap (λ ls. record old { nodes = one; latchs = ls; properties = record old.properties { constraints = constraints } }) added in
    (subst IsCircuit result (IsCircuit-gated old is one constraints adds says), subst (ConstrainsInits old) result (ConstrainsInits-built old is one constraints adds says some_open))
