-- A circuit whose constraints are assumed at the steps before alone: it is a circuit, and its runs
-- are those of the old one that meet the constraints there.
use Rattle.aig_base.proofs.Words.{◌≡◌, ◌↔◌, ℕ, suc, ◌<◌, ◌≤◌, Bool, true, false, ◌&&◌, List, [], ◌∷◌, ◌++◌, length, get_or, sym, ap, subst, ◌∙◌, arith, IsTrue, All, AllZip, All-cons, All-head, All-nil, map-append}
use Rattle.std.proofs.lemmas.List.Sums.{AllPass-from_list_all, list_all-from_AllPass}
use Rattle.aig_circuit.specs.declared.edge.AigEdge.{AigEdge}
use Rattle.aig_circuit.specs.declared.node.AigLatch.{AigLatch}
use Rattle.aig_circuit.specs.declared.node.AigNode.{AigNode}
use Rattle.aig_circuit.specs.declared.node.AigNodeType.TheVariants.{False, Leaf}
use Rattle.aig_circuit.proofs.Words.{edge_to, edge_value, Circuit, IsCircuit, IsInRange, IsLatch, AllProperties, AddsGates, FoldsOrAdds, FoldsOrAddsAll, GivesEdge, Grows, JoinsByAnd, AgreeOnLeaves, with_node}
use Rattle.aig_circuit.proofs.Building.{AddsGates-then, Grows-itself, Grows-leaf, Grows-then}
use Rattle.aig_circuit.proofs.Circuits.{IsCircuit-grown, IsFree-fresh}
use Rattle.aig_circuit.proofs.Trees.{kind_at-within, node_value-leaf}
use Rattle.aig_circuit.proofs.Writing.{IsCircuit-add_latch}
use Rattle.aig_change.specs.Changes.{constraints_held_latch}
use Rattle.aig_change.specs.Runs.{IsAllowedRun, IsRunFromInitial}
use Rattle.aig_change.proofs.Grown.{AddsLeaf, AddsLeaf-gates, all_hold}
use Rattle.aig_change.proofs.Held.{AddsHeld, AreOldRuns-held, cut_run, held_back, held_before, held_forth, leaf_held}
use Rattle.aig_change.proofs.Lists.{AllZip-append, list_all-agrees}
use Rattle.aig_change.proofs.Moving.{All-grown}
use Rattle.aig_join.specs.Constraints.{AreJoined, DefersConstraints, DefersInSteps}
use Rattle.aig_join.specs.Miter.{HaveSameCounts, compared}
use Rattle.aig_join.specs.Pairs.{MeetsConstraints}
use Rattle.aig_join.specs.Starts.{circuit_registers}
use Rattle.aig_join.proofs.Grown.{constraints-agree}
use Rattle.aig_join.proofs.JoinedEach.{AreJoined-count, AreJoined-gates, AreJoined-there, AreJoined-values}
use Rattle.aig_join.proofs.Partners.{register}

-- the constraints are met exactly where their and is true
pub meets-all : (c : Circuit) (x : ℕ → Bool) → MeetsConstraints c x ↔ (all_hold c x ≡ true)
meets-all c x = (
  list_all-from_AllPass (edge_value c.nodes x) c.properties.constraints,
  AllPass-from_list_all (edge_value c.nodes x) c.properties.constraints,
)

-- the latch that is added
abbrev pub added_latch : (old new : Circuit) → DefersConstraints old new → AigLatch
added_latch old new defers = constraints_held_latch (length old.nodes) defers.next

-- the registers are the old ones and that of the latch
pub deferred-registers : (old new : Circuit) (defers : DefersConstraints old new)
    → circuit_registers new
    ≡ circuit_registers old ++ register old.names (added_latch old new defers) ∷ []
deferred-registers old new defers =
    ap circuit_registers defers.rest
    ∙ map-append (register old.names) old.latchs (added_latch old new defers ∷ [])

-- there is one output more
deferred-outputs : (old new : Circuit) → DefersConstraints old new
    → length new.properties.outputs ≡ suc (length old.properties.outputs)
deferred-outputs old new defers =
    ap (λ (c : Circuit). length c.properties.outputs) defers.rest
    ∙ ap suc (AreJoined-count defers.steps.1 defers.all old.properties.outputs defers.outputs
    defers.steps.2 defers.steps.3.joins_outputs)

-- and there are as many bad edges
deferred-bads : (old new : Circuit) → DefersConstraints old new
    → length new.properties.bads ≡ length old.properties.bads
deferred-bads old new defers = AreJoined-count defers.steps.2 defers.all old.properties.bads
    new.properties.bads new.nodes defers.steps.3.joins_bads

-- what two circuits have as many of, the two that are made of them have
pub deferred-counts : (a b c d : Circuit) → HaveSameCounts a b → DefersConstraints a c
    → DefersConstraints b d → HaveSameCounts c d
deferred-counts a b c d counts first second = record {
  inputs = ap (λ (c : Circuit). length c.inputs) first.rest ∙ counts.inputs
      ∙ sym (ap (λ (c : Circuit). length c.inputs) second.rest);
  outputs = deferred-outputs a c first ∙ ap suc counts.outputs ∙ sym (deferred-outputs b d second);
  bads = deferred-bads a c first ∙ counts.bads ∙ sym (deferred-bads b d second);
}

-- ---- what is added

module _ (old new : Circuit) (is : IsCircuit old) (defers : DefersConstraints old new) where
  abbrev leaf : ℕ
  leaf = length old.nodes

  abbrev wide : List AigNode
  wide = with_node old.nodes Leaf

  abbrev one : List AigNode
  one = defers.steps.0

  abbrev two : List AigNode
  two = defers.steps.1

  abbrev three : List AigNode
  three = defers.steps.2

  steps : DefersInSteps old one two three new.nodes defers.all defers.next defers.outputs
      new.properties.bads
  steps = defers.steps.3

  to_two : AddsGates wide two
  to_two = AddsGates-then wide one two steps.first steps.second

  third : AddsGates two three
  third = AreJoined-gates two defers.all old.properties.outputs defers.outputs three
      to_two.grows.sound steps.joins_outputs

  to_three : AddsGates wide three
  to_three = AddsGates-then wide two three to_two third

  fourth : AddsGates three new.nodes
  fourth = AreJoined-gates three defers.all old.properties.bads new.properties.bads new.nodes
      to_three.grows.sound steps.joins_bads

  pub to_four : AddsGates wide new.nodes
  to_four = AddsGates-then wide three new.nodes to_three fourth

  grown : (nodes : List AigNode) → AddsGates wide nodes → AddsLeaf old.nodes nodes leaf
  grown nodes adds = AddsLeaf-gates old.nodes nodes is.nodes adds

  two_to_four : Grows two new.nodes
  two_to_four = Grows-then two three new.nodes third.grows fourth.grows

  one_to_three : Grows one three
  one_to_three = Grows-then one two three steps.second.grows third.grows

  -- the and of the constraints has its value where nodes are added
  all-kept : (nodes : List AigNode) → Grows one nodes → (x : ℕ → Bool)
      → edge_value nodes x defers.all ≡ all_hold old x
  all-kept nodes grows x =
      grows.values x defers.all steps.joins.gives.there
      ∙ steps.joins.gives.value x
      ∙ list_all-agrees (edge_value wide x) (edge_value old.nodes x) old.properties.constraints
      (λ k d h. (Grows-leaf old.nodes is.nodes).values x (get_or old.properties.constraints k d)
      (is.properties.constraints k d h))

  all-there : (nodes : List AigNode) → Grows one nodes → IsInRange nodes defers.all
  all-there nodes grows =
      let low = steps.joins.gives.there in
      let longer = grows.longer in
      omega arith

  -- edges to old nodes have their values there
  edges-kept : (nodes : List AigNode) → AddsGates wide nodes → (x : ℕ → Bool)
      (es : List AigEdge) → All (IsInRange old.nodes) es
      → All (λ e. edge_value nodes x e ≡ edge_value old.nodes x e) es
  edges-kept nodes adds x es range k d h =
      (grown nodes adds).grows.values x (get_or es k d) (range k d h)

  -- the latch's leaf has the value of the latch
  leaf-value : (nodes : List AigNode) → AddsGates wide nodes → (x : ℕ → Bool)
      → edge_value nodes x (edge_to leaf false) ≡ x leaf
  leaf-value nodes adds x = node_value-leaf nodes x leaf (grown nodes adds).there

  -- a latch is added that holds where the constraints held at all steps before
  pub adds_held : AddsHeld old new leaf defers.next
  adds_held = record {
    nodes = grown new.nodes to_four;
    latchs = ap (λ (c : Circuit). c.latchs) defers.rest;
    value = λ x. two_to_four.values x defers.next steps.gives.there ∙ steps.gives.value x
        ∙ ap (λ v. v && edge_value one x defers.all) (leaf-value one steps.first x)
        ∙ ap (λ v. x leaf && v)
        (all-kept one (Grows-itself one steps.first.grows.sound) x);
  }

  -- it is a circuit
  latch-there : IsLatch new.nodes (added_latch old new defers)
  latch-there = record {
    leaf = (grown new.nodes to_four).there;
    next = let low = steps.gives.there in let longer = two_to_four.longer in omega arith;
    init = kind_at-within new.nodes 0 False to_four.grows.sound.false_first;
  }

  pub deferred-circuit : IsCircuit new
  deferred-circuit =
      let over = IsCircuit-grown old new.nodes is (grown new.nodes to_four).grows in
      let latched = IsCircuit-add_latch (record old { nodes = new.nodes })
      (added_latch old new defers) over latch-there (IsFree-fresh old is) in
      let properties : AllProperties (IsInRange new.nodes) (record old.properties {
        outputs = defers.all ∷ defers.outputs;
        bads = new.properties.bads;
        constraints = edge_to leaf false ∷ [];
      }) = record {
        outputs = All-cons (IsInRange new.nodes) defers.all defers.outputs
            (all-there new.nodes (Grows-then one three new.nodes one_to_three fourth.grows))
            (All-grown three new.nodes defers.outputs fourth.grows
            (AreJoined-there two defers.all old.properties.outputs defers.outputs three
            steps.joins_outputs));
        bads = AreJoined-there three defers.all old.properties.bads new.properties.bads new.nodes
            steps.joins_bads;
        constraints = All-cons (IsInRange new.nodes) (edge_to leaf false) []
            (kind_at-within new.nodes leaf Leaf (grown new.nodes to_four).there)
            (All-nil (IsInRange new.nodes));
        justice = latched.properties.justice;
        fairness = latched.properties.fairness;
      } in
      subst IsCircuit (sym defers.rest) (record {
        nodes = latched.nodes;
        inputs = latched.inputs;
        inputs_distinct = latched.inputs_distinct;
        latchs = latched.latchs;
        latchs_distinct = latched.latchs_distinct;
        apart = latched.apart;
        properties = properties;
        named = latched.named;
      })

  -- ---- runs

  abbrev Holds : (ℕ → Bool) → AigEdge → Type 0
  Holds x e = IsTrue (edge_value new.nodes x e)

  constraints-are : new.properties.constraints ≡ edge_to leaf false ∷ []
  constraints-are = ap (λ (c : Circuit). c.properties.constraints) defers.rest

  -- an allowed run is one of the old circuit that meets its constraints before the last step
  pub allowed-forth : (k : ℕ) (z : ℕ → ℕ → Bool) → IsAllowedRun new k z
      → IsRunFromInitial old k z × ((t : ℕ) → t < k → MeetsConstraints old (z t))
  allowed-forth k z run =
      let last : k ≤ k = omega arith in
      let here : All (Holds (z k)) (edge_to leaf false ∷ []) =
      subst (All (Holds (z k))) constraints-are (run.allowed k last) in
      let held : held_before old z k ≡ true =
      sym (leaf_held old new leaf defers.next is adds_held k z run.from_start k last)
      ∙ sym (leaf-value new.nodes to_four (z k))
      ∙ All-head (Holds (z k)) (edge_to leaf false) [] here in (
        cut_run old new leaf defers.next is adds_held k z run.from_start,
        λ t h. (meets-all old (z t)).1 (held_forth old z k held t h),
      )

  -- a run that meets the old constraints there is allowed
  allowed-back : (k : ℕ) (z : ℕ → ℕ → Bool) → IsRunFromInitial new k z
      → ((t : ℕ) → t < k → MeetsConstraints old (z t)) → IsAllowedRun new k z
  allowed-back k z run met = record {
    from_start = run;
    allowed = λ t h. subst (All (Holds (z t))) (sym constraints-are)
        (All-cons (Holds (z t)) (edge_to leaf false) []
        (leaf-value new.nodes to_four (z t)
        ∙ leaf_held old new leaf defers.next is adds_held k z run t h
        ∙ held_back old z t (λ s before. (meets-all old (z s)).0 (met s (omega arith))))
        (All-nil (Holds (z t))));
  }

  -- and each such run of the old circuit is one of these with more leaves
  pub allowed-extended : (k : ℕ) (x : ℕ → ℕ → Bool) → IsRunFromInitial old k x
      → ((t : ℕ) → t < k → MeetsConstraints old (x t))
      → (z : ℕ → ℕ → Bool) × IsAllowedRun new k z × AgreeOnLeaves old k z x
  allowed-extended k x run met =
      let more = (AreOldRuns-held old new leaf defers.next is adds_held).extended k x run in (
        more.0,
        allowed-back k more.0 more.1 (λ t h. constraints-agree old is (x t) (more.0 t)
            (λ n there. sym (more.2 t n (omega arith) there)) (met t h)),
        more.2,
      )

  -- ---- what is compared

  pub all-value : (x : ℕ → Bool) → edge_value new.nodes x defers.all ≡ all_hold old x
  all-value x = all-kept new.nodes (Grows-then one three new.nodes one_to_three fourth.grows) x

  -- the and of the constraints comes first
  pub compared-is : compared new ≡ defers.all ∷ (defers.outputs ++ new.properties.bads)
  compared-is = ap (λ (c : Circuit). c.properties.outputs ++ new.properties.bads) defers.rest

  abbrev IsJoint : (ℕ → Bool) → AigEdge → AigEdge → Type 0
  IsJoint x e d = edge_value new.nodes x d ≡ (edge_value old.nodes x e && all_hold old x)

  -- and each other edge is an old one and that and
  pub compared-values : (x : ℕ → Bool)
      → AllZip (λ e d. edge_value new.nodes x d ≡ (edge_value old.nodes x e && all_hold old x))
      (compared old) (defers.outputs ++ new.properties.bads)
  compared-values x =
      AllZip-append (IsJoint x) old.properties.outputs defers.outputs old.properties.bads
      new.properties.bads
      (AreJoined-values two defers.all old.properties.outputs defers.outputs three new.nodes
      to_two.grows.sound steps.joins_outputs fourth.grows
      (all-there two steps.second.grows)
      (All-grown old.nodes two old.properties.outputs (grown two to_two).grows
      is.properties.outputs)
      x (edge_value old.nodes x) (all_hold old x) (all-kept two steps.second.grows x)
      (edges-kept two to_two x old.properties.outputs is.properties.outputs))
      (AreJoined-values three defers.all old.properties.bads new.properties.bads new.nodes
      new.nodes to_three.grows.sound steps.joins_bads
      (Grows-itself new.nodes to_four.grows.sound)
      (all-there three one_to_three)
      (All-grown old.nodes three old.properties.bads (grown three to_three).grows
      is.properties.bads)
      x (edge_value old.nodes x) (all_hold old x) (all-kept three one_to_three x)
      (edges-kept three to_three x old.properties.bads is.properties.bads))

-- ---- the lists that are made

-- the circuit that is built over the lists of one
pub deferred-lists : (lists : Circuit) (zero one two three four : List AigNode) (id : ℕ)
    (held all next : AigEdge) (latch : AigLatch) (latchs : List AigLatch)
    (outputs more bads constraints : List AigEdge) → id ≡ length lists.nodes
    → zero ≡ with_node lists.nodes Leaf → AddsGates zero one
    → FoldsOrAddsAll zero lists.properties.constraints one all
    → JoinsByAnd zero one lists.properties.constraints all → held ≡ edge_to id false
    → AddsGates one two → FoldsOrAdds one two held all next
    → GivesEdge two (λ x. edge_value one x held && edge_value one x all) next
    → AreJoined two all lists.properties.outputs outputs three
    → AreJoined three all lists.properties.bads bads four
    → latch ≡ constraints_held_latch id next → latchs ≡ lists.latchs ++ latch ∷ []
    → more ≡ all ∷ outputs → constraints ≡ held ∷ []
    → DefersConstraints lists (record lists {
      nodes = four;
      latchs = latchs;
      properties = record lists.properties {
        outputs = more;
        bads = bads;
        constraints = constraints;
      };
    })
deferred-lists lists zero one two three four id held all next latch latchs outputs more bads
    constraints id_is zero_is first all_rule joins held_is second rule gives joins_outputs joins_bads
    latch_is latchs_are more_is constraints_are =
    let leaf_is : held ≡ edge_to (length lists.nodes) false =
    held_is ∙ ap (λ n. edge_to n false) id_is in
    let added : latchs
    ≡ lists.latchs ++ constraints_held_latch (length lists.nodes) next ∷ [] =
    latchs_are ∙ ap (λ l. lists.latchs ++ l ∷ [])
    (latch_is ∙ ap (λ n. constraints_held_latch n next) id_is) in
    let last : constraints ≡ edge_to (length lists.nodes) false ∷ [] =
    constraints_are ∙ ap (λ e. e ∷ []) leaf_is in
    record {
      all = all;
      next = next;
      outputs = outputs;
      steps = (
        one,
        two,
        three,
        record {
          first = subst (λ z. AddsGates z one) zero_is first;
          all_rule = subst (λ z. FoldsOrAddsAll z lists.properties.constraints one all) zero_is
              all_rule;
          joins = subst (λ z. JoinsByAnd z one lists.properties.constraints all) zero_is joins;
          second = second;
          rule = subst (λ e. FoldsOrAdds one two e all next) leaf_is rule;
          gives = subst
              (λ e. GivesEdge two (λ x. edge_value one x e && edge_value one x all) next) leaf_is
              gives;
          joins_outputs = joins_outputs;
          joins_bads = joins_bads;
        },
      );
      rest = λ i. record lists {
        nodes = four;
        latchs = added i;
        properties = record lists.properties {
          outputs = more_is i;
          bads = bads;
          constraints = last i;
        };
      };
    }
