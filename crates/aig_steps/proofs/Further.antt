-- What steps append, and that the clauses of all steps are those of all nodes and constraints.
use Rattle.aig_base.proofs.Words.{◌≡◌, ◌↔◌, ℕ, zero, suc, ◌≤◌, Option, Some, None, List, [], ◌∷◌, ◌++◌, length, map, drop, refl, sym, ap, subst, ◌∙◌, AllByRecursion, flat_map, flat_map-append, map-append}
use Rattle.aig_base.specs.declared.logic.literal.Lit.{Lit}
use Rattle.aig_circuit.specs.declared.edge.AigEdge.{AigEdge}
use Rattle.aig_circuit.specs.declared.node.AigNode.{AigNode}
use Rattle.aig_circuit.specs.declared.node.AigNodeType.{AigNodeType}
use Rattle.aig_circuit.specs.declared.node.AigNodeType.TheVariants.{False, Leaf, And}
use Rattle.aig_circuit.proofs.Words.{Circuit, and_of, kind_at}
use Rattle.aig_format.proofs.Entries.{rec_append}
use Rattle.aig_runs.specs.Queries.{unit_clauses}
use Rattle.aig_unroll.specs.Frame.{Frame, folded, frame_to, image_in, next_of, with_copy, with_folded, with_step, with_steps}
use Rattle.aig_steps.proofs.Beginnings.{begins_all, begins_itself, begins_then, drop_begins}
use Rattle.aig_steps.specs.Stepwise.{Begins, GoesOn, frame_clauses, further_clauses, node_clauses, step_clauses, stepwise_clauses}

-- ---- what a step appends

folded_begins : (o : Option AigEdge) (kind : AigNodeType) (made : Frame)
    → Begins made.nodes (with_folded o kind made).nodes
folded_begins (Some e) kind made = begins_itself made.nodes
folded_begins None kind made = (record { node_id = length made.nodes; typ = kind } ∷ [], refl)

copy_begins : (state : Option AigEdge) (kind : Option AigNodeType) (made : Frame)
    → Begins made.nodes (with_copy state kind made).nodes
copy_begins state (Some False) made = begins_itself made.nodes
copy_begins state (Some Leaf) made = folded_begins state Leaf made
copy_begins state (Some (And a b)) made =
    let first = image_in made.images a in
    let second = image_in made.images b in
    folded_begins (folded first second) (and_of first second) made
copy_begins state None made = begins_itself made.nodes

frame_begins : (nodes : List AigNode) (state : ℕ → Option AigEdge) (old : List AigNode) (n : ℕ)
    → Begins old (frame_to nodes state old n).nodes
frame_begins nodes state old zero = begins_itself old
frame_begins nodes state old (suc n) =
    let made = frame_to nodes state old n in
    begins_then old made.nodes (with_copy (state n) (kind_at nodes n) made).nodes
    (frame_begins nodes state old n) (copy_begins (state n) (kind_at nodes n) made)

-- the old nodes begin the new ones
pub step_begins : (c old : Circuit) → Begins old.nodes (with_step c old).nodes
step_begins c old = frame_begins c.nodes (next_of old.latchs) old.nodes (length c.nodes)

-- and the old constraints the new ones
abbrev pub constraints_begin : (c old : Circuit)
    → Begins old.properties.constraints (with_step c old).properties.constraints
constraints_begin c old =
    let made = frame_to c.nodes (next_of old.latchs) old.nodes (length c.nodes) in
    (map (image_in made.images) c.properties.constraints, refl)

-- ---- all steps

module _ (P : List Lit → Type 0) where
  -- what holds of the clauses of two time frames, and of those of both in one
  frames_joined : (ns ms : List AigNode) (es fs : List AigEdge)
      → (AllByRecursion P (frame_clauses ns es)
      × AllByRecursion P (frame_clauses ms fs)) ↔ AllByRecursion P (frame_clauses (ns ++ ms)
      (es ++ fs))
  frames_joined ns ms es fs =
      let N = flat_map node_clauses ns in
      let M = flat_map node_clauses ms in
      let E = unit_clauses es in
      let F = unit_clauses fs in
      let of_nodes : flat_map node_clauses (ns ++ ms) ≡ N ++ M =
      flat_map-append node_clauses ns ms in
      let of_edges : unit_clauses (es ++ fs) ≡ E ++ F = map-append (λ e. _) es fs in
      let whole : frame_clauses (ns ++ ms) (es ++ fs) ≡ (N ++ M) ++ (E ++ F) =
      ap (λ l. l ++ unit_clauses (es ++ fs)) of_nodes ∙ ap (λ l. (N ++ M) ++ l) of_edges in
      let a = rec_append P N E in
      let b = rec_append P M F in
      let n = rec_append P N M in
      let e = rec_append P E F in
      let t = rec_append P (N ++ M) (E ++ F) in (
        λ h.
            let p = a.0 h.0 in
            let q = b.0 h.1 in
            subst (AllByRecursion P) (sym whole) (t.1 (n.1 (p.0, q.0), e.1 (p.1, q.1))),
        λ h.
            let p = t.0 (subst (AllByRecursion P) whole h) in
            let q = n.0 p.0 in
            let r = e.0 p.1 in
            (a.1 (q.0, r.0), b.1 (q.1, r.1)),
      )

  -- a time frame and what comes behind it
  one_further : (old new : Circuit) → Begins old.nodes new.nodes
      → Begins old.properties.constraints new.properties.constraints
      → (AllByRecursion P (frame_clauses old.nodes old.properties.constraints)
      × AllByRecursion P (further_clauses old new)) ↔ AllByRecursion P
      (frame_clauses new.nodes new.properties.constraints)
  one_further old new ns es =
      let nodes : drop (length old.nodes) new.nodes ≡ ns.0 = drop_begins old.nodes new.nodes ns in
      let constraints : drop (length old.properties.constraints) new.properties.constraints ≡ es.0 =
      drop_begins old.properties.constraints new.properties.constraints es in
      let further : further_clauses old new ≡ frame_clauses ns.0 es.0 =
      ap (λ l. frame_clauses l
      (drop (length old.properties.constraints) new.properties.constraints)) nodes
      ∙ ap (frame_clauses ns.0) constraints in
      let whole : frame_clauses new.nodes new.properties.constraints ≡ frame_clauses
      (old.nodes ++ ns.0) (old.properties.constraints ++ es.0) =
      ap (λ l. frame_clauses l new.properties.constraints) ns.1
      ∙ ap (frame_clauses (old.nodes ++ ns.0)) es.1 in
      let joined = frames_joined old.nodes ns.0 old.properties.constraints es.0 in (
        λ h. subst (AllByRecursion P) (sym whole)
            (joined.0 (h.0, subst (AllByRecursion P) further h.1)),
        λ h. let p = joined.1 (subst (AllByRecursion P) whole h) in
            (p.0, subst (AllByRecursion P) (sym further) p.1),
      )

  -- the clauses of the steps 0 to k are those of all nodes and constraints
  pub of_all_nodes : (c : Circuit) (k : ℕ)
      → AllByRecursion P (stepwise_clauses c k) ↔ AllByRecursion P
      (frame_clauses (with_steps c k).nodes (with_steps c k).properties.constraints)
  of_all_nodes c zero = (λ h. h, λ h. h)
  of_all_nodes c (suc k) =
      let old = with_steps c k in
      let before = of_all_nodes c k in
      let parts = rec_append P (stepwise_clauses c k) (step_clauses c (suc k)) in
      let more =
      one_further old (with_step c old) (step_begins c old) (constraints_begin c old) in (
        λ h. let p = parts.0 h in more.0 (before.0 p.0, p.1),
        λ h. let p = more.1 h in parts.1 (before.1 p.0, p.1),
      )

-- ---- with further steps

pub goes_on : (c : Circuit) (j k : ℕ) → j ≤ k → GoesOn c j k
goes_on c j k h = record {
  clauses = begins_all (stepwise_clauses c) (λ t. (step_clauses c (suc t), refl)) j k h;
  nodes = begins_all (λ t. (with_steps c t).nodes) (λ t. step_begins c (with_steps c t)) j k h;
}
