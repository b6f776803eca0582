use Rattle.aig_base.proofs.Words.{◌≡◌, ◌∙◌, ◌-◌, ◌++◌, List, ap, arith, drop, drop_all, length, length-drop, refl, subst, sym, take, take_rest}
use Rattle.std.specs.Vec.{with_items}
use Rattle.aig_circuit.specs.declared.node.AigLatch.{AigLatch}
use Rattle.aig_circuit.proofs.Words.{IsCircuit, lists_circuit}
use Rattle.aig_change.specs.Changes.{ConstrainsInits}
use Rattle.aig_join.specs.Alike.{started_miter}
use Rattle.aig_join.proofs.Started.{IsCircuit-started, all_started, latches-written, places-count}
use Rattle.aig_join.proofs.alike.miter_alike.Goals as goal
use Rattle.aig_join.proofs.alike.miter_alike.Goals.{After-deref, After-start_with}

-- the latches that are started
rest : (c : After-deref) → take (length c.deref_mut.result.now - length c.latchs.result.now)
    (drop (length c.latchs.result.now) c.deref_mut.result.now)
    ≡ drop (length c.args.a.now.latchs) c.in_ok-lists.lists.latchs.items
rest c = take_rest c.deref_mut.result.now (length c.latchs.result.now)
    ∙ (λ i. drop (length (c.latchs.ensures.value i)) (c.deref_mut.ensures.value i))

pub start_with-requires : goal.start_with-requires
start_with-requires c =
    ap length (c.deref.ensures.value ∙ c.in_ok-places.ensures)
    ∙ places-count c.args.matching c.args.a.now c.args.b.now (lists_circuit c.in_ok-lists.lists)
    c.latchs.ensures.circuit c.in_ok-lists.ensures.circuit c.in_ok-lists.ensures.miter
    ∙ ap length (sym (rest c))

-- the latches after that, whatever stands past them
written : (c : After-start_with) (post : List AigLatch)
    → post
    ≡ drop (length c.deref_mut.result.now - length c.latchs.result.now)
    (drop (length c.latchs.result.now) c.deref_mut.result.now)
    → (let all = take (length c.latchs.result.now) c.deref_mut.result.now
    ++ (c.start_with.new.latchs ++ post) in
    (with_items c.in_ok-lists.lists.latchs all).items)
    ≡ (started_miter c.args.matching c.args.a.now c.args.b.now
    (lists_circuit c.in_ok-lists.lists)).latchs
written c post past =
    let all = c.deref_mut.result.now in
    latches-written c.args.matching c.args.a.now c.args.b.now (lists_circuit c.in_ok-lists.lists)
    c.latchs.ensures.circuit c.in_ok-lists.ensures.circuit c.in_ok-lists.ensures.miter
    c.in_ok-lists.lists.latchs refl (take (length c.latchs.result.now) all) c.start_with.new.latchs
    post
    (λ i. take (length (c.latchs.ensures.value i)) (c.deref_mut.ensures.value i))
    (c.start_with.ensures
    ∙ (λ i. all_started ((c.deref.ensures.value ∙ c.in_ok-places.ensures) i)
    (rest (goal.at.After-start_with c).After-deref i)))
    (past ∙ drop_all (length all - length c.latchs.result.now)
    (drop (length c.latchs.result.now) all)
    (omega (arith, length-drop (length c.latchs.result.now) all)))

pub gate_init_to_constraint-requires : goal.gate_init_to_constraint-requires
gate_init_to_constraint-requires c =
    let lists = lists_circuit c.in_ok-lists.lists in
    subst IsCircuit
    (sym (ap (λ (latchs : List AigLatch). record lists { latchs = latchs })
    (written (goal.at.gate_init_to_constraint-requires c).After-start_with _ refl)))
    (IsCircuit-started c.args.matching c.args.a.now c.args.b.now lists
    c.latchs.ensures.circuit c.in_ok-lists.ensures.circuit c.in_ok-lists.ensures.miter)

pub returns-clause-miter : goal.returns-clause-miter
returns-clause-miter c =
    let lists = lists_circuit c.in_ok-lists.lists in
    record {
      plain = lists;
      miter = c.in_ok-lists.ensures.miter;
      constrains = subst
          (λ old. ConstrainsInits old (lists_circuit c.gate_init_to_constraint.new.lists))
          (ap (λ (latchs : List AigLatch). record lists { latchs = latchs })
          (written (goal.at.returns-clause-miter c).After-start_with _ refl))
          c.in_ok-gate_init_to_constraint.ensures.starts;
    }
