use Rattle.aig_witness_circuits.proofs.Words.{AigNode, IfOk-weaker, List, None, ap, ap₂, arith, frame_to, fun_ext, given_at, image_at, length, model_leaf, next_leaves, option_map, option_or, or-none, replicate, take_at, ℕ, ◌∙◌, ◌≡◌}
use Rattle.aig_witness_circuits.proofs.First.{none_alone, nothing_given}
use Rattle.aig_witness_circuits.proofs.Framed.{given, given_all}
use Rattle.aig_witness_circuits.proofs.frames.copy_circuit.Goals as goal
use Rattle.aig_witness_circuits.proofs.frames.copy_circuit.Goals.{After-deref}

-- what the table holds where it is read
held : (c : After-deref) → (n : ℕ)
    → given_at c.deref.result.now n
    ≡ given c.args.latchs.now c.args.before.now c.args.shared.now c.args.others.now n
held c n =
    let count = length c.nodes.result.now in
    let one = c.give_next.new.given in
    let two = c.give_shared.new.given in
    let none : c.deref_mut.result.now ≡ replicate count None =
    c.deref_mut.ensures.value ∙ c.in_ok-given.ensures.items_if_clones_equal (none_alone _ (λ n h.
    h)) in
    let long : length one ≡ c.in_ok-given.given.len = omega (
      arith,
      c.give_next.auto.given,
      c.in_ok-given.given.ok.0,
      ap length c.deref_mut.ensures.value,
    ) in
    let next : c.deref_mut-2.result.now ≡ one =
    c.deref_mut-2.ensures.value ∙ take_at one _ c.in_ok-given.given.len long in
    let longer : length two ≡ c.in_ok-given.given.len = omega (
      arith,
      c.give_shared.auto.given,
      ap length next,
      long,
    ) in
    let leaves = next_leaves c.args.latchs.now c.args.before.now n in
    ap (λ l. given_at l n) (c.deref.ensures.value ∙ take_at two _ c.in_ok-given.given.len longer)
    ∙ c.give_shared.ensures n
    ∙ ap (option_or (option_map (image_at c.args.others.now) (model_leaf c.args.shared.now n)))
    (ap (λ l. given_at l n) next
    ∙ c.give_next.ensures n
    ∙ ap (option_or leaves) (ap (λ l. given_at l n) none ∙ nothing_given count n)
    ∙ or-none leaves)

pub copy_nodes-requires-clause-there : goal.copy_nodes-requires-clause-there
copy_nodes-requires-clause-there c =
    given_all c.args.latchs.now c.args.before.now c.args.shared.now c.args.others.now
    c.args.nodes.now.items c.requires.next c.requires.others c.deref.result.now (held c)

pub returns-clause-exact : goal.returns-clause-exact
returns-clause-exact c =
    let old = c.args.nodes.now.items in
    IfOk-weaker c.copy_nodes.result _ _
    (λ images exact.
    exact
    ∙ ap₂ (λ (source : List AigNode) table. frame_to source table old (length source))
    c.nodes-2.ensures.value
    (fun_ext (held ((goal.at.returns-clause-exact c).After-deref)))) c.copy_nodes.ensures.exact
