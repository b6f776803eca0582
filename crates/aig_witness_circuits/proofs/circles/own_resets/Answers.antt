use Rattle.aig_witness_circuits.proofs.Words.{AigEdge, AigLatch, All, AreResets, HoldsResets, IsLatch, Leaf, List, None, Option, ap, arith, get_or, kind_at-within, length, length-replicate, replicate, subst, sym, take_at, ◌∙◌, ◌≡◌}
use Rattle.aig_witness_circuits.proofs.Constant.{AreApart, own_apart}
use Rattle.aig_witness_circuits.proofs.First.{none_alone}
use Rattle.aig_witness_circuits.proofs.Resets.{are_resets}
use Rattle.aig_witness_circuits.proofs.circles.own_resets.Goals as goal

pub write_resets-requires-clause-leaves : goal.write_resets-requires-clause-leaves
write_resets-requires-clause-leaves c =
    let witness = c.args.witness.now in
    let shared = c.args.shared.now in
    let count = length c.nodes.result.now in
    let none : List (Option AigEdge) = replicate count None in
    let table : c.deref_mut.result.now ≡ none =
    c.deref_mut.ensures.value ∙ c.in_ok-resets.ensures.items_if_clones_equal (none_alone _ (λ n h.
    h)) in
    let long : length c.deref_mut.result.now ≡ length witness.nodes =
    ap length table ∙ length-replicate count None ∙ ap length c.nodes.ensures.value in
    λ k d h.
    let own = get_or c.deref.result.now k d in
    omega (
      arith,
      long,
      kind_at-within witness.nodes own.input Leaf
          (subst (All (IsLatch witness.nodes)) (sym c.deref.ensures.value)
          c.in_ok-own.ensures.latchs k d
          h).leaf,
    )

pub write_resets-requires-clause-apart : goal.write_resets-requires-clause-apart
write_resets-requires-clause-apart c =
    subst AreApart (sym (c.deref.ensures.value ∙ c.in_ok-own.ensures.exact))
    (own_apart c.args.shared.now c.args.witness.now c.nodes.ensures.circuit)

pub returns : goal.returns
returns c =
    let witness = c.args.witness.now in
    let shared = c.args.shared.now in
    let new = c.write_resets.new.resets in
    let count = length c.nodes.result.now in
    let none : List (Option AigEdge) = replicate count None in
    let listed = c.deref.ensures.value ∙ c.in_ok-own.ensures.exact in
    let table : c.deref_mut.result.now ≡ none =
    c.deref_mut.ensures.value ∙ c.in_ok-resets.ensures.items_if_clones_equal (none_alone _ (λ n h.
    h)) in
    let long : length new ≡ c.in_ok-resets.resets.len = omega (
      arith,
      c.write_resets.auto.resets,
      c.in_ok-resets.resets.ok.0,
      ap length c.deref_mut.ensures.value,
    ) in
    subst (AreResets shared witness) (sym (take_at new _ c.in_ok-resets.resets.len long))
    (are_resets shared witness new
    (subst (λ (ls : List AigLatch). HoldsResets ls new) listed c.write_resets.ensures)
    (c.write_resets.auto.resets
    ∙ ap length table
    ∙ length-replicate count None
    ∙ ap length c.nodes.ensures.value))
