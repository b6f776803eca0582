use Rattle.aig_base.proofs.Words.{ℕ, length, ap, sym, subst, arith, All}
use Rattle.aig_reader.specs.Gates.{AreFirstNodes, HoldsPending}
use Rattle.aig_reader.proofs.TableEntries.{HasSmall, small_nodes}
use Rattle.aig_reader.proofs.gate_store.GateStore.into_table.Goals as goal

pub new-requires : goal.new-requires
new-requires c =
    let h = rw c.in-InOrder.is at c.requires.3 in
    subst (All HasSmall) (sym c.deref.ensures.value) (small_nodes c.requires.2 c.in-InOrder.rising h.form h.nodes.0)

pub returns-in_ok-new-in-InOrder : goal.returns-in_ok-new-in-InOrder
returns-in_ok-new-in-InOrder c = λ greatest leaves gates same h.
    let nodes = c.in-InOrder.rising.nodes in
    let placed = rw c.in-InOrder.is at h in
    let all = c.deref.ensures.value in
    c.into_entries.ensures gates
    (c.in_ok-new-in-InOrder.ensures c.args.len gates (subst (AreFirstNodes gates) (sym all) placed.nodes.0) (omega (arith, same, ap length all, placed.nodes.1, nodes.ok)))

pub returns-in-Shuffled : goal.returns-in-Shuffled
returns-in-Shuffled c = λ greatest leaves gates same h.
    let placed = rw c.in-Shuffled.is at h in
    c.into_entries-in-Shuffled.ensures gates (subst (λ (size : ℕ). HoldsPending size gates c.in-Shuffled.table) (sym same) placed.nodes)
