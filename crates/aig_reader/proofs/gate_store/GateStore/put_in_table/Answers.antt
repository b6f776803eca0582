use Rattle.aig_base.proofs.Words.{◌+◌, length, ap, sym, subst, arith, All}
use Rattle.aig_reader.specs.Gates.{AreFirstNodes}
use Rattle.aig_reader.proofs.TableEntries.{HasSmall, small_nodes}
use Rattle.aig_reader.proofs.gate_store.GateStore.put_in_table.Goals as goal

pub new-requires : goal.new-requires
new-requires c =
    let h = rw c.in-InOrder.is at c.requires.3 in
    subst (All HasSmall) (sym c.deref.ensures.value) (small_nodes c.requires.2 c.in-InOrder.rising h.form h.nodes.0)

pub returns-in_ok-table-in-InOrder : goal.returns-in_ok-table-in-InOrder
returns-in_ok-table-in-InOrder c = λ greatest leaves before h new own high.
    let rising = c.in-InOrder.rising in
    let placed = rw c.in-InOrder.is at h in
    let all = c.deref.ensures.value in
    let made = c.in_ok-table-in-InOrder.ensures (greatest + 1) before (subst (AreFirstNodes before) (sym all) placed.nodes.0) (omega (arith, ap length all, placed.nodes.1, rising.nodes.ok)) in
    c.push-pushed.ensures.held (greatest + 1) before made new own (omega (arith, high))

pub returns-in-Shuffled : goal.returns-in-Shuffled
returns-in-Shuffled c = λ greatest leaves before h new own high.
    let placed = rw c.in-Shuffled.is at h in
    c.push.ensures.held (greatest + 1) before placed.nodes new own (omega (arith, high))
