use Rattle.aig_base.proofs.Words.{◌+◌, ◌∷◌, ◌++◌, [], ℕ, List, arith, inl, inr, on_ok_weaker}
use Rattle.aig_format.specs.File.{GateLine}
use Rattle.aig_reader.specs.declared.gate_store.GateStore.{GateStore}
use Rattle.aig_reader.specs.declared.gate_store.GateStore.TheVariants as held
use Rattle.aig_reader.specs.declared.table.Table.{Table}
use Rattle.aig_reader.specs.Gates.{AreInTable, ArePlaced, HoldsPending, line_of}
use Rattle.aig_reader.proofs.GateLines.{passes_over, is_increasing_no_more, is_increasing_still, still_in_table}
use Rattle.aig_reader.proofs.gate_store.GateStore.put.Goals as goal

-- what holds of each table with these gates holds of where they are
in_table : (P : GateStore → Type 0) (size : ℕ) (gates : List GateLine) (now : GateStore)
    → AreInTable size gates now
    → ((table : Table) → HoldsPending size gates table → P (held.Shuffled table)) → P now
in_table P size gates (held.InOrder rising) none each = absurd none
in_table P size gates (held.Shuffled table) holds each = each table holds

pub returns-then-is_next : goal.returns-then-is_next
returns-then-is_next c = λ kind greatest leaves before h defined new own high.
    let rising = c.in-InOrder.rising in
    let placed = rw c.in-InOrder.is at h in
    let next = rw c.if-is_next.true at c.is_next.ensures in
    on_ok_weaker c.put.result
    (λ now. is_increasing_still greatest leaves before c.args.lhs c.args.operands own rising c.put.new.self placed next now.0 now.1 (omega arith, omega arith))
    (c.put.ensures (greatest + 1) before placed.nodes new own (omega (arith, high)))

pub returns-else-is_next : goal.returns-else-is_next
returns-else-is_next c = λ kind greatest leaves before h defined new own high.
    let rising = c.in-InOrder.rising in
    let placed = rw c.in-InOrder.is at h in
    let some = placed.nodes.0.some in
    let gates = before ++ line_of c.args.lhs c.args.operands ∷ [] in
    on_ok_weaker c.put_in_table.result
    (λ now. in_table (ArePlaced greatest leaves gates) (greatest + 1) gates c.put_in_table.new.self now
    (λ table holds. elim (rw c.if-is_next.false at c.is_next.ensures) [
      | inl other ↦ is_increasing_no_more greatest leaves before c.args.lhs c.args.operands own rising table placed other holds
      | inr p ↦ passes_over greatest leaves before c.args.lhs c.args.operands own kind c.args.variables.now p.0 table defined (omega (arith, p.1, some, rising.nodes.ok)) p.2 p.3 holds
    ]))
    (c.put_in_table.ensures greatest leaves before placed new own high)

pub returns-in-Shuffled : goal.returns-in-Shuffled
returns-in-Shuffled c = λ kind greatest leaves before h defined new own high.
    let placed = rw c.in-Shuffled.is at h in
    on_ok_weaker c.push.result (still_in_table greatest leaves before c.args.lhs c.args.operands own c.in-Shuffled.table c.push.new.self placed)
    (c.push.ensures.held (greatest + 1) before placed.nodes new own (omega (arith, high)))
