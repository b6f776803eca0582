use Rattle.aig_reader.specs.declared.table.PendingGate.{PendingGate}
use Rattle.aig_reader.proofs.Waiting.{all_placed, placed, placing_next, placing_none}
use Rattle.aig_reader.proofs.table.Table.place_pending.Goals as goal

abbrev none : PendingGate
none = record { lhs = 0; operands = record { rhs0 = 0; rhs1 = 0 } }

pub loop-gate-init : goal.loop-gate-init
loop-gate-init c = λ size front nodes new space within. placing_none size front c.deref-gate-items.result.now c.args.self.now.entries nodes new space

pub loop-gate-preserved : goal.loop-gate-preserved
loop-gate-preserved c = λ size front nodes new space within.
    let items = c.deref-gate-items.result.now in
    let h = c.loop-gate.invariant size front nodes new space within in
    placing_next size front items c.loop-gate.gate-index c.loop-gate-test.true none c.loop-gate.entries c.put_operands.new.entries h within (c.in_ok-put_operands.ensures size (placed size front items c.loop-gate.gate-index) h.nodes h.space)

pub returns-clause-held : goal.returns-clause-held
returns-clause-held c = λ size gates h. all_placed size gates c.args.self.now _ c.deref-gate-items.result.now c.loop-gate.gate-index h c.deref-gate-items.ensures.value (λ new within. c.loop-gate.invariant size h.front h.nodes new h.space within) c.loop-gate-test.false c.clear.ensures.items
