use Rattle.aig_base.proofs.Words.{List, subst, arith, on_ok_weaker}
use Rattle.aig_circuit.specs.declared.node.AigNode.{AigNode}
use Rattle.aig_circuit.specs.Reach.{IsFanin}
use Rattle.aig_cone.specs.Marks.{Visits}
use Rattle.aig_cone.proofs.Searching.{Visits-before, next_within}
use Rattle.aig_cone.proofs.search.visit_before.Goals as goal

pub visit_next-requires-clause-within : goal.visit_next-requires-clause-within
visit_next-requires-clause-within c m h = omega (arith, next_within c.args.circuit.now c.args.next_states.now c.requires.circuit c.requires.table c.args.id m h)

pub returns : goal.returns
returns c =
    on_ok_weaker c.visit_next.result
    (Visits-before c.args.circuit.now c.args.next_states.now c.requires.table c.args.id c.args.marks.now c.visit_operands.new.marks c.visit_next.new.marks c.args.stack.now.items c.visit_operands.new.stack.items c.visit_next.new.stack.items
    (subst (λ (nodes : List AigNode). Visits c.args.marks.now c.visit_operands.new.marks c.args.stack.now.items c.visit_operands.new.stack.items (IsFanin nodes c.args.id)) c.nodes.ensures.value c.in_ok-visit_operands.ensures))
    c.visit_next.ensures
