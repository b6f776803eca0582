use Rattle.aig_base.proofs.Words.{◌≡◌, ◌∙◌, ◌&&◌, Bool, true, false, Vec, map, ap, sym, subst, arith, err_from_is_err_and, list_all}
use Rattle.std.specs.declared.alloc.Global.{Global}
use Rattle.aig_circuit.specs.declared.node.AigNode.{AigNode}
use Rattle.aig_format.proofs.Words.{circuit_of, File, has_level, is_compact}
use Rattle.aig_lexer.specs.Faults.{Tells, Tested}
use Rattle.aig_ordering.specs.Gates.{nodes_in}
use Rattle.aig_ordering.specs.Numbers.{has_operands, with_numbers}
use Rattle.aig_ordering.specs.Order.{AreOrdered}
use Rattle.aig_ordering.specs.Tables.{AreMarksOf, AreNodesOf, order_cause}
use Rattle.aig_ordering.proofs.NodesIn.{count-gates}
use Rattle.aig_ordering.proofs.Written.{kinds_ordered}
use Rattle.aig_reader.specs.Numbered.{AreNumbersOf, have_operands}
use Rattle.aig_reader.specs.Sections.{HasGoodLines}
use Rattle.aig_reader.proofs.ByLevel.{nodes_are, nodes_known, numbers_are}
use Rattle.aig_reader.proofs.Numbered.{rejudged}
use Rattle.aig_reader.proofs.numbering.number_nodes.Goals as goal
use Rattle.aig_reader.proofs.numbering.number_nodes.Goals.{After-nodes}

module _ (c : After-nodes) (f : File) (good : HasGoodLines f) (are : AreNodesOf f (nodes_in c.args.gates.items)) (marks : AreMarksOf f c.args.marked.now) (well_founded : is_compact f ≡ false) where
  ordered : (list_all (has_level f) f.gates ≡ true) × AreOrdered f c.args.gates.items c.in_ok-numbers.field-0
  ordered = rw c.deref.ensures.value at (c.in_ok-numbers.ensures f (rw c.deref.ensures.value are) marks)

  numbers_judged : AreNumbersOf f c.in_ok-numbers.field-0.numbers.items
  numbers_judged =
      let count = count-gates f c.args.gates.items are in
      numbers_are f good well_founded ordered.0 c.in_ok-numbers.field-0.numbers.items (ordered.1.count ∙ count) (λ v low. ordered.1.numbers v (omega (arith, low, count)))

  nodes_judged : Tested order_cause (have_operands f) (λ new. new.items ≡ (circuit_of f).nodes) c.nodes.result
  nodes_judged =
      let table = c.in_ok-numbers.field-0.numbers.items in
      let sorted = c.in_ok-numbers.field-0.gates.items in
      let kinds = kinds_ordered f c.args.gates.items are sorted ordered.1.gates in
      rejudged (list_all (λ (node : AigNode). has_operands table node.typ) (nodes_in sorted)) (have_operands f) (λ (new : Vec AigNode Global). new.items ≡ map (with_numbers table) (nodes_in sorted)) (λ new. new.items ≡ (circuit_of f).nodes)
      (nodes_known f table numbers_judged good well_founded ordered.0 sorted kinds)
      (λ new passed is. is ∙ nodes_are f table numbers_judged good well_founded ordered.0 sorted kinds passed) c.nodes.result (rw (c.deref-2.ensures.value, c.deref-3.ensures.value) at c.nodes.ensures)

pub returns-in_err-nodes : goal.returns-in_err-nodes
returns-in_err-nodes c = λ f good are marks well_founded.
    let here = (goal.at.returns-in_err-nodes c).After-nodes in
    let p = err_from_is_err_and c.from_residual-in_err-nodes.result c.from_residual-in_err-nodes.ensures.1 in
    let e = c.in_err-nodes.field-0.0 in
    let no : Tells (order_cause e) (have_operands f ≡ false) false = subst (Tested order_cause (have_operands f) (λ (new : Vec AigNode Global). new.items ≡ (circuit_of f).nodes)) c.in_err-nodes.was (nodes_judged here f good are marks well_founded) in
    rw (p.1, p.2) (subst (λ (b : Bool). Tells (order_cause e) (b && have_operands f ≡ false) false) (sym (ordered here f good are marks well_founded).0) no)

pub returns : goal.returns
returns c = λ f good are marks well_founded.
    let here = (goal.at.returns c).After-nodes in
    let made = subst (Tested order_cause (have_operands f) (λ (new : Vec AigNode Global). new.items ≡ (circuit_of f).nodes)) c.in_ok-nodes.was (nodes_judged here f good are marks well_founded) in
    (ap (λ (b : Bool). b && have_operands f) (ordered here f good are marks well_founded).0 ∙ made.0, (made.1, numbers_judged here f good are marks well_founded))
