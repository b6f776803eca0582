use Rattle.aig_base.proofs.Words.{◌≡◌, ◌+◌, ◌-◌, ◌<◌, Bool, false, List, ◌++◌, drop, get_or, length, take, refl, sym, subst, ap, ◌∙◌, arith, take-append_seam}
use Rattle.aig_circuit.proofs.Trees.{kind_at-within}
use Rattle.aig_circuit.specs.declared.node.AigNode.{AigNode}
use Rattle.aig_circuit.specs.declared.node.AigNodeType.TheVariants.{False}
use Rattle.aig_circuit.proofs.Words.{AreNodes, roots_of}
use Rattle.aig_cnf.specs.Marks.{AddsNeededMarks, AreClausesOf}
use Rattle.aig_cnf.proofs.Adding.{AddedDownTo, AddedDownTo-start, AddedDownTo-step, AddedDownTo-all}
use Rattle.aig_cnf.proofs.Marking.{MarkedDownTo, MarkedDownTo-start, MarkedDownTo-step, MarkedDownTo-all, needed_is_marked}
use Rattle.aig_cnf.proofs.Needing.{roots_in_range}
use Rattle.aig_cnf.proofs.Fixing.{clauses_fix, node_values_satisfy}
use Rattle.aig_cnf.proofs.cnf.encode.Goals as goal

pub loop-id-init : goal.loop-id-init
loop-id-init c =
    let nodes = c.args.circuit.now.nodes in
    let same = c.nodes-nodes.ensures.value in
    let sound = c.nodes-nodes.ensures.circuit.nodes in
    let some : 0 < length nodes = kind_at-within nodes 0 False sound.false_first in
    let marks = c.in_ok-marks.marks.items in
    record {
      low = omega (arith, some, ap length same);
      marked = rw same
          (MarkedDownTo-start nodes c.args.optimize (roots_of c.args.circuit.now) marks
          c.in_ok-marks.ensures.count c.in_ok-marks.ensures.exactly);
      added = rw same
          (AddedDownTo-start nodes c.args.optimize marks c.in_ok-lists.lists (length nodes) refl some
          (rw same at c.in_ok-lists.ensures));
    }

pub returns-clause-clauses : goal.returns-clause-clauses
returns-clause-clauses c =
    let circuit = c.args.circuit.now in
    let is = c.nodes-nodes.ensures.circuit in
    let nodes = circuit.nodes in
    let roots = roots_of circuit in
    let marks = c.loop-id.marks.items in
    let some : 0 < length nodes = kind_at-within nodes 0 False is.nodes.false_first in
    let done : c.loop-id.id ≡ 1 = omega (arith, some, c.loop-id.invariant.low, ap length c.nodes-nodes.ensures.value) in
    let marked =
    MarkedDownTo-all nodes c.args.optimize roots marks is.nodes
    (subst (MarkedDownTo nodes c.args.optimize roots marks) done c.loop-id.invariant.marked) in
    let added = subst (AddedDownTo nodes c.args.optimize marks c.loop-id.lists) done c.loop-id.invariant.added in
    AddedDownTo-all circuit c.args.optimize marks c.loop-id.lists is.nodes
    (λ n. (
      marked.only n,
      needed_is_marked nodes c.args.optimize roots marks is.nodes.ordered (roots_in_range circuit is) marked n,
    )) added

pub returns-clause-fixes : goal.returns-clause-fixes
returns-clause-fixes c = clauses_fix c.args.circuit.now c.args.optimize c.loop-id.lists c.nodes-nodes.ensures.circuit (returns-clause-clauses c)

pub returns-clause-satisfied : goal.returns-clause-satisfied
returns-clause-satisfied c = node_values_satisfy c.args.circuit.now c.args.optimize c.loop-id.lists c.nodes-nodes.ensures.circuit (returns-clause-clauses c)

pub loop-id-preserved : goal.loop-id-preserved
loop-id-preserved c =
    let nodes = c.args.circuit.now.nodes in
    let roots = roots_of c.args.circuit.now in
    let optimize = c.args.optimize in
    let same = c.nodes-nodes.ensures.value in
    let ordered = c.nodes-nodes.ensures.circuit.nodes.ordered in
    let id = c.loop-id.id - 1 in
    let next : c.loop-id.id ≡ id + 1 = omega arith in
    let before = c.loop-id.invariant in
    let items = c.loop-id.marks.items in
    let old = c.deref_mut.result.now in
    let new = c.add_gate.new.marks in
    let at : old ≡ items = c.deref_mut.ensures.value in
    let marked : MarkedDownTo nodes optimize roots old (id + 1) =
    rw at (subst (MarkedDownTo nodes optimize roots items) next before.marked) in
    let added : AddedDownTo nodes optimize old c.loop-id.lists (id + 1) =
    rw at (subst (AddedDownTo nodes optimize items c.loop-id.lists) next before.added) in
    let marks =
    subst (λ (ns : List AigNode). AddsNeededMarks ns optimize old new id) same
    c.in_ok-add_gate.ensures.marks in
    let more = c.in_ok-add_gate.ensures.clauses in
    let here =
    subst (λ (ns : List AigNode). AreClausesOf ns optimize (get_or old id false) id more.0) same
    more.2 in
    let len : c.loop-id.marks.len ≡ length new = omega (arith, ap length at) in
    let rest = drop (length new) items in
    let whole : take c.loop-id.marks.len (new ++ rest) ≡ new = rw len (take-append_seam new rest) in
    record {
      low = omega arith;
      marked =
          subst (λ (ms : List Bool). MarkedDownTo nodes optimize roots ms id) (sym whole)
          (MarkedDownTo-step nodes optimize roots old new id ordered marked (omega arith) marks);
      added =
          subst (λ (ms : List Bool). AddedDownTo nodes optimize ms c.add_gate.new.lists id) (sym whole)
          (AddedDownTo-step nodes optimize old new c.loop-id.lists c.add_gate.new.lists id more.0
          ordered added (λ e. absurd (omega (arith, e))) (omega (arith, ap length same)) marks more.1
          here);
    }

pub add_gate-requires : goal.add_gate-requires
add_gate-requires c =
    let same = c.nodes-nodes.ensures.value in
    record {
      sound = subst AreNodes (sym same) c.nodes-nodes.ensures.circuit.nodes;
      there = omega (arith, c.loop-id-test.true, c.loop-id.auto.id);
      few = omega (arith, c.requires, ap length same);
      lists = c.loop-id.invariant.added.count ∙ sym (ap length same);
      marks = ap length c.deref_mut.ensures.value ∙ c.loop-id.invariant.marked.count ∙ sym (ap length same);
    }
