use Rattle.aig_base.proofs.Words.{◌≡◌, ℕ, ◌+◌, ◌-◌, ◌*◌, ◌<◌, Bool, false, List, [], ◌∷◌, ◌++◌, drop, get_or, length, replicate, set, take, refl, sym, subst, ap, ◌∙◌, arith, All, sum_by, take-append_seam, length-flat_map}
use Rattle.std.proofs.lemmas.List.Elements.{All-cons, All-nil, All-replicate, All-set}
use Rattle.std.proofs.lemmas.List.Folds.{sum_by-replicate}
use Rattle.std.proofs.lemmas.List.Sums.{sum_by-cons, sum_by-set}
use Rattle.aig_base.specs.declared.logic.literal.Lit.{Lit}
use Rattle.aig_base.specs.Clauses.{AreBelow, lit_to, variable_of}
use Rattle.aig_circuit.proofs.Trees.{kind_at-within}
use Rattle.aig_circuit.specs.declared.node.AigNode.{AigNode}
use Rattle.aig_circuit.specs.declared.node.AigNodeType.TheVariants.{False}
use Rattle.aig_circuit.proofs.Words.{AreNodes, roots_of}
use Rattle.aig_cnf.specs.Marks.{AddsNeededMarks, AreClausesOf}
use Rattle.aig_cnf.proofs.Adding.{AddedDownTo, AddedDownTo-start, AddedDownTo-step, AddedDownTo-all}
use Rattle.aig_cnf.proofs.Marking.{MarkedDownTo, MarkedDownTo-start, MarkedDownTo-step, MarkedDownTo-all, needed_is_marked}
use Rattle.aig_cnf.proofs.Needing.{roots_in_range}
use Rattle.aig_cnf.proofs.needed.find_needed.Goals as goal

-- the one clause of variable 0, and no others
first_below : (m n : ℕ) → 0 < m → All (AreBelow m) (((lit_to 0 false ∷ []) ∷ []) ∷ replicate n [])
first_below m n some =
    All-cons (AreBelow m) ((lit_to 0 false ∷ []) ∷ []) (replicate n [])
    (All-cons (λ (clause : List Lit). All (λ lit. variable_of lit < m) clause) (lit_to 0 false ∷ []) []
    (All-cons (λ lit. variable_of lit < m) (lit_to 0 false) [] some (All-nil (λ lit. variable_of lit < m)))
    (All-nil (λ (clause : List Lit). All (λ lit. variable_of lit < m) clause)))
    (All-replicate (AreBelow m) n [] (All-nil (λ (clause : List Lit). All (λ lit. variable_of lit < m) clause)))

pub loop-id-init : goal.loop-id-init
loop-id-init c =
    let nodes = c.args.circuit.now.nodes in
    let same = c.nodes-nodes.ensures.value in
    let sound = c.nodes-nodes.ensures.circuit.nodes in
    let some : 0 < length nodes = kind_at-within nodes 0 False sound.false_first in
    let marks = c.in_ok-marks.marks.items in
    let none : List (List Lit) = [] in
    let first : List (List (List Lit)) = ((lit_to 0 false ∷ []) ∷ []) ∷ replicate (length nodes - 1) none in
    let rest : sum_by length (replicate (length nodes - 1) none) ≡ (length nodes - 1) * 0 = sum_by-replicate {X = List (List Lit)} length (length nodes - 1) none in
    let one : sum_by length first ≡ 1 + sum_by length (replicate (length nodes - 1) none) = sum_by-cons length ((lit_to 0 false ∷ []) ∷ []) (replicate (length nodes - 1) none) in
    record {
      low = omega (arith, some, ap length same);
      marked = rw same
          (MarkedDownTo-start nodes c.args.optimize (roots_of c.args.circuit.now) marks
          c.in_ok-marks.ensures.count c.in_ok-marks.ensures.exactly);
      lists = first;
      added = rw same
          (AddedDownTo-start nodes c.args.optimize marks first (length nodes) refl some refl);
      below = first_below (length nodes) (length nodes - 1) some;
      total = omega (arith, one, rest);
      few = omega (arith, ap length same);
    }

pub loop-id-preserved : goal.loop-id-preserved
loop-id-preserved c =
    let nodes = c.args.circuit.now.nodes in
    let roots = roots_of c.args.circuit.now in
    let optimize = c.args.optimize in
    let same = c.nodes-nodes.ensures.value in
    let ordered = c.nodes-nodes.ensures.circuit.nodes.ordered in
    let id = c.loop-id.id - 1 in
    let next : c.loop-id.id ≡ id + 1 = omega arith in
    let before = c.loop-id.invariant in
    let items = c.loop-id.marks.items in
    let old = c.deref_mut.result.now in
    let new = c.mark_gate-clauses.new.marks in
    let at : old ≡ items = c.deref_mut.ensures.value in
    let marked : MarkedDownTo nodes optimize roots old (id + 1) =
    rw at (subst (MarkedDownTo nodes optimize roots items) next before.marked) in
    let lists = before.lists in
    let added : AddedDownTo nodes optimize old lists (id + 1) =
    rw at (subst (AddedDownTo nodes optimize items lists) next before.added) in
    let marks =
    subst (λ (ns : List AigNode). AddsNeededMarks ns optimize old new id) same
    c.mark_gate-clauses.ensures.marks in
    let more = c.mark_gate-clauses.ensures.clauses in
    let here =
    subst (λ (ns : List AigNode). AreClausesOf ns optimize (get_or old id false) id more.0) same
    more.3 in
    let len : c.loop-id.marks.len ≡ length new = omega (arith, ap length at) in
    let rest = drop (length new) items in
    let whole : take c.loop-id.marks.len (new ++ rest) ≡ new = rw len (take-append_seam new rest) in
    let own = get_or lists id [] ++ more.0 in
    let after = set lists id own in
    let within : id < length lists = omega (arith, added.count, ap length same) in
    let empty : get_or lists id [] ≡ [] = added.empty id (λ e. absurd (omega (arith, e))) (omega arith) in
    let own_is : own ≡ more.0 = ap (λ xs. xs ++ more.0) empty in
    let sum = sum_by-set length lists id own [] within in
    record {
      low = omega arith;
      marked =
          subst (λ (ms : List Bool). MarkedDownTo nodes optimize roots ms id) (sym whole)
          (MarkedDownTo-step nodes optimize roots old new id ordered marked (omega arith) marks);
      lists = after;
      added =
          subst (λ (ms : List Bool). AddedDownTo nodes optimize ms after id) (sym whole)
          (AddedDownTo-step nodes optimize old new lists after id more.0
          ordered added (λ e. absurd (omega (arith, e))) (omega (arith, ap length same)) marks refl
          here);
      below =
          All-set (AreBelow (length nodes)) lists id own
          (rw own_is (subst (λ (ns : List AigNode). AreBelow (length ns) more.0) same more.2)) before.below;
      total = omega (arith, before.total, sum, ap length empty, ap length own_is, more.1);
      few = omega (arith, before.few, c.mark_gate-clauses.ensures.few);
    }

pub mark_gate-clauses-requires : goal.mark_gate-clauses-requires
mark_gate-clauses-requires c =
    let same = c.nodes-nodes.ensures.value in
    record {
      sound = subst AreNodes (sym same) c.nodes-nodes.ensures.circuit.nodes;
      there = omega (arith, c.loop-id-test.true, c.loop-id.auto.id);
      marks = ap length c.deref_mut.ensures.value ∙ c.loop-id.invariant.marked.count ∙ sym (ap length same);
    }

pub returns : goal.returns
returns c =
    let circuit = c.args.circuit.now in
    let is = c.nodes-nodes.ensures.circuit in
    let nodes = circuit.nodes in
    let roots = roots_of circuit in
    let marks = c.loop-id.marks.items in
    let before = c.loop-id.invariant in
    let some : 0 < length nodes = kind_at-within nodes 0 False is.nodes.false_first in
    let done : c.loop-id.id ≡ 1 = omega (arith, some, before.low, ap length c.nodes-nodes.ensures.value) in
    let marked =
    MarkedDownTo-all nodes c.args.optimize roots marks is.nodes
    (subst (MarkedDownTo nodes c.args.optimize roots marks) done before.marked) in
    let added = subst (AddedDownTo nodes c.args.optimize marks before.lists) done before.added in
    let needed = needed_is_marked nodes c.args.optimize roots marks is.nodes.ordered (roots_in_range circuit is) marked in
    record {
      exactly = record { count = marked.count; exactly = λ n within. (marked.only n, needed n) };
      lists = before.lists;
      has_clauses = AddedDownTo-all circuit c.args.optimize marks before.lists is.nodes (λ n. (marked.only n, needed n)) added;
      below = subst (λ (m : ℕ). All (AreBelow m) before.lists) (sym added.count) before.below;
      count = before.total ∙ sym (length-flat_map (λ clauses. clauses) before.lists);
      few = omega (arith, before.few, done);
    }
