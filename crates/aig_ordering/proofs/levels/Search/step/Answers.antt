use Rattle.aig_base.proofs.Words.{◌<◌, ◌+◌, ◌^◌, ℕ, false, length, refl, sym, ap, subst, ◌∙◌, arith, err_from_is_err_and}
use Rattle.aig_circuit.specs.Node.{IfAnd}
use Rattle.aig_lexer.proofs.Faults.{tells-weaker}
use Rattle.aig_ordering.specs.Gates.{kind_of_operands, nodes_in}
use Rattle.aig_ordering.specs.Tables.{order_cause}
use Rattle.aig_ordering.proofs.NodesIn.{count-gates, kind_read}
use Rattle.aig_ordering.proofs.Searching.{at_operand, cycle, kind_within, level_right, level_small, operand_below, opening_is_work, settled}
use Rattle.aig_ordering.proofs.levels.Search.step.Goals as goal

pub task_of-requires-clause-operands : goal.task_of-requires-clause-operands
task_of-requires-clause-operands c =
    let f = c.requires.nodes.0 in
    let nodes = nodes_in c.args.gates.now in
    let are = c.requires.nodes.1 in
    let kind = kind_read f c.args.gates.now are c.args.variable c.index-gates-variable.result c.index-gates-variable.is c.requires.within in
    subst (λ (k : ℕ). IfAnd (kind_of_operands c.args.variable c.index-gates-variable.result) (λ n. n < k)) (sym (ap length c.deref.ensures.value ∙ (c.requires.at f are).search.levels)) (kind_within f nodes are c.args.variable (kind_of_operands c.args.variable c.index-gates-variable.result) kind)

pub task_of-requires-clause-small : goal.task_of-requires-clause-small
task_of-requires-clause-small c = λ level is.
    let f = c.requires.nodes.0 in
    let nodes = nodes_in c.args.gates.now in
    let are = c.requires.nodes.1 in
    let kind = kind_read f c.args.gates.now are c.args.variable c.index-gates-variable.result c.index-gates-variable.is c.requires.within in
    let right = level_right f nodes are c.args.variable (kind_of_operands c.args.variable c.index-gates-variable.result) kind c.args.self.now.levels.items level (c.requires.at f are).search.right (rw c.deref.ensures.value at is) in
    omega (arith, level_small f nodes are c.args.variable level right, count-gates f c.args.gates.now are, c.requires.few)

pub open-requires : goal.open-requires
open-requires c =
    let f = c.requires.nodes.0 in
    let nodes = nodes_in c.args.gates.now in
    let are = c.requires.nodes.1 in
    let opened = c.args.self.now.opened in
    let kind = kind_read f c.args.gates.now are c.args.variable c.index-gates-variable.result c.index-gates-variable.is c.requires.within in
    let below = operand_below f nodes are c.args.variable (kind_of_operands c.args.variable c.index-gates-variable.result) kind c.in-Operand.operand c.in-Operand.ensures.0 in
    omega (arith, below.0, (c.requires.at f are).search.opened, opened.ok.0)

pub returns-in_err-open-in-Operand-clause-at : goal.returns-in_err-open-in-Operand-clause-at
returns-in_err-open-in-Operand-clause-at c = λ f are.
    let nodes = nodes_in c.args.gates.now in
    let at = c.requires.at f are in
    let kind = kind_read f c.args.gates.now are c.args.variable c.index-gates-variable.result c.index-gates-variable.is c.requires.within in
    let below = operand_below f nodes are c.args.variable (kind_of_operands c.args.variable c.index-gates-variable.result) kind c.in-Operand.operand c.in-Operand.ensures.0 in
    let unknown = rw c.deref.ensures.value at c.in-Operand.ensures.1 in
    let p = err_from_is_err_and c.from_residual.result c.from_residual.ensures.1 in
    rw (p.1, p.2) (tells-weaker (order_cause c.in_err-open-in-Operand.field-0.0) _ _ false (λ marked. cycle f nodes are c.args.self.now c.args.variable c.in-Operand.operand at below.1 marked unknown) c.in_err-open-in-Operand.ensures.err)

pub returns-in_ok-open-in-Operand-clause-at : goal.returns-in_ok-open-in-Operand-clause-at
returns-in_ok-open-in-Operand-clause-at c = λ f are.
    let nodes = nodes_in c.args.gates.now in
    let kind = kind_read f c.args.gates.now are c.args.variable c.index-gates-variable.result c.index-gates-variable.is c.requires.within in
    let below = operand_below f nodes are c.args.variable (kind_of_operands c.args.variable c.index-gates-variable.result) kind c.in-Operand.operand c.in-Operand.ensures.0 in
    let ok = c.in_ok-open-in-Operand.ensures.ok in
    rw ok.0 (at_operand f nodes are c.args.self.now c.open.new.self c.args.variable c.in-Operand.operand (c.requires.at f are) below.1 below.0 ok.1)

pub returns-in_ok-open-in-Operand-clause-fewer : goal.returns-in_ok-open-in-Operand-clause-fewer
returns-in_ok-open-in-Operand-clause-fewer c =
    let f = c.requires.nodes.0 in
    let nodes = nodes_in c.args.gates.now in
    let are = c.requires.nodes.1 in
    let kind = kind_read f c.args.gates.now are c.args.variable c.index-gates-variable.result c.index-gates-variable.is c.requires.within in
    let below = operand_below f nodes are c.args.variable (kind_of_operands c.args.variable c.index-gates-variable.result) kind c.in-Operand.operand c.in-Operand.ensures.0 in
    opening_is_work c.args.self.now c.open.new.self c.args.variable c.in-Operand.operand (omega (arith, below.0, (c.requires.at f are).search.opened)) c.in_ok-open-in-Operand.ensures.ok.1

pub returns-in-Level-clause-at : goal.returns-in-Level-clause-at
returns-in-Level-clause-at c = λ f are.
    let nodes = nodes_in c.args.gates.now in
    let s = c.args.self.now in
    let at = c.requires.at f are in
    let kind = kind_read f c.args.gates.now are c.args.variable c.index-gates-variable.result c.index-gates-variable.is c.requires.within in
    let right = level_right f nodes are c.args.variable (kind_of_operands c.args.variable c.index-gates-variable.result) kind s.levels.items c.in-Level.level at.search.right (rw c.deref.ensures.value at c.in-Level.ensures) in
    settled f nodes are s _ c.args.variable c.in-Level.level at refl refl right c.pop.result c.pop.ensures.items (λ some. c.pop.ensures.variant.1 (omega (arith, some, s.path.ok.0)))

pub overflow_add-level : goal.overflow_add-level
overflow_add-level c =
    let f = c.requires.nodes.0 in
    let nodes = nodes_in c.args.gates.now in
    let are = c.requires.nodes.1 in
    let kind = kind_read f c.args.gates.now are c.args.variable c.index-gates-variable.result c.index-gates-variable.is c.requires.within in
    let right = level_right f nodes are c.args.variable (kind_of_operands c.args.variable c.index-gates-variable.result) kind c.args.self.now.levels.items c.in-Level.level (c.requires.at f are).search.right (rw c.deref.ensures.value at c.in-Level.ensures) in
    let fits : c.in-Level.level + 1 < 2 ^ 32 = omega (arith, level_small f nodes are c.args.variable c.in-Level.level right, count-gates f c.args.gates.now are, c.requires.few) in
    omega arith
