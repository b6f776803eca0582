use Rattle.aig_base.proofs.Words.{◌≡◌, ◌∙◌, length, length-map, sym, ap, subst}
use Rattle.std.specs.Prelude.{Vec}
use Rattle.std.specs.declared.alloc.Global.{Global}
use Rattle.aig_base.specs.declared.logic.three.Lbool.{Lbool}
use Rattle.aig_witness.specs.Witness.{rows_of, said_by}
use Rattle.aig_witness.specs.Lassos.{IsSameKnown, state_before}
use Rattle.aig_witness.proofs.fair.circuit.check_lasso.Goals as goal

pub find_loop-requires-clause-end : goal.find_loop-requires-clause-end
find_loop-requires-clause-end c = ap length c.deref-2.ensures.value ∙ c.in_ok-end.ensures.long

pub returns-in-None : goal.returns-in-None
returns-in-None c =
    let circuit = c.args.circuit.now in
    let w = said_by c.args.witness.now in
    let steps = c.args.witness.now.steps.items in
    let many : length (rows_of steps) ≡ length steps = length-map steps
    (λ (list : Vec Lbool Global). list.items) in
    let end = c.deref-2.ensures.value ∙ c.in_ok-end.ensures.end ∙ ap (state_before circuit w)
    (sym many) in
    let none = rw c.in-None.is at c.in_ok-find_loop.ensures in (
      c.in_ok-check_start.ensures.ok,
      c.in_ok-end.ensures.steps,
      λ t h again. none t h (subst (IsSameKnown (state_before circuit w t)) (sym end) again),
    )

pub check_fair-requires-clause-loop_start : goal.check_fair-requires-clause-loop_start
check_fair-requires-clause-loop_start c =
    let circuit = c.args.circuit.now in
    let w = said_by c.args.witness.now in
    let steps = c.args.witness.now.steps.items in
    let many : length (rows_of steps) ≡ length steps = length-map steps
    (λ (list : Vec Lbool Global). list.items) in
    let end = c.deref-2.ensures.value ∙ c.in_ok-end.ensures.end ∙ ap (state_before circuit w)
    (sym many) in
    let found = rw c.in-Some.is at c.in_ok-find_loop.ensures in
    record {
      within = found.0;
      again = subst (IsSameKnown (state_before circuit w c.in-Some.start)) end found.1;
      first = λ t h again. found.2 t h (subst (IsSameKnown (state_before circuit w t)) (sym end)
          again);
    }
