use Rattle.aig_base.proofs.Words.{◌++◌, ◌∷◌, [], map, take, sym, ap, ◌∙◌, arith, map_more, take_all}
use Rattle.aig_base.specs.Clauses.{inverse_lit}
use Rattle.aig_base.proofs.logic.clauses.with_inverses.Goals as goal

pub loop-lit-init : goal.loop-lit-init
loop-lit-init c = record {
  so_far = c.push_reserved.ensures.items ∙ ap (λ lits. lits ++ c.args.first ∷ []) c.in_ok-clause.ensures.items;
  room = omega (arith, c.in_ok-clause.ensures.capacity, c.in_ok-clause.ensures.len);
}

pub loop-lit-preserved : goal.loop-lit-preserved
loop-lit-preserved c =
    let first = c.args.first in
    let done = map inverse_lit (take c.loop-lit.lit-index c.args.others.now) in
    record {
      so_far =
          c.push_reserved-in-loop-lit.ensures.items
          ∙ ap (λ lits. lits ++ c.not.result ∷ []) c.loop-lit.invariant.so_far
          ∙ ap (λ last. first ∷ (done ++ last ∷ [])) c.not.ensures
          ∙ ap (λ lits. first ∷ lits) (sym (map_more inverse_lit c.args.others.now c.loop-lit.lit-index _ c.loop-lit-test.true));
      room = omega arith;
    }

pub returns : goal.returns
returns c =
    c.loop-lit.invariant.so_far
    ∙ ap (λ lits. c.args.first ∷ map inverse_lit lits) (take_all c.loop-lit.lit-index c.args.others.now c.loop-lit-test.false)
