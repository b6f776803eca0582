use Rattle.aig_base.proofs.Words.{◌+◌, ◌++◌, ◌∷◌, [], ℕ, get_or, map, take, sym, ap, ◌∙◌, append_assoc, arith, map_more, take_all}
use Rattle.aig_base.proofs.logic.far_clauses.append_shifted.Goals as goal

pub loop-end-preserved : goal.loop-end-preserved
loop-end-preserved c =
    let before = c.args.ends.now.items in
    let shifted : ℕ → ℕ = λ end. c.args.by + end in
    let done = map shifted (take c.loop-end.end-index c.args.others.now) in
    let last = shifted (get_or c.args.others.now c.loop-end.end-index 0) in
    record {
      so_far =
          c.push_reserved.ensures.items
          ∙ ap (λ ends. ends ++ last ∷ []) c.loop-end.invariant.so_far
          ∙ append_assoc before done (last ∷ [])
          ∙ ap (λ ends. before ++ ends) (sym (map_more shifted c.args.others.now c.loop-end.end-index 0 c.loop-end-test.true));
      room = omega arith;
    }

pub returns : goal.returns
returns c =
    c.loop-end.invariant.so_far
    ∙ ap (λ ends. c.args.ends.now.items ++ map (λ end. c.args.by + end) ends) (take_all c.loop-end.end-index c.args.others.now c.loop-end-test.false)
