use Rattle.aig_base.proofs.Words.{◌<◌, ◌∙◌, subst, sym}
use Rattle.std.proofs.lemmas.Result.{IfOk-weaker}
use Rattle.aig.proofs.Results.{IfOk_both}
use Rattle.aig_handles.proofs.cones.cone_of.Goals as goal

pub returns : goal.returns
returns c =
    let all = c.num_nodes.ensures.value in
    IfOk-weaker c.marks_of.result _ _
    (λ v told. record {
      count = told.0 ∙ all;
      exactly = λ n lt.
          let here = told.1 n (subst (λ k. n < k) (sym all) lt) in
          let cone = c.in_ok-cone.ensures n in
          (λ is. cone.0 (here.0 is), λ is. here.1 (cone.1 is));
    })
    (IfOk_both c.marks_of.result _ _ c.marks_of.ensures.count c.marks_of.ensures.marks)
