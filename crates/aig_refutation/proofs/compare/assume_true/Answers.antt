use Rattle.aig_base.proofs.Words.{◌<◌, length, get_or, take, true, sym, ap, ◌∙◌, arith, fun_ext, length-set, take_more}
use Rattle.aig_base.specs.declared.logic.literal.Lit.{Lit}
use Rattle.aig_base.specs.Clauses.{number_of_lit}
use Rattle.aig_refutation.specs.Propagation.{also, has, marked}
use Rattle.aig_refutation.proofs.Literals.{marked_also, number-fits}
use Rattle.aig_refutation.proofs.Once.{has_more}
use Rattle.aig_refutation.proofs.compare.assume_true.Goals as goal

pub loop-lit-preserved : goal.loop-lit-preserved
loop-lit-preserved c =
    let clause = c.args.clause.now in
    let i = c.loop-lit.lit-index in
    let zero_lit : Lit = record { code = 0 } in
    let lit = get_or clause i zero_lit in
    let marks = c.loop-lit.marks in
    let there = c.loop-lit-test.true in
    let before = c.loop-lit.invariant in
    let fits : number_of_lit lit < length marks = omega (
      arith,
      number-fits lit,
      c.requires i zero_lit there,
      before.0,
    ) in (
      ap length c.add.ensures ∙ length-set marks _ true ∙ before.0,
      ap marked c.add.ensures ∙ marked_also marks lit fits ∙ ap (also lit) before.1
          ∙ fun_ext (has_more (take i clause) lit) ∙ ap has (sym (take_more clause i zero_lit there)),
    )
