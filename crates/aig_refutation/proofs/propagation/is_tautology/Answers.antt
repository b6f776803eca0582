use Rattle.aig_base.proofs.Words.{◌≡◌, Bool, true, false, ◌||◌, get_or, sym, ap, ◌∙◌, list_any_at, list_any_more}
use Rattle.aig_base.specs.declared.logic.literal.Lit.{Lit}
use Rattle.aig_refutation.specs.Propagation.{when_false}
use Rattle.aig_refutation.proofs.propagation.is_tautology.Goals as goal

pub returns-then-holds-clause-always : goal.returns-then-holds-clause-always
returns-then-holds-clause-always c =
    let clause = c.args.clause.now in
    let i = c.loop-lit.lit-index in
    let zero_lit : Lit = record { code = 0 } in
    let lit = get_or clause i zero_lit in
    let both : when_false clause lit ≡ true = ap (λ (holds : Lit → Bool). holds lit) (sym c.assume_false.ensures.assumed) ∙ sym c.holds.ensures ∙ c.if-holds.true in
    sym (list_any_at (when_false clause) clause i zero_lit c.loop-lit-test.true both)

pub loop-lit-preserved : goal.loop-lit-preserved
loop-lit-preserved c =
    let clause = c.args.clause.now in
    let i = c.loop-lit.lit-index in
    let zero_lit : Lit = record { code = 0 } in
    let lit = get_or clause i zero_lit in
    let one : when_false clause lit ≡ false = ap (λ (holds : Lit → Bool). holds lit) (sym c.assume_false.ensures.assumed) ∙ sym c.holds.ensures ∙ c.if-holds.false in
    list_any_more (when_false clause) clause i zero_lit c.loop-lit-test.true ∙ ap (λ (b : Bool). b || when_false clause lit) c.loop-lit.invariant ∙ one
