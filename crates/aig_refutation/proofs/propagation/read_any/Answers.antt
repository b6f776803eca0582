use Rattle.aig_base.proofs.Words.{◌≡◌, false, get_or, refl, sym, ap, ◌∙◌, not-true, cond-false}
use Rattle.aig_base.specs.declared.logic.literal.Lit.{Lit}
use Rattle.aig_base.specs.Clauses.{inverse_lit}
use Rattle.aig_refutation.specs.declared.propagation.Reading.TheVariants.{Open}
use Rattle.aig_refutation.specs.Propagation.{is_lit, marked, with_open}
use Rattle.aig_refutation.proofs.Literals.{found_reading, reading_open}
use Rattle.aig_refutation.proofs.propagation.read_any.Goals as goal

pub returns-then-ne : goal.returns-then-ne
returns-then-ne c =
    let clause = c.args.clause.now in
    let i = c.loop-lit.lit-index in
    let zero_lit : Lit = record { code = 0 } in
    let lit = get_or clause i zero_lit in
    let holds = marked c.args.marks.now in
    let open_lit : holds (inverse_lit lit) ≡ false = ap holds (sym c.not.ensures) ∙ sym c.holds.ensures ∙ c.if-not-holds.true in
    let differs : is_lit c.in-Some.other lit ≡ false = not-true _ (sym c.ne.ensures ∙ c.if-ne.true) in
    let two : with_open (found_reading c.loop-lit.found) lit ≡ Open =
    ap (λ found. with_open (found_reading found) lit) c.in-Some.is ∙ cond-false (is_lit c.in-Some.other lit) _ _ differs in
    reading_open holds clause i lit zero_lit c.loop-lit-test.true refl c.loop-lit.found c.loop-lit.invariant open_lit two
