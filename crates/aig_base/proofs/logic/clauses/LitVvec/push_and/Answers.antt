use Rattle.aig_base.proofs.Words.{◌≡◌, ◌++◌, ◌∷◌, [], List, get_or, map, take, sym, ap, ◌∙◌, append_assoc, map_more, take_all}
use Rattle.aig_base.specs.declared.logic.literal.Lit.{Lit}
use Rattle.aig_base.specs.Clauses.{inverse_lit}
use Rattle.aig_base.proofs.logic.clauses.LitVvec.push_and.Goals as goal

pub loop-lit-preserved : goal.loop-lit-preserved
loop-lit-preserved c =
    let implied : Lit → List Lit = λ lit. inverse_lit c.args.n ∷ lit ∷ [] in
    let i = c.loop-lit.lit-index in
    let lits = c.args.lits.now in
    let lit : Lit = get_or lits i (record { code = 0 }) in
    c.in_ok-push.ensures.ok
    ∙ ap (λ rel. rel ++ (c.not.result ∷ lit ∷ []) ∷ []) c.loop-lit.invariant
    ∙ ap (λ inverse. (c.args.self.now ++ map implied (take i lits)) ++ (inverse ∷ lit ∷ []) ∷ []) c.not.ensures
    ∙ append_assoc c.args.self.now (map implied (take i lits)) (implied lit ∷ [])
    ∙ ap (λ rel. c.args.self.now ++ rel) (sym (map_more implied lits i (record { code = 0 }) c.loop-lit-test.true))

pub returns : goal.returns
returns c =
    let implied : Lit → List Lit = λ lit. inverse_lit c.args.n ∷ lit ∷ [] in
    let lits = c.args.lits.now in
    let before : c.loop-lit.self ≡ c.args.self.now ++ map implied lits = c.loop-lit.invariant ∙ ap (λ done. c.args.self.now ++ map implied done) (take_all c.loop-lit.lit-index lits c.loop-lit-test.false) in
    let last : c.deref.result.now ≡ c.args.n ∷ map inverse_lit lits = c.deref.ensures.value ∙ c.in_ok-with_inverses.ensures in
    rw (← append_assoc c.args.self.now (map implied lits) ((c.args.n ∷ map inverse_lit lits) ∷ []), ← before, ← last) c.push-2.ensures.ok
