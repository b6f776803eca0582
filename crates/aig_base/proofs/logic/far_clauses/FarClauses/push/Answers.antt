use Rattle.std.proofs.Common.{◌≡◌, ◌++◌, ◌∷◌, [], length, ap, ◌∙◌, arith, length-append}
use Rattle.aig_base.proofs.Cutting.{cut_at-push, AreEnds-push}
use Rattle.aig_base.proofs.logic.far_clauses.FarClauses.push.Goals as goal

pub invariant_of-self-2 : goal.invariant_of-self-2
invariant_of-self-2 c =
    let a = c.self.inside in
    let literals = c.in_ok-extend_from_slice.ensures.items in
    let last : c.len.result ≡ length (a.literals.items ++ c.args.clause.now) = omega (arith, c.len.ensures, c.extend_from_slice.new.self.ok.0, ap length literals) in
    let ends : c.push_reserved.new.self.items ≡ a.ends.items ++ c.len.result ∷ [] = c.push_reserved.ensures.items ∙ ap (λ ends. ends ++ c.len.result ∷ []) c.reserve.ensures.items in
    rw (literals, ends, last) (AreEnds-push a.ends.items (length a.literals.items) _ c.self.invariant (omega (arith, length-append a.literals.items c.args.clause.now)))

pub returns-clause-ok : goal.returns-clause-ok
returns-clause-ok c =
    let a = c.self.inside in
    let literals = c.in_ok-extend_from_slice.ensures.items in
    let last : c.len.result ≡ length (a.literals.items ++ c.args.clause.now) = omega (arith, c.len.ensures, c.extend_from_slice.new.self.ok.0, ap length literals) in
    let ends : c.push_reserved.new.self.items ≡ a.ends.items ++ c.len.result ∷ [] = c.push_reserved.ensures.items ∙ ap (λ ends. ends ++ c.len.result ∷ []) c.reserve.ensures.items in
    rw (literals, ends, ← c.self.view_is) (cut_at-push a.ends.items a.literals.items c.args.clause.now _ last c.self.invariant)
