use Rattle.aig_base.proofs.Words.{◌≡◌, ◌∷◌, [], ℕ, Bool, true, IfOk-weaker, List, ap, is_some, list_all, sym, subst, ◌∙◌}
use Rattle.aig_base.specs.declared.logic.literal.Lit.{Lit}
use Rattle.aig_refutation.specs.Checking.{are_named, with_clause}
use Rattle.aig_refutation.specs.Propagation.{has}
use Rattle.aig_refutation.specs.Rat.{is_rat}
use Rattle.aig_refutation.specs.declared.words.Number.{Number}
use Rattle.aig_refutation.specs.Tables.{Holds, Table, place_in}
use Rattle.aig_refutation.specs.Taken.{KeepsLive}
use Rattle.aig_refutation.specs.Tokens.{said_numbers}
use Rattle.aig_refutation.proofs.Apart.{groups_named}
use Rattle.aig_refutation.proofs.Kept.{rat_keeps}
use Rattle.aig_refutation.proofs.checker.Checker.has_rat.Goals as goal

pub returns-clause-keeps : goal.returns-clause-keeps
returns-clause-keeps c live h =
    let t : Table = c.self.inside.numbered in
    let before : Holds t live = subst (λ (table : Table). Holds table live)
    (sym (ap (λ v. v.table) c.self.view_is)) h in
    let clause = c.args.clause.now in
    let pivot = c.args.pivot in
    let numbers = c.deref-5.result.now in
    let groups = said_numbers numbers in
    let named : are_named live [] groups ≡ true =
    groups_named t live before numbers
    ∙ ap (λ (list : List Number). list_all (λ number. is_some (place_in t number.value)) list)
    (c.deref-5.ensures.value ∙ sym c.deref-3.ensures.value)
    ∙ sym c.are_named.ensures ∙ c.if-not-are_named.false in
    let own : has clause pivot ≡ true = sym c.has.ensures ∙ c.if-not-has.false in
    let led : c.deref-4.result.now ≡ pivot ∷ clause = c.deref-4.ensures.value ∙ c.in_ok-lead.ensures
    in
    IfOk-weaker c.is_rat.result
    (λ (is : Bool). is ≡ is_rat live.clauses c.deref-4.result.now [] groups)
    (λ (is : Bool). is ≡ true → (n : ℕ) → KeepsLive live (with_clause live n clause))
    (λ is e does n. rat_keeps live clause n pivot groups own
    (ap (λ (list : List Lit). is_rat live.clauses list [] groups) (sym led) ∙ sym e ∙ does))
    (c.is_rat.ensures.rat live before named)
