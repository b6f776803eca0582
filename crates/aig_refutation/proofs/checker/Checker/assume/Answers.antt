use Rattle.std.proofs.Common.{◌≡◌, ◌+◌, refl, sym, ap, subst, ◌∙◌}
use Rattle.aig_refutation.specs.Checking.{all_live}
use Rattle.aig_refutation.specs.Tables.{HoldsFormula, Table}
use Rattle.aig_refutation.proofs.Numbering.{assumed, not_refused}
use Rattle.aig_refutation.proofs.Following.{below_either}
use Rattle.aig_refutation.proofs.checker.Checker.assume.Goals as goal

pub invariant_of-self : goal.invariant_of-self
invariant_of-self c =
    let inside = c.self.inside in (
      c.self.invariant.0,
      below_either c.add.result inside.variables inside.numbered.clauses c.add.new.self.clauses
          c.args.clause.now c.add.ensures.ok c.add.ensures.err c.self.invariant.1
          (c.is_below.ensures.below c.if-not-is_below.false),
    )

pub returns-clause-holds : goal.returns-clause-holds
returns-clause-holds c h =
    let old : Table = c.self.inside.numbered in
    let clause = c.args.clause.now in
    let before : HoldsFormula old = subst (λ (t : Table). HoldsFormula t) (sym (ap (λ t. t.table)
    c.self.view_is)) h in
    let number = c.in_ok-number.number in
    let is : number ≡ old.added + 1 = c.in_ok-number.ensures ∙ ap (λ v. v.table.added + 1) (sym
    c.self.view_is) in
    assumed old before number is c.add.new.self clause c.add.result (c.add.ensures.moves (all_live
    old.clauses) clause before.holds (λ holds. refl)) c.add.ensures.ok
    (c.add.ensures.in_row before.row before.holds.table is)

pub returns-clause-refused : goal.returns-clause-refused
returns-clause-refused c h =
    let old : Table = c.self.inside.numbered in
    let clause = c.args.clause.now in
    let before : HoldsFormula old = subst (λ (t : Table). HoldsFormula t) (sym (ap (λ t. t.table)
    c.self.view_is)) h in
    let number = c.in_ok-number.number in
    let is : number ≡ old.added + 1 = c.in_ok-number.ensures ∙ ap (λ v. v.table.added + 1) (sym
    c.self.view_is) in
    let inside = sym c.is_below.ensures.exact ∙ c.if-not-is_below.false in
    rw (← c.self.view_is)
    (not_refused old before number is c.add.new.self c.self.inside.variables clause c.add.result
    inside (c.add.ensures.moves (all_live old.clauses) clause before.holds (λ holds. refl)))
