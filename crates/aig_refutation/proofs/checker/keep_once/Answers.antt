use Rattle.aig_base.proofs.Words.{◌≡◌, ◌<◌, Bool, true, false, [], ◌∷◌, ◌++◌, length, get_or, refl, sym, ap, ◌∙◌, arith, list_any, length-replicate, length-set, take_all}
use Rattle.aig_base.specs.declared.logic.literal.Lit.{Lit}
use Rattle.aig_base.specs.Clauses.{number_of_lit}
use Rattle.aig_refutation.specs.Propagation.{is_lit, marked, reading_of}
use Rattle.aig_refutation.proofs.Absorbing.{reading_kept, reading_same}
use Rattle.aig_refutation.proofs.Literals.{number-fits}
use Rattle.aig_refutation.proofs.Once.{none_kept, none_more, one_kept}
use Rattle.aig_refutation.proofs.checker.keep_once.Goals as goal
use Rattle.aig_refutation.proofs.checker.keep_once.Goals.{then-not-holds+in_ok-push, else-not-holds}

pub loop-lit-init : goal.loop-lit-init
loop-lit-init c =
    let clause = c.args.clause.now in (
      rw c.clear.ensures (length-replicate _ _),
      rw (c.clear.ensures, c.requires.empty) (none_kept _
          clause),
      λ holds. rw c.requires.empty refl,
    )

pub loop-lit-preserved : goal.loop-lit-preserved
loop-lit-preserved c =
    let clause = c.args.clause.now in
    let i = c.loop-lit.lit-index in
    let zero_lit : Lit = record { code = 0 } in
    let lit = get_or clause i zero_lit in
    let marks = c.loop-lit.marks in
    let kept = c.loop-lit.kept.items in
    let there = c.loop-lit-test.true in
    let before = c.loop-lit.invariant in
    elim c.if-not-holds.branch [
      | then-not-holds+in_ok-push w ↦
          let fits : number_of_lit lit < length marks = omega (
            arith,
            number-fits lit,
            c.requires.marks i zero_lit there,
            before.0,
          ) in
          let new : marked marks lit ≡ false = sym c.holds.ensures ∙ w.if-not-holds.true in
          let more : c.if-not-holds.kept.items ≡ kept ++ lit ∷ [] = cc (w.in_ok-push.ensures.items)
          in
          rw (w.marks-is, w.add.ensures, more) (
            length-set marks _ true ∙ before.0,
            one_kept marks clause i lit zero_lit there refl kept before.1 new fits,
            λ holds. reading_kept holds clause i lit zero_lit there refl kept (before.2 holds),
          )
      | else-not-holds w ↦
          let old : marked marks lit ≡ true = sym c.holds.ensures ∙ w.if-not-holds.false in
          let has : list_any (is_lit lit) kept ≡ true = ap (λ (holds : Lit → Bool). holds lit) (sym
          before.1.are_marked) ∙ old in
          rw (w.marks-is, w.kept-is) (
            before.0,
            none_more marks clause i lit zero_lit there refl kept before.1 old,
            λ holds. reading_same holds clause i lit zero_lit there refl kept (before.2 holds) has,
          )
    ]

pub returns-clause-all : goal.returns-clause-all
returns-clause-all c = λ k d h. c.loop-lit.invariant.1.all k (omega arith) d

pub returns-clause-same : goal.returns-clause-same
returns-clause-same c = λ holds. c.loop-lit.invariant.2 holds ∙ ap (reading_of holds) (take_all
    c.loop-lit.lit-index c.args.clause.now (omega arith))
