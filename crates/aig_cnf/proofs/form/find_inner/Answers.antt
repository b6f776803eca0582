use Rattle.aig_base.proofs.Words.{◌≡◌, ℕ, Some, sym, subst, ◌∙◌, arith, false≢true, same_Some}
use Rattle.aig_circuit.specs.declared.node.AigNodeType.TheVariants.{And}
use Rattle.aig_circuit.specs.Node.{kind_at}
use Rattle.aig_circuit.proofs.Trees.{kind_at-read}
use Rattle.aig_cnf.proofs.form.find_inner.Goals as goal

pub returns-then-not-compl : goal.returns-then-not-compl
returns-then-not-compl c = λ p q inner. false≢true (sym c.if-not-compl.true ∙ c.compl.ensures ∙ inner.inverted)

pub returns-in-And : goal.returns-in-And
returns-in-And c =
    let nodes = c.args.nodes.now in
    let kind = And c.in-And.p c.in-And.q in
    let gate = kind_at-read nodes c.node_id.result _ kind (omega (arith, c.requires, c.node_id.ensures)) (sym c.in-And.is ∙ c.typ.ensures) in
    record {
      inverted = sym c.compl.ensures ∙ c.if-not-compl.false;
      gate = subst (λ (n : ℕ). kind_at nodes n ≡ Some kind) c.node_id.ensures gate;
    }

pub returns-in_default : goal.returns-in_default
returns-in_default c =
    let nodes = c.args.nodes.now in
    let read = kind_at-read nodes c.node_id.result _ c.typ.result.now (omega (arith, c.requires, c.node_id.ensures)) c.typ.ensures in
    let kind = subst (λ (n : ℕ). kind_at nodes n ≡ Some c.typ.result.now) c.node_id.ensures read in
    λ p q inner. c.in_default.not-And p q (same_Some _ _ (sym kind ∙ inner.gate))
