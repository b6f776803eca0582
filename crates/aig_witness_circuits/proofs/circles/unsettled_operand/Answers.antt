use Rattle.aig_witness_circuits.proofs.Words.{◌∙◌, ℕ, false, ap, arith, get_or, inl, inr, refl, sym, And, kind_at-read}
use Rattle.aig_witness_circuits.proofs.Descent.{operands_settled}
use Rattle.aig_witness_circuits.proofs.circles.unsettled_operand.Goals as goal

pub bounds-settled-node_id : goal.bounds-settled-node_id
bounds-settled-node_id c =
    let a = c.in-And.first in
    let b = c.in-And.second in
    let gate =
    kind_at-read c.args.nodes.now c.args.node _ (And a b) c.requires.within
    (sym c.in-And.is ∙ c.typ.ensures) in
    omega (arith, c.requires.there a.node_id (a, b, gate, inl refl), c.node_id.ensures)

pub returns-then-not-settled-node_id : goal.returns-then-not-settled-node_id
returns-then-not-settled-node_id c =
    let a = c.in-And.first in
    let b = c.in-And.second in
    let gate =
    kind_at-read c.args.nodes.now c.args.node _ (And a b) c.requires.within
    (sym c.in-And.is ∙ c.typ.ensures) in
    let same = c.node_id-then-not-settled-node_id.ensures in (
      (a, b, gate, inl same),
      ap (λ (n : ℕ). get_or c.args.settled.now n false) (same ∙ sym c.node_id.ensures)
          ∙ c.if-not-settled-node_id.true,
    )

pub bounds-settled-node_id-2 : goal.bounds-settled-node_id-2
bounds-settled-node_id-2 c =
    let a = c.in-And.first in
    let b = c.in-And.second in
    let gate =
    kind_at-read c.args.nodes.now c.args.node _ (And a b) c.requires.within
    (sym c.in-And.is ∙ c.typ.ensures) in
    omega (arith, c.requires.there b.node_id (a, b, gate, inr refl), c.node_id-2.ensures)

pub returns-then-not-settled-node_id-2 : goal.returns-then-not-settled-node_id-2
returns-then-not-settled-node_id-2 c =
    let a = c.in-And.first in
    let b = c.in-And.second in
    let gate =
    kind_at-read c.args.nodes.now c.args.node _ (And a b) c.requires.within
    (sym c.in-And.is ∙ c.typ.ensures) in
    let same = c.node_id-then-not-settled-node_id-2.ensures in (
      (a, b, gate, inr same),
      ap (λ (n : ℕ). get_or c.args.settled.now n false) (same ∙ sym c.node_id-2.ensures)
          ∙ c.if-not-settled-node_id-2.true,
    )

pub returns : goal.returns
returns c =
    let a = c.in-And.first in
    let b = c.in-And.second in
    let gate =
    kind_at-read c.args.nodes.now c.args.node _ (And a b) c.requires.within
    (sym c.in-And.is ∙ c.typ.ensures) in
    let marks = c.args.settled.now in
    operands_settled c.args.nodes.now marks c.args.node a b gate
    (ap (λ (n : ℕ). get_or marks n false) (sym c.node_id.ensures) ∙ c.if-not-settled-node_id.false)
    (ap (λ (n : ℕ). get_or marks n false) (sym c.node_id-2.ensures)
    ∙ c.if-not-settled-node_id-2.false)
