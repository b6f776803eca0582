use Rattle.aig_witness_circuits.proofs.Words.{◌≡◌, ◌∙◌, ◌==◌, ap, arith, eqb-true, false≢true, inl, inr, length, subst, sym, vec_len, node_told, CanShareLeaves}
use Rattle.aig_witness_circuits.proofs.Allowed.{named_can, none_named, order_can, some_named}
use Rattle.aig_witness_circuits.proofs.Saying.{none_left}
use Rattle.aig_witness_circuits.proofs.sharing.shared.shared_leaves.Goals as goal

pub returns-then-not-is_empty-clause-shares : goal.returns-then-not-is_empty-clause-shares
returns-then-not-is_empty-clause-shares c =
    let node = node_told c.args.variables.now in
    let named = c.in_ok-named.named in
    let circuits = c.in_ok-named.ensures.circuit in
    let shares = c.in_ok-named.ensures.shares in
    inl (
      some_named node c.args.model.now c.args.witness.now circuits.0 circuits.1 named.items shares
          (λ none.
          let zero : vec_len named ≡ 0 = omega (arith, named.ok.0, ap length none) in
          false≢true
          (sym c.if-not-is_empty.true ∙ c.is_empty.ensures ∙ ap (λ n. n == 0) zero)),
      shares,
    )

pub returns-then-not-is_empty-clause-can : goal.returns-then-not-is_empty-clause-can
returns-then-not-is_empty-clause-can c =
    let node = node_told c.args.variables.now in
    let circuits = c.in_ok-named.ensures.circuit in
    named_can node c.args.model.now c.args.witness.now circuits.0 circuits.1
    c.in_ok-named.named.items c.in_ok-named.ensures.shares

pub returns-clause-shares : goal.returns-clause-shares
returns-clause-shares c =
    let node = node_told c.args.variables.now in
    let named = c.in_ok-named.named in
    let circuits = c.in_ok-named.ensures.circuit in
    let zero : vec_len named ≡ 0 =
    eqb-true (vec_len named) 0 (sym c.is_empty.ensures ∙ c.if-not-is_empty.false) in
    let none : length named.items ≡ 0 = omega (arith, named.ok.0, zero) in
    inr (
      none_named node c.args.model.now c.args.witness.now circuits.0 circuits.1 named.items
          c.in_ok-named.ensures.shares (none_left named.items none),
      c.in_ok-ordered.ensures,
    )

pub returns-clause-can : goal.returns-clause-can
returns-clause-can c =
    let node = node_told c.args.variables.now in
    let circuits = c.in_ok-named.ensures.circuit in
    subst (λ s. CanShareLeaves s c.args.model.now c.args.witness.now) (sym c.in_ok-ordered.ensures)
    (order_can node c.args.model.now c.args.witness.now circuits.0 circuits.1)
