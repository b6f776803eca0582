use Rattle.aig_witness_circuit_checks.proofs.Words.{◌≡◌, ◌==◌, ◌∙◌, Bool, Global, Vec, [], ap, arith, eq-eqb, false, false≢true, length, refl, sym, vec_len, AigEdge, Circuit, node_told, IsCircular, Shares, CanStart}
use Rattle.aig_witness_circuits.specs.Questions.{CanShareLeaves}
use Rattle.aig_witness_circuits.proofs.Deciding.{carry2}
use Rattle.aig_witness_circuit_checks.proofs.claim.claim_of.Goals as goal

-- a list that isn't empty has an entry
some_bads : (bads : Vec AigEdge Global) (empty : Bool) → empty ≡ (vec_len bads == 0)
    → empty ≡ false → bads.items ≡ [] → ⊥
some_bads bads empty is some none =
    let zero : vec_len bads ≡ 0 = omega (arith, ap length none, bads.ok.0) in
    false≢true (sym some ∙ is ∙ eq-eqb (vec_len bads) 0 zero)

pub returns-then-branch-clause-makes : goal.returns-then-branch-clause-makes
returns-then-branch-clause-makes c =
    let node = node_told c.args.file.variables in
    let shared = c.in_ok-shared.shared.items in (
      some_bads c.args.file.lists.properties.bads c.is_empty.result c.is_empty.ensures
          c.if-is_empty.false,
      (
        shared,
        carry2 (λ (m w : Circuit). Shares node m w shared) _ _ _ _ c.new.ensures
            c.new-simulating.ensures c.in_ok-shared.ensures.shares,
        carry2 IsCircular _ _ _ _ c.deref.ensures.value c.new-simulating.ensures
            (c.in_ok-is_circular.ensures.exact.0 c.if-branch.true),
      ),
    )

pub returns-clause-makes : goal.returns-clause-makes
returns-clause-makes c =
    let node = node_told c.args.file.variables in
    let shared = c.in_ok-shared.shared.items in (
      some_bads c.args.file.lists.properties.bads c.is_empty.result c.is_empty.ensures
          c.if-is_empty.false,
      refl,
      refl,
      carry2 (λ (m w : Circuit). Shares node m w shared) _ _ _ _ c.new.ensures
          c.new-simulating.ensures c.in_ok-shared.ensures.shares,
      λ circular. false≢true
          (sym c.if-branch.false
          ∙ c.in_ok-is_circular.ensures.exact.1
          (carry2 IsCircular _ _ _ _ (sym c.deref.ensures.value) (sym c.new-simulating.ensures)
          circular)),
    )

pub returns-clause-claim : goal.returns-clause-claim
returns-clause-claim c =
    let shared = c.in_ok-shared.shared.items in
    record {
      model = c.requires.model;
      witness = c.requires.witness;
      shared = carry2 (λ (m w : Circuit). CanShareLeaves shared m w) _ _ _ _ c.new.ensures
          c.new-simulating.ensures c.in_ok-shared.ensures.can;
      can_start = carry2 CanStart _ _ _ _ c.deref.ensures.value c.new-simulating.ensures
          (c.in_ok-is_circular.ensures.starts c.if-branch.false);
    }
