use Rattle.aig_base.proofs.Words.{◌≡◌, ◌+◌, Some, arith, refl, sym, ◌∙◌, inl, inr, MatchResult-weaker}
use Rattle.aig_circuit.specs.declared.node.AigNodeType.{AigNodeType}
use Rattle.aig_circuit.specs.declared.node.AigNodeType.TheVariants.{False, Leaf, And}
use Rattle.aig_circuit.specs.Node.{kind_at}
use Rattle.aig_circuit.proofs.Trees.{kind_at-read}
use Rattle.aig_strash.specs.Exchange.{IsGate, image_of}
use Rattle.aig_strash.specs.Numbering.{HasGates}
use Rattle.aig_strash.specs.Tables.{gate_table, number_table}
use Rattle.aig_strash.proofs.Gates.{gates-other, number-other, small-literal, step-gate}
use Rattle.aig_strash.proofs.Numbered.{kept_before-few}
use Rattle.aig_strash.proofs.hashing.Numbering.new_number.Goals as goal

pub new_literals-literals-requires-clause-first : goal.new_literals-literals-requires-clause-first
new_literals-literals-requires-clause-first c =
    let nodes = c.args.nodes.now in
    let n = c.args.n in
    let is : kind_at nodes n ≡ Some (And c.in-And.fanin0 c.in-And.fanin1) = kind_at-read nodes n _ _ c.requires.there (sym c.in-And.is ∙ c.typ.ensures) in
    small-literal nodes c.requires.nodes n c.in-And.fanin0 c.args.self.now.tables (omega arith) (c.requires.nodes.ordered.first_before n _ _ is) c.requires.so_far.numbers c.requires.so_far.limit

pub new_literals-literals-requires-clause-second : goal.new_literals-literals-requires-clause-second
new_literals-literals-requires-clause-second c =
    let nodes = c.args.nodes.now in
    let n = c.args.n in
    let is : kind_at nodes n ≡ Some (And c.in-And.fanin0 c.in-And.fanin1) = kind_at-read nodes n _ _ c.requires.there (sym c.in-And.is ∙ c.typ.ensures) in
    small-literal nodes c.requires.nodes n c.in-And.fanin1 c.args.self.now.tables (omega arith) (c.requires.nodes.ordered.second_before n _ _ is) c.requires.so_far.numbers c.requires.so_far.limit

pub number_at-requires-clause-next : goal.number_at-requires-clause-next
number_at-requires-clause-next c =
    let few = kept_before-few c.args.nodes.now c.requires.nodes c.args.n (omega arith) in
    omega (arith, c.requires.so_far.count, c.requires.so_far.limit)

pub returns-in-And-clause-number : goal.returns-in-And-clause-number
returns-in-And-clause-number c =
    let is : kind_at c.args.nodes.now c.args.n ≡ Some (And c.in-And.fanin0 c.in-And.fanin1) = kind_at-read c.args.nodes.now c.args.n _ _ c.requires.there (sym c.in-And.is ∙ c.typ.ensures) in
    MatchResult-weaker c.number_at.result c.number_at.ensures.gates
    (λ number puts. (step-gate c.args.nodes.now c.requires.nodes c.args.n c.requires.there _ _ is (number_table c.args.self.now.tables) c.requires.so_far.numbers c.new_literals-literals.result c.new_literals-literals.ensures.literals c.args.self.now.count c.requires.so_far.count (gate_table c.args.self.now.tables) (gate_table c.number_at.new.self) c.requires.so_far.gates number puts).0)
    (λ e h. tt)

pub returns-in-And-clause-gates : goal.returns-in-And-clause-gates
returns-in-And-clause-gates c =
    let is : kind_at c.args.nodes.now c.args.n ≡ Some (And c.in-And.fanin0 c.in-And.fanin1) = kind_at-read c.args.nodes.now c.args.n _ _ c.requires.there (sym c.in-And.is ∙ c.typ.ensures) in
    MatchResult-weaker c.number_at.result c.number_at.ensures.gates
    (λ number puts. (step-gate c.args.nodes.now c.requires.nodes c.args.n c.requires.there _ _ is (number_table c.args.self.now.tables) c.requires.so_far.numbers c.new_literals-literals.result c.new_literals-literals.ensures.literals c.args.self.now.count c.requires.so_far.count (gate_table c.args.self.now.tables) (gate_table c.number_at.new.self) c.requires.so_far.gates number puts).1)
    (λ e h. tt)

pub returns-in-False : goal.returns-in-False
returns-in-False c =
    let nodes = c.args.nodes.now in
    let n = c.args.n in
    let are = c.requires.nodes in
    let gates = gate_table c.args.self.now.tables in
    let step : (k : AigNodeType) → c.typ.result.now ≡ k → (kind_at nodes n ≡ Some k → IsGate nodes n → ⊥) → (c.args.self.now.count ≡ image_of nodes n) × HasGates nodes (n + 1) gates =
    λ k at no_gate.
    let is : kind_at nodes n ≡ Some k = kind_at-read nodes n _ k c.requires.there (sym at ∙ c.typ.ensures) in
    let other = no_gate is in
    (c.requires.so_far.count ∙ number-other nodes are n k c.requires.there is other, gates-other nodes are n gates other c.requires.so_far.gates)
    in
    let both : (c.args.self.now.count ≡ image_of nodes n) × HasGates nodes (n + 1) gates = elim c.in-False.is [
      | inl false ↦ step False false (λ is gate. let e = sym is ∙ gate.2 in cc)
      | inr leaf ↦ step Leaf leaf (λ is gate. let e = sym is ∙ gate.2 in cc)
    ] in
    record { number = both.0; gates = both.1; numbers = refl; limit = refl; count = refl }
