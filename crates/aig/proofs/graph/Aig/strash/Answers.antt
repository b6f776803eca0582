-- The strashed circuit is the definition's, to which the laws of strashing apply.
use Rattle.std.proofs.Common.{◌≡◌, sym, ap, subst, ◌∙◌}
use Rattle.aig_circuit.proofs.Words.{Circuit, IsCircuit, KeepsRuns}
use Rattle.aig_strash.specs.Exchange.{image_of}
use Rattle.aig_strash.specs.Strash.{KeepsRepresentatives, MergesTrees, strashed}
use Rattle.aig_strash.proofs.Keeping.{KeepsRepresentatives-strashed, NumbersRepresentatives-images}
use Rattle.aig_strash.proofs.Merged.{MergesTrees-strashed}
use Rattle.aig_strash.proofs.Strashing.{IsCircuit-strashed, KeepsRuns-strashed}
use Rattle.aig_strash.proofs.Twice.{strashed-twice}
use Rattle.aig_format.specs.Writable.{IsWritable}
use Rattle.aig.proofs.Strashed.{IsWritable-strashed}
use Rattle.aig.proofs.graph.Aig.strash.Goals as goal

pub from_lists-requires : goal.from_lists-requires
from_lists-requires c =
    subst IsCircuit (sym (c.in_ok-lists.ensures ∙ ap strashed c.view.ensures.value)) (IsCircuit-strashed c.args.self.now c.view.ensures.circuit)

pub returns-clause-exact : goal.returns-clause-exact
returns-clause-exact c = c.from_lists.ensures ∙ c.in_ok-lists.ensures ∙ ap strashed c.view.ensures.value

pub returns-clause-numbers : goal.returns-clause-numbers
returns-clause-numbers c = NumbersRepresentatives-images c.args.self.now c.view.ensures.circuit

pub returns-clause-kept : goal.returns-clause-kept
returns-clause-kept c =
    let made = c.from_lists.ensures ∙ c.in_ok-lists.ensures ∙ ap strashed c.view.ensures.value in
    subst (λ (d : Circuit). KeepsRepresentatives c.args.self.now d (image_of c.args.self.now.nodes)) (sym made) (KeepsRepresentatives-strashed c.args.self.now c.view.ensures.circuit)

pub returns-clause-merges : goal.returns-clause-merges
returns-clause-merges c =
    let made = c.from_lists.ensures ∙ c.in_ok-lists.ensures ∙ ap strashed c.view.ensures.value in
    subst (λ (d : Circuit). MergesTrees c.args.self.now d (image_of c.args.self.now.nodes)) (sym made) (MergesTrees-strashed c.args.self.now c.view.ensures.circuit)

pub returns-clause-runs : goal.returns-clause-runs
returns-clause-runs c =
    let made = c.from_lists.ensures ∙ c.in_ok-lists.ensures ∙ ap strashed c.view.ensures.value in
    subst (λ (d : Circuit). KeepsRuns c.args.self.now d (image_of c.args.self.now.nodes)) (sym made) (KeepsRuns-strashed c.args.self.now c.view.ensures.circuit)

pub returns-clause-twice : goal.returns-clause-twice
returns-clause-twice c =
    let made = c.from_lists.ensures ∙ c.in_ok-lists.ensures ∙ ap strashed c.view.ensures.value in
    subst (λ (d : Circuit). strashed d ≡ d) (sym made) (strashed-twice c.args.self.now c.view.ensures.circuit)

pub returns-clause-writable : goal.returns-clause-writable
returns-clause-writable c writable =
    let made = c.from_lists.ensures ∙ c.in_ok-lists.ensures ∙ ap strashed c.view.ensures.value in
    subst IsWritable (sym made) (IsWritable-strashed c.args.self.now c.view.ensures.circuit writable)
