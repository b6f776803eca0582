use Rattle.std.proofs.Common.{◌≡◌, sym, ap, subst, ◌∙◌}
use Rattle.aig_circuit.proofs.Words.{Circuit, IsCircuit, IsClosed, AreAsLong, KeepsRuns, IsReencoded, new_number, reencoded}
use Rattle.aig_renumber.proofs.Placed.{AreAsLong-reencoded, IsCircuit-reencoded, IsClosed-reencoded, IsReencoded-reencoded, KeepsRuns-reencoded, reencoded-twice}
use Rattle.aig.proofs.graph.Aig.reencode.Goals as goal

pub from_lists-requires : goal.from_lists-requires
from_lists-requires c =
    subst IsCircuit (sym (c.in_ok-lists.ensures ∙ ap reencoded c.view-circuit.ensures.value)) (IsCircuit-reencoded c.args.self.now c.view-circuit.ensures.circuit c.requires)

pub returns-clause-exact : goal.returns-clause-exact
returns-clause-exact c = c.from_lists.ensures ∙ c.in_ok-lists.ensures ∙ ap reencoded c.view-circuit.ensures.value

pub returns-clause-closed : goal.returns-clause-closed
returns-clause-closed c =
    let made = c.from_lists.ensures ∙ c.in_ok-lists.ensures ∙ ap reencoded c.view-circuit.ensures.value in
    subst IsClosed (sym made) (IsClosed-reencoded c.args.self.now c.view-circuit.ensures.circuit c.requires)

pub returns-clause-long : goal.returns-clause-long
returns-clause-long c =
    let made = c.from_lists.ensures ∙ c.in_ok-lists.ensures ∙ ap reencoded c.view-circuit.ensures.value in
    subst (λ (d : Circuit). AreAsLong c.args.self.now d) (sym made) (AreAsLong-reencoded c.args.self.now c.view-circuit.ensures.circuit c.requires)

pub returns-clause-kept : goal.returns-clause-kept
returns-clause-kept c =
    let made = c.from_lists.ensures ∙ c.in_ok-lists.ensures ∙ ap reencoded c.view-circuit.ensures.value in
    subst (λ (d : Circuit). KeepsRuns c.args.self.now d (new_number c.args.self.now)) (sym made) (KeepsRuns-reencoded c.args.self.now c.view-circuit.ensures.circuit c.requires)

pub returns-clause-placed : goal.returns-clause-placed
returns-clause-placed c =
    let made = c.from_lists.ensures ∙ c.in_ok-lists.ensures ∙ ap reencoded c.view-circuit.ensures.value in
    subst IsReencoded (sym made) (IsReencoded-reencoded c.args.self.now c.view-circuit.ensures.circuit c.requires)

pub returns-clause-twice : goal.returns-clause-twice
returns-clause-twice c =
    let made = c.from_lists.ensures ∙ c.in_ok-lists.ensures ∙ ap reencoded c.view-circuit.ensures.value in
    subst (λ (d : Circuit). reencoded d ≡ d) (sym made) (reencoded-twice c.args.self.now c.view-circuit.ensures.circuit c.requires)
