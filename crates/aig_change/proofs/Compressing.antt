-- The bad edges joined by or, from what the builders promise.
use Rattle.aig_base.proofs.Words.{◌≡◌, List, [], ◌∷◌, map, refl, sym, ap, subst, ◌∙◌, All, All-nil, All-push}
use Rattle.aig_circuit.specs.declared.edge.AigEdge.{AigEdge}
use Rattle.aig_circuit.specs.declared.node.AigNode.{AigNode}
use Rattle.aig_circuit.proofs.Words.{inverse, Circuit, IsCircuit, IsInRange, AllProperties, AddsGates, FoldsOrAddsAll, JoinsByAnd, JoinsByOr}
use Rattle.aig_circuit.proofs.Circuits.{IsCircuit-grown}
use Rattle.aig_circuit.proofs.Joining.{JoinsByOr-inverse, inverse_twice}
use Rattle.aig_change.specs.Changes.{CompressesBads}

-- what is built
pub compressed : (old : Circuit) → IsCircuit old → (new : List AigNode) (inverted : List AigEdge) (all bad : AigEdge) (bads : List AigEdge)
    → inverted ≡ map inverse old.properties.bads → AddsGates old.nodes new → FoldsOrAddsAll old.nodes inverted new all → JoinsByAnd old.nodes new inverted all → bad ≡ inverse all → bads ≡ bad ∷ []
    → IsCircuit (record old { nodes = new; properties = record old.properties { bads = bads } }) × CompressesBads old (record old { nodes = new; properties = record old.properties { bads = bads } })
compressed old is new inverted all bad bads inverted_is gates folds joins bad_is only =
    let rule : FoldsOrAddsAll old.nodes (map inverse old.properties.bads) new (inverse bad) = subst (λ es. FoldsOrAddsAll old.nodes es new (inverse bad)) inverted_is (subst (FoldsOrAddsAll old.nodes inverted new) (sym (ap inverse bad_is ∙ inverse_twice all)) folds) in
    let or : JoinsByOr old.nodes new old.properties.bads bad = subst (JoinsByOr old.nodes new old.properties.bads) (sym bad_is) (JoinsByOr-inverse old.nodes new old.properties.bads all (subst (λ es. JoinsByAnd old.nodes new es all) inverted_is joins)) in
    let grown = IsCircuit-grown old new is gates.grows in
    let there : All (IsInRange new) bads = subst (All (IsInRange new)) (sym only) (All-push (IsInRange new) [] bad (All-nil (IsInRange new)) or.gives.there) in
    let properties : AllProperties (IsInRange new) (record old.properties { bads = bads }) = assumption (grown.properties, there) in
    (assumption (grown, properties), record { bad = bad; bads = only; gates = gates; rule = rule; value = or; rest = refl })
