use Rattle.std.proofs.Common.{◌≡◌, ◌&&◌, ◌∙◌, Bool, false, not, eqb, Option, Some, None, set, sym, ap, arith}
use Rattle.std.proofs.Math.Bool.{beq}
use Rattle.std.proofs.lemmas.Bool.{true≢false}
use Rattle.std.proofs.lemmas.Grind.{common_steps}
use Rattle.std.proofs.lemmas.List.{set-get_or}
use Rattle.std.specs.Option.{option_eq}
use Rattle.std.specs.Prelude.{slice_index_or}
use Rattle.aig_circuit.specs.declared.edge.AigEdge.{AigEdge}
use Rattle.aig_bounded.proofs.steps.set_state.Goals as goal

abbrev is_same : AigEdge → AigEdge → Bool
is_same a b = eqb a.node_id b.node_id && beq a.compl b.compl

same_edge : (a b : AigEdge) → not (is_same a b) ≡ false → a ≡ b
same_edge a b h = grind (arith, common_steps)

-- a state that isn't found to be another is the same
same_state : (before : Option AigEdge) (e : AigEdge)
    → not (option_eq is_same before (Some e)) ≡ false → before ≡ Some e
same_state None e h = absurd (true≢false h)
same_state (Some d) e h = ap Some (same_edge d e h)

pub returns-clause-same : goal.returns-clause-same
returns-clause-same c = λ none.
    let states = c.args.states.now in
    let same = same_state (slice_index_or states c.args.leaf None) c.args.state (sym c.ne.ensures
    ∙ none) in
    ap (set states c.args.leaf) (sym same) ∙ set-get_or states c.args.leaf None
