use Rattle.std.proofs.Common.{◌≡◌, length, subst, sym, ap, ◌∙◌}
use Rattle.aig_change.specs.Merge.{PairsRuns, merged, shifted}
use Rattle.aig_circuit.proofs.Words.{Circuit, IsCircuit, lists_circuit}
use Rattle.aig_edits.proofs.joining.merged_of.Goals as goal

pub merge-requires : goal.merge-requires
merge-requires c = subst IsCircuit (sym c.in_ok-lists.ensures.copy) c.requires.first

pub returns : goal.returns
returns c =
    let a = c.args.first.now in
    let b = c.args.second.now in
    let exact : lists_circuit c.merge.new.first ≡ merged a b =
    c.in_ok-merge.ensures.merged ∙ ap (λ (d : Circuit). merged d b) c.in_ok-lists.ensures.copy in (
      tt,
      (
        exact,
        subst (λ m. PairsRuns a b m (shifted (length a.nodes))) (sym exact)
            (c.merging_pairs_runs.ensures a b c.requires.first c.requires.second),
      ),
      subst IsCircuit (sym exact) (c.merging_is_circuit.ensures a b c.requires.first
          c.requires.second),
    )
