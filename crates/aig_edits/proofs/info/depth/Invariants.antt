use Rattle.aig_base.proofs.Words.{ℕ, ◌<◌, ◌≤◌, slice_index}
use Rattle.aig_edits.specs.Info.{HasPath}
use Rattle.aig_edits.specs.Levels.{AreLevels}
use Rattle.aig_edits.proofs.info.depth.Given as goal

abbrev pub invariant-loop-n : goal.invariant-loop-n
invariant-loop-n l = record {
  levels : AreLevels l.nodes l.n l.levels.items;
  path : (n : ℕ) × HasPath l.nodes l.greatest n;
  below : (m : ℕ) → m < l.n → slice_index l.levels.items m ≤ l.greatest;
}
