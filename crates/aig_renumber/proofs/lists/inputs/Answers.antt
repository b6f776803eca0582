use Rattle.std.proofs.Common.{ℕ, List, map, slice_index, ap, ◌∙◌}
use Rattle.aig_base.proofs.Words.{filter, take_all}
use Rattle.aig_circuit.specs.Renumber.{is_in}
use Rattle.aig_renumber.proofs.lists.inputs.Goals as goal

pub is_kept-requires : goal.is_kept-requires
is_kept-requires c = record { there = c.requires.there c.loop-input.input-index 0 c.loop-input-test.true; places = c.requires.places }

pub bounds-numbers-input : goal.bounds-numbers-input
bounds-numbers-input c = c.requires.there c.loop-input.input-index 0 c.loop-input-test.true

pub returns : goal.returns
returns c =
    let kept_of = λ (inputs : List ℕ). map (slice_index c.args.numbers.now) (filter (is_in c.args.kept.now) inputs) in
    c.loop-input.invariant ∙ ap kept_of (take_all c.loop-input.input-index c.args.old.now c.loop-input-test.false)
