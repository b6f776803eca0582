use Rattle.aig_base.proofs.Words.{◌∷◌, [], rules, take_all, flat_map}
use Rattle.aig_output.proofs.Writing.{all_done, calls_laws, failed_turn, failed_within, then_call, then_turn}
use Rattle.aig_writer.specs.Numbering.{written_number}
use Rattle.aig_writer.proofs.Items.{len_is, numbered_set, numbered_sets, set_sizes, size_line}
use Rattle.aig_writer.proofs.sections.write_sets.Goals as goal

pub returns-in_err-write_line : goal.returns-in_err-write_line
returns-in_err-write_line g c =
    let number = written_number c.args.numbers.now in
    let sets = c.args.sets.now in
    rw (set_sizes sets, numbered_sets number sets)
    (failed_within calls_laws {c = c.write_line.new.out} (flat_map (numbered_set number) sets ∷ []) size_line sets c.loop-set.set-index _ c.loop-set-test.true c.loop-set.invariant (rw (c.len.ensures, len_is c.set-item.result, c.set-item.is) at c.in_err-write_line.ensures) (search rules))

pub loop-set-preserved : goal.loop-set-preserved
loop-set-preserved g c =
    then_turn size_line c.args.sets.now c.loop-set.set-index _ c.loop-set-test.true c.loop-set.invariant (rw (c.len.ensures, len_is c.set-item.result, c.set-item.is) at c.in_ok-write_line.ensures.ok)

pub write_edges-requires : goal.write_edges-requires
write_edges-requires g c = rw (c.deref.ensures.value, c.set-item-in-loop-set-2.is)
    (c.requires c.loop-set-2.set-index _ c.loop-set-2-test.true)

pub returns-in_err-write_edges : goal.returns-in_err-write_edges
returns-in_err-write_edges g c =
    let number = written_number c.args.numbers.now in
    let sets = c.args.sets.now in
    let sizes = rw (take_all c.loop-set.set-index sets c.loop-set-test.false) at c.loop-set.invariant in
    let turn = rw (c.deref.ensures.value, c.set-item-in-loop-set-2.is) at c.in_err-write_edges.ensures in
    rw (set_sizes sets, numbered_sets number sets)
    (then_call calls_laws {c = c.write_edges.new.out} sizes (failed_turn calls_laws (numbered_set number) sets c.loop-set-2.set-index _ c.loop-set-2-test.true c.loop-set-2.invariant turn (search rules)))

pub loop-set-2-preserved : goal.loop-set-2-preserved
loop-set-2-preserved g c =
    then_turn (numbered_set (written_number c.args.numbers.now)) c.args.sets.now c.loop-set-2.set-index _ c.loop-set-2-test.true c.loop-set-2.invariant (rw (c.deref.ensures.value, c.set-item-in-loop-set-2.is) at c.in_ok-write_edges.ensures.ok)

pub returns : goal.returns
returns g c =
    let number = written_number c.args.numbers.now in
    let sets = c.args.sets.now in
    let sizes = rw (take_all c.loop-set.set-index sets c.loop-set-test.false) at c.loop-set.invariant in
    rw (set_sizes sets, numbered_sets number sets) (then_call calls_laws sizes (all_done (numbered_set number) sets c.loop-set-2.set-index c.loop-set-2-test.false c.loop-set-2.invariant))
