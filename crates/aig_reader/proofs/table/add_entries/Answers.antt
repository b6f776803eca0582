use Rattle.aig_base.proofs.Words.{◌-◌, vec_len, arith, take_all}
use Rattle.aig_reader.proofs.TableEntries.{more_entries}
use Rattle.aig_reader.proofs.table.add_entries.Goals as goal

pub returns-in_ok-resize-clause-exact : goal.returns-in_ok-resize-clause-exact
returns-in_ok-resize-clause-exact c = λ gates h.
    let old = c.args.entries.now in
    let size = c.args.len in
    let kept = take_all size old.items (omega (arith, c.if-len.true, c.len.ensures, old.ok)) in
    rw (c.in_ok-resize.ensures.items, c.none.ensures, kept) (more_entries gates (size - vec_len old) old.items h)
