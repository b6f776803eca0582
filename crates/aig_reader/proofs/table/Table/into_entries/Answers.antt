use Rattle.std.proofs.Common.{arith}
use Rattle.aig_reader.proofs.Waiting.{placed_all}
use Rattle.aig_reader.proofs.table.Table.into_entries.Goals as goal

pub returns : goal.returns
returns c = λ gates h.
    let placed = c.in_ok-place_pending.ensures.held c.args.len gates h in
    (c.add_entries.ensures.exact gates (placed_all c.args.len gates c.place_pending.new.self placed c.in_ok-place_pending.ensures.none), omega (arith, c.in_ok-add_entries.ensures.len, placed.space))
