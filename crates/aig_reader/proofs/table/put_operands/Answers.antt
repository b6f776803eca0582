use Rattle.std.proofs.Common.{◌/◌, ◌<◌, length, arith}
use Rattle.aig_reader.proofs.TableEntries.{put_entry}
use Rattle.aig_reader.proofs.table.put_operands.Goals as goal

pub returns : goal.returns
returns c = λ size gates h room new own low.
    let entries = c.add_entries.new.entries in
    let len = c.in_ok-add_entries.ensures.len in
    let within : c.args.lhs / 2 < length entries.items = omega (arith, len, entries.ok) in
    (put_entry gates c.args.lhs c.args.operands c.of.result entries.items c.of.ensures (c.in_ok-add_entries.ensures.exact gates h) new own within, omega (arith, len, room, low))
