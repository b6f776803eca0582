use Rattle.std.proofs.Common.{Some, take, rules}
use Rattle.std.specs.Io.KnownBytes.{prepend_known}
use Rattle.aig_command_line.proofs.Fronts.{header_in}
use Rattle.aig_command_line.proofs.beginning.Beginning.header.Goals as goal

pub returns-in-Ok : goal.returns-in-Ok
returns-in-Ok c =
    let b = c.args.self.now in
    let t = c.in-Ok.ensures in
    header_in (take b.len b.bytes) (prepend_known c.new.result (Some c.new-source.result.inner.now)) (prepend_known c.header_line.new.buffer (Some c.header_line.new.r.inner.now)) t.taken _
    (search rules) t.advances.consumed t.reads
