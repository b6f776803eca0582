use Rattle.std.proofs.Common.{List, map, string_bytes, take}
use Rattle.aig_check_commands.specs.Opening.{AreOpened}
use Rattle.aig_check_commands.proofs.inputs.try_each.Given as goal

abbrev pub invariant-loop-path : goal.invariant-loop-path
invariant-loop-path g l = (files : List g.row.F-File.Denot)
    × AreOpened (g.F.Opens.opens l.files) (map string_bytes (take l.path-index l.paths)) files
