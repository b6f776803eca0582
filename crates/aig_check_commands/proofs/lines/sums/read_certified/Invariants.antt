use Rattle.aig_check_commands.proofs.lines.sums.read_certified.Given as goal

abbrev pub ghosts-read_beside_summed : goal.ghosts-read_beside_summed
ghosts-read_beside_summed g a = record { bytes = g.S.Source.left a.certificate }
