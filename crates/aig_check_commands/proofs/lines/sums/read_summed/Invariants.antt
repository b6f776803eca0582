use Rattle.aig_check_commands.proofs.lines.sums.read_summed.Given as goal

abbrev pub ghosts-read_own_summed : goal.ghosts-read_own_summed
ghosts-read_own_summed g a = record { bytes = g.R.Source.left a.file }
