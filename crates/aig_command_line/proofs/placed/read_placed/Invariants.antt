use Rattle.aig_command_line.proofs.placed.read_placed.Given as goal

abbrev pub ghosts-read_followed : goal.ghosts-read_followed
ghosts-read_followed g a = record { bytes = g.R.Source.left a.source }
