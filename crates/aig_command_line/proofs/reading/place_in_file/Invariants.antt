use Rattle.aig_command_line.proofs.reading.place_in_file.Given as goal

abbrev pub ghosts-place_by_bytes : goal.ghosts-place_by_bytes
ghosts-place_by_bytes g a = record { bytes = g.F.File.Source.left a.source }
