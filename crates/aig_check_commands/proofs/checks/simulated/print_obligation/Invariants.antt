use Rattle.aig_check_commands.proofs.checks.simulated.print_obligation.Given as goal

abbrev pub ghosts-print_obligation_of-A-Origin : goal.ghosts-print_obligation_of-A-Origin
ghosts-print_obligation_of-A-Origin g a = record { bytes = g.R.Source.left a.file }

abbrev pub ghosts-print_obligation_of-B-Origin : goal.ghosts-print_obligation_of-B-Origin
ghosts-print_obligation_of-B-Origin g a = record { bytes = g.S.Source.left a.witness }
