use Rattle.aig_base.proofs.Words.{None, get_or, map}
use Rattle.aig_check_commands.proofs.refusals.places.place_by_run.Given as goal

abbrev pub ghosts-place_in : goal.ghosts-place_in
ghosts-place_in g a =
    record { bytes = get_or (map g.F.File.Source.left a.files.items) a.which None }
