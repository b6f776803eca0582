-- Serves private clauses alone.
-- What stands under a source that sums.
use Rattle.aig_base.specs.declared.stream.Source as source
use Rattle.aig_command_line.specs.declared.counted.Origin as origin
use Rattle.aig_check_commands.specs.declared.lines.titles.summed.Summed.{Summed}

-- the source under it
abbrev pub source_of : {R B : Type 0} {r : source.Ghosts R} {b : origin.Ghosts B} → Summed R B r b
    → R
source_of s = s.source
