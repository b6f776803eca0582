-- Part of what is promised.
-- What a program may be asked of itself.
use Rattle.std.specs.Prelude.{ℕ, List, codes}
use Rattle.aig_command_line.specs.declared.help.Help.{Help}
use Rattle.aig_command_line.specs.declared.help.Help.TheVariants.{Usage, Version}

-- the word that asks it
abbrev pub word_of : Help → List ℕ
word_of Usage = codes "--help"
word_of Version = codes "--version"
