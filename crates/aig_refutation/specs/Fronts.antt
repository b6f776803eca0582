-- Serves private clauses alone.
-- What comes next at the front of a binary proof, as the code holds it.
use Rattle.aig_refutation.specs.declared.form.Part as held
use Rattle.aig_refutation.specs.declared.form.Part.TheVariants as parts
use Rattle.aig_refutation.specs.Forms.{Part, Letter, Number, Literals, Last}

-- what the code holds
abbrev pub said_part : held.Part → Part
said_part parts.Letter = Letter
said_part parts.Number = Number
said_part parts.Literals = Literals
said_part parts.Last = Last
