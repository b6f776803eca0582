-- Serves private clauses alone.
-- What is so of an input of a command that is run again.
use Rattle.aig_check_commands.specs.declared.refusals.places.Traced.{Traced}
use Rattle.aig_check_commands.specs.declared.refusals.places.Traced.TheVariants.{Counted, Plain}

-- as it is of the source that is in it
abbrev pub either : {R C T : Type 0} → (R → T) → (C → T) → Traced R C → T
either plain counted (Plain source) = plain source
either plain counted (Counted source) = counted source.value
