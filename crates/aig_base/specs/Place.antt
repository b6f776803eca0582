-- Part of what is promised.
-- The clauses of a list, wherever they stand.
use Rattle.std.specs.Prelude.{List}
use Rattle.aig_base.specs.declared.logic.literal.Lit.{Lit}
use Rattle.aig_base.specs.declared.logic.clauses.Place.{Place}
use Rattle.aig_base.specs.declared.logic.clauses.Place.TheVariants.{Near, Far}

-- the clauses at a place
abbrev pub clauses_at : Place → List (List Lit)
clauses_at (Near clauses) = clauses
clauses_at (Far clauses) = clauses
