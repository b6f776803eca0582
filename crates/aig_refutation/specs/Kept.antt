-- Serves private clauses alone.
-- What steps leave can all be true where what was there before can.
use Rattle.std.specs.Prelude.{ℕ, Bool, true, false, List, Option, Some, None, Result, Ok, Err}
use Rattle.aig_base.specs.declared.logic.literal.Lit.{Lit}
use Rattle.aig_refutation.specs.declared.error.RefutationError.{RefutationError}
use Rattle.aig_refutation.specs.Checking.{Live, with_clause}
use Rattle.aig_refutation.specs.Tables.{Holds, Table}
use Rattle.aig_refutation.specs.Taken.{CanHold, KeepsLive}

-- the table has clauses that can all be true where those before can
abbrev pub IsKept : Live → Table → Type 0
IsKept live new = (next : Live) × Holds new next × KeepsLive live next

-- so it is after a step
abbrev pub Keeps : {X : Type 0} → Live → Table → Result X RefutationError → Type 0
Keeps live new (Ok x) = IsKept live new
Keeps live new (Err e) = Unit {0}

-- so it is with one clause more, where that has a number, and else the table is as before
abbrev pub KeepsMore : Live → List Lit → Table → Result (Option ℕ) RefutationError → Type 0
KeepsMore live clause new (Ok (Some n)) =
    Holds new (with_clause live n clause) × KeepsLive live (with_clause live n clause)
KeepsMore live clause new (Ok None) = Holds new live
KeepsMore live clause new (Err e) = Unit {0}

-- so it is, or the clauses before can't all be true
abbrev pub KeepsOrEnds : Live → Table → Result Bool RefutationError → Type 0
KeepsOrEnds live new (Ok true) = ¬ CanHold live
KeepsOrEnds live new (Ok false) = IsKept live new
KeepsOrEnds live new (Err e) = Unit {0}
