-- Part of what is promised.
-- The five lists of properties, of edges or of literals. (AIGER 1.9: "Properties".)
use Rattle.std.specs.Prelude.{List, [], ◌++◌, map, All}
use Rattle.std.specs.List.{AllZip, flat_map}

-- outputs, bad states, invariant constraints, sets of justice, and fairness constraints
pub record Properties (E : Type 0) : Type 0 where
  pub outputs : List E
  pub bads : List E
  pub constraints : List E
  pub justice : List (List E)
  pub fairness : List E

-- no properties
abbrev pub no_properties : {E : Type 0} → Properties E
no_properties =
    record { outputs = []; bads = []; constraints = []; justice = []; fairness = [] }

-- f of each entry
abbrev pub map_properties : {E F : Type 0} → (E → F) → Properties E → Properties F
map_properties f p =
    record {
      outputs = map f p.outputs;
      bads = map f p.bads;
      constraints = map f p.constraints;
      justice = map (map f) p.justice;
      fairness = map f p.fairness;
    }

-- the entries of the first, and then those of the second, list by list
abbrev pub append_properties : {E : Type 0} → Properties E → Properties E → Properties E
append_properties p q =
    record {
      outputs = p.outputs ++ q.outputs;
      bads = p.bads ++ q.bads;
      constraints = p.constraints ++ q.constraints;
      justice = p.justice ++ q.justice;
      fairness = p.fairness ++ q.fairness;
    }

-- all entries, list by list
abbrev pub entries_of : {E : Type 0} → Properties E → List E
entries_of p =
    p.outputs ++ p.bads ++ p.constraints ++ flat_map (λ set. set) p.justice ++ p.fairness

-- P holds of each entry
pub record AllProperties {E : Type 0} (P : E → Type 0) (p : Properties E) : Type 0 where
  pub outputs : All P p.outputs
  pub bads : All P p.bads
  pub constraints : All P p.constraints
  pub justice : All (All P) p.justice
  pub fairness : All P p.fairness

-- as many entries in each list, and R holds of them one for one
pub record AreProperties {E F : Type 0} (R : E → F → Type 0) (p : Properties E) (q : Properties F)
    : Type 0 where
  pub outputs : AllZip R p.outputs q.outputs
  pub bads : AllZip R p.bads q.bads
  pub constraints : AllZip R p.constraints q.constraints
  pub justice : AllZip (AllZip R) p.justice q.justice
  pub fairness : AllZip R p.fairness q.fairness
