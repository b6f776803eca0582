-- Part of what is promised.
-- The names of a joint circuit: those of the first, and those of the second one's further inputs
-- and latches behind a prefix.
use Rattle.std.specs.Prelude.{ℕ, if◌then◌else◌, Bool, false, codes, Option, Some, None, List, [], ◌∷◌, ◌++◌}
use Rattle.std.specs.FinMap.{FinMap, get, insert}
use Rattle.std.specs.List.{list_any}
use Rattle.std.specs.Ordering.{nat_cmp}
use Rattle.std.specs.Str.{bytes_eq}
use Rattle.aig_circuit.specs.Circuit.{Circuit, latch_leaves}

-- what stands before a name of the second circuit
abbrev pub other_prefix : List ℕ
other_prefix = codes "other."

-- there is a name, and it is this text
abbrev pub is_called : List ℕ → Option (List ℕ) → Bool
is_called text (Some name) = bytes_eq name text
is_called text None = false

-- one of these nodes has this name
abbrev pub is_name_of : FinMap nat_cmp (List ℕ) → List ℕ → List ℕ → Bool
is_name_of names ns text = list_any (λ n. is_called text (get names n)) ns

-- an input or a latch of the circuit has this name
abbrev pub is_taken : Circuit → List ℕ → Bool
is_taken c text = is_name_of c.names (c.inputs ++ latch_leaves c.latchs) text

-- the name that a node of the second circuit has in the joint one: its own behind the prefix, if it
-- has one and that isn't taken
abbrev pub other_name : (List ℕ → Bool) → Option (List ℕ) → Option (List ℕ)
other_name taken (Some name) =
    if taken (other_prefix ++ name) then None else Some (other_prefix ++ name)
other_name taken None = None

-- the names with one more, if there is one
abbrev pub with_name : FinMap nat_cmp (List ℕ) → ℕ → Option (List ℕ) → FinMap nat_cmp (List ℕ)
with_name names n (Some name) = insert names n name
with_name names n None = names

-- the names with those of these nodes of the second circuit, under their numbers
abbrev pub with_names : (ℕ → ℕ) → (List ℕ → Bool) → FinMap nat_cmp (List ℕ)
    → FinMap nat_cmp (List ℕ) → List ℕ → FinMap nat_cmp (List ℕ)
with_names number taken theirs names [] = names
with_names number taken theirs names (n ∷ ns) =
    with_names number taken theirs
    (with_name names (number n) (other_name taken (get theirs n))) ns
