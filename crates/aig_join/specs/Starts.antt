-- Part of what is promised.
-- Registers of two machines that start alike. (AIGER 1.9, "Reset logic": a latch whose reset is its
-- own literal may start with either value. Equivalence checking.)
use Rattle.std.specs.Prelude.{◌≡◌, ℕ, ◌/◌, ◌&&◌, if◌then◌else◌, Bool, is_none, Option, Some, None, IfSome, option_map, List, [], ◌∷◌, map, filter, find, drop, slice_get}
use Rattle.std.specs.List.{AllZip}
use Rattle.std.specs.FinMap.{get}
use Rattle.aig_circuit.specs.Circuit.{Circuit}
use Rattle.aig_format.specs.Circuit.{circuit_of}
use Rattle.aig_format.specs.File.{File}
use Rattle.aig_format.specs.Machine.{initial_value_of}
use Rattle.aig_format.specs.Numbering.{node_of_variable}
use Rattle.aig_join.specs.Names.{is_called}
use Rattle.aig_join.specs.declared.starts.Matching.{Matching}
use Rattle.aig_join.specs.declared.starts.Matching.TheVariants.{ByName, ByOrder}

-- a register: its leaf or its variable, whether it may start with either value, and its name, if it
-- has one
pub record Register : Type 0 where
  pub place : ℕ
  pub is_open : Bool
  pub name : Option (List ℕ)

-- those of a circuit, in order
abbrev pub circuit_registers : Circuit → List Register
circuit_registers c =
    map (λ l. record { place = l.input; is_open = is_none l.init; name = get c.names l.input })
    c.latchs

-- those of a file, in order, with the names that the nodes of its circuit have
abbrev pub file_registers : File → List Register
file_registers f =
    map
    (λ l. record {
      place = l.literal / 2;
      is_open = is_none (initial_value_of l);
      name = get (circuit_of f).names (node_of_variable f (l.literal / 2));
    }) f.latches

-- the places of those that may start with either value
abbrev pub open_places : List Register → List ℕ
open_places rs = map (λ r. r.place) (filter (λ r. r.is_open) rs)

-- each register that may start with either value gets the next of these places, as long as there is
-- one
abbrev pub in_turn : List ℕ → List Register → List (Option ℕ)
in_turn places [] = []
in_turn places (r ∷ rs) =
    if r.is_open then slice_get places 0 ∷ in_turn (drop 1 places) rs
    else None ∷ in_turn places rs

-- the place of the first register of this name that may start with either value
abbrev pub named_place : List Register → Option (List ℕ) → Option ℕ
named_place rs (Some text) =
    option_map (λ r. r.place) (find (λ r. r.is_open && is_called text r.name) rs)
named_place rs None = None

-- for each of the second registers the place of that of the first which it starts like, if any
abbrev pub partners : Matching → List Register → List Register → List (Option ℕ)
partners ByOrder ours theirs = in_turn (open_places ours) theirs
partners ByName ours theirs =
    map (λ r. if r.is_open then named_place ours r.name else None) theirs

-- each of the second registers that has a partner has its value
abbrev pub AreAlike : Matching → List Register → List Register → (ℕ → Bool) → (ℕ → Bool) → Type 0
AreAlike matching ours theirs x y =
    AllZip (λ p r. IfSome p (λ n. x n ≡ y r.place)) (partners matching ours theirs) theirs
