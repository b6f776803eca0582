-- Serves private clauses alone.
-- Marks of leaves, and pairs that are found one after another.
use Rattle.std.specs.Prelude.{◌≡◌, ◌≢◌, ℕ, ◌<◌, ◌||◌, Bool, false, IsTrue, Option, List, ◌++◌, ◌⊎◌, length, map, AllPairs, Contains, slice_index_or}
use Rattle.aig_circuit.specs.Renumber.{is_in}
use Rattle.aig_witness_circuits.specs.Simulation.{IsSharing, Sharing}
use Rattle.aig_witness_circuits.specs.Named.{AreNamed, IsFor, IsNamed, IsUnknown, Names}
use Rattle.aig_witness_circuits.specs.declared.sharing.error.SharingError.{SharingError}
use Rattle.aig_witness_circuits.specs.declared.sharing.error.SharingError.TheVariants as errors

-- node n is marked
abbrev pub IsAt : List Bool → ℕ → Type 0
IsAt marks n = IsTrue (slice_index_or marks n false)

-- these nodes are marked too
abbrev pub MarksNodes : List ℕ → List Bool → List Bool → Type 0
MarksNodes ns before after =
    (n : ℕ) → n < length before
    → slice_index_or after n false ≡ (slice_index_or before n false || is_in ns n)

-- the marks are those of these nodes
abbrev pub Marks : List Bool → List ℕ → Type 0
Marks marks ns = (n : ℕ) → n < length marks → slice_index_or marks n false ≡ is_in ns n

-- Pairs of these leaves are added; the marks are those of the leaves of the model that
-- stand in a pair.
pub record AddsNamed (node : ℕ → Option ℕ) (names : Names) (leaves : List ℕ) (P : ℕ → Type 0)
    (before after : Sharing) (marks : List Bool) : Type 0 where
  pub added : Sharing
  pub pairs : after ≡ before ++ added
  pub named : AreNamed node names leaves P added
  pub taken : Marks marks (map (λ p. p.0) after)
  pub once : AllPairs (λ m n. m ≢ n) (map (λ p. p.0) after)
  pub sharing : IsSharing after

-- why no pairs of these leaves are added to others
abbrev pub IsRefused : (ℕ → Option ℕ) → Names → List ℕ → (ℕ → Type 0) → Sharing → SharingError
    → Type 0
IsRefused node names leaves P before errors.Memory = Unit {0}
IsRefused node names leaves P before (errors.Unknown n) =
    Contains leaves n × IsUnknown node names P n
IsRefused node names leaves P before (errors.Twice n) =
    Contains leaves n
    × ((m : ℕ) × (k : ℕ) × IsNamed (IsFor node m) names n × IsNamed (IsFor node m) names k
    × (k ≢ n) × (Contains (map (λ p. p.1) before) k ⊎ Contains leaves k))
