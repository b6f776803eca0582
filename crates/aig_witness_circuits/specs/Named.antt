-- Part of what is promised.
-- Which leaves of a witness circuit stand for leaves of a model. (Certificates of the hardware
-- model checking competition: by the symbol table of the witness circuit, where a name is `= ` and
-- a literal of the model's file; with no such name by order.)
use Rattle.std.specs.Prelude.{◌≡◌, ◌≢◌, ℕ, ◌*◌, ◌⊎◌, codes, Option, Some, List, ◌++◌, map, All, AllPairs, Contains}
use Rattle.std.specs.List.{zip}
use Rattle.std.specs.FinMap.{FinMap, get}
use Rattle.std.specs.Ordering.{nat_cmp}
use Rattle.aig_circuit.specs.Circuit.{Circuit, latch_leaves}
use Rattle.aig_format.specs.Text.{IsNumber}
use Rattle.aig_witness_circuits.specs.Simulation.{IsSharing, Sharing}
use Rattle.aig_witness_circuits.specs.declared.sharing.error.SharingError.{SharingError}
use Rattle.aig_witness_circuits.specs.declared.sharing.error.SharingError.TheVariants as errors

-- ---- names

-- names of nodes, by their bytes
abbrev pub Names : Type 0
Names = FinMap nat_cmp (List ℕ)

-- what stands before the literal
abbrev pub sharing_prefix : List ℕ
sharing_prefix = codes "= "

-- the text begins so
abbrev pub IsMapping : List ℕ → Type 0
IsMapping text = (rest : List ℕ) × (text ≡ sharing_prefix ++ rest)

-- The digits are those of the literal of node m: of twice a variable of the model's file whose
-- node that is. `node` says which node a variable is, if it is one.
abbrev pub IsLiteralOf : (ℕ → Option ℕ) → ℕ → List ℕ → Type 0
IsLiteralOf node m digits = (v : ℕ) × IsNumber (2 * v) digits × (node v ≡ Some m)

-- it is so, and then the literal of node m
abbrev pub IsFor : (ℕ → Option ℕ) → ℕ → List ℕ → Type 0
IsFor node m text =
    (digits : List ℕ) × (text ≡ sharing_prefix ++ digits) × IsLiteralOf node m digits

-- the name of node n is so
abbrev pub IsNamed : (List ℕ → Type 0) → Names → ℕ → Type 0
IsNamed P names n = (text : List ℕ) × (get names n ≡ Some text) × P text

-- ---- the leaves that are shared

-- Each pair is of a leaf for which P holds and one of these whose name has its literal, and each of
-- these whose name has the form is in a pair.
pub record AreNamed (node : ℕ → Option ℕ) (names : Names) (leaves : List ℕ) (P : ℕ → Type 0)
    (pairs : Sharing) : Type 0 where
  pub each : All (λ p. IsNamed (IsFor node p.0) names p.1 × P p.0 × Contains leaves p.1) pairs
  pub all : (n : ℕ) → Contains leaves n → IsNamed IsMapping names n
      → Contains (map (λ p. p.1) pairs) n

-- by their names: inputs stand for inputs, latches for latches, none stands for two, and no two for
-- one
pub record SharesByName (node : ℕ → Option ℕ) (model witness : Circuit) (shared : Sharing) : Type 0
  where
    pub inputs : Sharing
    pub latches : Sharing
    pub pairs : shared ≡ inputs ++ latches
    pub named_inputs : AreNamed node witness.names witness.inputs (Contains model.inputs) inputs
    pub named_latches : AreNamed node witness.names (latch_leaves witness.latchs)
        (Contains (latch_leaves model.latchs)) latches
    pub once : AllPairs (λ m n. m ≢ n) (map (λ p. p.0) shared)
    pub sharing : IsSharing shared

-- no name of an input or a latch has the form
abbrev pub HasNoMapping : Circuit → Type 0
HasNoMapping c =
    All (λ n. ¬ IsNamed IsMapping c.names n) (c.inputs ++ latch_leaves c.latchs)

-- by order: the first inputs, and the first latches, as many as both have
abbrev pub in_order : Circuit → Circuit → Sharing
in_order model witness =
    zip model.inputs witness.inputs
    ++ zip (latch_leaves model.latchs) (latch_leaves witness.latchs)

-- which leaves are shared: by their names, and where none has the form, by order
abbrev pub Shares : (ℕ → Option ℕ) → Circuit → Circuit → Sharing → Type 0
Shares node model witness shared =
    ((¬ HasNoMapping witness) × SharesByName node model witness shared)
    ⊎ (HasNoMapping witness × (shared ≡ in_order model witness))

-- ---- why none are

-- the leaf's name has the form, but the literal of no leaf for which P holds
abbrev pub IsUnknown : (ℕ → Option ℕ) → Names → (ℕ → Type 0) → ℕ → Type 0
IsUnknown node names P n =
    IsNamed IsMapping names n × ((m : ℕ) → P m → ¬ IsNamed (IsFor node m) names n)

-- another of these leaves has the literal of one that leaf n has
abbrev pub IsTwice : (ℕ → Option ℕ) → Names → List ℕ → ℕ → Type 0
IsTwice node names leaves n =
    (m : ℕ) × (k : ℕ) × Contains leaves k × (k ≢ n) × IsNamed (IsFor node m) names k
    × IsNamed (IsFor node m) names n

-- what an error says
abbrev pub IsFault : (ℕ → Option ℕ) → Circuit → Circuit → SharingError → Type 0
IsFault node model witness errors.Memory = Unit {0}
IsFault node model witness (errors.Unknown n) =
    (Contains witness.inputs n × IsUnknown node witness.names (Contains model.inputs) n)
    ⊎ (Contains (latch_leaves witness.latchs) n
    × IsUnknown node witness.names (Contains (latch_leaves model.latchs)) n)
IsFault node model witness (errors.Twice n) =
    Contains (witness.inputs ++ latch_leaves witness.latchs) n
    × IsTwice node witness.names (witness.inputs ++ latch_leaves witness.latchs) n
