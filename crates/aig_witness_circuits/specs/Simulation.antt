-- Part of what is promised.
-- A witness circuit that simulates a model on the leaves that both share, and whose property is an
-- inductive invariant. (Certificates of the hardware model checking competition; simulation with
-- resets that are functions: Yu, Froleyks, Biere and Heljanko, 2022. AIGER 1.9, "Reset logic" and
-- "Properties".)
use Rattle.std.specs.Prelude.{◌≡◌, ◌≢◌, ℕ, Bool, IfSome, List, map, All, AllPairs, Contains}
use Rattle.aig_circuit.specs.declared.node.AigLatch.{AigLatch}
use Rattle.aig_circuit.specs.Circuit.{Circuit}
use Rattle.aig_circuit.specs.Runs.{IsInitial}
use Rattle.aig_circuit.specs.Tree.{edge_value}
use Rattle.aig_join.specs.Pairs.{IsGoodState, MeetsConstraints}

-- ---- shared leaves

-- Each pair has a leaf of the model, and the one of the witness circuit that stands for it: inputs
-- for inputs, latches for latches. In the competition's form pairs are named by the witness
-- circuit's symbol table, or they are the first leaves in order.
abbrev pub Sharing : Type 0
Sharing = List (ℕ × ℕ)

-- no leaf of the witness circuit stands for two
abbrev pub IsSharing : Sharing → Type 0
IsSharing shared = AllPairs (λ m n. m ≢ n) (map (λ p. p.1) shared)

-- shared leaves have the same values: x are those of the model, y those of the witness circuit
abbrev pub Agrees : Sharing → (ℕ → Bool) → (ℕ → Bool) → Type 0
Agrees shared x y = All (λ p. x p.0 ≡ y p.1) shared

-- the leaf is the witness circuit's own
abbrev pub IsOwn : Sharing → ℕ → Type 0
IsOwn shared n = ¬ Contains (map (λ p. p.1) shared) n

-- it holds of each latch of its own
abbrev pub AllOwn : Sharing → (AigLatch → Type 0) → List AigLatch → Type 0
AllOwn shared P latchs = All (λ latch. IsOwn shared latch.input → P latch) latchs

-- ---- steps

-- the latch's leaf has the value of its initial edge
abbrev pub Starts : Circuit → (ℕ → Bool) → AigLatch → Type 0
Starts c y latch = IfSome latch.init (λ e. edge_value c.nodes y e ≡ y latch.input)

-- the latch's leaf has in z the value of its next edge in y
abbrev pub TakesNext : Circuit → (ℕ → Bool) → (ℕ → Bool) → AigLatch → Type 0
TakesNext c y z latch = z latch.input ≡ edge_value c.nodes y latch.next

-- a step of the circuit
abbrev pub IsMove : Circuit → (ℕ → Bool) → (ℕ → Bool) → Type 0
IsMove c y z = All (TakesNext c y z) c.latchs

-- whatever values its shared leaves have, the own latches can start
abbrev pub CanStart : Sharing → Circuit → Type 0
CanStart shared witness =
    (y : ℕ → Bool) → (z : ℕ → Bool) × All (λ p. z p.1 ≡ y p.1) shared
    × AllOwn shared (Starts witness z) witness.latchs

-- ---- the conditions of a certificate

-- where the model is in an initial state, and the own latches start, so does the witness circuit
abbrev pub ResetHolds : Sharing → Circuit → Circuit → Type 0
ResetHolds shared model witness =
    (x y : ℕ → Bool) → Agrees shared x y → IsInitial model x → MeetsConstraints model x
    → AllOwn shared (Starts witness y) witness.latchs
    → IsInitial witness y × MeetsConstraints witness y

-- where the model makes a step, and the own latches do, so does the witness circuit
abbrev pub TransitionHolds : Sharing → Circuit → Circuit → Type 0
TransitionHolds shared model witness =
    (x next y z : ℕ → Bool) → Agrees shared x y → Agrees shared next z → IsMove model x next
    → MeetsConstraints model x → MeetsConstraints model next → MeetsConstraints witness y
    → AllOwn shared (TakesNext witness y z) witness.latchs
    → IsMove witness y z × MeetsConstraints witness z

-- where the witness circuit's state is good, the model's is
abbrev pub PropertyHolds : Sharing → Circuit → Circuit → Type 0
PropertyHolds shared model witness =
    (x y : ℕ → Bool) → Agrees shared x y → MeetsConstraints model x → MeetsConstraints witness y
    → IsGoodState witness y → IsGoodState model x

-- each initial state of the witness circuit is good
abbrev pub BaseHolds : Circuit → Type 0
BaseHolds witness =
    (y : ℕ → Bool) → IsInitial witness y → MeetsConstraints witness y → IsGoodState witness y

-- a step from a good state leads to a good one
abbrev pub StepHolds : Circuit → Type 0
StepHolds witness =
    (y z : ℕ → Bool) → IsGoodState witness y → IsMove witness y z → MeetsConstraints witness y
    → MeetsConstraints witness z → IsGoodState witness z

-- The witness circuit certifies the model. Each condition is of single states or of pairs of them,
-- so that a solver can be asked for what breaks it.
pub record IsCertificate (shared : Sharing) (model witness : Circuit) : Type 0 where
  pub sharing : IsSharing shared
  pub can_start : CanStart shared witness
  pub reset : ResetHolds shared model witness
  pub transition : TransitionHolds shared model witness
  pub property : PropertyHolds shared model witness
  pub base : BaseHolds witness
  pub step : StepHolds witness
