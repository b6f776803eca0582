-- What the circuits of files say of the machines where constraints are compared, and where those of
-- the second file say nothing.
use Rattle.aig_base.proofs.Words.{◌≡◌, ◌↔◌, ℕ, ◌≤◌, Bool, List, refl, sym, subst, arith}
use Rattle.aig_format.proofs.Words.{circuit_of, File, Fits, IsMachineInitial, IsMachineRun}
use Rattle.aig_format.specs.Numbering.{node_of_variable, variables_in_order}
use Rattle.aig_format_laws.specs.Nodes.{HasNodeValues, values_over}
use Rattle.aig_format_laws.proofs.Joining.{back_run, forth_run, forth_values, leaves_of}
use Rattle.aig_join.specs.Alike.{AreEqualMachinesFrom}
use Rattle.aig_join.specs.Constraints.{AreEqualConstrainedAt, AreEqualConstrainedMachinesAt, StartSo, unconstrained, without_constraints}
use Rattle.aig_join.specs.Files.{FilesCompareEqual, HaveSameFileInputs, IsAllowedMachineRun}
use Rattle.aig_join.specs.Starts.{AreAlike, Register, circuit_registers, file_registers}
use Rattle.aig_join.specs.declared.starts.Starts.{Starts}
use Rattle.aig_join.specs.declared.starts.Starts.TheVariants.{Alike, Apart}
use Rattle.aig_join.proofs.AlikeFiles.{registers-alike}
use Rattle.aig_join.proofs.Deferred.{AreEqualStartedAt}
use Rattle.aig_join.proofs.Files.{allowed-back, allowed-forth, compared-back, compared-forth, constraints-same, inputs-back, inputs-forth, start-back, start-forth}
use Rattle.aig_join.proofs.Unconstrained.{unconstrained-back, unconstrained-forth}

-- ---- constraints that are compared

-- what is said of P, Q and R is said of S, T and U
said-forth : {P Q R S T U : Type 0} → P ↔ S → Q ↔ T → (R → U) → (P ↔ Q) × (P → R)
    → (S ↔ T) × (S → U)
said-forth first second third said = (
  (λ s. second.0 (said.0.0 (first.1 s)), λ t. first.0 (said.0.1 (second.1 t))),
  λ s. third (said.1 (first.1 s)),
)

-- and the other way round
said-back : {P Q R S T U : Type 0} → P ↔ S → Q ↔ T → (U → R) → (S ↔ T) × (S → U)
    → (P ↔ Q) × (P → R)
said-back first second third said =
    said-forth (first.1, first.0) (second.1, second.0) third said

module _ (f g : File) (limit bound k : ℕ) (fits : Fits f limit) (also : Fits g bound) where
  -- the circuits' registers start so where the machines' do
  starts-so : (starts : Starts) (x run y other : ℕ → ℕ → Bool) → HasNodeValues f k x run
      → HasNodeValues g k y other
      → StartSo starts (circuit_registers (circuit_of f)) (circuit_registers (circuit_of g)) (x 0)
      (y 0)
      ↔ StartSo starts (file_registers f) (file_registers g) (run 0) (other 0)
  starts-so Apart x run y other vx vy = (λ so. tt, λ so. tt)
  starts-so (Alike matching) x run y other vx vy =
      registers-alike matching f g limit bound k fits also x run y other vx vy

  constrained-forth : (starts : Starts)
      → AreEqualConstrainedAt starts (circuit_of f) (circuit_of g) k
      → AreEqualConstrainedMachinesAt starts f g k
  constrained-forth starts equal run other is_run start is_other also_start so inputs before =
      let x = leaves_of f run in
      let y = leaves_of g other in
      let vx = forth_values f limit k run fits is_run in
      let vy = forth_values g bound k other also is_other in
      let ours = constraints-same f limit k fits x run vx in
      let theirs = constraints-same g bound k also y other vy in
      said-forth (ours k (omega arith)) (theirs k (omega arith))
      (compared-forth f g limit bound k fits also x run vx y other vy)
      (equal x y
      (start-forth f limit k fits x run vx (forth_run f limit k run fits is_run) start)
      (start-forth g bound k also y other vy (forth_run g bound k other also is_other) also_start)
      ((starts-so starts x run y other vx vy).1 so)
      (λ t h. inputs-forth f g limit bound k fits also x run vx y other vy t h (inputs t h))
      (λ t h. (
        (ours t (omega arith)).1 (before t h).0,
        (theirs t (omega arith)).1 (before t h).1,
      )))

  constrained-back : (starts : Starts) → AreEqualConstrainedMachinesAt starts f g k
      → AreEqualConstrainedAt starts (circuit_of f) (circuit_of g) k
  constrained-back starts equal x y first second so inputs before =
      let run = values_over f x in
      let other = values_over g y in
      let vx : HasNodeValues f k x run = λ t v h known. refl in
      let vy : HasNodeValues g k y other = λ t v h known. refl in
      let ours = constraints-same f limit k fits x run vx in
      let theirs = constraints-same g bound k also y other vy in
      said-back (ours k (omega arith)) (theirs k (omega arith))
      (compared-back f g limit bound k fits also x run vx y other vy)
      (equal run other
      (back_run f limit k x fits first.run) (start-back f limit k fits x run vx first)
      (back_run g bound k y also second.run) (start-back g bound k also y other vy second)
      ((starts-so starts x run y other vx vy).0 so)
      (λ t h. inputs-back f g limit bound k fits also x run vx y other vy t h (inputs t h))
      (λ t h. (
        (ours t (omega arith)).0 (before t h).0,
        (theirs t (omega arith)).0 (before t h).1,
      )))

  -- the files' circuits are equal, with their constraints, exactly where the machines are
  pub equal-constrained_machines : (starts : Starts)
      → AreEqualConstrainedAt starts (circuit_of f) (circuit_of g) k
      ↔ AreEqualConstrainedMachinesAt starts f g k
  equal-constrained_machines starts = (constrained-forth starts, constrained-back starts)

-- ---- constraints that say nothing

-- the allowed runs of the machine without constraints are its runs from initial states
free-forth : (g : File) (k : ℕ) (run : ℕ → ℕ → Bool) → IsMachineRun g k run
    → IsMachineInitial g run → IsAllowedMachineRun (without_constraints g) k run
free-forth g k run is start = record {
  is_run = record {
    steps = λ t h. record { zero = (is.steps t h).zero; gates = (is.steps t h).gates };
    moves = is.moves;
  };
  start = start;
  constraints = λ t h. tt;
}

free-back : (g : File) (k : ℕ) (run : ℕ → ℕ → Bool)
    → IsAllowedMachineRun (without_constraints g) k run → IsMachineRun g k run
free-back g k run allowed = record {
  steps = λ t h. record {
    zero = (allowed.is_run.steps t h).zero;
    gates = (allowed.is_run.steps t h).gates;
  };
  moves = allowed.is_run.moves;
}

-- it has the same registers
registers-free : (g : File) → file_registers (without_constraints g) ≡ file_registers g
unfolding node_of_variable variables_in_order
registers-free g = refl

module _ (f g : File) (k : ℕ) where
  -- outputs and bad literals are the same at step k, where constraints of the second say nothing
  abbrev AreEqualOfFirst : Starts → Type 0
  AreEqualOfFirst starts =
      (run other : ℕ → ℕ → Bool) → IsAllowedMachineRun f k run
      → IsAllowedMachineRun (without_constraints g) k other
      → StartSo starts (file_registers f) (file_registers g) (run 0) (other 0)
      → ((t : ℕ) → t ≤ k → HaveSameFileInputs f g (run t) (other t))
      → FilesCompareEqual f g (run k) (other k)

  from-of_first : (starts : Starts) → AreEqualOfFirst starts
      ↔ AreEqualMachinesFrom starts f (without_constraints g) k
  from-of_first Apart = (
    λ equal run other first second inputs. equal run other first second tt inputs,
    λ equal run other first second so inputs. equal run other first second inputs,
  )
  from-of_first (Alike matching) =
      let Are = λ (run other : ℕ → ℕ → Bool) (rs : List Register).
      AreAlike matching (file_registers f) rs (run 0) (other 0) in (
        λ equal run other first second alike inputs. equal run other first second
            (subst (Are run other) (registers-free g) alike) inputs,
        λ equal run other first second alike inputs. equal run other first second
            (subst (Are run other) (sym (registers-free g)) alike) inputs,
      )

module _ (starts : Starts) (f g : File) (limit bound k : ℕ) (fits : Fits f limit)
    (also : Fits g bound) where
  first-forth : AreEqualStartedAt starts (circuit_of f) (unconstrained (circuit_of g)) k
      → AreEqualOfFirst f g k starts
  first-forth equal run other first second so inputs =
      let x = leaves_of f run in
      let y = leaves_of g other in
      let is_other = free-back g k other second in
      let vx = forth_values f limit k run fits first.is_run in
      let vy = forth_values g bound k other also is_other in
      compared-forth f g limit bound k fits also x run vx y other vy (equal x y
      (allowed-forth f limit k fits x run vx (forth_run f limit k run fits first.is_run) first)
      (unconstrained-forth (circuit_of g) k y (start-forth g bound k also y other vy
      (forth_run g bound k other also is_other) second.start))
      ((starts-so f g limit bound k fits also starts x run y other vx vy).1 so)
      (λ t h. inputs-forth f g limit bound k fits also x run vx y other vy t h (inputs t h)))

  first-back : AreEqualOfFirst f g k starts
      → AreEqualStartedAt starts (circuit_of f) (unconstrained (circuit_of g)) k
  first-back equal x y first second so inputs =
      let run = values_over f x in
      let other = values_over g y in
      let from = unconstrained-back (circuit_of g) k y second in
      let vx : HasNodeValues f k x run = λ t v h known. refl in
      let vy : HasNodeValues g k y other = λ t v h known. refl in
      compared-back f g limit bound k fits also x run vx y other vy (equal run other
      (allowed-back f limit k fits x run vx (back_run f limit k x fits first.from_start.run) first)
      (free-forth g k other (back_run g bound k y also from.run)
      (start-back g bound k also y other vy from))
      ((starts-so f g limit bound k fits also starts x run y other vx vy).0 so)
      (λ t h. inputs-back f g limit bound k fits also x run vx y other vy t h (inputs t h)))

  -- without constraints of the second the files' circuits are equal exactly where the machines are
  pub equal-first_machines : AreEqualStartedAt starts (circuit_of f) (unconstrained (circuit_of g)) k
      ↔ AreEqualMachinesFrom starts f (without_constraints g) k
  equal-first_machines =
      let same = from-of_first f g k starts in
      (λ equal. same.0 (first-forth equal), λ equal. first-back (same.1 equal))
