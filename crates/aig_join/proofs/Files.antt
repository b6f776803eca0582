-- What a miter and a certified circuit say of the machines of files.
use Rattle.aig_base.proofs.Words.{◌≡◌, ◌↔◌, ℕ, ◌/◌, ◌≤◌, suc, Bool, List, [], ◌∷◌, ◌++◌, length, map, get_or, refl, sym, subst, ◌∙◌, arith, IsTrue, All, AllZip, length-map, map-append, All-append, All-drop, All-from_recursion, All-map, recursion_from_All}
use Rattle.aig_circuit.specs.declared.edge.AigEdge.{AigEdge}
use Rattle.aig_circuit.proofs.Words.{Circuit, IsLeaf, HasConstantInit, AllProperties, IsRun, edge_value}
use Rattle.aig_circuit.proofs.Listed.{AllProperties-weaker}
use Rattle.aig_circuit.proofs.Lists.{All-from_map}
use Rattle.aig_circuit.proofs.Trees.{node_value-leaf}
use Rattle.aig_change.specs.Runs.{IsAllowedRun, IsRunFromInitial}
use Rattle.aig_format.proofs.Words.{circuit_of, edge_of, latch_of, File, Fits, IsMachineInitial, IsMachineRun, value_of_literal, node_of_variable, IsKnown}
use Rattle.aig_format.proofs.Circuits.{IsCircuit-of_file, used_by_section}
use Rattle.aig_format.proofs.Numbers.{used_known}
use Rattle.aig_format_laws.specs.Nodes.{HasNodeValues, values_over}
use Rattle.aig_format_laws.proofs.Joining.{back_run, forth_run, forth_values, inputs_known, leaves_of, literal_is}
use Rattle.aig_format_laws.proofs.Starts.{starts_agree}
use Rattle.aig_format_laws.proofs.Writable.{plain_starts}
use Rattle.aig_runs.proofs.SafeSteps.{safe_is}
use Rattle.aig_runs.proofs.Witnesses.{witness_forth}
use Rattle.aig_runs.specs.Queries.{IsSafeTo}
use Rattle.aig_runs.specs.Safety.{IsCircuitSafeAt, IsConstrained, IsSafeAt}
use Rattle.aig_join.specs.Certificate.{HasConstantFurtherInits, HasLeavesOf, certified}
use Rattle.aig_join.specs.Files.{AreEqualMachinesAt, FilesCompareEqual, HasLinesOf, HaveSameFileCounts, HaveSameFileInputs, IsAllowedMachineRun}
use Rattle.aig_join.specs.Miter.{AreEqualAt, CompareEqual, HaveSameCounts, HaveSameInputs, IsMiter, compared}
use Rattle.aig_join.specs.Pairs.{MeetsConstraints}
use Rattle.aig_join.proofs.Certified.{safe-certified}
use Rattle.aig_join.proofs.Miters.{safe-is_equal}

-- pairs of what two lists are mapped to
pub zip-forth : {A B C D : Type 0} (R : A → B → Type 0) (S : C → D → Type 0) (f : C → A) (g : D → B)
    (P : C → Type 0) (Q : D → Type 0) → ((x : C) (y : D) → P x → Q y → R (f x) (g y) → S x y)
    → (xs : List C) (ys : List D) → All P xs → All Q ys → AllZip R (map f xs) (map g ys)
    → AllZip S xs ys
zip-forth R S f g P Q w [] [] ps qs zip = tt
zip-forth R S f g P Q w [] (y ∷ ys) ps qs zip = absurd zip
zip-forth R S f g P Q w (x ∷ xs) [] ps qs zip = absurd zip
zip-forth R S f g P Q w (x ∷ xs) (y ∷ ys) ps qs zip = (
  w x y (ps 0 x (omega arith)) (qs 0 y (omega arith)) zip.0,
  zip-forth R S f g P Q w xs ys
      (λ k d h. ps (suc k) d (omega arith)) (λ k d h. qs (suc k) d (omega arith)) zip.1,
)

pub zip-back : {A B C D : Type 0} (R : A → B → Type 0) (S : C → D → Type 0) (f : C → A) (g : D → B)
    (P : C → Type 0) (Q : D → Type 0) → ((x : C) (y : D) → P x → Q y → S x y → R (f x) (g y))
    → (xs : List C) (ys : List D) → All P xs → All Q ys → AllZip S xs ys
    → AllZip R (map f xs) (map g ys)
zip-back R S f g P Q w [] [] ps qs zip = tt
zip-back R S f g P Q w [] (y ∷ ys) ps qs zip = absurd zip
zip-back R S f g P Q w (x ∷ xs) [] ps qs zip = absurd zip
zip-back R S f g P Q w (x ∷ xs) (y ∷ ys) ps qs zip = (
  w x y (ps 0 x (omega arith)) (qs 0 y (omega arith)) zip.0,
  zip-back R S f g P Q w xs ys
      (λ k d h. ps (suc k) d (omega arith)) (λ k d h. qs (suc k) d (omega arith)) zip.1,
)

-- ---- one file

module _ (f : File) (limit k : ℕ) (fits : Fits f limit) (x run : ℕ → ℕ → Bool)
    (values : HasNodeValues f k x run) where
  -- the input's leaf has the value of its variable
  abbrev InputIs : ℕ → ℕ → Type 0
  InputIs t e = x t (node_of_variable f (e / 2)) ≡ run t (e / 2)

  inputs-are : (t : ℕ) → t ≤ k → All (InputIs t) f.inputs
  inputs-are t h i d l =
      let e = get_or f.inputs i d in
      let nodes = (circuit_of f).nodes in
      let leaf = All-from_map (λ (n : ℕ). node_of_variable f (n / 2)) (IsLeaf nodes) f.inputs
      (IsCircuit-of_file f limit fits).inputs i d l in
      sym (node_value-leaf nodes (x t) (node_of_variable f (e / 2)) leaf)
      ∙ values t (e / 2) h (All-from_recursion (IsKnown f) f.inputs (inputs_known f) i d l)

  -- the literal has the value of its edge
  abbrev LiteralIs : ℕ → ℕ → Type 0
  LiteralIs t e = edge_value (circuit_of f).nodes (x t) (edge_of f e) ≡ value_of_literal (run t) e

  literals-are : (t : ℕ) → t ≤ k → AllProperties (LiteralIs t) f.properties
  literals-are t h = AllProperties-weaker (IsKnown f) (LiteralIs t)
      (λ e known. literal_is f k x run values t e h known) f.properties
      (used_by_section (IsKnown f) f (used_known f limit fits)).properties

  compared-are : All (LiteralIs k) (f.properties.outputs ++ f.properties.bads)
  compared-are =
      let all = literals-are k (omega arith) in
      All-append (LiteralIs k) f.properties.outputs f.properties.bads all.outputs all.bads

  -- the circuit meets its constraints where the machine does
  pub constraints-same : (t : ℕ) → t ≤ k
      → MeetsConstraints (circuit_of f) (x t) ↔ IsConstrained f (run t)
  constraints-same t h =
      let Is = λ (e : AigEdge). IsTrue (edge_value (circuit_of f).nodes (x t) e) in
      let Holds = λ (e : ℕ). IsTrue (value_of_literal (run t) e) in
      let literals = f.properties.constraints in (
        λ meets.
            let holds = All-from_map (edge_of f) Is literals meets in
            recursion_from_All Holds literals
            (λ j d l. sym ((literals-are t h).constraints j d l) ∙ holds j d l),
        λ constrained.
            let holds = All-from_recursion Holds literals constrained in
            All-map Is (edge_of f) literals
            (λ j d l. (literals-are t h).constraints j d l ∙ holds j d l),
      )

  pub start-forth : IsRun (circuit_of f) k x → IsMachineInitial f run
      → IsRunFromInitial (circuit_of f) k x
  start-forth is start =
      record { run = is; start = (starts_agree f limit k x run fits values).0 start }

  pub start-back : IsRunFromInitial (circuit_of f) k x → IsMachineInitial f run
  start-back from = (starts_agree f limit k x run fits values).1 from.start

  pub allowed-forth : IsRun (circuit_of f) k x → IsAllowedMachineRun f k run
      → IsAllowedRun (circuit_of f) k x
  allowed-forth is allowed = record {
    from_start = start-forth is allowed.start;
    allowed = λ t h. (constraints-same t h).1 (allowed.constraints t h);
  }

  pub allowed-back : IsMachineRun f k run → IsAllowedRun (circuit_of f) k x
      → IsAllowedMachineRun f k run
  allowed-back is allowed = record {
    is_run = is;
    start = start-back allowed.from_start;
    constraints = λ t h. (constraints-same t h).0 (allowed.allowed t h);
  }

-- what is compared of the file
abbrev compared_literals : File → List ℕ
compared_literals f = f.properties.outputs ++ f.properties.bads

compared-edges : (f : File) → compared (circuit_of f) ≡ map (edge_of f) (compared_literals f)
compared-edges f = sym (map-append (edge_of f) f.properties.outputs f.properties.bads)

-- ---- two files

-- the files' circuits have as many inputs, outputs and bad edges
pub HaveSameCounts-files : (f g : File) → HaveSameFileCounts f g
    → HaveSameCounts (circuit_of f) (circuit_of g)
HaveSameCounts-files f g counts = record {
  inputs = length-map f.inputs (λ (e : ℕ). node_of_variable f (e / 2)) ∙ counts.inputs
      ∙ sym (length-map g.inputs (λ (e : ℕ). node_of_variable g (e / 2)));
  outputs = length-map f.properties.outputs (edge_of f) ∙ counts.outputs
      ∙ sym (length-map g.properties.outputs (edge_of g));
  bads = length-map f.properties.bads (edge_of f) ∙ counts.bads
      ∙ sym (length-map g.properties.bads (edge_of g));
}

module _ (f g : File) (limit bound k : ℕ) (fits : Fits f limit) (also : Fits g bound) where
  to_literals : (R : AigEdge → AigEdge → Type 0)
      → AllZip R (compared (circuit_of f)) (compared (circuit_of g))
      → AllZip R (map (edge_of f) (compared_literals f)) (map (edge_of g) (compared_literals g))
  to_literals R zip = subst (λ (es : List AigEdge). AllZip R es
      (map (edge_of g) (compared_literals g))) (compared-edges f)
      (subst (λ (es : List AigEdge). AllZip R (compared (circuit_of f)) es) (compared-edges g) zip)

  from_literals : (R : AigEdge → AigEdge → Type 0)
      → AllZip R (map (edge_of f) (compared_literals f)) (map (edge_of g) (compared_literals g))
      → AllZip R (compared (circuit_of f)) (compared (circuit_of g))
  from_literals R zip = subst (λ (es : List AigEdge). AllZip R es (compared (circuit_of g)))
      (sym (compared-edges f)) (subst (λ (es : List AigEdge). AllZip R
      (map (edge_of f) (compared_literals f)) es) (sym (compared-edges g)) zip)

  -- over leaf values that the runs' values are of
  module _ (x run : ℕ → ℕ → Bool) (vx : HasNodeValues f k x run) (y other : ℕ → ℕ → Bool)
      (vy : HasNodeValues g k y other) where
    -- the leaves of inputs are the same where the variables are
    pub inputs-forth : (t : ℕ) → t ≤ k → HaveSameFileInputs f g (run t) (other t)
        → HaveSameInputs (circuit_of f) (circuit_of g) (x t) (y t)
    inputs-forth t h same = zip-back (λ m n. x t m ≡ y t n) (λ d e. run t (d / 2) ≡ other t (e / 2))
        (λ e. node_of_variable f (e / 2)) (λ e. node_of_variable g (e / 2))
        (InputIs f limit k fits x run vx t) (InputIs g bound k also y other vy t)
        (λ d e p q s. p ∙ s ∙ sym q) f.inputs g.inputs (inputs-are f limit k fits x run vx t h)
        (inputs-are g bound k also y other vy t h) same

    -- and the other way round
    pub inputs-back : (t : ℕ) → t ≤ k → HaveSameInputs (circuit_of f) (circuit_of g) (x t) (y t)
        → HaveSameFileInputs f g (run t) (other t)
    inputs-back t h same = zip-forth (λ m n. x t m ≡ y t n) (λ d e. run t (d / 2) ≡ other t (e / 2))
        (λ e. node_of_variable f (e / 2)) (λ e. node_of_variable g (e / 2))
        (InputIs f limit k fits x run vx t) (InputIs g bound k also y other vy t)
        (λ d e p q s. sym p ∙ s ∙ q) f.inputs g.inputs (inputs-are f limit k fits x run vx t h)
        (inputs-are g bound k also y other vy t h) same

    -- the edges have the same value at step k
    abbrev EdgesAre : AigEdge → AigEdge → Type 0
    EdgesAre d e = edge_value (circuit_of f).nodes (x k) d ≡ edge_value (circuit_of g).nodes (y k) e

    -- what is compared of the files is the same where that of the circuits is
    pub compared-forth : CompareEqual (circuit_of f) (circuit_of g) (x k) (y k)
        → FilesCompareEqual f g (run k) (other k)
    compared-forth same = zip-forth EdgesAre (λ d e. value_of_literal (run k) d
        ≡ value_of_literal (other k) e) (edge_of f) (edge_of g)
        (LiteralIs f limit k fits x run vx k) (LiteralIs g bound k also y other vy k)
        (λ d e p q s. sym p ∙ s ∙ q) (compared_literals f) (compared_literals g)
        (compared-are f limit k fits x run vx) (compared-are g bound k also y other vy)
        (to_literals EdgesAre same)

    -- and the other way round
    pub compared-back : FilesCompareEqual f g (run k) (other k)
        → CompareEqual (circuit_of f) (circuit_of g) (x k) (y k)
    compared-back same = from_literals EdgesAre (zip-back EdgesAre (λ d e. value_of_literal (run k) d
        ≡ value_of_literal (other k) e) (edge_of f) (edge_of g)
        (LiteralIs f limit k fits x run vx k) (LiteralIs g bound k also y other vy k)
        (λ d e p q s. p ∙ s ∙ sym q) (compared_literals f) (compared_literals g)
        (compared-are f limit k fits x run vx) (compared-are g bound k also y other vy) same)

  machines-forth : AreEqualAt (circuit_of f) (circuit_of g) k → AreEqualMachinesAt f g k
  machines-forth equal run other first second inputs =
      let x = leaves_of f run in
      let y = leaves_of g other in
      let vx = forth_values f limit k run fits first.is_run in
      let vy = forth_values g bound k other also second.is_run in
      compared-forth x run vx y other vy (equal x y (allowed-forth f limit k fits x run vx
      (forth_run f limit k run fits first.is_run) first)
      (allowed-forth g bound k also y other vy (forth_run g bound k other also second.is_run)
      second)
      (λ t h. inputs-forth x run vx y other vy t h (inputs t h)))

  machines-back : AreEqualMachinesAt f g k → AreEqualAt (circuit_of f) (circuit_of g) k
  machines-back equal x y first second inputs =
      let run = values_over f x in
      let other = values_over g y in
      let vx : HasNodeValues f k x run = λ t v h known. refl in
      let vy : HasNodeValues g k y other = λ t v h known. refl in
      compared-back x run vx y other vy (equal run other (allowed-back f limit k fits x run vx
      (back_run f limit k x fits first.from_start.run) first)
      (allowed-back g bound k also y other vy (back_run g bound k y also second.from_start.run)
      second)
      (λ t h. inputs-back x run vx y other vy t h (inputs t h)))

  -- the miter of the files' circuits is safe exactly where the machines' outputs and bads are equal
  pub safe-is_equal_machines : HaveSameFileCounts f g → (m : Circuit)
      → IsMiter (circuit_of f) (circuit_of g) m → IsCircuitSafeAt m k
      ↔ AreEqualMachinesAt f g k
  safe-is_equal_machines counts m miters =
      let safe = safe-is_equal (circuit_of f) (circuit_of g) m (IsCircuit-of_file f limit fits)
      (IsCircuit-of_file g bound also) (HaveSameCounts-files f g counts) miters k in
      (λ s. machines-forth (safe.0 s), λ e. safe.1 (machines-back e))

  -- the files' circuits can share inputs and latches
  pub HasLeavesOf-files : HasLinesOf g f → HasLeavesOf (circuit_of g) (circuit_of f)
  HasLeavesOf-files lines =
      let i = length-map f.inputs (λ (e : ℕ). node_of_variable f (e / 2)) in
      let j = length-map g.inputs (λ (e : ℕ). node_of_variable g (e / 2)) in
      let l = length-map f.latches (latch_of f) in
      let m = length-map g.latches (latch_of g) in
      let few = lines.inputs in
      let also_few = lines.latches in
      record { inputs = omega arith; latches = omega arith }

  -- the file's machine is safe where its circuit beside that of a witness file is
  pub safe-certified_machine : HasLinesOf g f
      → IsCircuitSafeAt (certified (circuit_of f) (circuit_of g)) k → IsSafeAt f k
  safe-certified_machine lines safe (run, w) =
      let constant : HasConstantFurtherInits (circuit_of f) (circuit_of g) = All-drop
      HasConstantInit (length (circuit_of f).latchs) (circuit_of g).latchs (plain_starts g) in
      let circuit = safe-certified (circuit_of f) (circuit_of g) (IsCircuit-of_file f limit fits)
      (IsCircuit-of_file g bound also) (HasLeavesOf-files lines) constant k safe in
      let found = witness_forth f limit k run fits w in
      circuit (found.0, found.1)

-- so it is safe up to a step where that is safe at each step up to it
pub safe-certified_to : (f g : File) (limit bound n : ℕ) → Fits f limit → Fits g bound
    → HasLinesOf g f → ((k : ℕ) → k ≤ n → IsCircuitSafeAt (certified (circuit_of f) (circuit_of g))
    k) → IsSafeTo f n
safe-certified_to f g limit bound n fits also lines safe = (safe_is f n).0
    (λ k h. safe-certified_machine f g limit bound k fits also lines (safe k h))
