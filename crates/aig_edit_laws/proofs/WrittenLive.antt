-- The text of a circuit with latches more as a file.
use Rattle.aig_base.proofs.Words.{◌≡◌, ◌≢◌, ◌⊎◌, ◌↔◌, ℕ, ◌+◌, ◌-◌, ◌^◌, ◌<◌, ◌≤◌, AllPairs, All-contains, All-from_recursion, Decides-eqb, IsDistinct-from_AllPairs, is_member-Decides, length-le_from_distinct_below, length-map, IfSome, IsUtf8, Option, Some, None, List, ◌∷◌, ◌++◌, length, map, get_or, sym, ap, subst, inl, inr, arith, cases_lt, All, All-append, All-nil, get, Contains}
use Rattle.std.specs.Prelude.{IsSomeAnd}
use Rattle.aig_circuit.specs.declared.edge.AigEdge.{AigEdge}
use Rattle.aig_circuit.specs.declared.node.AigLatch.{AigLatch}
use Rattle.aig_circuit.specs.declared.node.AigNode.{AigNode}
use Rattle.aig_circuit.specs.declared.node.AigNodeType.TheVariants.{Leaf}
use Rattle.aig_circuit.proofs.Words.{Circuit, IsCircuit, IsLeaf, Properties, latch_leaves}
use Rattle.aig_circuit.proofs.Circuits.{latch_leaves-leaves}
use Rattle.aig_circuit.proofs.Trees.{kind_at-within}
use Rattle.aig_circuit.proofs.Lists.{All-first, All-second}
use Rattle.aig_format.proofs.Words.{AreTexts, File, Fits, FitsFormat, IsReadAgain, circuit_of, edge_of, file_of}
use Rattle.aig_format.specs.Writable.{HasLineFeed, IsWritable, list_lengths}
use Rattle.aig_format.specs.declared.FileKind.TheVariants.{Text}
use Rattle.aig_format.proofs.Circuits.{IsCircuit-of_file}
use Rattle.aig_format_laws.proofs.Writable.{names_are_texts}
use Rattle.aig_format_laws.proofs.Written.{is_read_again}
use Rattle.aig_edit_laws.specs.Shown.{HasWitness}
use Rattle.aig_runs.specs.CircuitQueries.{HasCircuitWitness}
use Rattle.aig_live.specs.Extended.{IsExtended, row_from}
use Rattle.aig_live.specs.Live.{IsLiveOf, live_size}
use Rattle.aig_live.specs.Names.{live_names, rounds_names}
use Rattle.aig_live.specs.Rounds.{IsRoundsOf, rounds_size}
use Rattle.aig_live.proofs.Circuits.{live_extended}
use Rattle.aig_live.proofs.Extended.{IsCircuit-extended, IsClosed-extended, added_named, constant_starts, inputs_are, leaves_are, old_named, past_named, row_low}
use Rattle.aig_edit_laws.specs.Fair.{AreAskedBy, HasFairLasso, HasFairRun}
use Rattle.aig_edit_laws.specs.Rounds.{HasMachineRounds}
use Rattle.aig_edit_laws.specs.declared.fairness.Fairness.{Fairness}
use Rattle.aig_edit_laws.proofs.Rounds.{bads_are_rounds, no_rounds}
use Rattle.aig_edit_laws.proofs.Justice.{bads_are_lassos}
use Rattle.aig_edit_laws.proofs.Naming.{IsName, live_names_are, rounds_names_are}

module _ (inputs : ℕ) (nexts : List AigEdge) (bad : AigEdge) (texts : List (Option (List ℕ)))
    (c new : Circuit) (is : IsCircuit c) (ext : IsExtended inputs nexts bad texts c new)
    (w : IsWritable c) (good : All (λ o. IfSome o IsName) texts) where
  -- the node's name has no line feed
  abbrev IsPlain : ℕ → Type 0
  IsPlain m = ¬ HasLineFeed new.names m

  old_plain : (ns : List ℕ) → All (λ m. m < length c.nodes) ns
      → All (λ m. ¬ HasLineFeed c.names m) ns → All IsPlain ns
  old_plain ns low all k d h = subst (λ o. ¬ IsSomeAnd o (λ name. Contains name 10))
      (sym (old_named inputs nexts bad texts c new is ext (get_or ns k d) (low k d h))) (all k d h)

  -- a name that is added, if there is one
  added_name : (m : ℕ) → length c.nodes ≤ m → IfSome (get new.names m) IsName
  added_name m high = by (cases_lt m (length c.nodes + length texts))
    where
      by : (m < length c.nodes + length texts) ⊎ (length c.nodes + length texts ≤ m)
          → IfSome (get new.names m) IsName
      by (inl low) =
          let k = m - length c.nodes in
          let same : length c.nodes + k ≡ m = omega (arith, high) in
          let within : k < length texts = omega (arith, high, low) in
          subst (λ n. IfSome (get new.names n) IsName) same
          (subst (λ o. IfSome o IsName)
          (sym (added_named inputs nexts bad texts c new is ext k None within))
          (good k None within))
      by (inr past) = subst (λ o. IfSome o IsName)
          (sym (past_named inputs nexts bad texts c new is ext m past)) tt

  row_plain : (n count : ℕ) → length c.nodes ≤ n → All IsPlain (row_from n count)
  row_plain n count high k d h =
      let m = get_or (row_from n count) k d in
      let low = row_low n count k d h in
      by (get new.names m) (added_name m (omega (arith, high, low)))
    where
      by : (o : Option (List ℕ)) → IfSome o IsName → ¬ IsSomeAnd o (λ name. Contains name 10)
      by (Some name) named = named.1
      by None named = λ h. h

  IsWritable-extended : FitsFormat new → IsWritable new
  IsWritable-extended small = record {
    closed = IsClosed-extended inputs nexts bad texts c new is ext w.closed;
    start = constant_starts inputs nexts bad texts c new is ext w.start;
    names = subst (λ (ins : List ℕ). All IsPlain (ins ++ latch_leaves new.latchs))
        (sym (inputs_are inputs nexts bad texts c new is ext))
        (subst (λ (ls : List ℕ). All IsPlain ((c.inputs ++ row_from (length c.nodes) inputs) ++ ls))
        (sym (leaves_are inputs nexts bad texts c new is ext))
        (All-append IsPlain (c.inputs ++ row_from (length c.nodes) inputs)
        (latch_leaves c.latchs ++ row_from (length c.nodes + inputs) (length nexts))
        (All-append IsPlain c.inputs (row_from (length c.nodes) inputs)
        (old_plain c.inputs
        (λ k d h. kind_at-within c.nodes (get_or c.inputs k d) Leaf (is.inputs k d h))
        (All-first (λ m. ¬ HasLineFeed c.names m) c.inputs (latch_leaves c.latchs) w.names))
        (row_plain (length c.nodes) inputs (omega arith)))
        (All-append IsPlain (latch_leaves c.latchs)
        (row_from (length c.nodes + inputs) (length nexts))
        (old_plain (latch_leaves c.latchs)
        (λ k d h. kind_at-within c.nodes (get_or (latch_leaves c.latchs) k d) Leaf
        (latch_leaves-leaves c is k d h))
        (All-second (λ m. ¬ HasLineFeed c.names m) c.inputs (latch_leaves c.latchs) w.names))
        (row_plain (length c.nodes + inputs) (length nexts) (omega arith)))));
    small = small;
  }

  AreTexts-extended : AreTexts c.names → AreTexts new.names
  AreTexts-extended old m = by (cases_lt m (length c.nodes))
    where
      text : (o : Option (List ℕ)) → IfSome o IsName → IfSome o IsUtf8
      text (Some name) named = named.0
      text None named = tt

      by : (m < length c.nodes) ⊎ (length c.nodes ≤ m) → IfSome (get new.names m) IsUtf8
      by (inl low) = subst (λ o. IfSome o IsUtf8)
          (sym (old_named inputs nexts bad texts c new is ext m low)) (old m)
      by (inr high) = text (get new.names m) (added_name m high)

-- distinct leaves are at most as many as there are nodes
few_leaves : (nodes : List AigNode) (ns : List ℕ) → All (IsLeaf nodes) ns
    → AllPairs (λ a b. a ≢ b) ns
    → length ns ≤ length nodes
few_leaves nodes ns leaves distinct =
    length-le_from_distinct_below ns (length nodes)
    (IsDistinct-from_AllPairs Decides-eqb ns distinct)
    (λ q member. kind_at-within nodes q Leaf (All-contains (IsLeaf nodes) ns q leaves
    ((is_member-Decides Decides-eqb ns q).0 member)))

-- a circuit with latches more that its size alone could keep from a written form fits
FitsFormat-extended : (inputs : ℕ) (nexts : List AigEdge) (bad : AigEdge)
    (texts : List (Option (List ℕ))) (c new : Circuit)
    → IsCircuit c → IsWritable c → IsExtended inputs nexts bad texts c new
    → length new.nodes ≤ 2 ^ 31 → FitsFormat new
FitsFormat-extended inputs nexts bad texts c new is w ext nodes =
    let made = IsCircuit-extended inputs nexts bad texts c new is ext in
    let ins = few_leaves new.nodes new.inputs made.inputs made.inputs_distinct in
    let latchs = few_leaves new.nodes (latch_leaves new.latchs)
    (latch_leaves-leaves new made) made.latchs_distinct in
    let long = length-map new.latchs (λ (latch : AigLatch). latch.input) in
    let properties = ap (λ (d : Circuit). d.properties) ext.rest in
    let outputs = ap (λ (p : Properties AigEdge). length p.outputs) properties in
    let bads = ap (λ (p : Properties AigEdge). length p.bads) properties in
    let constraints = ap (λ (p : Properties AigEdge). length p.constraints) properties in
    let old_constraints = w.small.lists 4 0 (omega arith) in
    let justice = ap (λ (p : Properties AigEdge). length p.justice) properties in
    let fairness = ap (λ (p : Properties AigEdge). length p.fairness) properties in
    record {
      nodes = nodes;
      lists = All-from_recursion (λ n. n < 2 ^ 32) (list_lengths new) (
        omega (arith, ins, nodes),
        (
          omega (arith, latchs, long, nodes),
          (
            omega (arith, outputs),
            (
              omega (arith, bads),
              (
                omega (arith, constraints, old_constraints),
                (
                  omega (arith, justice),
                  (
                    omega
                        (arith, fairness),
                    tt,
                  ),
                ),
              ),
            ),
          ),
        ),
      );
      sets = subst (λ (p : Properties AigEdge). All (λ set. length set < 2 ^ 32) p.justice)
          (sym properties) (All-nil _);
    }

pub FitsFormat-live : (edges : List AigEdge) (c new : Circuit) → IsCircuit c → IsWritable c
    → IsLiveOf edges c new
    → live_size c (length edges) ≤ 2 ^ 31 → FitsFormat new
FitsFormat-live edges c new is w live small =
    FitsFormat-extended 1 (live.active ∷ live.starts ++ live.seen) live.bad
    (live_names c (length edges)) c new is w
    (live_extended edges c new live) (omega (arith, live.few, small))

pub FitsFormat-rounds : (edges : List AigEdge) (count : ℕ) (c new : Circuit) → IsCircuit c
    → IsWritable c → IsRoundsOf edges count c new
    → rounds_size c (length edges) count ≤ 2 ^ 31 → FitsFormat new
FitsFormat-rounds edges count c new is w live small =
    FitsFormat-extended 0 live.nexts live.bad (rounds_names (length edges) count) c new is w
    live.extended
    (omega (arith, live.few, small))

-- the text of a circuit with latches more is a file
read_again : (f : File) (limit inputs : ℕ) (nexts : List AigEdge) (bad : AigEdge)
    (texts : List (Option (List ℕ))) (new : Circuit)
    → Fits f limit → IsWritable (circuit_of f)
    → IsExtended inputs nexts bad texts (circuit_of f) new → All (λ o. IfSome o IsName) texts
    → FitsFormat new → IsReadAgain new (file_of Text new)
read_again f limit inputs nexts bad texts new fits writable ext good small =
    let is = IsCircuit-of_file f limit fits in
    is_read_again Text new (IsCircuit-extended inputs nexts bad texts (circuit_of f) new is ext)
    (IsWritable-extended inputs nexts bad texts (circuit_of f) new is ext writable good small)
    (AreTexts-extended inputs nexts bad texts (circuit_of f) new is ext writable good
    (names_are_texts f limit fits)) tt

pub written-live : ((m : Circuit) (h : File) (k : ℕ) → IsReadAgain m h
    → HasCircuitWitness m k ↔ HasWitness h k)
    → (f : File) (limit : ℕ) (fairness : Fairness) (literals : List ℕ) (new : Circuit)
    → Fits f limit → IsWritable (circuit_of f) → AreAskedBy f fairness literals
    → IsLiveOf (map (edge_of f) literals) (circuit_of f) new → FitsFormat new
    → IsReadAgain new (file_of Text new)
    × ((k : ℕ) → HasWitness (file_of Text new) k ↔ HasFairLasso f fairness k)
written-live written f limit fairness literals new fits writable asked live small =
    let edges = map (edge_of f) literals in
    let count = length edges in
    let few : count ≤ 2 ^ 64 = omega (arith, live.longer, small.nodes) in
    let again = read_again f limit 1 (live.active ∷ live.starts ++ live.seen) live.bad
    (live_names (circuit_of f) count) new fits writable
    (live_extended edges (circuit_of f) new live)
    (live_names_are (circuit_of f) count writable (names_are_texts f limit fits) few) small in (
      again,
      λ k.
          let same = written new (file_of Text new) k again in
          let shows = bads_are_lassos f limit fairness k literals new fits asked live in
          (λ w. shows.0 (same.1 w), λ lasso. same.0 (shows.1 lasso)),
    )

pub written-rounds : ((m : Circuit) (h : File) (k : ℕ) → IsReadAgain m h
    → HasCircuitWitness m k ↔ HasWitness h k)
    → (f : File) (limit : ℕ) (fairness : Fairness) (count : ℕ) (literals : List ℕ)
    (new : Circuit) → Fits f limit → IsWritable (circuit_of f)
    → AreAskedBy f fairness literals
    → IsRoundsOf (map (edge_of f) literals) count (circuit_of f) new → FitsFormat new
    → IsReadAgain new (file_of Text new)
    × ((k : ℕ) → HasWitness (file_of Text new) k ↔ HasMachineRounds f fairness count k)
    × (((k : ℕ) → ¬ HasWitness (file_of Text new) k) → ¬ HasFairRun f fairness)
written-rounds written f limit fairness count literals new fits writable asked live small =
    let edges = length (map (edge_of f) literals) in
    let few : edges + count < 2 ^ 64 = omega
    (arith, live.extended.longer, live.nexts_count, small.nodes) in
    let again = read_again f limit 0 live.nexts live.bad (rounds_names edges count) new fits
    writable live.extended (rounds_names_are edges count few) small in (
      again,
      λ k.
          let same = written new (file_of Text new) k again in
          let shows = bads_are_rounds f limit fairness count k literals new fits asked live in
          (λ w. shows.0 (same.1 w), λ ended. same.0 (shows.1 ended)),
      λ safe. no_rounds f limit fairness count literals new fits asked live
          (λ k has. safe k ((written new (file_of Text new) k again).0 has)),
    )
