-- Literals and edges, latch lines and latches: there and back.
use Rattle.aig_base.proofs.Words.{◌≡◌, ℕ, ◌+◌, ◌*◌, ◌/◌, ◌%◌, ◌<◌, ◌≤◌, Bool, true, false, cond, Option, Some, None, List, [], ◌∷◌, map, refl, ap, ◌∙◌, arith, IfSome, ◌==◌, AllByRecursion}
use Rattle.aig_circuit.specs.declared.edge.AigEdge.{AigEdge}
use Rattle.aig_circuit.specs.declared.node.AigLatch.{AigLatch}
use Rattle.aig_circuit.proofs.Words.{edge_to, literal_of, AllProperties, Properties, map_properties, HasConstantInit}
use Rattle.aig_circuit.proofs.Listed.{AllProperties-weaker, map_properties-map, map_properties-same}
use Rattle.aig_format.proofs.Words.{File, is_compact, node_of_variable, edge_of, initial_of, latch_line, latch_of}
use Rattle.aig_format.proofs.Numbers.{node_of_variable-compact}

-- the edge of an edge's literal
edge_literal : (e : AigEdge) → edge_to (literal_of e / 2) (literal_of e % 2 == 1) ≡ e
edge_literal e = by_compl e.compl refl
  where
    by_compl : (b : Bool) → e.compl ≡ b → edge_to (literal_of e / 2) (literal_of e % 2 == 1) ≡ e
    by_compl true h = let half : (2 * e.node_id + 1) / 2 ≡ e.node_id = omega arith in let odd : (2 * e.node_id + 1) % 2 ≡ 1 = omega arith in rw (h, half, odd) refl
    by_compl false h = let half : (2 * e.node_id + 0) / 2 ≡ e.node_id = omega arith in let even : (2 * e.node_id + 0) % 2 ≡ 0 = omega arith in rw (h, half, even) refl

-- a literal is below twice the count of nodes where its node is there
pub literal_below : (n : ℕ) (e : AigEdge) → e.node_id < n → literal_of e < 2 * n
literal_below n e h = by_compl e.compl
  where
    by_compl : (b : Bool) → 2 * e.node_id + cond b 1 0 < 2 * n
    by_compl true = omega (arith, h)
    by_compl false = omega (arith, h)

-- a literal's variable
pub literal_half : (e : AigEdge) → literal_of e / 2 ≡ e.node_id
literal_half e = by_compl e.compl
  where
    by_compl : (b : Bool) → (2 * e.node_id + cond b 1 0) / 2 ≡ e.node_id
    by_compl true = omega arith
    by_compl false = omega arith

-- ---- in a compact file

module _ (f : File) (compact : is_compact f ≡ true) where
  -- the edge's node is no greater than the file's greatest variable
  abbrev pub IsWithin : AigEdge → Type 0
  IsWithin e = e.node_id ≤ f.greatest

  pub number_again : (n : ℕ) → n ≤ f.greatest → node_of_variable f (2 * n / 2) ≡ n
  number_again n h = let half : 2 * n / 2 ≡ n = omega arith in ap (node_of_variable f) half ∙ node_of_variable-compact f compact n h

  pub edge_again : (e : AigEdge) → IsWithin e → edge_of f (literal_of e) ≡ e
  edge_again e h = ap (λ n. edge_to n (literal_of e % 2 == 1)) (node_of_variable-compact f compact (literal_of e / 2) (omega (arith, h, literal_half e))) ∙ edge_literal e

  pub properties_again : (p : Properties AigEdge) → AllProperties IsWithin p → map_properties (edge_of f) (map_properties literal_of p) ≡ p
  properties_again p all =
      let again = λ (e : AigEdge). edge_of f (literal_of e) in
      map_properties-map (edge_of f) literal_of p ∙ map_properties-same again p (AllProperties-weaker IsWithin (λ e. again e ≡ e) edge_again p all)

  pub inputs_again : (ns : List ℕ) → AllByRecursion (λ n. n ≤ f.greatest) ns → map (λ e. node_of_variable f (e / 2)) (map (λ n. 2 * n) ns) ≡ ns
  inputs_again [] all = refl
  inputs_again (n ∷ ns) all = rw (number_again n all.0, inputs_again ns all.1) refl

  -- what a latch of the file has
  pub record IsOfFile (l : AigLatch) : Type 0 where
    pub plain : HasConstantInit l
    pub some : 0 < l.input
    pub within : l.input ≤ f.greatest
    pub next : IsWithin l.next

  latch_again : (l : AigLatch) → IsOfFile l → latch_of f (latch_line l) ≡ l
  latch_again l of = by_init l.init refl of.plain
    where
      made : Option AigEdge → AigLatch
      made init = record { input = l.input; next = l.next; init = init }

      by_compl : (e : AigEdge) (b : Bool) → e.compl ≡ b → e.node_id ≡ 0 → initial_of (latch_line (made (Some e))) ≡ Some e
      by_compl e true h z = let own : e ≡ edge_to 0 true = ap (λ n. edge_to n e.compl) z ∙ ap (edge_to 0) h in rw own refl
      by_compl e false h z = let own : e ≡ edge_to 0 false = ap (λ n. edge_to n e.compl) z ∙ ap (edge_to 0) h in rw own refl

      start : (o : Option AigEdge) → IfSome o (λ e. e.node_id ≡ 0) → initial_of (latch_line (made o)) ≡ o
      start (Some e) z = by_compl e e.compl refl z
      start None z = let some = of.some in grind (arith, some)

      by_init : (o : Option AigEdge) → l.init ≡ o → IfSome l.init (λ e. e.node_id ≡ 0) → latch_of f (latch_line l) ≡ l
      by_init o h z = rw (number_again l.input of.within, edge_again l.next of.next) (ap made (start l.init z))

  pub latches_again : (ls : List AigLatch) → AllByRecursion IsOfFile ls → map (latch_of f) (map latch_line ls) ≡ ls
  latches_again [] all = refl
  latches_again (l ∷ ls) all = rw (latch_again l all.0, latches_again ls all.1) refl
