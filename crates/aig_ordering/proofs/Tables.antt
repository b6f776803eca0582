-- The nodes of a file's variables, and what they tell of its gates.
use Rattle.aig_base.proofs.Words.{◌≡◌, ℕ, zero, suc, ◌+◌, ◌/◌, ◌<◌, ◌≤◌, max, Bool, true, false, cond, List, [], ◌∷◌, ◌++◌, length, map, get_or, replicate, Option, Some, None, refl, sym, ap, ◌∙◌, arith, inl, inr, ◌⊎◌, AllByRecursion, list_all, and_parts, eqb-true, ne_eqb, same_Some, length-map}
use Rattle.std.specs.Prelude.{◌==◌, ◌&&◌, is_some, nat_lt}
use Rattle.aig_circuit.specs.declared.edge.AigEdge.{AigEdge}
use Rattle.aig_circuit.specs.declared.node.AigNode.{AigNode}
use Rattle.aig_circuit.specs.declared.node.AigNodeType.{AigNodeType}
use Rattle.aig_circuit.specs.declared.node.AigNodeType.TheVariants.{False, Leaf, And}
use Rattle.aig_circuit.proofs.Words.{literal_of, and_of}
use Rattle.aig_format.proofs.Words.{LatchLine, GateLine, File, gate_of_variable, has_level, level_of, HasLevel, numbers_from, IsDefinable}
use Rattle.aig_format.proofs.Entries.{rec_parts, rec_unmap, rec_weaker}
use Rattle.aig_format.proofs.Searches.{find_some, find_none}
use Rattle.aig_format.proofs.Members.{length-numbers}
use Rattle.aig_format.proofs.Levels.{level_of-gate, level_of-leaf, level_of-operands, levelled}
use Rattle.aig_ordering.specs.Lists.{edge_from, kind_of_line, kind_among, node_from, nodes_in_row}
use Rattle.aig_ordering.specs.Tables.{AreNodesOf, HasOperands, all_have_levels, entry_value}
use Rattle.aig_ordering.specs.Search.{Descends}
use Rattle.aig_format.proofs.Rules.{definable_told}

-- ---- entries

pub entry_value-more : (n : ℕ) → entry_value (n + 1) ≡ Some n
entry_value-more n = let e : n + 1 ≡ suc n = omega arith in ap entry_value e

-- an entry is above what it records
pub entry_value-below : (entry k : ℕ) → entry_value entry ≡ Some k → k < entry
entry_value-below zero k is = absurd cc
entry_value-below (suc entry) k is = let same = same_Some _ _ is in omega (arith, same)

-- and no greater than any number above that
pub entry_value-least : (entry bound : ℕ) → ((k : ℕ) → entry_value entry ≡ Some k → k < bound)
    → entry ≤ bound
entry_value-least zero bound within = omega arith
entry_value-least (suc entry) bound within = within entry refl

-- a table that records nothing
pub entry_value-nothing : (n v : ℕ) → entry_value (get_or (replicate n 0) v 0) ≡ None
entry_value-nothing zero v = refl
entry_value-nothing (suc n) zero = refl
entry_value-nothing (suc n) (suc v) = entry_value-nothing n v

-- ---- nodes in a row

pub length-row : (gates : List GateLine) (n v : ℕ) → length (nodes_in_row gates n v) ≡ n
length-row gates n v = length-map (numbers_from n v) (node_from gates) ∙ length-numbers n v

at_row : (gates : List GateLine) (n w i : ℕ) (d : AigNode) → i < n
    → get_or (nodes_in_row gates n w) i d ≡ node_from gates (w + i)
at_row gates zero w i d h = absurd (omega arith)
at_row gates (suc n) w zero d h = let e : w ≡ w + 0 = omega arith in ap (node_from gates) e
at_row gates (suc n) w (suc i) d h = let e : w + 1 + i ≡ w + suc i = omega arith in at_row gates n (w + 1) i d (omega arith) ∙ ap (node_from gates) e

-- ---- gates

-- a node of a gate, and the gate's line, whose operands may be exchanged
pub record GateAt (f : File) (v : ℕ) (a b : AigEdge) : Type 0 where
  pub gate : GateLine
  pub found : gate_of_variable f v ≡ Some gate
  pub operands : ((a.node_id ≡ gate.rhs0 / 2) × (b.node_id ≡ gate.rhs1 / 2))
      ⊎ ((a.node_id ≡ gate.rhs1 / 2) × (b.node_id ≡ gate.rhs0 / 2))

and_parts_of : (p q a b : AigEdge) → and_of p q ≡ And a b
    → ((a ≡ p) × (b ≡ q)) ⊎ ((a ≡ q) × (b ≡ p))
and_parts_of p q a b is = by_test (nat_lt (literal_of q) (literal_of p)) is
  where
    by_test : (t : Bool) → cond t (And q p) (And p q) ≡ And a b
        → ((a ≡ p) × (b ≡ q)) ⊎ ((a ≡ q) × (b ≡ p))
    by_test true is = inr (cc, cc)
    by_test false is = inl (cc, cc)

pub gate_at : (f : File) (v : ℕ) (a b : AigEdge) → kind_among f.gates v ≡ And a b → GateAt f v a b
gate_at f v a b is = by_zero (v == 0) is
  where
    by_gate : (o : Option GateLine) → gate_of_variable f v ≡ o → kind_of_line o ≡ And a b
        → GateAt f v a b
    by_gate None none is = absurd cc
    by_gate (Some g) found is =
        let node = λ (e : AigEdge). e.node_id in
        record {
          gate = g;
          found = found;
          operands = elim (and_parts_of (edge_from g.rhs0) (edge_from g.rhs1) a b is) [ inl p ↦ inl (ap node p.0, ap node p.1) | inr p ↦ inr (ap node p.0, ap node p.1) ];
        }

    by_zero : (t : Bool) → cond t False (kind_of_line (gate_of_variable f v)) ≡ And a b
        → GateAt f v a b
    by_zero true is = absurd cc
    by_zero false is = by_gate (gate_of_variable f v) refl is

no_and : (p q : AigEdge) (kind : AigNodeType) → and_of p q ≡ kind → (kind ≡ False) ⊎ (kind ≡ Leaf)
    → ⊥
no_and p q kind is other = by_test (nat_lt (literal_of q) (literal_of p)) is
  where
    by_kind : (r s : AigEdge) → And r s ≡ kind → (kind ≡ False) ⊎ (kind ≡ Leaf) → ⊥
    by_kind r s is (inl h) = cc
    by_kind r s is (inr h) = cc

    by_test : (t : Bool) → cond t (And q p) (And p q) ≡ kind → ⊥
    by_test true is = by_kind q p is other
    by_test false is = by_kind p q is other

module _ (f : File) (nodes : List AigNode) (are : AreNodesOf f nodes) where
  pub count-nodes : length nodes ≡ f.greatest + 1
  count-nodes = ap length are.placed ∙ length-row f.gates (f.greatest + 1) 0

  -- the node of a variable
  pub node_at : (v : ℕ) (d : AigNode) → v < length nodes → get_or nodes v d ≡ node_from f.gates v
  node_at v d h =
      let e : 0 + v ≡ v = omega arith in
      ap (λ (ns : List AigNode). get_or ns v d) are.placed ∙ at_row f.gates (f.greatest + 1) 0 v d (omega (arith, count-nodes)) ∙ ap (node_from f.gates) e

  -- no gate defines variable 0
  no_gate_of_zero : gate_of_variable f 0 ≡ None
  no_gate_of_zero =
      let literals = f.inputs ++ map (λ (l : LatchLine). l.literal) f.latches in
      let Definable = λ (g : GateLine). IsDefinable f.greatest g.lhs in
      find_none (λ (g : GateLine). g.lhs / 2 == 0) f.gates
      (rec_weaker Definable (λ (g : GateLine). (g.lhs / 2 == 0) ≡ false) (λ g h. let low = (definable_told f.greatest g.lhs h).1 in ne_eqb (g.lhs / 2) 0 (λ e. omega (arith, e))) f.gates
      (rec_unmap (IsDefinable f.greatest) (λ (g : GateLine). g.lhs) f.gates (rec_parts (IsDefinable f.greatest) literals (map (λ (g : GateLine). g.lhs) f.gates) are.definable).1))

  -- a variable that is no gate has level 0
  pub leaf_level : (v : ℕ) → (kind_among f.gates v ≡ False) ⊎ (kind_among f.gates v ≡ Leaf)
      → level_of f v ≡ Some 0
  leaf_level v is = by_zero (v == 0) refl
    where
      by_gate : (v == 0) ≡ false → (o : Option GateLine) → gate_of_variable f v ≡ o
          → level_of f v ≡ Some 0
      by_gate some None none = level_of-leaf f v none
      by_gate some (Some g) found = absurd (no_and (edge_from g.rhs0) (edge_from g.rhs1) (kind_among f.gates v) (sym (ap (λ b. cond b False (kind_of_line (gate_of_variable f v))) some ∙ ap kind_of_line found)) is)

      by_zero : (t : Bool) → (v == 0) ≡ t → level_of f v ≡ Some 0
      by_zero true nought = level_of-leaf f v (ap (gate_of_variable f) (eqb-true v 0 nought) ∙ no_gate_of_zero)
      by_zero false some = by_gate some (gate_of_variable f v) refl

  module _ (v : ℕ) (a b : AigEdge) (at : GateAt f v a b) where
    -- its operands are variables of the file
    pub operands_within : (a.node_id < f.greatest + 1) × (b.node_id < f.greatest + 1)
    operands_within =
        let s = (find_some (HasOperands f.greatest) (λ h. h.lhs / 2 == v) f.gates at.gate are.operands at.found).1 in
        let first = s.0 in
        let second = s.1 in
        elim at.operands [ inl p ↦ (let x = p.0 in let y = p.1 in (omega arith, omega arith)) | inr p ↦ (let x = p.0 in let y = p.1 in (omega arith, omega arith)) ]

    down : (u k w j : ℕ) → u ≡ w → level_of f w ≡ Some j → j < k
        → (i : ℕ) × (level_of f u ≡ Some i) × (i < k)
    down u k w j same is less = (j, ap (level_of f) same ∙ is, less)

    -- a gate stands above its operands
    pub operands_below : Descends f v a.node_id × Descends f v b.node_id
    operands_below = (
      λ k is. (
          let s = level_of-gate f v k at.gate at.found is in
          let above = s.above in
          elim at.operands [
            | inl p ↦ down a.node_id k (at.gate.rhs0 / 2) s.first p.0 s.first_is (omega arith)
            | inr p ↦ down a.node_id k (at.gate.rhs1 / 2) s.second p.0 s.second_is (omega arith)
          ]
          ),
      λ k is. (
          let s = level_of-gate f v k at.gate at.found is in
          let above = s.above in
          elim at.operands [
            | inl p ↦ down b.node_id k (at.gate.rhs1 / 2) s.second p.1 s.second_is (omega arith)
            | inr p ↦ down b.node_id k (at.gate.rhs0 / 2) s.first p.1 s.first_is (omega arith)
          ]
          ),
    )

    -- and its level is one more than theirs
    pub gate_level : (i j : ℕ) → level_of f a.node_id ≡ Some i → level_of f b.node_id ≡ Some j
        → level_of f v ≡ Some (max i j + 1)
    gate_level i j first second = elim at.operands [
      | inl p ↦ level_of-operands f v i j at.gate at.found (ap (level_of f) (sym p.0) ∙ first) (ap (level_of f) (sym p.1) ∙ second)
      | inr p ↦ (let e : max j i + 1 ≡ max i j + 1 = omega arith in level_of-operands f v j i at.gate at.found (ap (level_of f) (sym p.1) ∙ second) (ap (level_of f) (sym p.0) ∙ first) ∙ ap Some e)
    ]

-- ---- levels of all gates

all_levels : (f : File) (gs : List GateLine) → list_all (has_level f) gs ≡ true
    → AllByRecursion (HasLevel f) gs
all_levels f [] h = tt
all_levels f (g ∷ gs) h = let p = and_parts (has_level f g) (list_all (has_level f) gs) h in (p.0, all_levels f gs p.1)

pub all_levels-entry_value : (f : File) → all_have_levels f ≡ true → (v : ℕ)
    → (k : ℕ) × (level_of f v ≡ Some k)
all_levels-entry_value f h = levelled f (all_levels f f.gates h)

-- a variable without a level refutes that all gates have one
pub some_level_missing : (f : File) (v : ℕ) → ((k : ℕ) → level_of f v ≡ Some k → ⊥)
    → all_have_levels f ≡ false
some_level_missing f v none = by_test (all_have_levels f) refl
  where
    by_test : (b : Bool) → all_have_levels f ≡ b → all_have_levels f ≡ false
    by_test true is = let has = all_levels-entry_value f is v in absurd (none has.0 has.1)
    by_test false is = is

each_level : (f : File) (gs : List GateLine)
    → ((v : ℕ) → v ≤ f.greatest → (k : ℕ) × (level_of f v ≡ Some k))
    → AllByRecursion (λ (g : GateLine). g.lhs / 2 ≤ f.greatest) gs
    → list_all (has_level f) gs ≡ true
each_level f [] has all = refl
each_level f (g ∷ gs) has all =
    let h = has (g.lhs / 2) all.0 in
    ap (λ (o : Option ℕ). is_some o && list_all (has_level f) gs) h.1 ∙ each_level f gs has all.1

-- where each variable of the file has a level, all gates have
pub all_levels-tested : (f : File) (nodes : List AigNode) → AreNodesOf f nodes
    → ((v : ℕ) → v ≤ f.greatest → (k : ℕ) × (level_of f v ≡ Some k)) → all_have_levels f ≡ true
all_levels-tested f nodes are has =
    let literals = f.inputs ++ map (λ (l : LatchLine). l.literal) f.latches in
    each_level f f.gates has
    (rec_weaker (λ (g : GateLine). IsDefinable f.greatest g.lhs) (λ (g : GateLine). g.lhs / 2 ≤ f.greatest) (λ g h. let high = (definable_told f.greatest g.lhs h).2 in omega arith) f.gates
    (rec_unmap (IsDefinable f.greatest) (λ (g : GateLine). g.lhs) f.gates (rec_parts (IsDefinable f.greatest) literals (map (λ (g : GateLine). g.lhs) f.gates) are.definable).1))
