-- Depths that are lowered.
use Rattle.aig_base.proofs.Words.{◌≡◌, ℕ, ◌+◌, ◌<◌, ◌≤◌, Bool, true, false, ◌||◌, List, ◌≢◌, length, get_or, set, get_or-set_other, get_or-set_same, refl, sym, ap, subst, ◌∙◌, inl, inr, arith, cases_lt, take_more, All-push}
use Rattle.std.specs.Prelude.{◌⊎◌, sum, slice_index, take}
use Rattle.aig_circuit.specs.declared.edge.AigEdge.{AigEdge}
use Rattle.aig_circuit.specs.declared.node.AigLatch.{AigLatch}
use Rattle.aig_circuit.specs.declared.node.AigNode.{AigNode}
use Rattle.aig_circuit.specs.declared.node.AigNodeType.TheVariants.{And}
use Rattle.aig_circuit.proofs.Trees.{kind_at-within}
use Rattle.aig_bounded.specs.Depths.{AreNoDeeper, HasNextDepth, HasOperandDepths, HaveNextDepths, HaveNoDepth, HaveOperandDepths, Lowers}

-- depths that aren't lowered are none at all
pub HaveNoDepth-lower : (es : List AigEdge) (old new : List ℕ) → AreNoDeeper old new
    → HaveNoDepth es old → HaveNoDepth es new
HaveNoDepth-lower es old new lower none k d h =
    omega (arith, lower (get_or es k d).node_id, none k d h)

-- what is the same is no deeper
pub AreNoDeeper-same : (old new : List ℕ) → new ≡ old → AreNoDeeper old new
AreNoDeeper-same old new same n = omega (arith, ap (λ ds. slice_index ds n) same)

pub AreNoDeeper-then : (old mid new : List ℕ) → AreNoDeeper old mid → AreNoDeeper mid new
    → AreNoDeeper old new
AreNoDeeper-then old mid new p q n = omega (arith, p n, q n)

-- something else holds of the old depths where P does
pub Lowers-weaker : (P Q : List ℕ → Type 0) (old new : List ℕ) (lowered : Bool) → (P old → Q old)
    → Lowers P old new lowered → Lowers Q old new lowered
Lowers-weaker P Q old new lowered weaker l = record {
  none = λ e. let n = l.none e in (n.0, weaker n.1);
  some = l.some;
  lower = l.lower;
}

-- lowered once, and then again
pub Lowers-then : (P Q : List ℕ → Type 0) (old mid new : List ℕ) (first second : Bool)
    → Lowers P old mid first → Lowers Q mid new second
    → Lowers (λ ds. P ds × Q ds) old new (first || second)
Lowers-then P Q old mid new true true p q = record {
  none = λ e. cc;
  some = λ e. omega (arith, p.some refl, q.some refl);
  lower = AreNoDeeper-then old mid new p.lower q.lower;
}
Lowers-then P Q old mid new true false p q = record {
  none = λ e. cc;
  some = λ e. omega (arith, p.some refl, ap sum (q.none refl).0);
  lower = AreNoDeeper-then old mid new p.lower q.lower;
}
Lowers-then P Q old mid new false true p q = record {
  none = λ e. cc;
  some = λ e. omega (arith, q.some refl, ap sum (p.none refl).0);
  lower = AreNoDeeper-then old mid new p.lower q.lower;
}
Lowers-then P Q old mid new false false p q = record {
  none = λ e.
      let one = p.none refl in
      let two = q.none refl in
      (two.0 ∙ one.0, (one.1, subst Q one.0 two.1));
  some = λ e. cc;
  lower = AreNoDeeper-then old mid new p.lower q.lower;
}

-- ---- one depth

-- a depth that is set to less is less, and no other is more
set_lower : (ds : List ℕ) (m v n : ℕ) → m < length ds → v ≤ get_or ds m 0
    → get_or (set ds m v) n 0 ≤ get_or ds n 0
set_lower ds m v n within low = by (cases_lt n m) (cases_lt m n)
  where
    other : n ≢ m → get_or (set ds m v) n 0 ≤ get_or ds n 0
    other ne = omega (arith, get_or-set_other ds m n v 0 ne)

    by : (n < m) ⊎ (m ≤ n) → (m < n) ⊎ (n ≤ m) → get_or (set ds m v) n 0 ≤ get_or ds n 0
    by (inl less) more = other (omega arith)
    by (inr not_less) (inl more) = other (omega arith)
    by (inr not_less) (inr not_more) =
        let same : m ≡ n = omega arith in
        subst (λ k. get_or (set ds m v) k 0 ≤ get_or ds k 0) same (omega (arith, get_or-set_same ds m v 0 within))

pub AreNoDeeper-set : (ds : List ℕ) (m v : ℕ) → m < length ds → v ≤ get_or ds m 0
    → AreNoDeeper ds (set ds m v)
AreNoDeeper-set ds m v within low n = set_lower ds m v n within low

-- the nodes of one edge more have no depth
pub HaveNoDepth-more : (es : List AigEdge) (i : ℕ) (d : AigEdge) (ds : List ℕ) → i < length es
    → (get_or es i d).node_id < length ds → HaveNoDepth (take i es) ds
    → HaveNoDepth (take (i + 1) es) (set ds (get_or es i d).node_id 0)
HaveNoDepth-more es i d ds h within none =
    let m = (get_or es i d).node_id in
    let lower = AreNoDeeper-set ds m 0 within (omega arith) in
    subst (λ l. HaveNoDepth l (set ds m 0)) (sym (take_more es i d h))
    (All-push (λ (e : AigEdge). get_or (set ds m 0) e.node_id 0 ≡ 0) (take i es) (get_or es i d) (HaveNoDepth-lower (take i es) ds (set ds m 0) lower none)
    (get_or-set_same ds m 0 0 within))

-- ---- latches

-- one latch more is lowered
pub lowers_one_more : (latchs : List AigLatch) (i : ℕ) (d : AigLatch) (last : ℕ)
    (old mid new : List ℕ) (first second : Bool) → i < length latchs
    → Lowers (HaveNextDepths (take i latchs) last) old mid first
    → Lowers (HasNextDepth (get_or latchs i d) last) mid new second
    → Lowers (HaveNextDepths (take (i + 1) latchs) last) old new (first || second)
lowers_one_more latchs i d last old mid new first second h p q =
    Lowers-weaker (λ ds. HaveNextDepths (take i latchs) last ds × HasNextDepth (get_or latchs i d) last ds) (HaveNextDepths (take (i + 1) latchs) last) old new (first || second)
    (λ both. subst (λ ls. HaveNextDepths ls last old) (sym (take_more latchs i d h))
    (All-push (λ (l : AigLatch). HasNextDepth l last old) (take i latchs) (get_or latchs i d) both.0 both.1))
    (Lowers-then (HaveNextDepths (take i latchs) last) (HasNextDepth (get_or latchs i d) last) old mid new first second p q)

-- ---- gates

-- the gates from a lower one on
pub lowers_one_less : (nodes : List AigNode) (last id low : ℕ) (old mid new : List ℕ)
    (first second : Bool) → id ≤ low + 1
    → Lowers (λ ds. (n : ℕ) → id ≤ n → n < length nodes → HasOperandDepths nodes last n ds) old mid first
    → Lowers (HasOperandDepths nodes last low) mid new second
    → Lowers (λ ds. (n : ℕ) → low ≤ n → n < length nodes → HasOperandDepths nodes last n ds) old new (first || second)
lowers_one_less nodes last id low old mid new first second less p q =
    Lowers-weaker (λ ds. ((n : ℕ) → id ≤ n → n < length nodes → HasOperandDepths nodes last n ds) × HasOperandDepths nodes last low ds)
    (λ ds. (n : ℕ) → low ≤ n → n < length nodes → HasOperandDepths nodes last n ds) old new (first || second)
    (λ both n h l. at both n h l (cases_lt low n))
    (Lowers-then (λ ds. (n : ℕ) → id ≤ n → n < length nodes → HasOperandDepths nodes last n ds) (HasOperandDepths nodes last low) old mid new first second p q)
  where
    at : ((n : ℕ) → id ≤ n → n < length nodes → HasOperandDepths nodes last n old) × HasOperandDepths nodes last low old
        → (n : ℕ) → low ≤ n → n < length nodes → (low < n) ⊎ (n ≤ low) → HasOperandDepths nodes last n old
    at both n h l (inl more) = both.0 n (omega (arith, more, less)) l
    at both n h l (inr no_more) = let one : low ≡ n = omega (arith, h, no_more) in subst (λ m. HasOperandDepths nodes last m old) one both.1

-- and so all
pub lowers_all : (nodes : List AigNode) (last id : ℕ) (old new : List ℕ) (lowered : Bool) → id ≡ 0
    → Lowers (λ ds. (n : ℕ) → id ≤ n → n < length nodes → HasOperandDepths nodes last n ds) old new lowered
    → Lowers (HaveOperandDepths nodes last) old new lowered
lowers_all nodes last id old new lowered none p =
    Lowers-weaker (λ ds. (n : ℕ) → id ≤ n → n < length nodes → HasOperandDepths nodes last n ds) (HaveOperandDepths nodes last) old new lowered
    (λ all n m fanin. all n (omega (arith, none)) (kind_at-within nodes n (And fanin.0 fanin.1) fanin.2) m fanin) p
