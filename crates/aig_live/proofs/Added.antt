-- Latches that are added, as equations over the values of their leaves.
use Rattle.aig_base.proofs.Words.{◌≡◌, ℕ, zero, suc, ◌+◌, ◌<◌, Bool, false, List, [], ◌∷◌, ◌++◌, length, get_or, refl, sym, ap, subst, ◌∙◌, arith, All, IfSome}
use Rattle.aig_circuit.specs.declared.edge.AigEdge.{AigEdge}
use Rattle.aig_circuit.specs.declared.node.AigLatch.{AigLatch}
use Rattle.aig_circuit.specs.declared.node.AigNode.{AigNode}
use Rattle.aig_circuit.proofs.Words.{edge_to, edge_value, AreNodes}
use Rattle.aig_circuit.proofs.Trees.{node_value-false}
use Rattle.aig_live.specs.Live.{false_latch, false_latches}

pub false_latches-long : (leaf : ℕ) (es : List AigEdge) → length (false_latches leaf es) ≡ length es
false_latches-long leaf [] = refl
false_latches-long leaf (e ∷ es) = ap suc (false_latches-long (leaf + 1) es)

pub false_latches-at : (leaf : ℕ) (es : List AigEdge) (k : ℕ) (d : AigLatch) (e : AigEdge)
    → k < length es
    → get_or (false_latches leaf es) k d ≡ false_latch (leaf + k) (get_or es k e)
false_latches-at leaf [] k d e h = absurd (omega arith)
false_latches-at leaf (f ∷ es) zero d e h =
    let same : leaf ≡ leaf + 0 = omega arith in ap (λ n. false_latch n f) same
false_latches-at leaf (f ∷ es) (suc k) d e h =
    let same : leaf + 1 + k ≡ leaf + suc k = omega arith in
    false_latches-at (leaf + 1) es k d e (omega arith)
    ∙ ap (λ n. false_latch n (get_or es k e)) same

module _ (nodes : List AigNode) (are : AreNodes nodes) where
  -- the leaf has at a step the value that the next edge had before it
  abbrev pub Follows : (ℕ → Bool) → (ℕ → Bool) → AigLatch → Type 0
  Follows x y latch = y latch.input ≡ edge_value nodes x latch.next

  -- the initial edge has the leaf's value
  abbrev pub Begins : (ℕ → Bool) → AigLatch → Type 0
  Begins x latch = IfSome latch.init (λ e. edge_value nodes x e ≡ x latch.input)

  pub false_is : (x : ℕ → Bool) → edge_value nodes x (edge_to 0 false) ≡ false
  false_is x = node_value-false nodes x 0 are.false_first

  module _ (leaf : ℕ) (es : List AigEdge) where
    pub follows_at : (x y : ℕ → Bool) → All (Follows x y) (false_latches leaf es)
        → (k : ℕ) (e : AigEdge) → k < length es → y (leaf + k) ≡ edge_value nodes x (get_or es k e)
    follows_at x y all k e h =
        let d = false_latch 0 e in
        subst (Follows x y) (false_latches-at leaf es k d e h)
        (all k d (omega (arith, false_latches-long leaf es)))

    pub follow : (x y : ℕ → Bool)
        → ((k : ℕ) (e : AigEdge) → k < length es
        → y (leaf + k) ≡ edge_value nodes x (get_or es k e))
        → All (Follows x y) (false_latches leaf es)
    follow x y each k d h =
        let low : k < length es = omega (arith, false_latches-long leaf es, h) in
        subst (Follows x y) (sym (false_latches-at leaf es k d d.next low)) (each k d.next low)

    pub begins_at : (x : ℕ → Bool) → All (Begins x) (false_latches leaf es)
        → (k : ℕ) → k < length es → x (leaf + k) ≡ false
    begins_at x all k h =
        let e = edge_to 0 false in
        let d = false_latch 0 e in
        let at : edge_value nodes x e ≡ x (leaf + k) =
        subst (Begins x) (false_latches-at leaf es k d e h)
        (all k d (omega (arith, false_latches-long leaf es))) in
        sym at ∙ false_is x

    pub begin : (x : ℕ → Bool) → ((k : ℕ) → k < length es → x (leaf + k) ≡ false)
        → All (Begins x) (false_latches leaf es)
    begin x each k d h =
        let low : k < length es = omega (arith, false_latches-long leaf es, h) in
        subst (Begins x) (sym (false_latches-at leaf es k d d.next low))
        (false_is x ∙ sym (each k low))

-- one latch more
pub false_latches-append : (leaf : ℕ) (es : List AigEdge) (e : AigEdge)
    → false_latches leaf (es ++ e ∷ []) ≡ false_latches leaf es ++ false_latch
    (leaf + length es) e ∷ []
false_latches-append leaf [] e = let same : leaf ≡ leaf + 0 = omega arith in ap
    (λ n. false_latch n e ∷ []) same
false_latches-append leaf (f ∷ es) e =
    let same : leaf + 1 + length es ≡ leaf + suc (length es) = omega arith in
    ap (λ ls. false_latch leaf f ∷ ls) (false_latches-append (leaf + 1) es e)
    ∙ ap (λ n. false_latch leaf f ∷ (false_latches (leaf + 1) es ++ false_latch n e ∷ [])) same
