use Rattle.aig_base.proofs.Words.{◌≡◌, ℕ, Bool, true, false, not, ◌&&◌, ◌||◌, ◌↔◌, IsTrue, List, [], ◌∷◌, ◌++◌, map, refl, sym, ap, subst, ◌∙◌, inl, inr, All, list_all, list_any, All-map, false≢true}
use Rattle.std.specs.Bool.{beq}
use Rattle.std.specs.Cmp.{booleans_Decides}
use Rattle.std.proofs.Math.Bool.{and_assoc, and-true, not-not}
use Rattle.aig_circuit.specs.declared.edge.AigEdge.{AigEdge}
use Rattle.aig_circuit.specs.declared.node.AigNodeType.TheVariants.{False}
use Rattle.aig_circuit.specs.declared.node.AigNode.{AigNode}
use Rattle.aig_circuit.proofs.Words.{edge_to, inverse, inverted_if, node_value, edge_value, Circuit, AreNodes, IsInRange}
use Rattle.aig_circuit.specs.Build.{Folds, true_first, true_second, false_first, false_second, same, opposite, FoldsOrAdds, AddsGates, AddsOnlyGates, GivesEdge, Grows, JoiningStep, JoinsByAnd, JoinsByOr, JoinsFromLeft}
use Rattle.aig_circuit.proofs.Trees.{kind_at-within, node_value-false}
use Rattle.aig_circuit.proofs.Building.{AddsGates-itself, AddsGates-then, edge_value-Grows}

-- an edge inverted twice is the edge
pub inverse_twice : (e : AigEdge) → inverse (inverse e) ≡ e
inverse_twice e = ap (edge_to e.node_id) (not-not e.compl)

-- a value that is inverted the other way is the other value
pub inverted_if-not : (i b : Bool) → inverted_if (not i) b ≡ not (inverted_if i b)
inverted_if-not true true = refl
inverted_if-not true false = refl
inverted_if-not false b = refl

pub edge_value-inverse : (nodes : List AigNode) (x : ℕ → Bool) (e : AigEdge) → edge_value nodes x (inverse e) ≡ not (edge_value nodes x e)
edge_value-inverse nodes x e = inverted_if-not e.compl (node_value nodes x e.node_id)

-- the same value in other words
pub GivesEdge-same : (nodes : List AigNode) (e : AigEdge) {v w : (ℕ → Bool) → Bool}
    → ((x : ℕ → Bool) → v x ≡ w x) → GivesEdge nodes v e → GivesEdge nodes w e
GivesEdge-same nodes e agree gives = record {
  there = gives.there;
  value = λ x. gives.value x ∙ agree x;
}

pub GivesEdge-inverse : (nodes : List AigNode) (e : AigEdge) {v : (ℕ → Bool) → Bool}
    → GivesEdge nodes v e → GivesEdge nodes (λ x. not (v x)) (inverse e)
GivesEdge-inverse nodes e gives = record {
  there = gives.there;
  value = λ x. edge_value-inverse nodes x e ∙ ap not (gives.value x);
}

-- true folds with every edge, to that edge
folds_true : (f e : AigEdge) → Folds (edge_to 0 true) f e → e ≡ f
folds_true f e (true_first p q) = q
folds_true f e (true_second p q) = q ∙ sym p
folds_true f e (false_first p q) = absurd (false≢true (sym (ap (λ (a : AigEdge). a.compl) p)))
folds_true f e (false_second p q) = q ∙ sym p
folds_true f e (same p q) = q ∙ p
folds_true f e (opposite p q) = q ∙ ap inverse p ∙ inverse_twice f

pub adds_none-true : (old new : List AigNode) (f e : AigEdge) → FoldsOrAdds old new (edge_to 0 true) f e → (e ≡ f) × (new ≡ old)
adds_none-true old new f e (inl p) = (folds_true f e p.0, p.1)
adds_none-true old new f e (inr p) = absurd (p.0 f (true_first refl refl))

-- the gates that were added so far, and the and of the first edges
pub record AndSoFar (old new : List AigNode) (fanins : List AigEdge) (all : AigEdge) : Type 0 where
  pub gates : AddsGates old new
  pub joins : JoinsByAnd old new fanins all

true_there : (nodes : List AigNode) → AreNodes nodes → IsInRange nodes (edge_to 0 true)
true_there nodes s = kind_at-within nodes 0 False s.false_first

pub JoinsByAnd-none : (nodes : List AigNode) → AreNodes nodes → JoinsByAnd nodes nodes [] (edge_to 0 true)
JoinsByAnd-none nodes s = record {
  gives = record {
    there = true_there nodes s;
    value = λ x. let zero_false = node_value-false nodes x 0 s.false_first in rw zero_false;
  };
  none = λ h. (refl, refl);
  one = λ f h. cc;
}

pub AndSoFar-none : (nodes : List AigNode) → AreNodes nodes → AndSoFar nodes nodes [] (edge_to 0 true)
AndSoFar-none nodes s = record { gates = AddsGates-itself nodes s; joins = JoinsByAnd-none nodes s }

pub AndSoFar-one : (nodes : List AigNode) → AreNodes nodes → (f : AigEdge) → IsInRange nodes f → AndSoFar nodes nodes (f ∷ []) f
AndSoFar-one nodes s f there = record {
  gates = AddsGates-itself nodes s;
  joins = record {
    gives = record { there = there; value = λ x. sym (and-true _) };
    none = λ h. cc;
    one = λ g h. (cc, refl);
  };
}

list_all-push : (p : AigEdge → Bool) (es : List AigEdge) (e : AigEdge) → list_all p (es ++ e ∷ []) ≡ (list_all p es && p e)
list_all-push p [] e = and-true (p e)
list_all-push p (f ∷ es) e = ap (λ b. p f && b) (list_all-push p es e) ∙ sym (and_assoc (p f) (list_all p es) (p e))

not_empty : (es : List AigEdge) (e : AigEdge) → es ++ e ∷ [] ≡ [] → ⊥
not_empty [] e h = cc
not_empty (f ∷ es) e h = cc

only_one : (es : List AigEdge) (e f : AigEdge) → es ++ e ∷ [] ≡ f ∷ [] → (es ≡ []) × (e ≡ f)
only_one [] e f h = (refl, cc)
only_one (g ∷ es) e f h = absurd (not_empty es e cc)

-- one edge more
pub AndSoFar-push : (old mid new : List AigNode) (fanins : List AigEdge) (all f e : AigEdge) → AreNodes old → AndSoFar old mid fanins all → IsInRange old f → AddsGates mid new → GivesEdge new (λ x. edge_value mid x all && edge_value mid x f) e → (fanins ≡ [] → (e ≡ f) × (new ≡ mid)) → AndSoFar old new (fanins ++ f ∷ []) e
AndSoFar-push old mid new fanins all f e s so_far in_old adds more first = record {
  gates = AddsGates-then old mid new so_far.gates adds;
  joins = record {
    gives = GivesEdge-same new e (λ x.
        ap (λ v. v && edge_value mid x f) (so_far.joins.gives.value x)
        ∙ ap (λ v. list_all (edge_value old x) fanins && v) (edge_value-Grows old mid s so_far.gates.grows x f in_old)
        ∙ sym (list_all-push (edge_value old x) fanins f)) more;
    none = λ h. absurd (not_empty fanins f h);
    one = λ g h. let only = only_one fanins f g h in ((first only.0).0 ∙ only.1, (first only.0).1 ∙ (so_far.joins.none only.0).1);
  };
}

not_all : (p q : AigEdge → Bool) → ((e : AigEdge) → q (inverse e) ≡ not (p e)) → (es : List AigEdge) → not (list_all q (map inverse es)) ≡ list_any p es
not_all p q h [] = refl
not_all p q h (e ∷ es) = ap (λ b. not (b && list_all q (map inverse es))) (h e) ∙ by (p e) (list_all q (map inverse es)) ∙ ap (λ b. p e || b) (not_all p q h es)
  where
    by : (a b : Bool) → not (not a && b) ≡ (a || not b)
    by true b = refl
    by false b = refl

pub All-inverse : (nodes : List AigNode) (es : List AigEdge) → All (IsInRange nodes) es → All (IsInRange nodes) (map inverse es)
All-inverse nodes es h = All-map (IsInRange nodes) inverse es h

-- the or of edges is the inverse of the and of their inverses
pub JoinsByOr-inverse : (old new : List AigNode) (es : List AigEdge) (e : AigEdge) → JoinsByAnd old new (map inverse es) e → JoinsByOr old new es (inverse e)
JoinsByOr-inverse old new es e j = record {
  gives = GivesEdge-same new (inverse e) (λ x. not_all (edge_value old x) (edge_value old x) (edge_value-inverse old x) es) (GivesEdge-inverse new e j.gives);
  none = λ h. let at = j.none (ap (map inverse) h) in (ap inverse at.0, at.1);
  one = λ f h. let at = j.one (inverse f) (ap (map inverse) h) in (ap inverse at.0 ∙ inverse_twice f, at.1);
}

-- two values are equal exactly where both hold or neither does
equal_is : (a b : Bool) → ((a && b) || (not a && not b)) ≡ beq a b
equal_is true true = refl
equal_is true false = refl
equal_is false true = refl
equal_is false false = refl

-- the or of the and of two edges and of the and of their inverses, where each of the three may have added nodes
pub GivesEdge-both_or_neither : (old one two three : List AigNode) (a b both neither e : AigEdge) → AreNodes old → Grows old one → Grows one two → IsInRange old a → IsInRange old b → GivesEdge one (λ x. edge_value old x a && edge_value old x b) both → GivesEdge two (λ x. edge_value one x (inverse a) && edge_value one x (inverse b)) neither → GivesEdge three (λ x. edge_value two x both || edge_value two x neither) e → GivesEdge three (λ x. beq (edge_value old x a) (edge_value old x b)) e
GivesEdge-both_or_neither old one two three a b both neither e s p q i j is_both is_neither is_or =
    GivesEdge-same three e (λ x.
    let at : (f : AigEdge) → IsInRange old f → edge_value one x (inverse f) ≡ not (edge_value old x f) = λ f h. edge_value-inverse one x f ∙ ap not (edge_value-Grows old one s p x f h) in
    ap (λ v. v || edge_value two x neither) (edge_value-Grows one two p.sound q x both is_both.there ∙ is_both.value x)
    ∙ ap (λ v. (edge_value old x a && edge_value old x b) || v) (is_neither.value x ∙ ap (λ v. v && edge_value one x (inverse b)) (at a i) ∙ ap (λ v. not (edge_value old x a) && v) (at b j))
    ∙ equal_is (edge_value old x a) (edge_value old x b)) is_or

-- it is true exactly where the two values are equal
pub true_where_equal : (nodes : List AigNode) (e : AigEdge) (v w : (ℕ → Bool) → Bool)
    → GivesEdge nodes (λ x. beq (v x) (w x)) e → (x : ℕ → Bool)
    → IsTrue (edge_value nodes x e) ↔ (v x ≡ w x)
true_where_equal nodes e v w gives x = rw (gives.value x) (booleans_Decides (v x) (w x))

-- one step more
pub joins_from_left_push : (Step : JoiningStep) (old : List AigNode) (all : AigEdge) (es : List AigEdge) (mid new : List AigNode) (next f e : AigEdge) → JoinsFromLeft Step old all es mid next → Step mid new next f e → JoinsFromLeft Step old all (es ++ f ∷ []) new e
joins_from_left_push Step old all [] mid new next f e h step =
    (new, e, subst (λ (m : List AigNode). Step m new all f e) h.0 (subst (λ (a : AigEdge). Step mid new a f e) h.1 step), (refl, refl))
joins_from_left_push Step old all (g ∷ es) mid new next f e h step =
    (h.0, h.1, h.2, joins_from_left_push Step h.0 h.1 es mid new next f e h.3 step)

-- gates that are added to a circuit, and then further ones, are gates that are added
pub AddsOnlyGates-then : (a b c : Circuit) → AddsOnlyGates a b → AddsOnlyGates b c → AddsOnlyGates a c
AddsOnlyGates-then a b c p q = record {
  nodes = AddsGates-then a.nodes b.nodes c.nodes p.nodes q.nodes;
  same = q.same ∙ ap (λ (kept : Circuit). record kept { nodes = c.nodes }) p.same;
}
