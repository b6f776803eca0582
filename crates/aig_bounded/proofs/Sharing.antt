-- What the table of gates says of the nodes.
use Rattle.aig_base.proofs.Words.{◌≡◌, ◌≢◌, ℕ, zero, suc, ◌+◌, ◌<◌, ◌≤◌, ◌==◌, ◌&&◌, ◌⊎◌, Bool, true, false, cond, find, option_map, Option, Some, None, List, [], ◌∷◌, length, get_or, sym, ap, ap₂, ◌∙◌, refl, arith, inl, inr, and_from, and_parts, eq-eqb, eqb-true, false≢true, same_Some, slice_get-get_or, get_or-append_seam, cases_lt, length-append, nat_eq}
use Rattle.std.specs.HashMap.{HashMap, get}
use Rattle.std.specs.Map.{lookup}
use Rattle.aig_circuit.specs.declared.edge.AigEdge.{AigEdge}
use Rattle.aig_circuit.specs.declared.node.AigNode.{AigNode}
use Rattle.aig_circuit.specs.declared.node.AigNodeType.{AigNodeType}
use Rattle.aig_circuit.specs.declared.node.AigNodeType.TheVariants.{And, False, Leaf}
use Rattle.aig_circuit.proofs.Words.{edge_to, inverse, literal_of, and_of, kind_at, with_node, AreNodes, FoldsOrAdds, GivesEdge, Grows, edge_value}
use Rattle.aig_circuit.specs.Build.{Folds}
use Rattle.aig_circuit.specs.Build.Folds.{true_first, true_second, false_first, false_second, same, opposite}
use Rattle.aig_circuit.proofs.Edges.{literals-same}
use Rattle.aig_circuit.proofs.Joining.{GivesEdge-same, inverse_twice}
use Rattle.aig_circuit.proofs.Building.{Grows-kept, and_of-cases}
use Rattle.aig_circuit.proofs.Trees.{kind_at-within, node_value-and}
use Rattle.aig_unroll.specs.Frame.{folded}
use Rattle.aig_unroll.proofs.Framed.{folded-Folds, folded-none}
use Rattle.aig_bounded.specs.declared.place.Place.{Place}
use Rattle.aig_bounded.specs.Gates.{HasGates, are_same, operand_literals}
use Rattle.aig_bounded.specs.Shared.{Netlist, gate_among, is_same_gate, made_by, made_in, shared_and}

-- two edges fold in either order
swapped : (a b e : AigEdge) → Folds a b e → Folds b a e
swapped a b e (true_first p q) = true_second p q
swapped a b e (true_second p q) = true_first p q
swapped a b e (false_first p q) = false_second p q
swapped a b e (false_second p q) = false_first p q
swapped a b e (same p q) = same (sym p) (q ∙ p)
swapped a b e (opposite p q) = opposite (sym (inverse_twice b) ∙ ap inverse (sym p)) q

none_some : {X : Type 0} (x : X) → None ≡ Some x → ⊥
none_some x h = cc

-- and so don't
none_swapped : (a b : AigEdge) → folded a b ≡ None → folded b a ≡ None
none_swapped a b h = folded-none b a (λ f p. none_some f (sym h ∙ folded-Folds a b f (swapped b a f p)))

-- the netlist of these
abbrev pub net_with : List AigNode → List ℕ → List Place → Netlist
net_with nodes inputs places = record { nodes = nodes; inputs = inputs; places = places }

and_swap : (a b : Bool) → (a && b) ≡ (b && a)
and_swap true true = refl
and_swap true false = refl
and_swap false true = refl
and_swap false false = refl

-- ---- the first gate

find-some : (p : AigNode → Bool) (xs : List AigNode) (d x : AigNode) → find p xs ≡ Some x
    → (k : ℕ) × (k < length xs) × (get_or xs k d ≡ x) × (p x ≡ true)
find-some p [] d x h = absurd (none_some x h)
find-some p (y ∷ ys) d x h = by (λ r. find-some p ys d x r) (p y) refl
  where
    by : (find p ys ≡ Some x → (k : ℕ) × (k < length ys) × (get_or ys k d ≡ x) × (p x ≡ true))
        → (b : Bool) → p y ≡ b
        → (k : ℕ) × (k < length (y ∷ ys)) × (get_or (y ∷ ys) k d ≡ x) × (p x ≡ true)
    by rest true is =
        let here : y ≡ x = same_Some _ _ (sym (ap (λ b. cond b (Some y) (find p ys)) is) ∙ h) in
        (0, omega arith, here, ap p (sym here) ∙ is)
    by rest false is =
        let r = rest (sym (ap (λ b. cond b (Some y) (find p ys)) is) ∙ h) in
        (suc r.0, omega (arith, r.1), r.2, r.3)

find-none : (p : AigNode → Bool) (xs : List AigNode) (d : AigNode) → find p xs ≡ None → (k : ℕ)
    → k < length xs → p (get_or xs k d) ≡ false
find-none p [] d h k l = absurd (omega arith)
find-none p (y ∷ ys) d h k l = by (λ r j m. find-none p ys d r j m) (p y) refl k l
  where
    by : (find p ys ≡ None → (j : ℕ) → j < length ys → p (get_or ys j d) ≡ false)
        → (b : Bool) → p y ≡ b → (k : ℕ) → k < length (y ∷ ys)
        → p (get_or (y ∷ ys) k d) ≡ false
    by rest true is k l = absurd (none_some y (sym h ∙ ap (λ b. cond b (Some y) (find p ys)) is))
    by rest false is zero l = is
    by rest false is (suc k) l = rest (sym (ap (λ b. cond b (Some y) (find p ys)) is) ∙ h) k (omega arith)

-- kinds of one gate
same_gate-is : (k : AigNodeType) (a b : AigEdge) → is_same_gate k (And a b) ≡ true → k ≡ And a b
same_gate-is (And x y) a b h =
    let parts = and_parts (literal_of x == literal_of a) (literal_of y == literal_of b) h in
    ap₂ And (literals-same x a (eqb-true (literal_of x) (literal_of a) parts.0)) (literals-same y b (eqb-true (literal_of y) (literal_of b) parts.1))
same_gate-is False a b h = absurd (false≢true h)
same_gate-is Leaf a b h = absurd (false≢true h)

same_gate-itself : (a b : AigEdge) → is_same_gate (And a b) (And a b) ≡ true
same_gate-itself a b = and_from _ _ (eq-eqb (literal_of a) (literal_of a) refl) (eq-eqb (literal_of b) (literal_of b) refl)

abbrev no_node : AigNode
no_node = record { node_id = 0; typ = False }

-- the kind of a new node
kind_at-with_node : (nodes : List AigNode) (kind : AigNodeType)
    → kind_at (with_node nodes kind) (length nodes) ≡ Some kind
kind_at-with_node nodes kind = ap (option_map (λ (x : AigNode). x.typ)) (slice_get-get_or (with_node nodes kind) (length nodes) no_node (omega (arith, length-append nodes (record { node_id = length nodes; typ = kind } ∷ [])))) ∙ ap (λ (x : AigNode). Some x.typ) (get_or-append_seam nodes (record { node_id = length nodes; typ = kind }) [] no_node)

-- the kind of a node that is there
kind_there : (nodes : List AigNode) (k : ℕ) → k < length nodes
    → kind_at nodes k ≡ Some (get_or nodes k no_node).typ
kind_there nodes k h = ap (option_map (λ (x : AigNode). x.typ)) (slice_get-get_or nodes k no_node h)

module _ {S : Type 0} (nodes : List AigNode) (gates : HashMap (ℕ × ℕ) ℕ S) (has : HasGates nodes gates) where
  -- the gate that is there is the first
  there : (n : ℕ) (a b : AigEdge) → kind_at nodes n ≡ Some (And a b) → gate_among nodes (And a b) ≡ Some n
  there n a b is = by (find (λ (x : AigNode). is_same_gate x.typ (And a b)) nodes) refl
    where
      by : (o : Option AigNode) → find (λ (x : AigNode). is_same_gate x.typ (And a b)) nodes ≡ o → gate_among nodes (And a b) ≡ Some n
      by None h =
          let within = kind_at-within nodes n (And a b) is in
          let typ = same_Some _ _ (sym (kind_there nodes n within) ∙ is) in
          absurd (false≢true (sym (find-none (λ (x : AigNode). is_same_gate x.typ (And a b)) nodes no_node h n within) ∙ ap (λ t. is_same_gate t (And a b)) typ ∙ same_gate-itself a b))
      by (Some x) h =
          let f = find-some (λ (x : AigNode). is_same_gate x.typ (And a b)) nodes no_node x h in
          let kind : kind_at nodes f.0 ≡ Some (And a b) = kind_there nodes f.0 f.1 ∙ ap (λ (y : AigNode). Some y.typ) f.2 ∙ ap Some (same_gate-is x.typ a b f.3) in
          let number : f.0 ≡ n = same_Some _ _ (sym (has.each f.0 a b kind) ∙ has.each n a b is) in
          let id : x.node_id ≡ f.0 = ap (λ (y : AigNode). y.node_id) (sym f.2) ∙ has.sound.numbered f.0 (get_or nodes f.0 no_node) (slice_get-get_or nodes f.0 no_node f.1) in
          ap (option_map (λ (y : AigNode). y.node_id)) h ∙ ap Some (id ∙ number)

  -- none is
  nowhere : (a b : AigEdge) → get are_same gates (literal_of a, literal_of b) ≡ None → gate_among nodes (And a b) ≡ None
  nowhere a b none = by (find (λ (x : AigNode). is_same_gate x.typ (And a b)) nodes) refl
    where
      by : (o : Option AigNode) → find (λ (x : AigNode). is_same_gate x.typ (And a b)) nodes ≡ o → gate_among nodes (And a b) ≡ None
      by None h = ap (option_map (λ (y : AigNode). y.node_id)) h
      by (Some x) h =
          let f = find-some (λ (x : AigNode). is_same_gate x.typ (And a b)) nodes no_node x h in
          let kind : kind_at nodes f.0 ≡ Some (And a b) = kind_there nodes f.0 f.1 ∙ ap (λ (y : AigNode). Some y.typ) f.2 ∙ ap Some (same_gate-is x.typ a b f.3) in
          absurd (none_some f.0 (sym none ∙ has.each f.0 a b kind))

  -- the gate of the key is the and of the edges
  found : (a b : AigEdge) (n : ℕ) → get are_same gates (operand_literals (and_of a b)) ≡ Some n → (gate_among nodes (and_of a b) ≡ Some n) × (folded a b ≡ None)
  found a b n h = by (and_of-cases a b)
    where
      by : ((and_of a b ≡ And b a) × (literal_of b < literal_of a)) ⊎ ((and_of a b ≡ And a b) × (literal_of a ≤ literal_of b)) → (gate_among nodes (and_of a b) ≡ Some n) × (folded a b ≡ None)
      by (inl p) =
          let o = has.only (operand_literals (and_of a b)) n h in
          let key = o.3 ∙ ap operand_literals p.0 in
          let x : o.0 ≡ b = literals-same o.0 b (ap (λ (q : ℕ × ℕ). q.0) key) in
          let y : o.1 ≡ a = literals-same o.1 a (ap (λ (q : ℕ × ℕ). q.1) key) in
          let kind : kind_at nodes n ≡ Some (And b a) = o.2 ∙ ap Some (ap₂ And x y) in
          (ap (gate_among nodes) p.0 ∙ there n b a kind, none_swapped b a (has.apart n b a kind))
      by (inr p) =
          let o = has.only (operand_literals (and_of a b)) n h in
          let key = o.3 ∙ ap operand_literals p.0 in
          let x : o.0 ≡ a = literals-same o.0 a (ap (λ (q : ℕ × ℕ). q.0) key) in
          let y : o.1 ≡ b = literals-same o.1 b (ap (λ (q : ℕ × ℕ). q.1) key) in
          let kind : kind_at nodes n ≡ Some (And a b) = o.2 ∙ ap Some (ap₂ And x y) in
          (ap (gate_among nodes) p.0 ∙ there n a b kind, has.apart n a b kind)

  missing : (a b : AigEdge) → get are_same gates (operand_literals (and_of a b)) ≡ None → gate_among nodes (and_of a b) ≡ None
  missing a b h = by (and_of-cases a b)
    where
      by : ((and_of a b ≡ And b a) × (literal_of b < literal_of a)) ⊎ ((and_of a b ≡ And a b) × (literal_of a ≤ literal_of b)) → gate_among nodes (and_of a b) ≡ None
      by (inl p) = ap (gate_among nodes) p.0 ∙ nowhere b a (ap (λ k. get are_same gates (operand_literals k)) (sym p.0) ∙ h)
      by (inr p) = ap (gate_among nodes) p.0 ∙ nowhere a b (ap (λ k. get are_same gates (operand_literals k)) (sym p.0) ∙ h)

  -- what the call answers where the gate is there
  pub shared : (a b : AigEdge) (n : ℕ) → get are_same gates (operand_literals (and_of a b)) ≡ Some n
      → (inputs : List ℕ) (places : List Place)
      → made_in (net_with nodes inputs places) (edge_to n false) ≡ shared_and (net_with nodes inputs places) a b
  shared a b n h inputs places = let f = found a b n h in sym (ap₂ (λ o g. made_by o g (and_of a b) (net_with nodes inputs places)) f.1 f.0)

  -- and its value
  pub gives_found : (a b : AigEdge) (n : ℕ) → get are_same gates (operand_literals (and_of a b)) ≡ Some n
      → GivesEdge nodes (λ y. edge_value nodes y a && edge_value nodes y b) (edge_to n false)
  gives_found a b n h = by (and_of-cases a b)
    where
      gives : (x y : AigEdge) → kind_at nodes n ≡ Some (And x y)
          → GivesEdge nodes (λ v. edge_value nodes v x && edge_value nodes v y) (edge_to n false)
      gives x y kind = record {
        there = kind_at-within nodes n (And x y) kind;
        value = λ v. node_value-and nodes has.sound.ordered v n x y kind;
      }

      by : ((and_of a b ≡ And b a) × (literal_of b < literal_of a)) ⊎ ((and_of a b ≡ And a b) × (literal_of a ≤ literal_of b))
          → GivesEdge nodes (λ y. edge_value nodes y a && edge_value nodes y b) (edge_to n false)
      by (inl p) =
          let o = has.only (operand_literals (and_of a b)) n h in
          let key = o.3 ∙ ap operand_literals p.0 in
          let x : o.0 ≡ b = literals-same o.0 b (ap (λ (q : ℕ × ℕ). q.0) key) in
          let y : o.1 ≡ a = literals-same o.1 a (ap (λ (q : ℕ × ℕ). q.1) key) in
          GivesEdge-same nodes (edge_to n false) (λ v. and_swap (edge_value nodes v b) (edge_value nodes v a)) (gives b a (o.2 ∙ ap Some (ap₂ And x y)))
      by (inr p) =
          let o = has.only (operand_literals (and_of a b)) n h in
          let key = o.3 ∙ ap operand_literals p.0 in
          let x : o.0 ≡ a = literals-same o.0 a (ap (λ (q : ℕ × ℕ). q.0) key) in
          let y : o.1 ≡ b = literals-same o.1 b (ap (λ (q : ℕ × ℕ). q.1) key) in
          gives a b (o.2 ∙ ap Some (ap₂ And x y))

  -- and where it isn't
  pub ruled : (new : List AigNode) (a b e : AigEdge) → get are_same gates (operand_literals (and_of a b)) ≡ None → FoldsOrAdds nodes new a b e
      → (inputs : List ℕ) (places : List Place)
      → made_in (net_with new inputs places) e ≡ shared_and (net_with nodes inputs places) a b
  ruled new a b e h (inl p) inputs places =
      ap (λ ns. made_in (net_with ns inputs places) e) p.1 ∙ sym (ap (λ o. made_by o (gate_among nodes (and_of a b)) (and_of a b) (net_with nodes inputs places)) (folded-Folds a b e p.0))
  ruled new a b e h (inr p) inputs places =
      ap₂ (λ ns f. made_in (net_with ns inputs places) f) p.1.gate p.1.edge ∙ sym (ap₂ (λ o g. made_by o g (and_of a b) (net_with nodes inputs places)) (folded-none a b p.0) (missing a b h))

  -- ---- one gate more

  module _ (new : List AigNode) (after : HashMap (ℕ × ℕ) ℕ S) (a b x y : AigEdge) (adds : new ≡ with_node nodes (and_of a b)) (grows : Grows nodes new) (kind : and_of a b ≡ And x y) (free : folded x y ≡ None) (none : get are_same gates (literal_of x, literal_of y) ≡ None)
      (updates : (q : ℕ × ℕ) → get are_same after q ≡ cond (are_same (literal_of x, literal_of y) q) (Some (length nodes)) (get are_same gates q)) where
    abbrev key : ℕ × ℕ
    key = (literal_of x, literal_of y)

    long : length new ≡ length nodes + 1
    long = ap length adds ∙ length-append nodes _

    here : kind_at new (length nodes) ≡ Some (And x y)
    here = ap (λ ns. kind_at ns (length nodes)) adds ∙ kind_at-with_node nodes (and_of a b) ∙ ap Some kind

    old_kind : (n : ℕ) (k : AigNodeType) → n < length nodes → kind_at new n ≡ Some k → kind_at nodes n ≡ Some k
    old_kind n k h is = sym (Grows-kept nodes new grows n h) ∙ is

    same_key : (q : ℕ × ℕ) → are_same key q ≡ true → key ≡ q
    same_key q h =
        let parts = and_parts (nat_eq key.0 q.0) (nat_eq key.1 q.1) h in
        ap₂ (λ (i j : ℕ). (i, j)) (eqb-true key.0 q.0 parts.0) (eqb-true key.1 q.1 parts.1)

    key_itself : are_same key key ≡ true
    key_itself = and_from _ _ (eq-eqb key.0 key.0 refl) (eq-eqb key.1 key.1 refl)

    -- a gate is an old one or the new one
    each_more : (n : ℕ) (u v : AigEdge) → kind_at new n ≡ Some (And u v) → get are_same after (literal_of u, literal_of v) ≡ Some n
    each_more n u v is = by (cases_lt n (length nodes))
      where
        old : n < length nodes → (t : Bool) → are_same key (literal_of u, literal_of v) ≡ t → get are_same after (literal_of u, literal_of v) ≡ Some n
        old h true t = absurd (none_some n (sym none ∙ ap (get are_same gates) (same_key _ t) ∙ has.each n u v (old_kind n (And u v) h is)))
        old h false t = updates (literal_of u, literal_of v) ∙ ap (λ c. cond c (Some (length nodes)) (get are_same gates (literal_of u, literal_of v))) t ∙ has.each n u v (old_kind n (And u v) h is)

        by : (n < length nodes) ⊎ (length nodes ≤ n) → get are_same after (literal_of u, literal_of v) ≡ Some n
        by (inl h) = old h (are_same key (literal_of u, literal_of v)) refl
        by (inr h) =
            let last : n ≡ length nodes = omega (arith, kind_at-within new n (And u v) is, long) in
            let kinds : Some (And u v) ≡ Some (And x y) = sym is ∙ ap (kind_at new) last ∙ here in
            let first : u ≡ x = cc in
            let second : v ≡ y = cc in
            let keys : (literal_of u, literal_of v) ≡ key = ap₂ (λ (i j : AigEdge). (literal_of i, literal_of j)) first second in
            ap (get are_same after) keys ∙ updates key ∙ ap (λ c. cond c (Some (length nodes)) (get are_same gates key)) key_itself ∙ ap Some (sym last)

    only_more : (q : ℕ × ℕ) (n : ℕ) → get are_same after q ≡ Some n → (u : AigEdge) × (v : AigEdge) × (kind_at new n ≡ Some (And u v)) × ((literal_of u, literal_of v) ≡ q)
    only_more q n h = by (are_same key q) refl
      where
        by : (t : Bool) → are_same key q ≡ t → (u : AigEdge) × (v : AigEdge) × (kind_at new n ≡ Some (And u v)) × ((literal_of u, literal_of v) ≡ q)
        by true t =
            let number : length nodes ≡ n = same_Some _ _ (sym (updates q ∙ ap (λ c. cond c (Some (length nodes)) (get are_same gates q)) t) ∙ h) in
            (x, y, ap (kind_at new) (sym number) ∙ here, same_key q t)
        by false t =
            let o = has.only q n (sym (updates q ∙ ap (λ c. cond c (Some (length nodes)) (get are_same gates q)) t) ∙ h) in
            (o.0, o.1, Grows-kept nodes new grows n (kind_at-within nodes n (And o.0 o.1) o.2) ∙ o.2, o.3)

    apart_more : (n : ℕ) (u v : AigEdge) → kind_at new n ≡ Some (And u v) → folded u v ≡ None
    apart_more n u v is = by (cases_lt n (length nodes))
      where
        by : (n < length nodes) ⊎ (length nodes ≤ n) → folded u v ≡ None
        by (inl h) = has.apart n u v (old_kind n (And u v) h is)
        by (inr h) =
            let last : n ≡ length nodes = omega (arith, kind_at-within new n (And u v) is, long) in
            let kinds : Some (And u v) ≡ Some (And x y) = sym is ∙ ap (kind_at new) last ∙ here in
            let first : u ≡ x = cc in
            let second : v ≡ y = cc in
            ap₂ folded first second ∙ free

    has_more : HasGates new after
    has_more = record { sound = grows.sound; each = each_more; only = only_more; apart = apart_more }

  -- the map with a new gate
  pub more : (new : List AigNode) (after : HashMap (ℕ × ℕ) ℕ S) (a b e : AigEdge) → get are_same gates (operand_literals (and_of a b)) ≡ None → FoldsOrAdds nodes new a b e → Grows nodes new → length new ≢ length nodes
      → ((q : ℕ × ℕ) → get are_same after q ≡ cond (are_same (operand_literals (and_of a b)) q) (Some (length nodes)) (get are_same gates q)) → HasGates new after
  more new after a b e none (inl p) grows longer updates = absurd (longer (ap length p.1))
  more new after a b e none (inr p) grows longer updates = by (and_of-cases a b)
    where
      unfolded : folded a b ≡ None
      unfolded = folded-none a b p.0

      of : (x y : AigEdge) → and_of a b ≡ And x y → folded x y ≡ None → HasGates new after
      of x y kind free =
          has_more new after a b x y p.1.gate grows kind free (ap (λ k. get are_same gates (operand_literals k)) (sym kind) ∙ none)
          (λ q. updates q ∙ ap (λ k. cond (are_same (operand_literals k) q) (Some (length nodes)) (get are_same gates q)) kind)

      by : ((and_of a b ≡ And b a) × (literal_of b < literal_of a)) ⊎ ((and_of a b ≡ And a b) × (literal_of a ≤ literal_of b)) → HasGates new after
      by (inl q) = of b a q.0 (none_swapped a b unfolded)
      by (inr q) = of a b q.0 unfolded

-- ---- other nodes

-- the false node alone, and no gates
pub HasGates-false : {S : Type 0} (gates : HashMap (ℕ × ℕ) ℕ S) (d : AigNode)
    → d ≡ record { node_id = 0; typ = False } → AreNodes (d ∷ []) → gates.entries ≡ []
    → HasGates (d ∷ []) gates
HasGates-false gates d is sound empty = record {
  sound = sound;
  each = λ n a b kind. absurd (no_gate n a b kind);
  only = λ q n h. absurd (none_some n (sym (ap (lookup (are_same q)) empty) ∙ h));
  apart = λ n a b kind. absurd (no_gate n a b kind);
}
  where
    no_gate : (n : ℕ) (a b : AigEdge) → kind_at (d ∷ []) n ≡ Some (And a b) → ⊥
    no_gate n a b kind =
        let first : n ≡ 0 = omega (arith, kind_at-within (d ∷ []) n (And a b) kind) in
        let false_is : kind_at (d ∷ []) 0 ≡ Some False = ap (λ (x : AigNode). Some x.typ) is in
        differ (sym false_is ∙ ap (kind_at (d ∷ [])) (sym first) ∙ kind)
      where
        differ : Some False ≡ Some (And a b) → ⊥
        differ h = cc

-- a leaf more
pub HasGates-leaf : {S : Type 0} (nodes : List AigNode) (gates : HashMap (ℕ × ℕ) ℕ S)
    → Grows nodes (with_node nodes Leaf) → HasGates nodes gates → HasGates (with_node nodes Leaf) gates
HasGates-leaf nodes gates grows has = record {
  sound = grows.sound;
  each = λ n a b kind. has.each n a b (old n a b kind);
  only = λ q n h.
      let o = has.only q n h in
      (o.0, o.1, Grows-kept nodes (with_node nodes Leaf) grows n (kind_at-within nodes n (And o.0 o.1) o.2) ∙ o.2, o.3);
  apart = λ n a b kind. has.apart n a b (old n a b kind);
}
  where
    old : (n : ℕ) (a b : AigEdge) → kind_at (with_node nodes Leaf) n ≡ Some (And a b) → kind_at nodes n ≡ Some (And a b)
    old n a b kind = by (cases_lt n (length nodes))
      where
        differ : Some Leaf ≡ Some (And a b) → ⊥
        differ h = cc

        by : (n < length nodes) ⊎ (length nodes ≤ n) → kind_at nodes n ≡ Some (And a b)
        by (inl h) = sym (Grows-kept nodes (with_node nodes Leaf) grows n h) ∙ kind
        by (inr h) =
            let last : n ≡ length nodes = omega (arith, kind_at-within (with_node nodes Leaf) n (And a b) kind, length-append nodes (record { node_id = length nodes; typ = Leaf } ∷ [])) in
            absurd (differ (sym (kind_at-with_node nodes Leaf) ∙ ap (kind_at (with_node nodes Leaf)) (sym last) ∙ kind))
