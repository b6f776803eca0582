-- Lists of clauses to which those of one node after another are added, from the last on.
use Rattle.aig_base.proofs.Words.{◌≡◌, ◌≢◌, ℕ, zero, suc, ◌+◌, ◌-◌, ◌<◌, ◌≤◌, Bool, true, false, not, Some, List, [], ◌∷◌, ◌++◌, length, get_or, set, replicate, IsTrue, refl, sym, ap, subst, ◌∙◌, arith, inl, inr, All, slice_get, cases_lt, slice_get-get_or, slice_get_within, same_Some, All-nil, All-cons}
use Rattle.std.proofs.lemmas.List.{append-nil, get_or-replicate, get_or-set_other, get_or-set_same, length-replicate, length-set, set-get_or}
use Rattle.aig_base.specs.declared.logic.literal.Lit.{Lit}
use Rattle.aig_base.specs.Clauses.{lit_to, inverse_lit, variable_of, is_positive, AreBelow}
use Rattle.aig_base.proofs.Literals.{variable_of-lit_to}
use Rattle.aig_circuit.specs.declared.edge.AigEdge.{AigEdge}
use Rattle.aig_circuit.specs.declared.node.AigNodeType.TheVariants.{False, And}
use Rattle.aig_circuit.specs.declared.node.AigNode.{AigNode}
use Rattle.aig_circuit.proofs.Words.{lit_of, IsOrdered, kind_at, Circuit, AreNodes, roots_of, IsMarked}
use Rattle.aig_circuit.proofs.Trees.{kind_at-within}
use Rattle.aig_cnf.specs.declared.form.Form.{Form}
use Rattle.aig_cnf.specs.declared.form.Form.TheVariants.{AndOf, XorOf, IteOf}
use Rattle.aig_cnf.specs.Cnf.{HasForm, NeedsClauses, HasClauses, clauses_of, edges_of_form}
use Rattle.aig_cnf.specs.Marks.{AddsNeededMarks, AreClausesOf}
use Rattle.aig_cnf.proofs.Unique.{form_unique}
use Rattle.aig_cnf.proofs.Needing.{has_gate, named_below}

-- the literal's variable is below n
abbrev IsLitBelow : ℕ → Lit → Type 0
IsLitBelow n l = variable_of l < n

lit_to_below : (n m : ℕ) (p : Bool) → m < n → IsLitBelow n (lit_to m p)
lit_to_below n m p h = rw (variable_of-lit_to m p) h

inverse_below : (n : ℕ) (l : Lit) → IsLitBelow n l → IsLitBelow n (inverse_lit l)
inverse_below n l h = lit_to_below n (variable_of l) (not (is_positive l)) h

two : {X : Type 0} (P : X → Type 0) (x y : X) → P x → P y → All P (x ∷ y ∷ [])
two P x y p q = All-cons P x (y ∷ []) p (All-cons P y [] q (All-nil P))

three : {X : Type 0} (P : X → Type 0) (x y z : X) → P x → P y → P z → All P (x ∷ y ∷ z ∷ [])
three P x y z p q r = All-cons P x (y ∷ z ∷ []) p (two P y z q r)

four : {X : Type 0} (P : X → Type 0) (w x y z : X) → P w → P x → P y → P z → All P (w ∷ x ∷ y ∷ z ∷ [])
four P w x y z o p q r = All-cons P w (x ∷ y ∷ z ∷ []) o (three P x y z p q r)

-- a node's clauses speak of it and of nodes below it
pub clauses_below : (m n : ℕ) (form : Form) → n < m → All (λ e. e.node_id < n) (edges_of_form form)
    → AreBelow m (clauses_of n form)
clauses_below m n (AndOf a b) lt below =
    let P = IsLitBelow m in
    let Q = λ (clause : List Lit). All P clause in
    let own : P (lit_to n true) = lit_to_below m n true lt in
    let first : P (lit_of a) = lit_to_below m a.node_id (not a.compl) (omega (arith, lt, below 0 a (omega arith))) in
    let second : P (lit_of b) = lit_to_below m b.node_id (not b.compl) (omega (arith, lt, below 1 a (omega arith))) in
    three Q _ _ _
    (two P _ _ (inverse_below m (lit_to n true) own) first)
    (two P _ _ (inverse_below m (lit_to n true) own) second)
    (three P _ _ _ own (inverse_below m (lit_of a) first) (inverse_below m (lit_of b) second))
clauses_below m n (XorOf x y) lt below =
    let P = IsLitBelow m in
    let Q = λ (clause : List Lit). All P clause in
    let own : P (lit_to n true) = lit_to_below m n true lt in
    let first : P (lit_of x) = lit_to_below m x.node_id (not x.compl) (omega (arith, lt, below 0 x (omega arith))) in
    let second : P (lit_of y) = lit_to_below m y.node_id (not y.compl) (omega (arith, lt, below 1 x (omega arith))) in
    let not_own = inverse_below m (lit_to n true) own in
    let not_first = inverse_below m (lit_of x) first in
    let not_second = inverse_below m (lit_of y) second in
    four Q _ _ _ _ (three P _ _ _ not_own first second) (three P _ _ _ not_own not_first not_second) (three P _ _ _ own not_first second) (three P _ _ _ own first not_second)
clauses_below m n (IteOf c t e) lt below =
    let P = IsLitBelow m in
    let Q = λ (clause : List Lit). All P clause in
    let own : P (lit_to n true) = lit_to_below m n true lt in
    let first : P (lit_of c) = lit_to_below m c.node_id (not c.compl) (omega (arith, lt, below 0 c (omega arith))) in
    let second : P (lit_of t) = lit_to_below m t.node_id (not t.compl) (omega (arith, lt, below 1 c (omega arith))) in
    let third : P (lit_of e) = lit_to_below m e.node_id (not e.compl) (omega (arith, lt, below 2 c (omega arith))) in
    let not_own = inverse_below m (lit_to n true) own in
    let not_first = inverse_below m (lit_of c) first in
    let not_second = inverse_below m (lit_of t) second in
    let not_third = inverse_below m (lit_of e) third in
    four Q _ _ _ _ (three P _ _ _ not_first not_second own) (three P _ _ _ not_first second not_own) (three P _ _ _ first not_third own) (three P _ _ _ first third not_own)

-- clauses that are added to those of a node, in other words
pub added_to : (lists : List (List (List Lit))) (n m : ℕ) (clauses rel : List (List Lit)) → m ≡ n
    → rel ≡ clauses → set lists m (get_or lists m [] ++ rel) ≡ set lists n (get_or lists n [] ++ clauses)
added_to lists n m clauses rel at same = rw (at, same) refl

-- no clauses are added
pub nothing_added : (lists : List (List (List Lit))) (n : ℕ)
    → lists ≡ set lists n (get_or lists n [] ++ [])
nothing_added lists n = sym (ap (set lists n) (append-nil (get_or lists n [])) ∙ set-get_or lists n [])

pub AreClausesOf-form : (nodes : List AigNode) (optimize : Bool) (n : ℕ) (form : Form) → HasForm nodes optimize n form → AreClausesOf nodes optimize true n (clauses_of n form)
AreClausesOf-form nodes optimize n form has = record {
  gate = λ other needed is. ap (clauses_of n) (form_unique nodes optimize n form other has is);
  none = λ no_form. absurd (no_form form (refl, has));
}

-- the lists of the nodes from i on, by their marks; of those below, variable 0 alone has a clause
pub record AddedDownTo (nodes : List AigNode) (optimize : Bool) (marks : List Bool)
    (lists : List (List (List Lit))) (i : ℕ) : Type 0 where
  pub count : length lists ≡ length nodes
  pub zero_list : slice_get lists 0 ≡ Some ((lit_to 0 false ∷ []) ∷ [])
  pub empty : (n : ℕ) → n ≢ 0 → n < i → get_or lists n [] ≡ []
  pub each : (n : ℕ) → n ≢ 0 → i ≤ n → n < length nodes
      → AreClausesOf nodes optimize (get_or marks n false) n (get_or lists n [])

pub AddedDownTo-start : (nodes : List AigNode) (optimize : Bool) (marks : List Bool)
    (lists : List (List (List Lit))) (count : ℕ) → count ≡ length nodes → 0 < count
    → lists ≡ ((lit_to 0 false ∷ []) ∷ []) ∷ replicate (count - 1) []
    → AddedDownTo nodes optimize marks lists count
AddedDownTo-start nodes optimize marks lists count is some made = record {
  count = rw made (omega (arith, length-replicate {A = List (List Lit)} (count - 1) [], is, some));
  zero_list = rw made refl;
  empty = λ n ne below. rw made (none n ne below);
  each = λ n ne above within. absurd (omega arith);
}
  where
    none : (n : ℕ) → n ≢ 0 → n < count
        → get_or (((lit_to 0 false ∷ []) ∷ []) ∷ replicate (count - 1) []) n [] ≡ []
    none zero ne below = absurd (ne refl)
    none (suc n) ne below = get_or-replicate (count - 1) n [] [] (omega arith)

-- another list in a place that isn't the first
first_kept : (lists : List (List (List Lit))) (i : ℕ) (x clauses : List (List Lit)) → i ≢ 0
    → slice_get lists 0 ≡ Some x → slice_get (set lists i clauses) 0 ≡ Some x
first_kept [] i x clauses ne is = cc
first_kept (y ∷ ys) zero x clauses ne is = absurd (ne refl)
first_kept (y ∷ ys) (suc i) x clauses ne is = is

same_truth : (a b : Bool) → (IsTrue a → IsTrue b) → (IsTrue b → IsTrue a) → a ≡ b
same_truth true b f g = sym (f refl)
same_truth false true f g = g refl
same_truth false false f g = refl

-- what node i names is below it, so that from i on marks stay
marks_kept : (nodes : List AigNode) (optimize : Bool) (old new : List Bool) (i : ℕ)
    → IsOrdered nodes → AddsNeededMarks nodes optimize old new i → (n : ℕ) → i ≤ n
    → get_or new n false ≡ get_or old n false
marks_kept nodes optimize old new i ordered more n above =
    same_truth (get_or new n false) (get_or old n false)
    (λ h. elim ((more n).0 h) [
      | inl was ↦ was
      | inr p ↦ absurd (omega (arith, named_below nodes ordered optimize i n p.1))
    ])
    (λ was. (more n).1 (inl was))

pub AddedDownTo-step : (nodes : List AigNode) (optimize : Bool) (old new : List Bool)
    (lists after : List (List (List Lit))) (i : ℕ) (clauses : List (List Lit)) → IsOrdered nodes
    → AddedDownTo nodes optimize old lists (i + 1) → i ≢ 0 → i < length nodes
    → AddsNeededMarks nodes optimize old new i
    → after ≡ set lists i (get_or lists i [] ++ clauses)
    → AreClausesOf nodes optimize (get_or old i false) i clauses
    → AddedDownTo nodes optimize new after i
AddedDownTo-step nodes optimize old new lists after i clauses ordered before ne lt more is here =
    let own = get_or lists i [] ++ clauses in
    let mark : (n : ℕ) → i ≤ n → get_or new n false ≡ get_or old n false =
    marks_kept nodes optimize old new i ordered more in
    record {
      count = rw is (length-set lists i own ∙ before.count);
      zero_list = rw is (first_kept lists i _ own ne before.zero_list);
      empty = λ n some below.
          let other : n ≢ i = λ e. absurd (omega (arith, e)) in
          rw is (get_or-set_other lists i n own [] other ∙ before.empty n some (omega arith));
      each = λ n some above within. elim (cases_lt i n) [
        | inl higher ↦ (
            let other : n ≢ i = λ e. absurd (omega (arith, e)) in
            let kept : get_or after n [] ≡ get_or lists n [] = rw is (get_or-set_other lists i n own [] other) in
            rw (kept, mark n above) (before.each n some (omega arith) within))
        | inr not_higher ↦ (
            let same : n ≡ i = omega arith in
            let within_lists : i < length lists = omega (arith, before.count) in
            let added : get_or after i [] ≡ clauses =
            rw is (get_or-set_same lists i own [] within_lists ∙ ap (λ xs. xs ++ clauses) (before.empty i ne (omega arith))) in
            rw (same, added, mark i (omega arith)) here)
      ];
    }

-- the lists of all nodes, where exactly what needs clauses is marked
pub AddedDownTo-all : (c : Circuit) (optimize : Bool) (needed : List Bool) (lists : List (List (List Lit))) → AreNodes c.nodes → ((n : ℕ) → (IsMarked needed n → NeedsClauses c.nodes optimize (roots_of c) n) × (NeedsClauses c.nodes optimize (roots_of c) n → IsMarked needed n)) → AddedDownTo c.nodes optimize needed lists 1 → HasClauses c optimize lists
AddedDownTo-all c optimize needed lists sound exactly all = record {
  count = all.count;
  zero = all.zero_list;
  needed = λ n form is has.
      let gate = has_gate c.nodes optimize n form has in
      let within : n < length c.nodes = kind_at-within c.nodes n (And gate.0 gate.1) gate.2 in
      let in_lists : n < length lists = omega (arith, all.count) in
      let not_zero : n ≢ 0 = λ e. not_false gate.0 gate.1 (sym (subst (λ m. kind_at c.nodes m ≡ Some (And gate.0 gate.1)) e gate.2) ∙ sound.false_first) in
      slice_get-get_or lists n [] in_lists ∙ ap Some ((all.each n not_zero (omega arith) within).gate form ((exactly n).1 is) has);
  none = λ n clauses ne no_form is.
      let within : n < length lists = slice_get_within lists n clauses is in
      let in_nodes : n < length c.nodes = omega (arith, all.count) in
      let same : get_or lists n [] ≡ clauses = same_Some _ _ (sym (slice_get-get_or lists n [] within) ∙ is) in
      sym same ∙ (all.each n ne (omega arith) in_nodes).none (λ form p. no_form form ((exactly n).0 p.0, p.1));
}
  where
    not_false : (a b : AigEdge) → ¬ (Some (And a b) ≡ Some False)
    not_false a b e = cc
