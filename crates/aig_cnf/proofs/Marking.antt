-- Marks of the nodes that need clauses.
use Rattle.aig_base.proofs.Words.{◌≡◌, ℕ, zero, suc, ◌+◌, ◌<◌, ◌≤◌, Bool, Some, List, length, sym, subst, ◌∙◌, arith, inl, inr, All, cases_lt}
use Rattle.aig_circuit.specs.declared.edge.AigEdge.{AigEdge}
use Rattle.aig_circuit.specs.declared.node.AigNode.{AigNode}
use Rattle.aig_circuit.proofs.Words.{IsOrdered, AreNodes, IsInRange, ReferTo, IsMarked, AddsEdgeMarks, root, step}
use Rattle.aig_circuit.specs.declared.node.AigNodeType.TheVariants.{And, False}
use Rattle.aig_cnf.specs.declared.form.Form.{Form}
use Rattle.aig_cnf.specs.Cnf.{HasForm, FormNames, NeedsClauses, edges_of_form}
use Rattle.aig_cnf.specs.Marks.{AddsNeededMarks}
use Rattle.aig_cnf.proofs.Unique.{form_unique}
use Rattle.aig_cnf.proofs.Needing.{has_gate, named_below, needed_within}

-- roots are marked, and from node i on what the forms of marked nodes name; nothing else is
pub record MarkedDownTo (nodes : List AigNode) (optimize : Bool) (roots : List AigEdge) (marks : List Bool) (i : ℕ) : Type 0 where
  pub count : length marks ≡ length nodes
  pub only : (n : ℕ) → IsMarked marks n → NeedsClauses nodes optimize roots n
  pub roots_marked : (n : ℕ) → ReferTo roots n → IsMarked marks n
  pub closed : (n m : ℕ) → i ≤ n → n < length nodes → IsMarked marks n → FormNames nodes optimize n m → IsMarked marks m

pub MarkedDownTo-start : (nodes : List AigNode) (optimize : Bool) (roots : List AigEdge)
    (marks : List Bool) → length marks ≡ length nodes
    → ((n : ℕ) → (IsMarked marks n → ReferTo roots n) × (ReferTo roots n → IsMarked marks n))
    → MarkedDownTo nodes optimize roots marks (length nodes)
MarkedDownTo-start nodes optimize roots marks count exactly = record {
  count = count;
  only = λ n m. root ((exactly n).0 m);
  roots_marked = λ n h. (exactly n).1 h;
  closed = λ n m h within is calls. absurd (omega arith);
}

pub MarkedDownTo-step : (nodes : List AigNode) (optimize : Bool) (roots : List AigEdge) (old new : List Bool) (i : ℕ) → IsOrdered nodes → MarkedDownTo nodes optimize roots old (i + 1) → length new ≡ length old → AddsNeededMarks nodes optimize old new i → MarkedDownTo nodes optimize roots new i
MarkedDownTo-step nodes optimize roots old new i o d len more = record {
  count = len ∙ d.count;
  only = λ n m. elim ((more n).0 m) [ inl was ↦ d.only n was | inr p ↦ step (d.only i p.0) p.1 ];
  roots_marked = λ n h. (more n).1 (inl (d.roots_marked n h));
  closed = λ n m h within marked calls. elim (cases_lt i n) [
    | inl above ↦ elim ((more n).0 marked) [
      | inl was ↦ (more m).1 (inl (d.closed n m (omega arith) within was calls))
      | inr p ↦ absurd (omega (arith, named_below nodes o optimize i n p.1))
    ]
    | inr not_above ↦
        (let same : n ≡ i = omega arith in
        let here = subst (λ k. IsMarked new k) same marked in
        let calls_i = subst (λ k. FormNames nodes optimize k m) same calls in
        elim ((more i).0 here) [
          | inl was ↦ (more m).1 (inr (was, calls_i))
          | inr p ↦ absurd (omega (arith, named_below nodes o optimize i i p.1))
        ])
  ];
}

-- node 0 has no form
pub MarkedDownTo-all : (nodes : List AigNode) (optimize : Bool) (roots : List AigEdge)
    (marks : List Bool) → AreNodes nodes → MarkedDownTo nodes optimize roots marks 1
    → MarkedDownTo nodes optimize roots marks 0
MarkedDownTo-all nodes optimize roots marks sound d = record {
  count = d.count;
  only = d.only;
  roots_marked = d.roots_marked;
  closed = closed;
}
  where
    not_false : (a b : AigEdge) → ¬ (Some (And a b) ≡ Some False)
    not_false a b e = cc

    closed : (n m : ℕ) → 0 ≤ n → n < length nodes → IsMarked marks n
        → FormNames nodes optimize n m → IsMarked marks m
    closed zero m h within marked names =
        let gate = has_gate nodes optimize 0 names.0 names.1 in
        absurd (not_false gate.0 gate.1 (sym gate.2 ∙ sound.false_first))
    closed (suc n) m h within marked names = d.closed (suc n) m (omega arith) within marked names

-- all that needs clauses is marked in the end
pub needed_is_marked : (nodes : List AigNode) (optimize : Bool) (roots : List AigEdge) (marks : List Bool) → IsOrdered nodes → All (IsInRange nodes) roots → MarkedDownTo nodes optimize roots marks 0 → (n : ℕ) → NeedsClauses nodes optimize roots n → IsMarked marks n
needed_is_marked nodes optimize roots marks o all d n (root h) = d.roots_marked n h
needed_is_marked nodes optimize roots marks o all d n (step {n = g} needed calls) =
    d.closed g n (omega arith) (needed_within nodes o optimize roots all g needed) (needed_is_marked nodes optimize roots marks o all d g needed) calls

-- a marked gate has one form, whose nodes are marked
pub AddsNeededMarks-form : (nodes : List AigNode) (optimize : Bool) (old new : List Bool) (n : ℕ) (form : Form) → IsMarked old n → HasForm nodes optimize n form → AddsEdgeMarks old new (edges_of_form form) → AddsNeededMarks nodes optimize old new n
AddsNeededMarks-form nodes optimize old new n form mark has marked m = (
  λ h. elim ((marked m).0 h) [ inl was ↦ inl was | inr named ↦ inr (mark, (form, has, named)) ],
  λ h. elim h [
    | inl was ↦ (marked m).1 (inl was)
    | inr p ↦ (marked m).1 (inr (subst (λ f. ReferTo (edges_of_form f) m) (form_unique nodes optimize n p.1.0 form p.1.1 has) p.1.2))
  ],
)
