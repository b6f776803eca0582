-- Marks of edges that are met.
use Rattle.aig_base.proofs.Words.{◌≡◌, ◌≢◌, ◌⊎◌, ◌↔◌, ℕ, ◌+◌, ◌-◌, ◌<◌, ◌≤◌, Bool, false, true, IsTrue, List, [], ◌++◌, drop, get_or, length, length-append, map, set, refl, sym, ap, subst, ◌∙◌, arith, inl, inr, slice_index_or, take, take-append-le, take_all, cases_lt, All, Some, get_or-map, get_or-append-add, get_or_append_left, get_or_default, get_or-set_other, get_or-set_same}
use Rattle.std.specs.Prelude.{Vec}
use Rattle.std.specs.declared.alloc.Global.{Global}
use Rattle.aig_base.specs.declared.logic.three.Lbool.{Lbool}
use Rattle.aig_base.specs.declared.logic.three.Lbool.TheVariants.{TRUE}
use Rattle.aig_circuit.specs.declared.edge.AigEdge.{AigEdge}
use Rattle.aig_circuit.specs.Circuit.{Circuit}
use Rattle.aig_circuit.specs.Edge.{edge_to}
use Rattle.aig_ternary.specs.Ternary.{Simulation, value_in}
use Rattle.aig_witness.specs.Shown.{simulated}
use Rattle.aig_witness.specs.Witness.{Witness}
use Rattle.aig_witness.specs.WrongLassos.{IsFirstUnmet}
use Rattle.aig_witness.specs.Lassos.{IsMetFrom}
use Rattle.aig_witness.specs.Loops.{AreMarks, IsFirstFalse}

-- the edge is known to be true at a step from l on, before step n
abbrev pub IsMetTo : Circuit → Witness → ℕ → ℕ → AigEdge → Type 0
IsMetTo c w l n e = (t : ℕ) × (l ≤ t) × (t < n) × (value_in (simulated c w t) e ≡ TRUE)

-- the marks say so
abbrev pub AreMarksTo : Circuit → Witness → ℕ → ℕ → List AigEdge → List Bool → Type 0
AreMarksTo c w l n edges marks =
    (i : ℕ) (d : AigEdge) → i < length edges
    → IsTrue (slice_index_or marks i false) ↔ IsMetTo c w l n (slice_index_or edges i d)

-- none is met before a step is taken
pub none_met : (c : Circuit) (w : Witness) (l n : ℕ) (edges : List AigEdge) (marks : List Bool)
    → n ≤ l → ((i : ℕ) → slice_index_or marks i false ≡ false) → AreMarksTo c w l n edges marks
none_met c w l n edges marks none marked i d h = (
  λ told. absurd (let unmarked : slice_index_or marks i false ≡ false = marked i in
      let is : slice_index_or marks i false ≡ true = told in cc),
  λ met. absurd (let a : l ≤ met.0 = met.1 in let b : met.0 < n = met.2 in omega arith),
)

-- one step more
pub met_more : (c : Circuit) (w : Witness) (l n : ℕ) (edges : List AigEdge) (old new : List Bool)
    → l ≤ n → AreMarksTo c w l n edges old
    → ((i : ℕ) (d : AigEdge) → i < length edges → IsTrue (slice_index_or new i false)
    ↔ (IsTrue (slice_index_or old i false)
    ⊎ (value_in (simulated c w n) (slice_index_or edges i d) ≡ TRUE)))
    → AreMarksTo c w l (n + 1) edges new
met_more c w l n edges old new low were now i d h = (
  λ told. elim ((now i d h).0 told) [
    | inl before ↦ let m = (were i d h).0 before in (
      m.0,
      m.1,
      let b : m.0 < n = m.2 in omega arith,
      m.3,
    )
    | inr here ↦ (n, low, omega arith, here)
  ],
  λ met. (now i d h).1 (by_step met (cases_lt met.0 n)),
)
  where
    by_step : (m : IsMetTo c w l (n + 1) (slice_index_or edges i d)) → (m.0 < n) ⊎ (n ≤ m.0)
        → IsTrue (slice_index_or old i false)
        ⊎ (value_in (simulated c w n) (slice_index_or edges i d) ≡ TRUE)
    by_step m (inl low) = inl ((were i d h).1 (m.0, m.1, low, m.3))
    by_step m (inr high) =
        let there : m.0 < n + 1 = m.2 in
        let at : m.0 ≡ n = omega arith in
        inr (subst (λ t. value_in (simulated c w t) (slice_index_or edges i d) ≡ TRUE) at m.3)

-- the same, by a simulation that has come to that step
pub met_step : (c : Circuit) (w : Witness) (l n : ℕ) (edges : List AigEdge)
    (old before new : List Bool) (s : Simulation) → l ≤ n → AreMarksTo c w l n edges old
    → before ≡ old → s ≡ simulated c w n
    → ((i : ℕ) (d : AigEdge) → i < length edges → IsTrue (slice_index_or new i false)
    ↔ (IsTrue (slice_index_or before i false)
    ⊎ (value_in s (slice_index_or edges i d) ≡ TRUE)))
    → AreMarksTo c w l (n + 1) edges new
met_step c w l n edges old before new s low were same is now =
    met_more c w l n edges old new low were
    (subst (λ r. (i : ℕ) (d : AigEdge) → i < length edges → IsTrue (slice_index_or new i false)
    ↔ (IsTrue (slice_index_or old i false) ⊎ (value_in r (slice_index_or edges i d) ≡ TRUE))) is
    (subst (λ marks. (i : ℕ) (d : AigEdge) → i < length edges
    → IsTrue (slice_index_or new i false) ↔ (IsTrue (slice_index_or marks i false)
    ⊎ (value_in s (slice_index_or edges i d) ≡ TRUE))) same now))

-- after all steps
pub marks_all : (c : Circuit) (w : Witness) (l n : ℕ) (edges : List AigEdge) (marks : List Bool)
    → n ≡ length w.steps → length marks ≡ length edges → AreMarksTo c w l n edges marks
    → AreMarks c w l edges marks
marks_all c w l n edges marks end long were = record {
  long = long;
  each = subst (λ n. AreMarksTo c w l n edges marks) end were;
}

-- marks that are written over marks
pub written : (new old : List Bool) (n : ℕ) → length new ≡ n → length old ≡ n
    → take n (new ++ drop (length new) old) ≡ new
written new old n h k =
    let le : n ≤ length new = omega arith in
    rw take-append-le (take_all n new (omega arith))

-- ---- marks of one step

module _ (s : Simulation) (edges : List AigEdge) (old : List Bool) where
  -- the mark is what it was, or the edge is known to be true now
  abbrev pub IsMarked : Bool → ℕ → AigEdge → Type 0
  IsMarked mark k d = IsTrue mark
      ↔ (IsTrue (get_or old k false) ⊎ (value_in s (get_or edges k d) ≡ TRUE))

  module _ (marks : List Bool) (n : ℕ) (b : Bool) (in_edges : n < length edges)
      (in_marks : n < length marks) where
    pub mark_rest : ((k : ℕ) → n ≤ k → get_or marks k false ≡ get_or old k false)
        → (k : ℕ) → n + 1 ≤ k → get_or (set marks n b) k false ≡ get_or old k false
    mark_rest rest k h =
        let other : k ≢ n = λ is. omega arith in
        get_or-set_other marks n k b false other ∙ rest k (omega arith)

    pub mark_here : (v : Lbool) → get_or marks n false ≡ get_or old n false
        → v ≡ value_in s (get_or edges n (edge_to 0 false))
        → IsTrue b ↔ (IsTrue (get_or marks n false) ⊎ (v ≡ TRUE)) → (d : AigEdge) → IsMarked b n d
    mark_here v same is fact d =
        let at = get_or_default edges n (edge_to 0 false) d in_edges in
        subst (λ m. IsTrue b ↔ (IsTrue m ⊎ (value_in s (get_or edges n d) ≡ TRUE))) same
        (subst (λ u. IsTrue b ↔ (IsTrue (get_or marks n false) ⊎ (u ≡ TRUE)))
        (is ∙ ap (value_in s) at) fact)

    pub mark_done : ((k : ℕ) (d : AigEdge) → k < n → IsMarked (get_or marks k false) k d)
        → ((d : AigEdge) → IsMarked b n d)
        → (k : ℕ) (d : AigEdge) → k < n + 1 → IsMarked (get_or (set marks n b) k false) k d
    mark_done done here k d h = by (cases_lt k n)
      where
        by : (k < n) ⊎ (n ≤ k) → IsMarked (get_or (set marks n b) k false) k d
        by (inl low) =
            let other : k ≢ n = λ is. omega arith in
            subst (λ m. IsMarked m k d) (sym (get_or-set_other marks n k b false other))
            (done k d low)
        by (inr high) =
            let at : k ≡ n = omega arith in
            subst (λ j. IsMarked (get_or (set marks n b) j false) j d) (sym at)
            (subst (λ m. IsMarked m n d) (sym (get_or-set_same marks n b false in_marks)) (here d))

-- ---- what the marks of two lists tell

-- the edges of a set of the program's lists
pub named_set : (sets : List (Vec AigEdge Global)) (justice : List (List AigEdge)) (n : ℕ)
    (own : Vec AigEdge Global) → map (λ (set : Vec AigEdge Global). set.items) sets ≡ justice
    → n < length sets → own ≡ get_or sets n own → get_or justice n [] ≡ own.items
named_set sets justice n own same h is =
    ap (λ lists. get_or lists n []) (sym same)
    ∙ get_or-map (λ (set : Vec AigEdge Global). set.items) sets n own [] h
    ∙ ap (λ (set : Vec AigEdge Global). set.items) (sym is)

module _ (c : Circuit) (w : Witness) (l : ℕ) (own more : List AigEdge) (marks : List Bool)
    (are : AreMarks c w l (own ++ more) marks) where
  abbrev none : AigEdge
  none = edge_to 0 false

  marks_long : length marks ≡ length own + length more
  marks_long = are.long ∙ length-append own more

  pub all_met : ((i : ℕ) → i < length marks → IsTrue (slice_index_or marks i false))
      → All (IsMetFrom c w l) (own ++ more)
  all_met all i d h = (are.each i d h).0 (all i (omega (arith, are.long)))

  own_is : (i : ℕ) → i < length own → IsTrue (slice_index_or marks i false)
      ↔ IsMetFrom c w l (get_or own i none)
  own_is i h = subst (λ e. IsTrue (slice_index_or marks i false) ↔ IsMetFrom c w l e)
      (get_or_append_left own more none i h)
      (are.each i none (omega (arith, length-append own more)))

  more_is : (i : ℕ) → i < length more → IsTrue (slice_index_or marks (length own + i) false)
      ↔ IsMetFrom c w l (get_or more i none)
  more_is i h = subst (λ e. IsTrue (slice_index_or marks (length own + i) false)
      ↔ IsMetFrom c w l e) (get_or-append-add own more i none)
      (are.each (length own + i) none (omega (arith, length-append own more)))

  module _ (n : ℕ) (first : IsFirstFalse marks (Some n)) where
    not_marked : (m : ℕ) → m ≡ n → ¬ IsTrue (slice_index_or marks m false)
    not_marked m at marked =
        let unmarked : slice_index_or marks m false ≡ false =
        subst (λ k. slice_index_or marks k false ≡ false) (sym at) first.1 in
        let is : slice_index_or marks m false ≡ true = marked in
        cc

    pub unmet_own : n < length own → IsFirstUnmet c w l own n
    unmet_own h = record {
      there = h;
      unmet = λ met. not_marked n refl ((own_is n h).1 met);
      before = λ i low. (own_is i (omega arith)).0 (first.2 i low);
    }

    pub own_met : length own ≤ n → All (IsMetFrom c w l) own
    own_met h i d low = subst (IsMetFrom c w l) (get_or_default own i none d low)
        ((own_is i low).0 (first.2 i (omega arith)))

    pub unmet_more : length own ≤ n → IsFirstUnmet c w l more (n - length own)
    unmet_more h =
        let within : n < length marks = first.0 in
        let there : n - length own < length more = omega (arith, marks_long) in
        record {
          there = there;
          unmet = λ met. not_marked (length own + (n - length own)) (omega arith)
              ((more_is (n - length own) there).1 met);
          before = λ i low. (more_is i (omega arith)).0 (first.2 (length own + i) (omega arith));
        }
