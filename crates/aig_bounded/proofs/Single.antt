-- A question has one circuit, one output and one list of places.
use Rattle.aig_base.proofs.Words.{◌≡◌, ℕ, zero, suc, ◌+◌, ◌-◌, ◌<◌, ◌≤◌, Bool, true, false, List, [], ◌∷◌, length, map, get_or, refl, sym, ap, ap₂, subst, ◌∙◌, arith, AllPairs, Contains, false≢true}
use Rattle.std.specs.FinMap.{empty, entries, from_entries, get-empty, len-empty, len-entries}
use Rattle.std.specs.Option.{is_some}
use Rattle.std.specs.Ordering.{nat_cmp}
use Rattle.aig_circuit.specs.Renumber.{is_in, position_of, renumbered_names}
use Rattle.aig_renumber.proofs.Same.{retained-all}
use Rattle.std.proofs.lemmas.List.{ext_get_or}
use Rattle.aig_circuit.specs.declared.edge.AigEdge.{AigEdge}
use Rattle.aig_circuit.specs.declared.node.AigNode.{AigNode}
use Rattle.aig_circuit.proofs.Words.{Circuit, Properties, kind_at}
use Rattle.aig_circuit.specs.Reach.{MarksExactly}
use Rattle.aig_cone.specs.Refine.{AreKept, refined}
use Rattle.aig_bounded.specs.declared.place.Place.{Place}
use Rattle.aig_bounded.specs.Cut.{IsCutOf, marked_places, whole_question}
use Rattle.aig_bounded.specs.Exact.{Frame, IsExact, ReadsExactly, Steps, frame_to, image_if, reached_in, states_at, steps_to, with_checks, with_image}
use Rattle.aig_bounded.specs.Question.{IsQuestion}
use Rattle.aig_bounded.specs.Shared.{Netlist}

-- ---- what is read

same_truth : (a b : Bool) → (a ≡ true → b ≡ true) → (b ≡ true → a ≡ true) → a ≡ b
same_truth true true p q = refl
same_truth true false p q = absurd (false≢true (p refl))
same_truth false true p q = absurd (false≢true (q refl))
same_truth false false p q = refl

module _ (c : Circuit) (k : ℕ) (read other : ℕ → ℕ → Bool)
    (same : (d n : ℕ) → d ≤ k → n < length c.nodes → read d n ≡ other d n) where
  frame-read : (t d : ℕ) → d ≤ k → (state : ℕ → _) (net : Netlist) (n : ℕ) → n ≤ length c.nodes
      → frame_to c t (read d) state net n ≡ frame_to c t (other d) state net n
  frame-read t d l state net zero h = refl
  frame-read t d l state net (suc n) h =
      ap₂ (λ (b : Bool) (before : Frame). with_image before.images
      (image_if b (state n) before.images (record { step = t; leaf = n }) (kind_at c.nodes n) before.net))
      (same d n l (omega arith)) (frame-read t d l state net n (omega arith))

  -- what reads the same makes the same steps
  steps-read : (t : ℕ) → steps_to read c k t ≡ steps_to other c k t
  steps-read zero = refl
  steps-read (suc t) =
      let before = steps-read t in
      let old = steps_to read c k t in
      let frame =
      frame-read t (k - t) (omega arith) (states_at c old.images t) old.checks.net (length c.nodes) (omega arith)
      ∙ ap (λ (s : Steps). frame_to c t (other (k - t)) (states_at c s.images t) s.checks.net (length c.nodes)) before in
      ap₂ (λ (s : Steps) (f : Frame). record { checks = with_checks c f.images (record s.checks { net = f.net }); images = f.images }) before frame

reads_same : (c : Circuit) (k : ℕ) (read other : ℕ → ℕ → Bool) → ReadsExactly c k read
    → ReadsExactly c k other → (d n : ℕ) → d ≤ k → n < length c.nodes → read d n ≡ other d n
reads_same c k read other p q d n l h =
    same_truth (read d n) (other d n) (λ t. (q d n l h).1 ((p d n l h).0 t)) (λ t. (p d n l h).1 ((q d n l h).0 t))

-- ---- rising numbers

least : (m : ℕ) (ms : List ℕ) (x : ℕ) → AllPairs (λ m n. m < n) (m ∷ ms) → Contains (m ∷ ms) x → m ≤ x
least m ms x rising (zero, h, is) = omega (arith, is)
least m ms x rising (suc k, h, is) = omega (arith, rising 0 (suc k) x (omega arith) h, is)

later_has : (n : ℕ) (ns : List ℕ) (x : ℕ) → Contains (n ∷ ns) x → n < x → Contains ns x
later_has n ns x (zero, h, is) low = absurd (omega (arith, is, low))
later_has n ns x (suc k, h, is) low = (k, omega arith, is)

more_has : (n : ℕ) (ns : List ℕ) (x : ℕ) → Contains ns x → Contains (n ∷ ns) x
more_has n ns x (k, h, is) = (suc k, omega arith, is)

above : (m : ℕ) (ms : List ℕ) (x : ℕ) → AllPairs (λ m n. m < n) (m ∷ ms) → Contains ms x → m < x
above m ms x rising (k, h, is) = omega (arith, rising 0 (suc k) x (omega arith) (omega arith), is)

rising_tail : (m : ℕ) (ms : List ℕ) → AllPairs (λ m n. m < n) (m ∷ ms) → AllPairs (λ m n. m < n) ms
rising_tail m ms rising i j d h l = rising (suc i) (suc j) d (omega arith) (omega arith)

-- two rising lists of the same numbers are the same
rising_same : (ms ns : List ℕ) → AllPairs (λ m n. m < n) ms → AllPairs (λ m n. m < n) ns
    → ((x : ℕ) → Contains ms x → Contains ns x) → ((x : ℕ) → Contains ns x → Contains ms x) → ms ≡ ns
rising_same [] [] p q forth back = refl
rising_same [] (n ∷ ns) p q forth back = let has = back n (0, omega arith, refl) in absurd (omega (arith, has.1))
rising_same (m ∷ ms) [] p q forth back = let has = forth m (0, omega arith, refl) in absurd (omega (arith, has.1))
rising_same (m ∷ ms) (n ∷ ns) p q forth back =
    let low = least n ns m q (forth m (0, omega arith, refl)) in
    let high = least m ms n p (back n (0, omega arith, refl)) in
    let head : m ≡ n = omega (arith, low, high) in
    ap₂ (λ x xs. x ∷ xs) head (rising_same ms ns (rising_tail m ms p) (rising_tail n ns q)
    (λ x has. later_has n ns x (forth x (more_has m ms x has)) (omega (arith, above m ms x p has, head)))
    (λ x has. later_has m ms x (back x (more_has n ns x has)) (omega (arith, above n ns x q has, head))))

kept_same : (c : Circuit) (kept other : List ℕ) → AreKept c kept → AreKept c other → kept ≡ other
kept_same c kept other p q =
    rising_same kept other p.rising q.rising (λ x has. (q.exactly x).1 ((p.exactly x).0 has))
    (λ x has. (p.exactly x).1 ((q.exactly x).0 has))

marks_same : (nodes : List AigNode) (P : ℕ → Type 0) (marks other : List Bool)
    → MarksExactly nodes P marks → MarksExactly nodes P other → marks ≡ other
marks_same nodes P marks other p q =
    ext_get_or false marks other (p.count ∙ sym q.count) (λ i h.
    let within : i < length nodes = omega (arith, h, p.count) in
    same_truth (get_or marks i false) (get_or other i false)
    (λ t. (q.exactly i within).1 ((p.exactly i within).0 t)) (λ t. (p.exactly i within).1 ((q.exactly i within).0 t)))

-- ---- the question

cut_same : (net : Netlist) (output : AigEdge) (a b : Circuit) (ps qs : List Place)
    → IsCutOf net output a ps → IsCutOf net output b qs → (a ≡ b) × (ps ≡ qs)
cut_same net output a b ps qs p q =
    let whole = whole_question net output in (
      p.nodes.exact ∙ ap (λ kept. refined kept whole) (kept_same whole p.nodes.kept q.nodes.kept p.nodes.are_kept q.nodes.are_kept) ∙ sym q.nodes.exact,
      p.keeps.exact ∙ ap (λ marks. marked_places marks net.inputs net.places) (marks_same net.nodes _ p.keeps.marks q.keeps.marks p.keeps.reached q.keeps.reached) ∙ sym q.keeps.exact,
    )

exact_same : (c : Circuit) (k : ℕ) (a b : Circuit) (ps qs : List Place) → IsExact c k a ps
    → IsExact c k b qs → (a ≡ b) × (ps ≡ qs)
exact_same c k a b ps qs p q =
    let steps = steps-read c k p.read q.read (reads_same c k p.read q.read p.reads q.reads) (k + 1) in
    let made = reached_in (steps_to p.read c k (k + 1)) in
    cut_same made.net made.edge a b ps qs p.cut
    (subst (λ (s : Steps). IsCutOf (reached_in s).net (reached_in s).edge b qs) (sym steps) q.cut)

pub question_same : (c a b : Circuit) (k : ℕ) (o p : AigEdge) (ps qs : List Place)
    → IsQuestion c k a o ps → IsQuestion c k b p qs → (a ≡ b) × (o ≡ p) × (ps ≡ qs)
question_same c a b k o p ps qs x y =
    let same = exact_same c k a b ps qs x.exact y.exact in
    let outputs = sym x.properties ∙ ap (λ (d : Circuit). d.properties) same.0 ∙ y.properties in
    (same.0, ap (λ (e : Properties AigEdge). get_or e.outputs 0 o) outputs, same.1)

-- ---- names

no_entries : (es : List (ℕ × List ℕ)) → length es ≡ 0 → es ≡ []
no_entries [] none = refl
no_entries (e ∷ es) none = absurd (omega (arith, none))

-- it has no names
pub names_none : (c : Circuit) (k : ℕ) (a : Circuit) (ps : List Place) → IsExact c k a ps
    → a.names ≡ empty
names_none c k a ps is =
    let number = position_of is.cut.nodes.kept in
    let test = is_in is.cut.nodes.kept in
    ap (λ (d : Circuit). d.names) is.cut.nodes.exact
    ∙ ap (renumbered_names number) (retained-all empty test (λ n h. absurd (false≢true (sym (ap is_some (get-empty nat_cmp n)) ∙ h))))
    ∙ ap (λ (es : List (ℕ × List ℕ)). from_entries (map (λ entry. (number entry.0, entry.1)) es)) (no_entries (entries empty) (sym (len-entries empty) ∙ len-empty nat_cmp (List ℕ)))
