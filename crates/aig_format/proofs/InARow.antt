-- Readers in a row whose values are the parts of one record.
use Rattle.aig_base.proofs.Words.{◌≡◌, ℕ, Bool, List, [], ◌++◌, length, map, Option, refl, sym, ap, subst, ◌∙◌, append_assoc, length-map}
use Rattle.std.specs.Prelude.{IsTrue}
use Rattle.aig_circuit.specs.Properties.{Properties, AllProperties}
use Rattle.aig_format.proofs.Words.{◌then◌, Each, Lines, LatchLine, GateLine, HeaderNumbers, AllPass}
use Rattle.aig_format.specs.declared.FileKind.{FileKind}
use Rattle.aig_format.specs.Spells.{Latch, Gate, JusticeLines}
use Rattle.aig_format.proofs.Entries.{rec_all, rec_all_sets}
use Rattle.aig_format.specs.Parse.{◌>>=◌, LineTests, Parts, parse_map, parse_entries, parse_input, parse_latch, parse_gate, parse_numbers, parse_tested, parse_sets, parse_justice, parse_properties, parse_sections}
use Rattle.aig_format.proofs.NumberReaders.{bind_some}
use Rattle.aig_format.proofs.EntryFacts.{AllAfter}
use Rattle.aig_format.proofs.Joined.{Any, Reads, Several, With, Reads-entries, Reads-same, Reads-seen}
use Rattle.aig_format.proofs.Sections.{SoMany, Reads-numbers, Reads-tested_lines, AreSets, SetsOf, Reads-sets}
use Rattle.aig_format.proofs.EntryLines.{Own, latch_key, InputPasses, LatchPasses, GatePasses, Reads-input, Reads-latch, Reads-gate}

-- ---- a part of what the whole reader gives

module _ {A C : Type 0} (part : C → A) (K : C → Type 0) where
  -- a part is read, and then the rest of what has this part; K is known of the parts before
  pub Reads-part : (P : A → List ℕ → Type 0) (R : C → List ℕ → Type 0) (p : List ℕ → Option (A × List ℕ)) (q : A → List ℕ → Option (C × List ℕ))
      → Reads P p → ((x : A) → Reads (With (λ c. K c × (part c ≡ x)) R) (q x)) → Reads (With K (λ c. P (part c) then R c)) (λ bytes. p bytes >>= λ x. q x.0 x.1)
  Reads-part P R p q hp hq = record {
    sound = λ bytes x h.
        let b = bind_some (p bytes) (λ x. q x.0 x.1) x h in
        let s = hp.sound bytes b.0 b.1 in
        let t = (hq b.0.0).sound b.0.1 x b.2 in
        let whole : bytes ≡ (s.0 ++ t.0) ++ x.1 = s.1 ∙ ap (λ (xs : List ℕ). s.0 ++ xs) t.1 ∙ sym (append_assoc s.0 t.0 x.1) in
        (s.0 ++ t.0, whole, (t.2.0.0, (s.0, t.0, refl, subst (λ (y : A). P y s.0) (sym t.2.0.1) s.2, t.2.1)));
    complete = λ c front rest h.
        let w = h.1 in
        let same : front ++ rest ≡ w.0 ++ (w.1 ++ rest) = ap (λ (xs : List ℕ). xs ++ rest) w.2 ∙ append_assoc w.0 w.1 rest in
        rw (same, hp.complete (part c) w.0 (w.1 ++ rest) w.3) ((hq (part c)).complete c w.1 rest ((h.0, refl), w.4));
  }

  -- the last part is read, and with those before it makes the whole
  pub Reads-last : (P : A → List ℕ → Type 0) (p : List ℕ → Option (A × List ℕ)) (make : A → C)
      → Reads P p → ((x : A) → K (make x)) → ((x : A) → part (make x) ≡ x) → ((c : C) → K c → make (part c) ≡ c) → Reads (With K (λ c. P (part c))) (parse_map make p)
  Reads-last P p make hp known same back =
      Reads-seen P (With K (λ c. P (part c))) p make hp
      (λ x bytes h. (known x, subst (λ (y : A). P y bytes) (sym (same x)) h)) (λ c bytes h. (part c, h.1, back c h.0))

  -- what follows a part that is known may be told by the whole
  pub Reads-known : (x : A) (R : A → C → List ℕ → Type 0) (p : List ℕ → Option (C × List ℕ)) → ((c : C) → K c → part c ≡ x) → Reads (With K (R x)) p → Reads (With K (λ c. R (part c) c)) p
  Reads-known x R p known hp =
      Reads-same (With K (R x)) (With K (λ c. R (part c) c)) p hp
      (λ c bytes h. (h.0, subst (λ (y : A). R y c bytes) (sym (known c h.0)) h.1)) (λ c bytes h. (h.0, subst (λ (y : A). R y c bytes) (known c h.0) h.1))

-- nothing is known before the first part
pub Reads-first : {C : Type 0} (P : C → List ℕ → Type 0) (p : List ℕ → Option (C × List ℕ)) → Reads (With Any P) p → Reads P p
Reads-first P p hp = Reads-same (With Any P) P p hp (λ x bytes h. h.1) (λ x bytes h. (tt, h))

-- ---- outputs and properties

-- so many sets: their sizes, and then their literals
abbrev pub JusticePart : ℕ → List (List ℕ) → List ℕ → Type 0
JusticePart n sets bytes = (length sets ≡ n) × JusticeLines sets bytes

-- outputs and properties, by the header's numbers
abbrev pub PropertiesPart : HeaderNumbers → Properties ℕ → List ℕ → Type 0
PropertiesPart ns x =
    SoMany ns.outputs x.outputs then (SoMany ns.bads x.bads then (SoMany ns.constraints x.constraints then (JusticePart ns.justice x.justice then SoMany ns.fairness x.fairness)))

module _ (test : ℕ → Bool) where
  abbrev Literals : ℕ → List ℕ → List ℕ → Type 0
  Literals n = With (AllPass test) (SoMany n)

  abbrev Sets : ℕ → List (List ℕ) → List ℕ → Type 0
  Sets n = With (AreSets test) (JusticePart n)

  Reads-justice : (n : ℕ) → Reads (Sets n) (parse_justice test n)
  Reads-justice n =
      let Tested : List (List ℕ) → List ℕ → Type 0 = With (AreSets test) (Each Lines) in
      Reads-same (With Any (λ sets. SoMany n (map length sets) then Tested sets)) (Sets n) (parse_justice test n)
      (Reads-part (λ sets. map length sets) Any (SoMany n) Tested (parse_numbers n) (parse_sets test) (Reads-numbers n) (λ sizes.
      Reads-same (SetsOf test sizes) (With (λ sets. Any sets × (map length sets ≡ sizes)) Tested) (parse_sets test sizes) (Reads-sets test sizes)
      (λ sets bytes h. ((tt, h.1), (h.0, h.2))) (λ sets bytes h. (h.1.0, h.0.1, h.1.1))))
      (λ sets bytes h. let w = h.1 in (w.4.0, (sym (length-map sets length) ∙ w.3.0, (w.0, w.1, w.2, w.3.1, w.4.1))))
      (λ sets bytes h. let w = h.1.1 in (tt, (w.0, w.1, w.2, (length-map sets length ∙ h.1.0, w.3), (h.0, w.4))))

  abbrev Listed : HeaderNumbers → Properties ℕ → List ℕ → Type 0
  Listed ns x =
      Literals ns.outputs x.outputs then (Literals ns.bads x.bads then (Literals ns.constraints x.constraints then (Sets ns.justice x.justice then Literals ns.fairness x.fairness)))

  Reads-listed : (ns : HeaderNumbers) → Reads (Listed ns) (parse_properties test ns)
  Reads-listed ns =
      let literals = Reads-tested_lines test in
      Reads-first (Listed ns) (parse_properties test ns)
      (Reads-part (λ x. x.outputs) Any (Literals ns.outputs) _ (parse_tested test ns.outputs) _ (literals ns.outputs) (λ outputs.
      let Outputs : Properties ℕ → Type 0 = λ x. Any x × (x.outputs ≡ outputs) in
      Reads-part (λ x. x.bads) Outputs (Literals ns.bads) _ (parse_tested test ns.bads) _ (literals ns.bads) (λ bads.
      let Bads : Properties ℕ → Type 0 = λ x. Outputs x × (x.bads ≡ bads) in
      Reads-part (λ x. x.constraints) Bads (Literals ns.constraints) _ (parse_tested test ns.constraints) _ (literals ns.constraints) (λ constraints.
      let Constraints : Properties ℕ → Type 0 = λ x. Bads x × (x.constraints ≡ constraints) in
      Reads-part (λ x. x.justice) Constraints (Sets ns.justice) _ (parse_justice test ns.justice) _ (Reads-justice ns.justice) (λ justice.
      let Justice : Properties ℕ → Type 0 = λ x. Constraints x × (x.justice ≡ justice) in
      Reads-last (λ x. x.fairness) Justice (Literals ns.fairness) (parse_tested test ns.fairness) (λ fairness. record { outputs = outputs; bads = bads; constraints = constraints; justice = justice; fairness = fairness })
      (literals ns.fairness) (λ x. ((((tt, refl), refl), refl), refl)) (λ x. refl) (λ x k. rw (k.0.0.0.1, k.0.0.1, k.0.1, k.1) refl))))))

  pub Reads-properties : (ns : HeaderNumbers) → Reads (With (AllProperties (λ e. IsTrue (test e))) (PropertiesPart ns)) (parse_properties test ns)
  Reads-properties ns =
      let all = rec_all (λ e. IsTrue (test e)) in
      let sets = rec_all_sets (λ e. IsTrue (test e)) in
      Reads-same (Listed ns) (With (AllProperties (λ e. IsTrue (test e))) (PropertiesPart ns)) (parse_properties test ns) (Reads-listed ns)
      (λ x bytes o. let b = o.4 in let c = b.4 in let j = c.4 in (
        record { outputs = (all x.outputs).0 o.3.0; bads = (all x.bads).0 b.3.0; constraints = (all x.constraints).0 c.3.0; justice = (sets x.justice).0 j.3.0; fairness = (all x.fairness).0 j.4.0 },
        (o.0, o.1, o.2, o.3.1, (b.0, b.1, b.2, b.3.1, (c.0, c.1, c.2, c.3.1, (j.0, j.1, j.2, j.3.1, j.4.1)))),
      ))
      (λ x bytes h. let pass = h.0 in let o = h.1 in let b = o.4 in let c = b.4 in let j = c.4 in (
        o.0,
        o.1,
        o.2,
        ((all x.outputs).1 pass.outputs, o.3),
        (
          b.0,
          b.1,
          b.2,
          ((all x.bads).1 pass.bads, b.3),
          (c.0, c.1, c.2, ((all x.constraints).1 pass.constraints, c.3), (j.0, j.1, j.2, ((sets x.justice).1 pass.justice, j.3), ((all x.fairness).1 pass.fairness, j.4))),
        ),
      ))

-- ---- all sections

abbrev pub SectionsPart : FileKind → HeaderNumbers → Parts → List ℕ → Type 0
SectionsPart kind ns x =
    Several (Own kind 10) ns.inputs x.inputs then (Several (Latch kind) ns.latches x.latches then (PropertiesPart ns x.properties then Several (Gate kind) ns.gates x.gates))

-- what the lines of sections pass
pub record LinesPass (tests : LineTests) (kind : FileKind) (x : Parts) : Type 0 where
  pub inputs : AllAfter (InputPasses tests kind) [] x.inputs
  pub latches : AllAfter (LatchPasses tests kind x.inputs) [] x.latches
  pub properties : AllProperties (λ e. IsTrue (tests.used e)) x.properties
  pub gates : AllAfter (GatePasses tests kind (x.inputs ++ map latch_key x.latches)) [] x.gates

module _ (tests : LineTests) (kind : FileKind) (ns : HeaderNumbers) where
  abbrev Inputs : List ℕ → List ℕ → Type 0
  Inputs = With (AllAfter (InputPasses tests kind) []) (Several (Own kind 10) ns.inputs)

  abbrev Latches : List ℕ → List LatchLine → List ℕ → Type 0
  Latches inputs = With (AllAfter (LatchPasses tests kind inputs) []) (Several (Latch kind) ns.latches)

  abbrev Rows : Properties ℕ → List ℕ → Type 0
  Rows = With (AllProperties (λ e. IsTrue (tests.used e))) (PropertiesPart ns)

  abbrev Gates : List ℕ → List LatchLine → List GateLine → List ℕ → Type 0
  Gates inputs latches = With (AllAfter (GatePasses tests kind (inputs ++ map latch_key latches)) []) (Several (Gate kind) ns.gates)

  abbrev gates_by : List ℕ → List LatchLine → List ℕ → Option (List GateLine × List ℕ)
  gates_by inputs latches = parse_entries (parse_gate tests kind (inputs ++ map latch_key latches)) [] ns.gates

  abbrev All : Parts → List ℕ → Type 0
  All x = Inputs x.inputs then (Latches x.inputs x.latches then (Rows x.properties then Gates x.inputs x.latches x.gates))

  Reads-all : Reads All (parse_sections tests kind ns)
  Reads-all =
      let following_latches : List ℕ → List LatchLine → Parts → List ℕ → Type 0 = λ inputs latches x. Rows x.properties then Gates inputs latches x.gates in
      let following_inputs : List ℕ → Parts → List ℕ → Type 0 = λ inputs x. Latches inputs x.latches then following_latches inputs x.latches x in
      Reads-first All (parse_sections tests kind ns)
      (Reads-part (λ x. x.inputs) Any Inputs (λ x. following_inputs x.inputs x) (parse_entries (parse_input tests kind) [] ns.inputs) _ (Reads-entries (InputPasses tests kind) (Own kind 10) (parse_input tests kind) (Reads-input tests kind) ns.inputs []) (λ inputs.
      let Begun : Parts → Type 0 = λ x. Any x × (x.inputs ≡ inputs) in
      Reads-known (λ x. x.inputs) Begun inputs following_inputs _ (λ x k. k.1)
      (Reads-part (λ x. x.latches) Begun (Latches inputs) (λ x. following_latches inputs x.latches x) (parse_entries (parse_latch tests kind inputs) [] ns.latches) _
      (Reads-entries (LatchPasses tests kind inputs) (Latch kind) (parse_latch tests kind inputs) (Reads-latch tests kind inputs) ns.latches []) (λ latches.
      let Leaves : Parts → Type 0 = λ x. Begun x × (x.latches ≡ latches) in
      let leaves = inputs ++ map latch_key latches in
      Reads-known (λ x. x.latches) Leaves latches (following_latches inputs) _ (λ x k. k.1)
      (Reads-part (λ x. x.properties) Leaves Rows (λ x. Gates inputs latches x.gates) (parse_properties tests.used ns) _ (Reads-properties tests.used ns) (λ p.
      let Behind : Parts → Type 0 = λ x. Leaves x × (x.properties ≡ p) in
      Reads-last (λ x. x.gates) Behind (Gates inputs latches) (gates_by inputs latches) (λ gates. record { inputs = inputs; latches = latches; properties = p; gates = gates })
      (Reads-entries (GatePasses tests kind leaves) (Gate kind) (parse_gate tests kind leaves) (Reads-gate tests kind leaves) ns.gates [])
      (λ x. (((tt, refl), refl), refl)) (λ x. refl) (λ x k. rw (k.0.0.1, k.0.1, k.1) refl)))))))

  pub Reads-sections : Reads (With (LinesPass tests kind) (SectionsPart kind ns)) (parse_sections tests kind ns)
  Reads-sections =
      Reads-same All (With (LinesPass tests kind) (SectionsPart kind ns)) (parse_sections tests kind ns) Reads-all
      (λ x bytes i. let l = i.4 in let p = l.4 in (
        record { inputs = i.3.0; latches = l.3.0; properties = p.3.0; gates = p.4.0 },
        (i.0, i.1, i.2, i.3.1, (l.0, l.1, l.2, l.3.1, (p.0, p.1, p.2, p.3.1, p.4.1))),
      ))
      (λ x bytes h. let pass = h.0 in let i = h.1 in let l = i.4 in let p = l.4 in
      (i.0, i.1, i.2, (pass.inputs, i.3), (l.0, l.1, l.2, (pass.latches, l.3), (p.0, p.1, p.2, (pass.properties, p.3), (pass.gates, p.4)))))
