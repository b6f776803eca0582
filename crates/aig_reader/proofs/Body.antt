-- The sections after the header line.
use Rattle.std.proofs.Common.{◌≡◌, ℕ, ◌++◌, Bool, List, map, Option, Result, Ok, Err, refl, sym, subst, ◌∙◌}
use Rattle.aig_circuit.specs.Properties.{Properties}
use Rattle.aig_format.specs.declared.FileKind.{FileKind}
use Rattle.aig_format.specs.declared.FileKind.TheVariants.{Text, Binary}
use Rattle.aig_format.proofs.Words.{LatchLine, GateLine, HeaderNumbers, ◌>>=◌, Parts, parse_map}
use Rattle.aig_format.specs.ParseTested.{parse_fitting_gates, parse_fitting_inputs, parse_fitting_properties, parse_literal_justice, parse_literals}
use Rattle.aig_reader.specs.declared.error.Section.{Section}
use Rattle.aig_reader.specs.declared.latches.Resets.{Resets}
use Rattle.aig_reader.specs.Rules.{parse_latches_by, parse_lines_by}
use Rattle.aig_lexer.specs.declared.error.LineError.{LineError}
use Rattle.aig_lexer.specs.declared.error.LineError.TheVariants.{Memory, Stream, Syntax, Literal}
use Rattle.aig_reader.specs.declared.error.ReadError.{ReadError}
use Rattle.aig_lexer.specs.Faults.{Tells, line_cause}
use Rattle.aig_lexer.proofs.Faults.{tells-weaker}
use Rattle.aig_reader.specs.Faults.{error_in, gate_error_in, result_by, section_cause}
use Rattle.aig_lexer.specs.Takes.{Feed, Takes, Misses, Made, Makes}
use Rattle.aig_lexer.proofs.Taking.{misses_first, misses_mapped, misses_next, takes_bind, takes_mapped}

-- ---- faults seen otherwise

-- a fault of a line that refuses is one of the file that refuses
abbrev Refuses : (LineError → ReadError) → Type 1
Refuses fault = (e : LineError) (P : Type 0) (failed : Bool) → Tells (line_cause e) P failed → Tells (section_cause (fault e)) P failed

pub in_section : (s : Section) → Refuses (error_in s)
in_section s Memory P failed h = tt
in_section s Stream P failed h = h
in_section s Syntax P failed h = h
in_section s Literal P failed h = h

pub in_gates : (kind : FileKind) → Refuses (gate_error_in kind)
in_gates Text e P failed h = elim e as (λ d. Tells (line_cause d) P failed → Tells (section_cause (gate_error_in Text d)) P failed) [ Memory ↦ λ k. tt | Stream ↦ λ k. k | Syntax ↦ λ k. k | Literal ↦ λ k. k ] h
in_gates Binary e P failed h = elim e as (λ d. Tells (line_cause d) P failed → Tells (section_cause (gate_error_in Binary d)) P failed) [ Memory ↦ λ k. tt | Stream ↦ λ k. k | Syntax ↦ λ k. k | Literal ↦ λ k. k ] h

-- ---- answers

-- what a result is, by what it is seen as
pub ok_in : {X E : Type 0} (fault : E → ReadError) (lines : Result X E)
    (result : Result X ReadError) (x : X) → result ≡ result_by fault lines → result ≡ Ok x
    → lines ≡ Ok x
ok_in {X} {E} fault (Ok y) result x is was = let same : ◌≡◌ {A = Result X ReadError} (Ok y) (Ok x) = sym is ∙ was in cc
ok_in fault (Err e) result x is was = let same = sym is ∙ was in absurd cc

pub err_in : {X E : Type 0} (fault : E → ReadError) (lines : Result X E)
    (result : Result X ReadError) (e : ReadError) → result ≡ result_by fault lines
    → result ≡ Err e → (k : E) × (lines ≡ Err k) × (fault k ≡ e)
err_in fault (Ok y) result e is was = let same = sym is ∙ was in absurd cc
err_in {X} {E} fault (Err k) result e is was = let same : ◌≡◌ {A = Result X ReadError} (Err (fault k)) (Err e) = sym is ∙ was in (k, refl, cc)

module _ {X Y : Type 0} (fault : LineError → ReadError) (refuses : Refuses fault) (IsOf : X → Y → Type 0) (b a : Feed) (read : List ℕ → Option (Y × List ℕ)) where
  pub made_in : (lines : Result X LineError) (result : Result X ReadError) (x : X)
      → result ≡ result_by fault lines → result ≡ Ok x → Makes line_cause IsOf b a lines read
      → Made IsOf b a x read
  made_in lines result x is was h = subst (λ (r : Result X LineError). Makes line_cause IsOf b a r read) (ok_in fault lines result x is was) h

  pub missed_in : (lines : Result X LineError) (result : Result X ReadError) (e : ReadError)
      → result ≡ result_by fault lines → result ≡ Err e → Makes line_cause IsOf b a lines read
      → Tells (section_cause e) (Misses read b) a.failed
  missed_in lines result e is was h =
      let k = err_in fault lines result e is was in
      subst (λ (d : ReadError). Tells (section_cause d) (Misses read b) a.failed) k.2 (refuses k.0 (Misses read b) a.failed (subst (λ (r : Result X LineError). Makes line_cause IsOf b a r read) k.1 h))

  -- an answer whose fault is seen otherwise
  pub makes_in : (lines : Result X LineError) (result : Result X ReadError)
      → result ≡ result_by fault lines → Makes line_cause IsOf b a lines read
      → Makes section_cause IsOf b a result read
  makes_in lines result is h = subst (λ (r : Result X ReadError). Makes section_cause IsOf b a r read) (sym is) (go lines h)
    where
      go : (lines : Result X LineError) → Makes line_cause IsOf b a lines read
          → Makes section_cause IsOf b a (result_by fault lines) read
      go (Ok x) h = h
      go (Err e) h = refuses e (Misses read b) a.failed h

-- ---- the properties: what they take, and where they stop

module _ (ns : HeaderNumbers) where
  abbrev literals : ℕ → List ℕ → Option (List ℕ × List ℕ)
  literals = parse_literals ns.greatest

  abbrev following_justice : List ℕ → List ℕ → List ℕ → List (List ℕ) → List ℕ
      → Option (Properties ℕ × List ℕ)
  following_justice outputs bads constraints justice = parse_map (λ fairness. record { outputs = outputs; bads = bads; constraints = constraints; justice = justice; fairness = fairness }) (literals ns.fairness)

  abbrev following_constraints : List ℕ → List ℕ → List ℕ → List ℕ → Option (Properties ℕ × List ℕ)
  following_constraints outputs bads constraints bytes = parse_literal_justice ns.greatest ns.justice bytes >>= λ j. following_justice outputs bads constraints j.0 j.1

  abbrev following_bads : List ℕ → List ℕ → List ℕ → Option (Properties ℕ × List ℕ)
  following_bads outputs bads bytes = literals ns.constraints bytes >>= λ c. following_constraints outputs bads c.0 c.1

  abbrev following_outputs : List ℕ → List ℕ → Option (Properties ℕ × List ℕ)
  following_outputs outputs bytes = literals ns.bads bytes >>= λ d. following_bads outputs d.0 d.1

  pub misses_outputs : (b : Feed) → Misses (literals ns.outputs) b
      → Misses (parse_fitting_properties ns) b
  misses_outputs b h = misses_first (literals ns.outputs) (λ x. following_outputs x.0 x.1) b h

  module _ (b o : Feed) (outputs : List ℕ) (ho : Takes (literals ns.outputs) b o outputs) where
    after_outputs : Misses (following_outputs outputs) o → Misses (parse_fitting_properties ns) b
    after_outputs h = misses_next (literals ns.outputs) (λ x. following_outputs x.0 x.1) b o outputs ho h

    pub misses_bads : Misses (literals ns.bads) o → Misses (parse_fitting_properties ns) b
    misses_bads h = after_outputs (misses_first (literals ns.bads) (λ d. following_bads outputs d.0 d.1) o h)

    module _ (d : Feed) (bads : List ℕ) (hd : Takes (literals ns.bads) o d bads) where
      after_bads : Misses (following_bads outputs bads) d → Misses (parse_fitting_properties ns) b
      after_bads h = after_outputs (misses_next (literals ns.bads) (λ d. following_bads outputs d.0 d.1) o d bads hd h)

      pub misses_constraints : Misses (literals ns.constraints) d
          → Misses (parse_fitting_properties ns) b
      misses_constraints h = after_bads (misses_first (literals ns.constraints) (λ c. following_constraints outputs bads c.0 c.1) d h)

      module _ (c : Feed) (constraints : List ℕ) (hc : Takes (literals ns.constraints) d c constraints) where
        abbrev next_sets : List (List ℕ) × List ℕ → Option (Properties ℕ × List ℕ)
        next_sets j = following_justice outputs bads constraints j.0 j.1

        after_constraints : Misses (following_constraints outputs bads constraints) c
            → Misses (parse_fitting_properties ns) b
        after_constraints h = after_bads (misses_next (literals ns.constraints) (λ c. following_constraints outputs bads c.0 c.1) d c constraints hc h)

        pub misses_justice : Misses (parse_literal_justice ns.greatest ns.justice) c
            → Misses (parse_fitting_properties ns) b
        misses_justice h = after_constraints (misses_first (parse_literal_justice ns.greatest ns.justice) next_sets c h)

        module _ (j : Feed) (sets : List (List ℕ)) (hj : Takes (parse_literal_justice ns.greatest ns.justice) c j sets) where
          misses_fairness : Misses (literals ns.fairness) j → Misses (parse_fitting_properties ns) b
          misses_fairness h = after_constraints (misses_next (parse_literal_justice ns.greatest ns.justice) next_sets c j sets hj (misses_mapped _ (literals ns.fairness) j h))

          takes_properties : (a : Feed) (fairness : List ℕ) → Takes (literals ns.fairness) j a fairness
              → Takes (parse_fitting_properties ns) b a (record { outputs = outputs; bads = bads; constraints = constraints; justice = sets; fairness = fairness })
          takes_properties a fairness h =
              takes_bind (literals ns.outputs) (λ x. following_outputs x.0 x.1) b o a outputs _ ho
              (takes_bind (literals ns.bads) (λ d. following_bads outputs d.0 d.1) o d a bads _ hd
              (takes_bind (literals ns.constraints) (λ c. following_constraints outputs bads c.0 c.1) d c a constraints _ hc
              (takes_bind (parse_literal_justice ns.greatest ns.justice) next_sets c j a sets _ hj
              (takes_mapped _ (literals ns.fairness) j a fairness h))))

          -- the last of them is read
          pub makes_properties : {X : Type 0} (IsOf : X → Properties ℕ → Type 0) (Are : X → List ℕ → Type 0)
              → ((x : X) (fairness : List ℕ) → Are x fairness → IsOf x (record { outputs = outputs; bads = bads; constraints = constraints; justice = sets; fairness = fairness })) → (a : Feed) (result : Result X ReadError)
              → Makes section_cause Are j a result (literals ns.fairness) → Makes section_cause IsOf b a result (parse_fitting_properties ns)
          makes_properties IsOf Are made a (Ok x) h = (record { outputs = outputs; bads = bads; constraints = constraints; justice = sets; fairness = h.0 }, made x h.0 h.1, takes_properties a h.0 h.2)
          makes_properties IsOf Are made a (Err e) h = tells-weaker (section_cause e) _ _ a.failed misses_fairness h

-- ---- all sections

module _ (resets : Resets) (kind : FileKind) (ns : HeaderNumbers) where
  abbrev gates : List ℕ → List LatchLine → List ℕ → Option (List GateLine × List ℕ)
  gates inputs latches = parse_fitting_gates kind ns (inputs ++ map (λ l. l.literal) latches)

  abbrev following_properties : List ℕ → List LatchLine → Properties ℕ → List ℕ
      → Option (Parts × List ℕ)
  following_properties inputs latches properties = parse_map (λ gs. record { inputs = inputs; latches = latches; properties = properties; gates = gs }) (gates inputs latches)

  abbrev following_latches : List ℕ → List LatchLine → List ℕ → Option (Parts × List ℕ)
  following_latches inputs latches bytes = parse_fitting_properties ns bytes >>= λ x. following_properties inputs latches x.0 x.1

  abbrev following_inputs : List ℕ → List ℕ → Option (Parts × List ℕ)
  following_inputs inputs bytes = parse_latches_by resets kind ns inputs bytes >>= λ l.
      following_latches inputs l.0 l.1

  pub misses_inputs : (b : Feed) → Misses (parse_fitting_inputs kind ns) b
      → Misses (parse_lines_by resets kind ns) b
  misses_inputs b h = misses_first (parse_fitting_inputs kind ns) (λ i. following_inputs i.0 i.1) b h

  module _ (b i : Feed) (inputs : List ℕ) (hi : Takes (parse_fitting_inputs kind ns) b i inputs) where
    after_inputs : Misses (following_inputs inputs) i → Misses (parse_lines_by resets kind ns) b
    after_inputs h = misses_next (parse_fitting_inputs kind ns) (λ i. following_inputs i.0 i.1) b i inputs hi h

    pub misses_latches : Misses (parse_latches_by resets kind ns inputs) i
        → Misses (parse_lines_by resets kind ns) b
    misses_latches h = after_inputs (misses_first (parse_latches_by resets kind ns inputs)
        (λ l. following_latches inputs l.0 l.1) i h)

    module _ (l : Feed) (latches : List LatchLine)
        (hl : Takes (parse_latches_by resets kind ns inputs) i l latches) where
      after_latches : Misses (following_latches inputs latches) l
          → Misses (parse_lines_by resets kind ns) b
      after_latches h = after_inputs (misses_next (parse_latches_by resets kind ns inputs)
          (λ l. following_latches inputs l.0 l.1) i l latches hl h)

      pub misses_properties : Misses (parse_fitting_properties ns) l
          → Misses (parse_lines_by resets kind ns) b
      misses_properties h = after_latches (misses_first (parse_fitting_properties ns) (λ x. following_properties inputs latches x.0 x.1) l h)

      module _ (p : Feed) (x : Properties ℕ) (hp : Takes (parse_fitting_properties ns) l p x) where
        misses_gates : Misses (gates inputs latches) p → Misses (parse_lines_by resets kind ns) b
        misses_gates h = after_latches (misses_next (parse_fitting_properties ns) (λ x. following_properties inputs latches x.0 x.1) l p x hp (misses_mapped _ (gates inputs latches) p h))

        takes_sections : (a : Feed) (gs : List GateLine) → Takes (gates inputs latches) p a gs
            → Takes (parse_lines_by resets kind ns) b a
            (record { inputs = inputs; latches = latches; properties = x; gates = gs })
        takes_sections a gs h =
            takes_bind (parse_fitting_inputs kind ns) (λ i. following_inputs i.0 i.1) b i a inputs _ hi
            (takes_bind (parse_latches_by resets kind ns inputs)
            (λ l. following_latches inputs l.0 l.1) i l a latches _ hl
            (takes_bind (parse_fitting_properties ns) (λ x. following_properties inputs latches x.0 x.1) l p a x _ hp
            (takes_mapped _ (gates inputs latches) p a gs h)))

        -- the last of them is read
        pub makes_sections : {X : Type 0} (IsOf : X → Parts → Type 0) (Are : X → List GateLine → Type 0) (a : Feed)
            → ((y : X) (gs : List GateLine) → Are y gs
            → Takes (parse_lines_by resets kind ns) b a
            (record { inputs = inputs; latches = latches; properties = x; gates = gs })
            → IsOf y (record {
              inputs = inputs;
              latches = latches;
              properties = x;
              gates =
                  gs;
            }))
            → (result : Result X ReadError) → Makes section_cause Are p a result
            (gates inputs latches) → Makes section_cause IsOf b a result
            (parse_lines_by resets kind ns)
        makes_sections IsOf Are a made (Ok y) h = let taken = takes_sections a h.0 h.2 in (record { inputs = inputs; latches = latches; properties = x; gates = h.0 }, made y h.0 h.1 taken, taken)
        makes_sections IsOf Are a made (Err e) h = tells-weaker (section_cause e) _ _ a.failed misses_gates h
