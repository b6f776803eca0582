-- The tests of lines beside those before them, as tests of a whole file.
use Rattle.aig_base.proofs.Words.{◌≡◌, ◌↔◌, ℕ, ◌+◌, ◌*◌, Bool, not, List, [], ◌∷◌, ◌++◌, length, map, refl, sym, ap, ◌∙◌, length-append, arith, AllByRecursion, IsDistinct, list_any, and_parts, and_from}
use Rattle.std.specs.Prelude.{nat_eq, ◌==◌, IsTrue}
use Rattle.aig_circuit.specs.Properties.{AllProperties}
use Rattle.aig_format.specs.declared.FileKind.{FileKind}
use Rattle.aig_format.specs.declared.FileKind.TheVariants.{Text, Binary}
use Rattle.aig_format.proofs.Words.{LatchLine, GateLine, NameLine, File, header_of, defined, Placed, places, LineTests, Parts}
use Rattle.aig_format.specs.Fits.{AllPass, IsDefinable, is_definable, is_name, same_place}
use Rattle.aig_format.specs.ParseTested.{defines, tests_name}
use Rattle.aig_format.proofs.EntryFacts.{AllAfter, Passes, IsNew, Decides-new, distinct_after, after_and, after_both, after_parts, after_weaker, after_each, after_append, section_keys}
use Rattle.aig_format.proofs.EntryLines.{IsPlaced, LatchPasses, GatePasses, latch_key, gate_key}
use Rattle.aig_format.proofs.InARow.{LinesPass}

-- a fact on each literal of a file beside those before it, section by section
pub defined_by_section : (F : List ℕ → ℕ → Type 0) (f : File)
    → AllAfter F [] (defined f) ↔ (AllAfter F [] f.inputs
    × AllAfter (λ b l. F (f.inputs ++ map latch_key b) l.literal) [] f.latches
    × AllAfter (λ b g. F ((f.inputs ++ map latch_key f.latches) ++ map gate_key b) g.lhs) [] f.gates)
defined_by_section F f =
    let latches = map latch_key f.latches in
    let gates = map gate_key f.gates in
    let whole = after_append F (f.inputs ++ latches) gates [] in
    let leaves = after_append F f.inputs latches [] in
    let by_latch = section_keys F latch_key f.inputs f.latches in
    let by_gate = section_keys F gate_key (f.inputs ++ latches) f.gates in (
      λ all. let w = whole.0 all in let s = leaves.0 w.0 in (s.0, by_latch.1 s.1, by_gate.1 w.1),
      λ h. whole.1 (leaves.1 (h.0, by_latch.0 h.1), by_gate.0 h.2),
    )

-- ---- places

-- literals after others in their places, and in a row
in_row : (xs before : List ℕ) → AllAfter (IsPlaced Binary) before xs ↔ (xs ≡ places (length xs) (length before + 1))
in_row [] before = (λ all. refl, λ h. tt)
in_row (x ∷ xs) before =
    let rest = in_row xs (before ++ x ∷ []) in
    let next : length (before ++ x ∷ []) + 1 ≡ length before + 1 + 1 = omega (arith, length-append before (x ∷ [])) in (
      λ all. let first : x ≡ 2 * (length before + 1) = all.0 in let others = rest.0 all.1 ∙ ap (places (length xs)) next in cc,
      λ h. (
        let first : x ≡ 2 * (length before + 1) = cc in first,
        rest.1 (let others : xs ≡ places (length xs) (length before + 1 + 1) = cc in others ∙ ap (places (length xs)) (sym next)),
      ),
    )

any_place : (xs before : List ℕ) → AllAfter (IsPlaced Text) before xs
any_place [] before = tt
any_place (x ∷ xs) before = (tt, any_place xs (before ++ x ∷ []))

pub placed_in : (kind : FileKind) (xs : List ℕ) → AllAfter (IsPlaced kind) [] xs ↔ Placed kind xs
placed_in Text xs = (λ all. tt, λ h. any_place xs [])
placed_in Binary xs = in_row xs []

-- ---- the lines of a file

-- what the lines of a file pass
pub record FilePasses (tests : LineTests) (f : File) : Type 0 where
  pub placed : Placed f.kind (defined f)
  pub defined : AllAfter (Passes tests.defined) [] (defined f)
  pub latches : AllPass tests.latch f.latches
  pub properties : AllProperties (λ e. IsTrue (tests.used e)) f.properties
  pub gates : AllPass tests.gate f.gates

abbrev pub parts : File → Parts
parts f = record { inputs = f.inputs; latches = f.latches; properties = f.properties; gates = f.gates }

module _ (tests : LineTests) where
  -- a literal that is defined, after others
  abbrev Defined : FileKind → List ℕ → ℕ → Type 0
  Defined kind before e = IsPlaced kind before e × IsTrue (tests.defined before e)

  latches_split : (kind : FileKind) (inputs : List ℕ) (latches : List LatchLine)
      → AllAfter (LatchPasses tests kind inputs) [] latches ↔ (AllAfter (λ b l. Defined kind (inputs ++ map latch_key b) l.literal) [] latches × AllPass tests.latch latches)
  latches_split kind inputs latches =
      let Own = λ (b : List LatchLine) (l : LatchLine). Defined kind (inputs ++ map latch_key b) l.literal in
      let Latch = λ (b : List LatchLine) (l : LatchLine). IsTrue (tests.latch l) in
      let is_defined = λ (b : List LatchLine) (l : LatchLine). tests.defined (inputs ++ map latch_key b) l.literal in
      let each = after_each (λ l. IsTrue (tests.latch l)) latches [] in (
        λ all. let p = after_parts Own Latch latches [] (after_weaker (LatchPasses tests kind inputs) (λ b l. Own b l × Latch b l) (λ b l h. let t = and_parts (is_defined b l) (tests.latch l) h.1 in ((h.0, t.0), t.1)) latches [] all) in (p.0, each.0 p.1),
        λ h. after_weaker (λ b l. Own b l × Latch b l) (LatchPasses tests kind inputs) (λ b l k. (k.0.0, and_from (is_defined b l) (tests.latch l) k.0.1 k.1)) latches [] (after_both Own Latch latches [] h.0 (each.1 h.1)),
      )

  gates_split : (kind : FileKind) (leaves : List ℕ) (gates : List GateLine)
      → AllAfter (GatePasses tests kind leaves) [] gates ↔ (AllAfter (λ b g. Defined kind (leaves ++ map gate_key b) g.lhs) [] gates × AllPass tests.gate gates)
  gates_split kind leaves gates =
      let Own = λ (b : List GateLine) (g : GateLine). Defined kind (leaves ++ map gate_key b) g.lhs in
      let Gate = λ (b : List GateLine) (g : GateLine). IsTrue (tests.gate g) in
      let is_defined = λ (b : List GateLine) (g : GateLine). tests.defined (leaves ++ map gate_key b) g.lhs in
      let each = after_each (λ g. IsTrue (tests.gate g)) gates [] in (
        λ all. let p = after_parts Own Gate gates [] (after_weaker (GatePasses tests kind leaves) (λ b g. Own b g × Gate b g) (λ b g h. let t = and_parts (is_defined b g) (tests.gate g) h.1 in ((h.0, t.0), t.1)) gates [] all) in (p.0, each.0 p.1),
        λ h. after_weaker (λ b g. Own b g × Gate b g) (GatePasses tests kind leaves) (λ b g k. (k.0.0, and_from (is_defined b g) (tests.gate g) k.0.1 k.1)) gates [] (after_both Own Gate gates [] h.0 (each.1 h.1)),
      )

  pub file_passes : (f : File) → LinesPass tests f.kind (parts f) ↔ FilePasses tests f
  file_passes f =
      let latches = latches_split f.kind f.inputs f.latches in
      let gates = gates_split f.kind (f.inputs ++ map latch_key f.latches) f.gates in
      let sections = defined_by_section (Defined f.kind) f in
      let placed = placed_in f.kind (defined f) in (
        λ lines.
            let l = latches.0 lines.latches in
            let g = gates.0 lines.gates in
            let all = after_parts (IsPlaced f.kind) (Passes tests.defined) (defined f) [] (sections.1 (lines.inputs, l.0, g.0)) in
            record { placed = placed.0 all.0; defined = all.1; latches = l.1; properties = lines.properties; gates = g.1 },
        λ h.
            let all = sections.0 (after_both (IsPlaced f.kind) (Passes tests.defined) (defined f) [] (placed.1 h.placed) h.defined) in
            record { inputs = all.0; latches = latches.1 (all.1, h.latches); properties = h.properties; gates = gates.1 (all.2, h.gates) },
      )

-- ---- what the running reader's tests say

-- literals that are each defined anew are all definable, and distinct
pub defined_anew : (greatest : ℕ) (literals : List ℕ) → AllAfter (Passes (defines greatest)) [] literals ↔ (AllByRecursion (IsDefinable greatest) literals × IsDistinct nat_eq literals)
defined_anew greatest literals =
    let New : List ℕ → ℕ → Bool = λ before e. not (list_any (λ d. d == e) before) in
    let parts = after_and (λ _. is_definable greatest) New literals [] in
    let each = after_each (IsDefinable greatest) literals [] in
    let distinct = distinct_after nat_eq literals in (
      λ all. let p = parts.0 all in (each.0 p.0, distinct.0 (after_weaker (Passes New) (IsNew nat_eq) (λ b x h. (Decides-new nat_eq x b).0 h) literals [] p.1)),
      λ h. parts.1 (each.1 h.0, after_weaker (IsNew nat_eq) (Passes New) (λ b x k. (Decides-new nat_eq x b).1 k) literals [] (distinct.1 h.1)),
    )

-- the tests of names by lines, and on them all
pub names_by_line : (f : File) → AllAfter (Passes (tests_name (header_of f))) [] f.names ↔ (AllPass (is_name (header_of f)) f.names × IsDistinct same_place f.names)
names_by_line f =
    let New : List NameLine → NameLine → Bool = λ before n. not (list_any (λ m. same_place m n) before) in
    let parts = after_and (λ _. is_name (header_of f)) New f.names [] in
    let named = after_each (λ n. IsTrue (is_name (header_of f) n)) f.names [] in
    let distinct = distinct_after same_place f.names in (
      λ all. let p = parts.0 all in (named.0 p.0, distinct.0 (after_weaker (Passes New) (IsNew same_place) (λ b n h. (Decides-new same_place n b).0 h) f.names [] p.1)),
      λ h. parts.1 (named.1 h.0, after_weaker (IsNew same_place) (Passes New) (λ b n k. (Decides-new same_place n b).1 k) f.names [] (distinct.1 h.1)),
    )
