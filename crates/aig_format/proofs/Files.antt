-- A file is read with tests exactly where the bytes spell it and it passes them.
use Rattle.aig_base.proofs.Words.{◌≡◌, ◌↔◌, ℕ, suc, List, [], ◌∷◌, ◌++◌, length, Some, refl, sym, ap, subst, ◌∙◌, arith, same_Some}
use Rattle.std.specs.Prelude.{IsTrue}
use Rattle.aig_format.proofs.Words.{◌then◌, Each, NameLine, File, HeaderNumbers, header_of}
use Rattle.aig_format.specs.declared.FileKind.{FileKind}
use Rattle.aig_format.specs.declared.FileKind.TheVariants.{Text, Binary}
use Rattle.aig_format.specs.Spells.{Inputs, PropertyLines, Body, Spells}
use Rattle.aig_format.specs.Parse.{◌>>=◌, Tests, Parts, parse_header, parse_sections, parse_if, parse_body, parse_tail, file_from, parse_file}
use Rattle.aig_format.proofs.NumberReaders.{bind_some}
use Rattle.aig_format.proofs.EntryFacts.{AllAfter, Passes}
use Rattle.aig_format.proofs.Joined.{Reads, With, Reads-both, Reads-if, Reads-same, Reads-tested}
use Rattle.aig_format.proofs.Sections.{HeaderIs, Reads-header}
use Rattle.aig_format.proofs.EntryLines.{Own}
use Rattle.aig_format.proofs.InARow.{LinesPass, PropertiesPart, SectionsPart, Reads-sections}
use Rattle.aig_format.proofs.Names.{IsTail, tail_sound, tail_complete}
use Rattle.aig_format.proofs.WholeFile.{FilePasses, file_passes, parts}

-- the header, and the sections
abbrev pub IsBody : (FileKind × HeaderNumbers) × Parts → List ℕ → Type 0
IsBody b = HeaderIs b.0 then SectionsPart b.0.0 b.0.1 b.1

abbrev pub BodyPasses : Tests → (FileKind × HeaderNumbers) × Parts → Type 0
BodyPasses tests b = IsTrue (tests.header b.0) × (LinesPass (tests.lines b.0) b.0.0 b.1 × IsTrue (tests.sections (file_from b [])))

pub Reads-body : (tests : Tests) → Reads (With (BodyPasses tests) IsBody) (parse_body tests)
Reads-body tests =
    let Header : FileKind × HeaderNumbers → List ℕ → Type 0 = With (λ h. IsTrue (tests.header h)) HeaderIs in
    let Pass : FileKind × HeaderNumbers → Parts → Type 0 = λ h x. LinesPass (tests.lines h) h.0 x × IsTrue (tests.sections (file_from (h, x) [])) in
    let Sections : FileKind × HeaderNumbers → Parts → List ℕ → Type 0 = λ h. With (Pass h) (SectionsPart h.0 h.1) in
    Reads-same (λ b. Header b.0 then Sections b.0 b.1) (With (BodyPasses tests) IsBody) (parse_body tests)
    (Reads-both Header Sections (parse_if parse_header tests.header) (λ h. parse_if (parse_sections (tests.lines h) h.0 h.1) (λ x. tests.sections (file_from (h, x) [])))
    (Reads-tested HeaderIs (λ h. IsTrue (tests.header h)) parse_header tests.header Reads-header (λ h k. k) (λ h k. k))
    (λ h. Reads-if (LinesPass (tests.lines h) h.0) (SectionsPart h.0 h.1) (parse_sections (tests.lines h) h.0 h.1) (λ x. tests.sections (file_from (h, x) [])) (Reads-sections (tests.lines h) h.0 h.1)))
    (λ b bytes h. ((h.3.0, h.4.0), (h.0, h.1, h.2, h.3.1, h.4.1)))
    (λ b bytes h. let t = h.1 in (t.0, t.1, t.2, (h.0.0, t.3), (h.0.1, t.4)))

-- ---- the parts of a file

-- the header and the sections of a file
abbrev pub parts_of : File → (FileKind × HeaderNumbers) × Parts
parts_of f = ((f.kind, header_of f), parts f)

-- the header's numbers are those of the file that was made of the parts
numbers_same : (b : (FileKind × HeaderNumbers) × Parts) (names : List NameLine) (bytes : List ℕ) → SectionsPart b.0.0 b.0.1 b.1 bytes → header_of (file_from b names) ≡ b.0.1
numbers_same b names bytes i =
    let l = i.4 in let following = l.4 in
    let o = following.3 in let d = o.4 in let c = d.4 in let j = c.4 in
    rw (i.3.0, l.3.0, o.3.0, following.4.0, d.3.0, c.3.0, j.3.0, j.4.0) refl

pub parts_same : (b : (FileKind × HeaderNumbers) × Parts) (names : List NameLine) (bytes : List ℕ) → SectionsPart b.0.0 b.0.1 b.1 bytes → b ≡ parts_of (file_from b names)
parts_same b names bytes h = ap (λ (n : HeaderNumbers). ((b.0.0, n), b.1)) (sym (numbers_same b names bytes h))

-- inputs that aren't written have no bytes
inputs_text : (kind : FileKind) (xs bytes : List ℕ) → Each (Own kind 10) xs bytes ↔ Inputs kind xs bytes
inputs_text Text xs bytes = (λ h. h, λ h. h)
inputs_text Binary [] bytes = (λ h. h, λ h. h)
inputs_text Binary (x ∷ xs) bytes = (
  λ h. h.2 ∙ ap (λ (ys : List ℕ). ys ++ h.1) h.3 ∙ (inputs_text Binary xs h.1).0 h.4,
  λ h. ([], bytes, refl, refl, (inputs_text Binary xs bytes).1 h),
)

-- outputs and properties, without their counts
properties_text : (f : File) (bytes : List ℕ) → PropertiesPart (header_of f) f.properties bytes ↔ PropertyLines f.properties bytes
properties_text f bytes = (
  λ o. let b = o.4 in let c = b.4 in let j = c.4 in
      (o.0, o.1, o.2, o.3.1, (b.0, b.1, b.2, b.3.1, (c.0, c.1, c.2, c.3.1, (j.0, j.1, j.2, j.3.1, j.4.1)))),
  λ o. let b = o.4 in let c = b.4 in let j = c.4 in
      (o.0, o.1, o.2, (refl, o.3), (b.0, b.1, b.2, (refl, b.3), (c.0, c.1, c.2, (refl, c.3), (j.0, j.1, j.2, (refl, j.3), (refl, j.4))))),
)

-- the text of a file's parts
pub body_text : (f : File) (bytes : List ℕ) → IsBody (parts_of f) bytes ↔ Body f bytes
body_text f bytes = (
  λ h. let i = h.4 in let l = i.4 in let following = l.4 in (
    h.0,
    h.1,
    h.2,
    h.3,
    (i.0, i.1, i.2, (inputs_text f.kind f.inputs i.0).0 i.3.1, (l.0, l.1, l.2, l.3.1, (following.0, following.1, following.2, (properties_text f following.0).0 following.3, following.4.1))),
  ),
  λ h. let i = h.4 in let l = i.4 in let following = l.4 in (
    h.0,
    h.1,
    h.2,
    h.3,
    (
      i.0,
      i.1,
      i.2,
      (refl, (inputs_text f.kind f.inputs i.0).1 i.3),
      (l.0, l.1, l.2, (refl, l.3), (following.0, following.1, following.2, (properties_text f following.0).1 following.3, (refl, following.4))),
    ),
  ),
)

-- ---- files

-- what a file passes
pub record Passed (tests : Tests) (f : File) : Type 0 where
  pub header : IsTrue (tests.header (f.kind, header_of f))
  pub lines : FilePasses (tests.lines (f.kind, header_of f)) f
  pub sections : IsTrue (tests.sections (file_from (parts_of f) []))
  pub names : AllAfter (Passes (tests.names (header_of f))) [] f.names

-- the bytes spell the file, and it passes the tests
abbrev pub IsTested : Tests → List ℕ → File → Type 0
IsTested tests bytes f = Spells f bytes × Passed tests f

-- what was read of the bytes, and what that passed
WasRead : Tests → List ℕ → List ℕ → List ℕ → List NameLine → (FileKind × HeaderNumbers) × Parts → Type 0
WasRead tests bytes front rest names b = With (BodyPasses tests) IsBody b front × (IsTail names rest × AllAfter (Passes (tests.names b.0.1)) [] names)

tested_file : (tests : Tests) (f : File) (bytes front rest : List ℕ) → bytes ≡ front ++ rest → With (BodyPasses tests) IsBody (parts_of f) front × (IsTail f.names rest × AllAfter (Passes (tests.names (header_of f))) [] f.names) → IsTested tests bytes f
tested_file tests f bytes front rest whole h =
    let passes = h.0.0 in
    let lines = (file_passes (tests.lines (f.kind, header_of f)) f).0 passes.1.0 in (
      record { sections = (front, rest, whole, (body_text f front).0 h.0.1, h.1.0); placed = lines.placed },
      record { header = passes.0; lines = lines; sections = passes.1.1; names = h.1.1 },
    )

pub file_sound : (tests : Tests) (bytes : List ℕ) (f : File) → parse_file tests bytes ≡ Some f → IsTested tests bytes f
unfolding parse_file WasRead
file_sound tests bytes f h =
    let b = bind_some (parse_body tests bytes) (λ b. parse_tail (tests.names b.0.0.1) (suc (length b.1)) [] b.1 >>= λ names. Some (file_from b.0 names)) f h in
    let rest = b.0.1 in
    let c = bind_some (parse_tail (tests.names b.0.0.0.1) (suc (length rest)) [] rest) (λ names. Some (file_from b.0.0 names)) f b.2 in
    let s = (Reads-body tests).sound bytes b.0 b.1 in
    let t = tail_sound (tests.names b.0.0.0.1) (suc (length rest)) [] rest c.0 c.1 in
    let made = file_from b.0.0 c.0 in
    let same = parts_same b.0.0 c.0 s.2.1.1 s.2.1.4 in
    let all = subst (WasRead tests bytes s.0 rest c.0) same (s.2, t) in
    subst (IsTested tests bytes) (same_Some _ _ c.2) (tested_file tests made bytes s.0 rest s.1 all)

pub file_complete : (tests : Tests) (bytes : List ℕ) (f : File) → IsTested tests bytes f → parse_file tests bytes ≡ Some f
unfolding parse_file
file_complete tests bytes f h =
    let w = h.0.sections in
    let passed = h.1 in
    let lines = (file_passes (tests.lines (f.kind, header_of f)) f).1 passed.lines in
    let body = (body_text f w.0).1 w.3 in
    let one : parse_body tests bytes ≡ Some (parts_of f, w.1) =
    ap (parse_body tests) w.2 ∙ (Reads-body tests).complete (parts_of f) w.0 w.1 ((passed.header, (lines, passed.sections)), body) in
    let tail : parse_tail (tests.names (header_of f)) (suc (length w.1)) [] w.1 ≡ Some f.names = tail_complete (tests.names (header_of f)) f.names (suc (length w.1)) [] w.1 (omega arith) (w.4, passed.names) in
    rw (one, tail) refl
