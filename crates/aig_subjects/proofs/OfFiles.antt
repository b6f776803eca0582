-- The circuit of a subject is that of a file, names aside.
use Rattle.aig_base.proofs.Words.{◌≡◌, ℕ, ◌/◌, ◌≤◌, ◌^◌, List, [], ◌∷◌, length, length-map, sym, ap, subst, ◌∙◌, arith}
use Rattle.aig_circuit.specs.Circuit.{Circuit}
use Rattle.aig_edits.specs.Joints.{IsJointOf}
use Rattle.aig_edits.specs.declared.pairing.Pairing.TheVariants.{Miter}
use Rattle.aig_format.proofs.Words.{Accepts, File, FitsFormat, IsReadAgain, circuit_of, file_of, latch_of, node_of_variable}
use Rattle.aig_format.specs.declared.FileKind.TheVariants.{Text}
use Rattle.aig_format.specs.Written.{file_text}
use Rattle.aig_join.specs.Certificate.{certified}
use Rattle.aig_join.specs.Files.{HasLinesOf}
use Rattle.aig_join.specs.declared.comparison.Comparison.{Comparison}
use Rattle.aig_runs.specs.Queries.{IsSafeTo}
use Rattle.aig_subjects.specs.Reads.{AreAccepted}
use Rattle.aig_subjects.specs.FileSubjects.{IsFileSubject}
use Rattle.aig_subjects.specs.Subjects.{IsBeside, IsCircuitOfFile, IsSubject}
use Rattle.aig_subjects.specs.declared.subject.FileSubject.{FileSubject}
use Rattle.aig_subjects.specs.declared.subject.FileSubject.TheVariants.{Live, Outputs, Own, Possible, Property, Rounds}
use Rattle.aig_subjects.specs.declared.subject.Subject.{Subject}
use Rattle.aig_subjects.specs.declared.subject.Subject.TheVariants as subjects

-- the circuit is that of an accepted file, names aside
pub record HasFile (m : Circuit) : Type 0 where
  pub file : File
  pub bound : ℕ
  pub low : bound ≤ 2 ^ 31
  pub bytes : List ℕ
  pub accepts : Accepts bytes bound file
  pub of : IsCircuitOfFile m file

-- its text is one
again_file : (m : Circuit) → FitsFormat m → IsReadAgain m (file_of Text m) → HasFile m
again_file m small again = record {
  file = file_of Text m;
  bound = length m.nodes;
  low = small.nodes;
  bytes = file_text (file_of Text m);
  accepts = again.0 (length m.nodes) (omega arith);
  of = sym (ap (λ (c : Circuit). record c { names = m.names }) again.1);
}

module _ (limit : ℕ) (low : limit ≤ 2 ^ 31) where
  -- that of FILE
  pub own_file : (own : FileSubject) (f : File) (bytes : List ℕ) (m : Circuit)
      → Accepts bytes limit f → IsFileSubject own f m → HasFile m
  own_file Own f bytes m is made = record {
    file = f;
    bound = limit;
    low = low;
    bytes = bytes;
    accepts = is;
    of = made ∙ ap (λ ns. record (circuit_of f) { names = ns }) (ap (λ (c : Circuit). c.names) (sym made));
  }
  own_file (Live fairness) f bytes m is made = again_file m made.small made.again
  own_file (Rounds fairness rounds) f bytes m is made = again_file m made.small made.again
  own_file (Property number) f bytes m is made = again_file m made.edit_of.small made.again
  own_file Possible f bytes m is made = again_file m made.edit_of.small made.again
  own_file Outputs f bytes m is made = again_file m made.edit_of.small made.again

-- a miter
pub miter_file : (comparison : Comparison) (f g : File) (m : Circuit)
    → IsJointOf (Miter comparison) f g m → HasFile m
miter_file comparison f g m joint = again_file m joint.small joint.again

-- ---- beside a certificate

-- the law of a file beside a witness file
abbrev pub AreWritten : Type 0
AreWritten =
    (f g : File) (limit bound : ℕ) (bytes others : List ℕ)
    → limit ≤ 2 ^ 31 → bound ≤ 2 ^ 31 → Accepts bytes limit f → Accepts others bound g
    → HasLinesOf g f → FitsFormat (certified (circuit_of f) (circuit_of g))
    → IsReadAgain (certified (circuit_of f) (circuit_of g))
    (file_of Text (certified (circuit_of f) (circuit_of g)))
    × ((n : ℕ) → IsSafeTo (file_of Text (certified (circuit_of f) (circuit_of g))) n
    → IsSafeTo f n)

module _ (own : Circuit) (of : HasFile own) (g : File) (m : Circuit) (beside : IsBeside own g m)
  where
    -- the certificate has the lines of the file whose circuit it stands beside
    pub lines : HasLinesOf g of.file
    lines =
        let f = of.file in
        let inputs : length own.inputs ≡ length f.inputs =
        ap (λ (c : Circuit). length c.inputs) of.of
        ∙ length-map f.inputs (λ (e : ℕ). node_of_variable f (e / 2)) in
        let latches : length own.latchs ≡ length f.latches =
        ap (λ (c : Circuit). length c.latchs) of.of ∙ length-map f.latches (latch_of f) in
        let also = length-map g.inputs (λ (e : ℕ). node_of_variable g (e / 2)) in
        let others = length-map g.latches (latch_of g) in
        let few = beside.fit.inputs in
        let few_latches = beside.fit.latches in
        record {
          inputs = omega (arith, inputs, also, few);
          latches = omega (arith, latches, others, few_latches);
        }

    -- the joint circuit of both files
    abbrev pub whole : Circuit
    whole = certified (circuit_of of.file) (circuit_of g)

    -- it is that one, names aside
    pub is_whole : m ≡ record whole { names = m.names }
    is_whole =
        let named = λ (c : Circuit). certified c (circuit_of g) in
        let same : m ≡ named (record (circuit_of of.file) { names = own.names }) =
        beside.joint ∙ ap named of.of in
        same
        ∙ ap (λ ns. record whole { names = ns }) (ap (λ (c : Circuit). c.names) (sym same))

    pub beside_file : AreWritten → (limit : ℕ) → limit ≤ 2 ^ 31 → (others : List ℕ)
        → Accepts others limit g → HasFile m
    beside_file written limit low others also =
        let fits : FitsFormat (record whole { names = m.names }) = subst FitsFormat is_whole beside.small in
        let small : FitsFormat whole = record { nodes = fits.nodes; lists = fits.lists; sets = fits.sets } in
        let text = written of.file g of.bound limit of.bytes others of.low low of.accepts also lines small in
        let h = again_file whole small text.0 in
        record {
          file = h.file;
          bound = h.bound;
          low = h.low;
          bytes = h.bytes;
          accepts = h.accepts;
          of = is_whole ∙ ap (λ (c : Circuit). record c { names = m.names }) h.of;
        }

-- ---- of any subject

pub subject_file : AreWritten → (limit : ℕ) → limit ≤ 2 ^ 31 → (subject : Subject)
    (files : List File) (m : Circuit) → AreAccepted limit files → IsSubject subject files m
    → HasFile m
subject_file written limit low (subjects.File own) (f ∷ []) m are is =
    own_file limit low own f are.0.0 m are.0.1 is
subject_file written limit low (subjects.Miter comparison) (f ∷ g ∷ []) m are is =
    miter_file comparison f g m is
subject_file written limit low (subjects.Certified own) (f ∷ g ∷ []) m are (made, of, beside) =
    beside_file made (own_file limit low own f are.0.0 made are.0.1 of) g m beside written limit
    low are.1.0.0 are.1.0.1
subject_file written limit low (subjects.MiterCertified comparison) (f ∷ g ∷ h ∷ []) m are
    (miter, joint, beside) =
    beside_file miter (miter_file comparison f g miter joint) h m beside written limit low
    are.1.1.0.0 are.1.1.0.1
subject_file written limit low subject files m are is = absurd is
