-- Part of what is promised.
-- What the safety of a subject's circuit says of the files. (Equivalence checking.)
use Rattle.std.specs.Prelude.{ℕ, List, [], ◌∷◌}
use Rattle.aig_format.specs.File.{File}
use Rattle.aig_join.specs.Constraints.{AreEqualMachinesBy}
use Rattle.aig_join.specs.Files.{HaveSameFileCounts}
use Rattle.aig_join.specs.declared.comparison.Comparison.{Comparison}
use Rattle.aig_subjects.specs.FileSubjects.{FileShowsAlways, FileShowsAt}
use Rattle.aig_subjects.specs.declared.subject.Subject.{Subject}
use Rattle.aig_subjects.specs.declared.subject.Subject.TheVariants as subjects

-- ---- at a step

-- that of a miter: the files have the same counts, and their machines are equal there
abbrev pub PairShowsAt : Comparison → File → File → ℕ → Type 0
PairShowsAt comparison f g k = HaveSameFileCounts f g × AreEqualMachinesBy comparison f g k

-- a certificate says nothing of its own
abbrev pub ShowsAt : Subject → List File → ℕ → Type 0
ShowsAt (subjects.File own) (f ∷ []) k = FileShowsAt own f k
ShowsAt (subjects.Miter comparison) (f ∷ g ∷ []) k = PairShowsAt comparison f g k
ShowsAt (subjects.Certified own) (f ∷ g ∷ []) k = FileShowsAt own f k
ShowsAt (subjects.MiterCertified comparison) (f ∷ g ∷ h ∷ []) k = PairShowsAt comparison f g k
ShowsAt subject files k = ⊥

-- ---- at every step

-- that of a miter: they are equal at every step
abbrev pub ShowsAlways : Subject → List File → Type 0
ShowsAlways (subjects.File own) (f ∷ []) = FileShowsAlways own f
ShowsAlways (subjects.Certified own) (f ∷ g ∷ []) = FileShowsAlways own f
ShowsAlways subject files = (k : ℕ) → ShowsAt subject files k

-- ---- certificates

-- nothing stands beside the circuit
abbrev pub HasNoCertificate : Subject → Type 0
HasNoCertificate (subjects.File own) = Unit {0}
HasNoCertificate (subjects.Miter comparison) = Unit {0}
HasNoCertificate subject = ⊥
