-- Serves private clauses alone.
-- What the programs print of files that lie in memory.
use Rattle.std.specs.Prelude.{◌≡◌, ℕ, ◌^◌, Bool, List, [], ◌∷◌, Ok}
use Rattle.aig_answers.specs.declared.plans.asking.Question.{Question}
use Rattle.aig_check_commands.specs.Pairs.{IsObligationsText}
use Rattle.aig_check_commands.specs.Questions.{IsQuestionText}
use Rattle.aig_answers.specs.Plans.{plan_certified, room_of}
use Rattle.aig_circuit.specs.Circuit.{Circuit}
use Rattle.aig_tool_commands.specs.Running.{IsTextOf}
use Rattle.aig_edits.specs.Joints.{IsJointOf}
use Rattle.aig_edits.specs.declared.pairing.Pairing.TheVariants.{Miter}
use Rattle.aig_join.specs.declared.comparison.Comparison.{Comparison}
use Rattle.aig_join.specs.declared.comparison.Constraints.TheVariants.{OfBoth}
use Rattle.aig_join.specs.declared.starts.Starts.TheVariants.{Apart}
use Rattle.aig_encode.specs.Encoding.{IsQuery}
use Rattle.aig_encode.specs.declared.query_clauses.Query.{Query}
use Rattle.aig_format.specs.Circuit.{circuit_of, text_of}
use Rattle.aig_format.specs.File.{File}
use Rattle.aig_format.specs.Fits.{Accepts}
use Rattle.aig_subjects.specs.Subjects.{IsSubject}
use Rattle.aig_subjects.specs.declared.subject.FileSubject.TheVariants.{Own}
use Rattle.aig_subjects.specs.declared.subject.Subject.TheVariants as subjects
use Rattle.sha2.specs.Sha256.{sha256}

-- that of a question of FILE, where FILE has these bytes
abbrev pub IsQuestionTextOf : Question → List ℕ → List ℕ → Type 0
IsQuestionTextOf q file text =
    (f : File) × Accepts file (2 ^ 24) f × (room_of (2 ^ 24) (q ∷ []) (circuit_of f) ≡ Ok tt)
    × IsQuestionText q (circuit_of f) (sha256 file) text

-- that of `obligations FILE CERT`
abbrev pub AreObligationsOf : Bool → List ℕ → List ℕ → List ℕ → Type 0
AreObligationsOf optimize file certificate text =
    (f : File) × (g : File) × Accepts file (2 ^ 24) f × Accepts certificate (2 ^ 24) g
    × ((m : Circuit) × IsSubject (subjects.Certified Own) (f ∷ g ∷ []) m
    × (room_of (2 ^ 24) (plan_certified optimize) m ≡ Ok tt)
    × IsObligationsText optimize m (sha256 file) (sha256 certificate) text)

-- how files are compared: on runs that meet the constraints of both, whose registers with open
-- start begin each as it likes
abbrev pub usual : Comparison
usual = record { starts = Apart; constraints = OfBoth }

-- that of `aigedit miter FILE OTHER`
abbrev pub IsMiterTextOf : List ℕ → List ℕ → List ℕ → Type 0
IsMiterTextOf file other text =
    (f : File) × (g : File) × Accepts file (2 ^ 24) f × Accepts other (2 ^ 24) g
    × ((m : Circuit) × IsJointOf (Miter usual) f g m × (text ≡ text_of m))

-- that of `aigtool query FILE K`
abbrev pub IsQueryTextOf : ℕ → Bool → List ℕ → List ℕ → Type 0
IsQueryTextOf k optimize file text =
    (f : File) × Accepts file (2 ^ 24) f
    × ((q : Query) × IsQuery k optimize f q × IsTextOf q.encoded.clauses q.extra text)

-- that of `aigtool query MITER K`, where MITER has the text of `aigedit miter FILE OTHER`
abbrev pub IsMiterQueryTextOf : ℕ → Bool → List ℕ → List ℕ → List ℕ → Type 0
IsMiterQueryTextOf k optimize file other text =
    (miter : List ℕ) × IsMiterTextOf file other miter × IsQueryTextOf k optimize miter text
