-- What is asked of the text of a joint circuit is asked of the circuit.
use Rattle.aig_base.proofs.Words.{◌≡◌, ℕ, Bool, List, refl, sym, ap, ap₂, subst, ◌∙◌, length, arith}
use Rattle.aig_base.specs.declared.logic.literal.Lit.{Lit}
use Rattle.aig_answers.proofs.NamelessWindows.{steps_named, window_named, with_names}
use Rattle.aig_answers.specs.Answers.{IsCircuitQuery}
use Rattle.aig_answers.specs.declared.circuits.CircuitQuery.{CircuitQuery}
use Rattle.aig_answers.specs.Asking.{AsksBounded, AsksOfBads}
use Rattle.aig_answers.specs.declared.bounded_checks.clauses.BoundedClauses.{BoundedClauses}
use Rattle.aig_circuit.specs.Circuit.{Circuit, IsCircuit}
use Rattle.aig_cnf.specs.Cnf.{HasClauses}
use Rattle.aig_edits.specs.Joints.{IsJointOf}
use Rattle.aig_edits.specs.declared.pairing.Pairing.{Pairing}
use Rattle.aig_encode.specs.Encoding.{IsQuery}
use Rattle.aig_encode.specs.declared.query_clauses.Query.{Query}
use Rattle.aig_format.proofs.Circuits.{IsCircuit-of_file}
use Rattle.aig_format.specs.Circuit.{circuit_of, file_of, text_of, without_other_names}
use Rattle.aig_format.specs.File.{File}
use Rattle.aig_format.specs.Fits.{Accepts}
use Rattle.aig_format.specs.Spells.{Spells}
use Rattle.aig_format.specs.declared.FileKind.TheVariants.{Text}
use Rattle.aig_runs.specs.Queries.{query_clauses}
use Rattle.aig_runs.specs.WindowClauses.{AsksWindow}
use Rattle.aig_runs.specs.declared.window.Window.{Window}
use Rattle.aig_unroll.specs.Frame.{with_steps}
use Rattle.aig_callers.proofs.JointQuestions.{asks_named}

-- what is known of bytes: they spell one file at most
abbrev pub SpellOne : Type 0
SpellOne = (f g : File) (bytes : List ℕ) → Spells f bytes → Spells g bytes → f ≡ g

-- and of clauses: a circuit has one list of them
abbrev pub AreOne : Type 0
AreOne =
    (c : Circuit) (optimize : Bool) (lists others : List (List (List Lit)))
    → HasClauses c optimize lists → HasClauses c optimize others → lists ≡ others

abbrev pub WindowsAreOne : Type 0
WindowsAreOne =
    (form : Window) (c : Circuit) (k : ℕ) (optimize : Bool)
    (lists others : List (List (List Lit))) (extra more : List (List Lit))
    → AsksWindow form c k optimize lists extra → AsksWindow form c k optimize others more
    → (lists ≡ others) × (extra ≡ more)

abbrev pub QuestionsAreOne : Type 0
QuestionsAreOne =
    (c : Circuit) (k : ℕ) (optimize : Bool) (one other : BoundedClauses)
    → AsksOfBads c k optimize one → AsksOfBads c k optimize other
    → (one.clauses ≡ other.clauses) × (one.extra ≡ other.extra)

module _ (spell_one : SpellOne) (pairing : Pairing) (f g h : File) (m : Circuit) (limit k : ℕ)
    (optimize : Bool) (joint : IsJointOf pairing f g m) (accepts : Accepts (text_of m) limit h)
  where
    -- the file of the text is the one that was written
    is_written : h ≡ file_of Text m
    is_written = spell_one h (file_of Text m) (text_of m) accepts.0 (joint.again.0 (length m.nodes)
        (omega arith)).0

    -- and its circuit is the joint one without other names
    named : circuit_of h ≡ without_other_names m
    named = ap circuit_of is_written ∙ joint.again.1

    pub query_same : AreOne → (one : Query) (other : CircuitQuery) → IsQuery k optimize h one
        → IsCircuitQuery m k optimize other
        → (one.encoded.clauses ≡ other.clauses) × (one.extra ≡ other.extra)
    query_same are_one one other asks is =
        let e = asks.0 in
        let circuit : one.encoded.circuit ≡ without_other_names m = e.of_file ∙ named in
        let steps : one.encoded.unrolled ≡ with_names (without_other_names m).names other.unrolled = e.steps.exact
        ∙ ap (λ c. with_steps c k) circuit ∙ steps_named (without_other_names m).names m k
        ∙ sym (ap (with_names (without_other_names m).names) is.steps.exact) in
        let has : HasClauses (with_names (without_other_names m).names other.unrolled) optimize one.encoded.clauses = subst
        (λ u. HasClauses u optimize one.encoded.clauses) steps e.has_clauses in
        let bare : HasClauses other.unrolled optimize one.encoded.clauses = record
        { count = has.count; zero = has.zero; needed = has.needed; none = has.none } in (
          are_one other.unrolled optimize one.encoded.clauses other.clauses bare is.has_clauses,
          asks.1.exact ∙ ap₂ (λ c u. query_clauses c k u) circuit steps ∙ sym is.asks.exact,
        )

    pub window_same : WindowsAreOne → (form : Window) (lists others : List (List (List Lit)))
        (extra more : List (List Lit)) → AsksWindow form (circuit_of h) k optimize lists extra
        → AsksWindow form m k optimize others more → (lists ≡ others) × (extra ≡ more)
    window_same are_one form lists others extra more asks is =
        let circuit = subst IsCircuit named (IsCircuit-of_file h limit accepts.1) in
        are_one form (without_other_names m) k optimize lists others extra more
        (subst (λ c. AsksWindow form c k optimize lists extra) named asks)
        (window_named (without_other_names m).names form m k optimize others more circuit is)

    pub question_same : QuestionsAreOne → (one other : BoundedClauses)
        → AsksBounded h k optimize one → AsksOfBads m k optimize other
        → (one.clauses ≡ other.clauses) × (one.extra ≡ other.extra)
    question_same are_one one other asks is =
        are_one (without_other_names m) k optimize one other
        (subst (λ c. AsksOfBads c k optimize one) named asks)
        (asks_named (without_other_names m).names m k optimize other is)
