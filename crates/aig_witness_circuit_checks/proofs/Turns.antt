-- The conditions in turn, up to one that isn't shown.
use Rattle.aig_witness_circuit_checks.proofs.Words.{◌≡◌, ℕ, ◌<◌, ◌≤◌, Bool, IsErrOf, IsTrue, List, OnOk, Option, Result, Ok, Err, sym, ap, subst, ◌∙◌, arith, Condition, Reset, Transition, Property, Base, Step, Claim, ConditionError, SimulationError, ChecksClaim, HoldsIn, TellsAt, LeavesProof, Proofs, TellsOfQuestion, proof_for, question_in, turn_of}
use Rattle.aig_refutation.specs.declared.error.RefutationError.TheVariants as refutation
use Rattle.aig_witness_circuit_checks.specs.declared.error.ConditionError.TheVariants as conditions
use Rattle.aig_witness_circuit_checks.specs.declared.error.SimulationError.TheVariants as errors

-- what holds of each holds of all
pub of_each : (P : Condition → Type 0) → P Reset → P Transition → P Property → P Base → P Step
    → (condition : Condition) → P condition
of_each P reset transition property base step Reset = reset
of_each P reset transition property base step Transition = transition
of_each P reset transition property base step Property = property
of_each P reset transition property base step Base = base
of_each P reset transition property base step Step = step

-- it holds of the conditions before this one
abbrev pub Before : Condition → (Condition → Type 0) → Type 0
Before Reset P = Unit {0}
Before Transition P = P Reset
Before Property P = P Reset × P Transition
Before Base P = P Reset × P Transition × P Property
Before Step P = P Reset × P Transition × P Property × P Base

-- and of those after it
abbrev pub After : Condition → (Condition → Type 0) → Type 0
After Reset P = P Transition × P Property × P Base × P Step
After Transition P = P Property × P Base × P Step
After Property P = P Base × P Step
After Base P = P Step
After Step P = Unit {0}

earlier : (condition : Condition) (P : Condition → Type 0) → Before condition P
    → (other : Condition) → turn_of other < turn_of condition → P other
earlier Reset P all other low = absurd (omega (arith, low))
earlier Transition P all other low =
    of_each (λ d. turn_of d < 1 → P d) (λ low. all) (λ low. absurd (omega (arith, low)))
    (λ low. absurd (omega (arith, low))) (λ low. absurd (omega (arith, low)))
    (λ low. absurd (omega (arith, low))) other low
earlier Property P all other low =
    of_each (λ d. turn_of d < 2 → P d) (λ low. all.0) (λ low. all.1)
    (λ low. absurd (omega (arith, low))) (λ low. absurd (omega (arith, low)))
    (λ low. absurd (omega (arith, low))) other low
earlier Base P all other low =
    of_each (λ d. turn_of d < 3 → P d) (λ low. all.0) (λ low. all.1) (λ low. all.2)
    (λ low. absurd (omega (arith, low))) (λ low. absurd (omega (arith, low))) other low
earlier Step P all other low =
    of_each (λ d. turn_of d < 4 → P d) (λ low. all.0) (λ low. all.1) (λ low. all.2) (λ low. all.3)
    (λ low. absurd (omega (arith, low))) other low

module _ {P : Type 0} (left : P → Option (List ℕ)) (limit : ℕ) (optimize : Bool) (claim : Claim)
    (proofs : Proofs P) where
  -- what an answer tells of a condition's question
  abbrev pub TellsTurn : Condition → Result Unit ConditionError → Type 0
  TellsTurn condition answer =
      TellsOfQuestion limit optimize (left (proof_for proofs condition))
      (question_in condition claim) answer

  -- those before it are shown, and it isn't
  pub stops : (condition : Condition) (e : SimulationError)
      → Before condition (λ d. TellsTurn d (Ok tt))
      → TellsAt limit optimize (left (proof_for proofs condition)) claim condition (Err e)
      → ChecksClaim left limit optimize claim proofs (Err e)
  stops condition (errors.Condition failing x) before told = (
    λ other low.
        earlier condition (λ d. TellsTurn d (Ok tt)) before other
        (subst (λ (d : Condition). turn_of other < turn_of d) told.0 low),
    subst (λ (d : Condition). TellsTurn d (Err x)) (sym told.0) told.1,
  )
  stops condition (errors.File x) before told = absurd told
  stops condition (errors.Witness x) before told = absurd told
  stops condition errors.NoBads before told = absurd told
  stops condition (errors.Sharing x) before told = absurd told
  stops condition errors.Circular before told = absurd told

  -- those before the last one hold and are shown
  pub ends : (result : Result Unit SimulationError) → Before Step (HoldsIn claim)
      → Before Step (λ d. TellsTurn d (Ok tt)) → OnOk result (HoldsIn claim Step)
      → TellsAt limit optimize (left (proof_for proofs Step)) claim Step result
      → ChecksClaim left limit optimize claim proofs result
  ends (Ok done) holds before last told = (
    of_each (HoldsIn claim) holds.0 holds.1 holds.2 holds.3 last,
    of_each (λ (d : Condition). TellsTurn d (Ok tt)) before.0 before.1 before.2 before.3 told,
  )
  ends (Err e) holds before last told = stops Step e before told

module _ (limit : ℕ) (optimize : Bool) (text : Option (List ℕ)) (claim : Claim)
    (condition : Condition) where
  -- the proof for an earlier one was read
  pub was_read : (other : Condition) (result : Result Unit SimulationError)
      → TellsAt limit optimize text claim condition result → turn_of other < turn_of condition
      → LeavesProof other result → ⊥
  was_read other (Ok done) told before leaves = leaves
  was_read other (Err (errors.Condition failing (conditions.Question x))) told before leaves =
      let turns : turn_of failing ≡ turn_of condition = ap turn_of told.0 in
      let low : turn_of failing ≤ turn_of other = leaves in
      omega arith
  was_read other (Err (errors.Condition failing (conditions.Refutation x))) told before leaves =
      let turns : turn_of failing ≡ turn_of condition = ap turn_of told.0 in
      let low : turn_of failing < turn_of other = leaves in
      omega arith
  was_read other (Err (errors.File x)) told before leaves = told
  was_read other (Err (errors.Witness x)) told before leaves = told
  was_read other (Err errors.NoBads) told before leaves = told
  was_read other (Err (errors.Sharing x)) told before leaves = told
  was_read other (Err errors.Circular) told before leaves = told

  -- an error names the condition
  named : (other : Condition) (x : ConditionError) (result : Result Unit SimulationError)
      → TellsAt limit optimize text claim condition result
      → IsErrOf result (errors.Condition other x) → condition ≡ other
  named other x (Ok done) told is = cc
  named other x (Err (errors.Condition failing y)) told is = sym told.0 ∙ same is
    where
      same : IsErrOf {T = Unit {0}} (Err (errors.Condition failing y)) (errors.Condition other x)
          → failing ≡ other
      same q = cc
  named other x (Err (errors.File y)) told is = absurd told
  named other x (Err (errors.Witness y)) told is = absurd told
  named other x (Err errors.NoBads) told is = absurd told
  named other x (Err (errors.Sharing y)) told is = absurd told
  named other x (Err errors.Circular) told is = absurd told

  -- a failed read is that of its proof
  pub fails_alone : {P : Type 0} (failed : P → Bool) (rest : Proofs P)
      (result : Result Unit SimulationError)
      → TellsAt limit optimize text claim condition result
      → (IsErrOf result (errors.Condition condition (conditions.Refutation refutation.Stream))
      → IsTrue (failed (proof_for rest condition))) → (other : Condition)
      → IsErrOf result (errors.Condition other (conditions.Refutation refutation.Stream))
      → IsTrue (failed (proof_for rest other))
  fails_alone failed rest result told stream other is =
      let same = named other (conditions.Refutation refutation.Stream) result told is in
      subst (λ (d : Condition). IsTrue (failed (proof_for rest d))) same
      (stream
      (subst
      (λ (d : Condition). IsErrOf result
      (errors.Condition d (conditions.Refutation refutation.Stream))) (sym same) is))

module _ {P : Type 0} (given rest : Proofs P) (limit : ℕ) (optimize : Bool)
    (text : Option (List ℕ)) (claim : Claim) (result : Result Unit SimulationError) where
  -- the proof for a condition is as it was
  abbrev Keeps : Condition → Type 0
  Keeps condition = proof_for rest condition ≡ proof_for given condition

  -- each is that isn't read, as those after the last condition that is looked at
  pub keeps : (condition : Condition) → TellsAt limit optimize text claim condition result
      → (LeavesProof condition result → Keeps condition) → After condition Keeps
      → (other : Condition) → LeavesProof other result → Keeps other
  keeps condition told own after = by condition told own after
    where
      Q : Condition → Type 0
      Q d = LeavesProof d result → Keeps d

      read : (d other : Condition) → TellsAt limit optimize text claim d result
          → turn_of other < turn_of d → Q other
      read d other told low leaves =
          absurd (was_read limit optimize text claim d other result told low leaves)

      by : (d : Condition) → TellsAt limit optimize text claim d result → Q d → After d Keeps
          → (other : Condition) → Q other
      by Reset told own after =
          of_each Q own (λ l. after.0) (λ l. after.1) (λ l. after.2) (λ l. after.3)
      by Transition told own after =
          of_each Q (read Transition Reset told (omega arith)) own (λ l. after.0) (λ l. after.1)
          (λ l. after.2)
      by Property told own after =
          of_each Q (read Property Reset told (omega arith))
          (read Property Transition told (omega arith)) own (λ l. after.0) (λ l. after.1)
      by Base told own after =
          of_each Q (read Base Reset told (omega arith)) (read Base Transition told (omega arith))
          (read Base Property told (omega arith)) own (λ l. after)
      by Step told own after =
          of_each Q (read Step Reset told (omega arith)) (read Step Transition told (omega arith))
          (read Step Property told (omega arith)) (read Step Base told (omega arith)) own
