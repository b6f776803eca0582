-- What holds of a file's certificate holds of the file.
use Rattle.aig_base.proofs.Words.{◌≡◌, ℕ, zero, suc, ◌+◌, ◌/◌, ◌%◌, ◌≤◌, Bool, true, false, not, ◌&&◌, Option, Some, None, List, ◌++◌, get_or, map, refl, sym, ap, subst, ◌∙◌, arith, All, Contains, IfSome, find, nat_eq, unwrap_or, ◌==◌, if◌then◌else◌, AllByRecursion, All-contains, All-from_recursion, All-weaker, recursion_from_All}
use Rattle.std.specs.Option.{option_and_then}
use Rattle.aig_circuit.specs.Properties.{AllProperties}
use Rattle.aig_format.proofs.Words.{File, GateLine, LatchLine, Fits, IsDefinable, IsMachineRun, IsMachineInitial, IsStep, value_of_literal, initial_value_of, IsKnown}
use Rattle.aig_format.proofs.Circuits.{differ_from, differs_half, distinct_front, used_by_section}
use Rattle.aig_format.proofs.Entries.{rec_both, rec_unmap, rec_weaker}
use Rattle.aig_format.proofs.Found.{found_all}
use Rattle.aig_format.proofs.Numbers.{used_known}
use Rattle.aig_format.proofs.Searches.{find_none}
use Rattle.aig_format_laws.specs.MachineRuns.{AgreeOnInputs, AgreeOnKnown}
use Rattle.aig_format_laws.proofs.Joining.{inputs_definable, latches_definable}
use Rattle.aig_format_laws.proofs.MachineRuns.{agree_on_known, given_run}
use Rattle.aig_runs.specs.Queries.{IsSafeTo}
use Rattle.aig_runs.specs.Certificate.{Extends, IsCertificateOf}
use Rattle.aig_runs.specs.Safety.{IsConstrained, IsGood}
use Rattle.aig_format.proofs.Rules.{even_literal}

-- what all entries of a list have, those of a list within it have
carried : {A : Type 0} (P : A → Type 0) (xs ys : List A) → All (Contains ys) xs
    → AllByRecursion P ys → AllByRecursion P xs
carried P xs ys within all =
    let each = All-from_recursion P ys all in
    recursion_from_All P xs
    (All-weaker (Contains ys) P (λ x there. All-contains P ys x each there) xs within)

-- ---- runs of the certificate are runs of the file

-- the gate's equation, that of the latch's next value, and that of its first one
abbrev IsAnd : (ℕ → Bool) → GateLine → Type 0
IsAnd v gate = v (gate.lhs / 2) ≡ value_of_literal v gate.rhs0 && value_of_literal v gate.rhs1

abbrev Follows : (ℕ → Bool) → (ℕ → Bool) → LatchLine → Type 0
Follows v after l = after (l.literal / 2) ≡ value_of_literal v l.next

abbrev Starts : (ℕ → Bool) → LatchLine → Type 0
Starts v l = IfSome (initial_value_of l) (λ b. v (l.literal / 2) ≡ b)

module _ (g f : File) (extends : Extends g f) where
  step_back : (values : ℕ → Bool) → IsStep g values → IsStep f values
  step_back values is = record {
    zero = is.zero;
    gates = carried (IsAnd values) f.gates g.gates extends.gates is.gates;
  }

  pub run_back : (last : ℕ) (run : ℕ → ℕ → Bool) → IsMachineRun g last run → IsMachineRun f last run
  run_back last run is = record {
    steps = λ t low. step_back (run t) (is.steps t low);
    moves = λ t low.
        let Next = Follows (run t) (run (t + 1)) in
        carried Next f.latches g.latches extends.latches (is.moves t low);
  }

  pub start_back : (run : ℕ → ℕ → Bool) → IsMachineInitial g run → IsMachineInitial f run
  start_back run start = carried (Starts (run 0)) f.latches g.latches extends.latches start

-- ---- latches by their variables

-- the latch of a variable
abbrev latch_at : File → ℕ → Option LatchLine
latch_at f v = find (λ (l : LatchLine). l.literal / 2 == v) f.latches

-- the latch is found at its variable, and none at a literal's
abbrev IsFound : File → LatchLine → Type 0
IsFound f l = latch_at f (l.literal / 2) ≡ Some l

abbrev IsMissed : File → ℕ → Type 0
IsMissed f e = latch_at f (e / 2) ≡ None

module _ (f : File) (limit : ℕ) (fits : Fits f limit) where
  abbrev latch_literals : List ℕ
  latch_literals = map (λ (l : LatchLine). l.literal) f.latches

  abbrev leaf_literals : List ℕ
  leaf_literals = f.inputs ++ latch_literals

  abbrev gate_literals : List ℕ
  gate_literals = map (λ (gate : GateLine). gate.lhs) f.gates

  -- no latch has the literal
  abbrev Differs : ℕ → Type 0
  Differs e = AllByRecursion (λ y. nat_eq e y ≡ false) latch_literals

  abbrev HasDefinable : LatchLine → Type 0
  HasDefinable l = IsDefinable f.greatest l.literal

  latches_found : AllByRecursion (IsFound f) f.latches
  latches_found =
      let leaves = distinct_front leaf_literals gate_literals fits.distinct in
      let definable = latches_definable f limit fits in
      let IsEven = λ (l : LatchLine). l.literal % 2 ≡ 0 in
      let even = rec_weaker HasDefinable IsEven (λ l d. even_literal f.greatest l.literal d) f.latches definable in
      let differ = (differ_from f.inputs latch_literals leaves).1 in
      found_all (λ (l : LatchLine). l.literal) f.latches even differ

  missed : (e : ℕ) → IsDefinable f.greatest e × Differs e → IsMissed f e
  missed e p =
      let Differ = λ (l : LatchLine). nat_eq e l.literal ≡ false in
      let Apart = λ (l : LatchLine). (l.literal / 2 == e / 2) ≡ false in
      let literal = λ (l : LatchLine). l.literal in
      let differ = rec_unmap (λ y. nat_eq e y ≡ false) literal f.latches p.1 in
      find_none (λ (l : LatchLine). l.literal / 2 == e / 2) f.latches
      (rec_weaker (λ l. HasDefinable l × Differ l) Apart
      (λ l q. differs_half e l.literal (even_literal f.greatest e p.0) (even_literal f.greatest l.literal q.0) q.1) f.latches
      (rec_both HasDefinable Differ f.latches (latches_definable f limit fits) differ))

  inputs_missed : AllByRecursion (IsMissed f) f.inputs
  inputs_missed =
      let Definable = IsDefinable f.greatest in
      let leaves = distinct_front leaf_literals gate_literals fits.distinct in
      let differ = (differ_from f.inputs latch_literals leaves).0 in
      rec_weaker (λ e. Definable e × Differs e) (IsMissed f) missed f.inputs
      (rec_both Definable Differs f.inputs (inputs_definable f limit fits) differ)

-- ---- runs of the file are runs of the certificate

-- the value to start with, or else the one that is there
started : (o : Option Bool) (b c : Bool) → unwrap_or o b ≡ c → IfSome o (λ first. c ≡ first)
started (Some first) b c is = sym is
started None b c is = tt

kept : (o : Option Bool) (b : Bool) → IfSome o (λ first. b ≡ first) → b ≡ unwrap_or o b
kept (Some first) b is = is
kept None b is = refl

module _ (g f : File) (bound limit : ℕ) (fits : Fits g bound) (fits_too : Fits f limit)
    (extends : Extends g f) (last : ℕ) (run : ℕ → ℕ → Bool) (is : IsMachineRun f last run)
    (start : IsMachineInitial f run) where
  -- what the variable's latch in g starts with, if it has one that starts with a value
  abbrev start_at : ℕ → Option Bool
  start_at v = option_and_then initial_value_of (latch_at g v)

  -- the values of the run, and at step 0 those that latches start with
  abbrev given : ℕ → ℕ → Bool
  given zero v = unwrap_or (start_at v) (run 0 v)
  given (suc t) v = run (suc t) v

  -- a run of g with these values of inputs, and of latches at step 0
  abbrev other : ℕ → ℕ → Bool
  other = (given_run g bound last given fits).0

  is_run : IsMachineRun g last other
  is_run = (given_run g bound last given fits).1

  agree : AgreeOnInputs g last given other
  agree = (given_run g bound last given fits).2

  -- the latch's first value is the given one, where it is found
  abbrev IsGiven : LatchLine → Type 0
  IsGiven l = IsFound g l × (given 0 (l.literal / 2) ≡ other 0 (l.literal / 2))

  latches_given : AllByRecursion IsGiven g.latches
  latches_given =
      let Agrees = λ (l : LatchLine). given 0 (l.literal / 2) ≡ other 0 (l.literal / 2) in
      rec_both (IsFound g) Agrees g.latches (latches_found g bound fits) agree.latches

  is_start : IsMachineInitial g other
  is_start =
      rec_weaker IsGiven (Starts (other 0))
      (λ l p.
      let v = l.literal / 2 in
      let found : start_at v ≡ initial_value_of l = ap (option_and_then initial_value_of) p.0 in
      let starts = started (start_at v) (run 0 v) (other 0 v) p.1 in
      subst (λ o. IfSome o (λ b. other 0 v ≡ b)) found starts)
      g.latches latches_given

  -- inputs have the run's values, and so have the latches of f at step 0
  given_input : (t e : ℕ) → IsMissed g e → run t (e / 2) ≡ given t (e / 2)
  given_input zero e none =
      sym (ap (λ o. unwrap_or (option_and_then initial_value_of o) (run 0 (e / 2))) none)
  given_input (suc t) e none = refl

  given_latch : (l : LatchLine) → IsFound g l → Starts (run 0) l
      → run 0 (l.literal / 2) ≡ given 0 (l.literal / 2)
  given_latch l found starts =
      let b = run 0 (l.literal / 2) in
      kept (initial_value_of l) b starts ∙ sym (ap (λ o. unwrap_or (option_and_then initial_value_of o) b) found)

  agree_back : AgreeOnInputs f last run other
  agree_back = record {
    inputs = λ t low.
        let Agrees = λ (e : ℕ). given t (e / 2) ≡ other t (e / 2) in
        let Same = λ (e : ℕ). run t (e / 2) ≡ other t (e / 2) in
        carried Same f.inputs g.inputs extends.inputs
        (rec_weaker (λ e. IsMissed g e × Agrees e) Same (λ e p. given_input t e p.0 ∙ p.1) g.inputs
        (rec_both (IsMissed g) Agrees g.inputs (inputs_missed g bound fits) (agree.inputs t low)));
    latches =
        let Same = λ (l : LatchLine). run 0 (l.literal / 2) ≡ other 0 (l.literal / 2) in
        let theirs = carried IsGiven f.latches g.latches extends.latches latches_given in
        rec_weaker (λ l. IsGiven l × Starts (run 0) l) Same
        (λ l p. given_latch l p.0.0 p.1 ∙ p.0.1) f.latches
        (rec_both IsGiven (Starts (run 0)) f.latches theirs start);
  }

  agree_known : AgreeOnKnown f last run other
  agree_known =
      let back = run_back g f extends last other is_run in
      agree_on_known f limit last fits_too run other is back agree_back

  pub run_forth : (r : ℕ → ℕ → Bool) × IsMachineRun g last r × IsMachineInitial g r × AgreeOnKnown f last run r
  run_forth = (other, is_run, is_start, agree_known)

-- ---- safety

-- the literals of a run that agrees on what is known
module _ (f : File) (limit : ℕ) (fits : Fits f limit) (last : ℕ) (run other : ℕ → ℕ → Bool)
    (agree : AgreeOnKnown f last run other) (t : ℕ) (low : t ≤ last) where
  literal_alike : (e : ℕ) → IsKnown f e → value_of_literal (run t) e ≡ value_of_literal (other t) e
  literal_alike e known = ap (λ b. if e % 2 == 0 then b else not b) (agree t (e / 2) low known)

  known : AllProperties (IsKnown f) f.properties
  known = (used_by_section (IsKnown f) f (used_known f limit fits)).properties

  constrained_alike : IsConstrained f (run t) → IsConstrained f (other t)
  constrained_alike holds =
      let Holds = λ (v : ℕ → Bool) (e : ℕ). value_of_literal v e ≡ true in
      let es = f.properties.constraints in
      let before = All-from_recursion (Holds (run t)) es holds in
      recursion_from_All (Holds (other t)) es
      (λ j d l. sym (literal_alike (get_or es j d) (known.constraints j d l)) ∙ before j d l)

  good_alike : IsGood f (other t) → IsGood f (run t)
  good_alike good =
      let Fails = λ (v : ℕ → Bool) (e : ℕ). value_of_literal v e ≡ false in
      let es = f.properties.bads in
      let before = All-from_recursion (Fails (other t)) es good in
      recursion_from_All (Fails (run t)) es
      (λ j d l. literal_alike (get_or es j d) (known.bads j d l) ∙ before j d l)

pub certified_safe : (g f : File) (bound limit n : ℕ) → Fits g bound → Fits f limit
    → IsCertificateOf g f → IsSafeTo g n → IsSafeTo f n
certified_safe g f bound limit n fits fits_too is safe last t run runs start low within constraints =
    let forth = run_forth g f bound limit fits fits_too is.extends last run runs start in
    let other = forth.0 in
    let steps = forth.1.steps in
    let held : (s : ℕ) → s ≤ t → IsConstrained f (other s) = λ s early.
    constrained_alike f limit fits_too last run other forth.3 s (omega arith) (constraints s early) in
    let allowed : (s : ℕ) → s ≤ t → IsConstrained g (other s) = λ s early.
    is.constraints (other s) (steps s (omega arith)) (held s early) in
    let good = safe last t other forth.1 forth.2 low within allowed in
    good_alike f limit fits_too last run other forth.3 t low
    (is.good (other t) (steps t low) (held t (omega arith)) good)

-- ---- certificates by their lists

pub listed_certificate : (g f : File) → Extends g f
    → All (Contains f.properties.constraints) g.properties.constraints
    → All (Contains g.properties.bads) f.properties.bads → IsCertificateOf g f
listed_certificate g f extends constraints bads = record {
  extends = extends;
  constraints = λ values step holds.
      carried (λ e. value_of_literal values e ≡ true) g.properties.constraints f.properties.constraints constraints holds;
  good = λ values step holds good.
      carried (λ e. value_of_literal values e ≡ false) f.properties.bads g.properties.bads bads good;
}
