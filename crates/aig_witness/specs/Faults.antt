-- Part of what is promised.
-- What an answer tells of the bytes. (AIGER 1.9, "Witness format".)
use Rattle.std.specs.Prelude.{◌≡◌, ◌≢◌, ℕ, Bool, true, false, List, [], codes, Option, Some, None, IfSome, Result, Ok, Err}
use Rattle.aig_lexer.specs.Faults.{Cause, Memory, Never, Other, Stream, Tells}
use Rattle.aig_lexer.specs.Takes.{Feed, Ends, Misses, Takes}
use Rattle.aig_lexer.specs.WordReaders.{parse_expected}
use Rattle.aig_format.specs.Parse.{strip}
use Rattle.aig_witness.specs.declared.error.WitnessError.{WitnessError}
use Rattle.aig_witness.specs.declared.error.WitnessError.TheVariants as errors
use Rattle.aig_witness.specs.declared.witness.Claim as claims
use Rattle.aig_witness.specs.declared.witness.PropertyKind.{PropertyKind}
use Rattle.aig_witness.specs.declared.witness.Witness as lists
use Rattle.aig_witness.specs.Reading.{after_comments, parse_next, parse_next_claim, parse_property, parse_values}
use Rattle.aig_witness.specs.Witness.{claim_by, said_by}

-- why a witness isn't read
abbrev pub witness_cause : WitnessError → Cause
witness_cause errors.Memory = Memory
witness_cause errors.Stream = Stream
witness_cause e = Other

-- why the line of the property isn't
abbrev pub property_cause : WitnessError → Cause
property_cause errors.Stream = Stream
property_cause errors.Property = Other
property_cause e = Never

-- why lines of values aren't
abbrev pub values_cause : WitnessError → Cause
values_cause errors.Memory = Memory
values_cause errors.Stream = Stream
values_cause errors.Values = Other
values_cause e = Never

-- ---- which line is the first that is malformed or cut, where witnesses of justice properties are
-- taken or are not

-- of those after a line of the status: that of the property, or one of the values
abbrev pub IsFaultAfterStatus : Bool → WitnessError → List ℕ → Type 0
IsFaultAfterStatus justice errors.Property bytes = parse_property justice bytes ≡ None
IsFaultAfterStatus justice errors.Values bytes =
    (property : PropertyKind × ℕ) × (lines : List ℕ)
    × (parse_property justice bytes ≡ Some (property, lines)) × (parse_values lines ≡ None)
IsFaultAfterStatus justice e bytes = ⊥

-- of all lines, where there are any
abbrev pub IsFault : Bool → WitnessError → List ℕ → Type 0
IsFault justice errors.Status bytes = (bytes ≢ []) × (strip (codes "1\n") bytes ≡ None)
IsFault justice e bytes =
    (lines : List ℕ) × (strip (codes "1\n") bytes ≡ Some lines)
    × IsFaultAfterStatus justice e lines

-- where the bytes are known, of those after the comments
abbrev pub HasFault : Bool → WitnessError → Option (List ℕ) → Type 0
HasFault justice e text = IfSome text (λ bytes. IsFault justice e (after_comments false bytes))

-- ---- answers

-- a value that is seen as what was read, or where the bytes are known a fault in them, or that the
-- stream failed
abbrev pub GivesOr : {X Y : Type 0} → (WitnessError → List ℕ → Type 0) → (X → Y) → Feed → Feed
    → Result X WitnessError → (List ℕ → Option (Y × List ℕ)) → Type 0
GivesOr Fault view before after (Ok x) read = Takes read before after (view x)
GivesOr Fault view before after (Err e) read =
    Tells (witness_cause e) (IfSome before.coming (Fault e)) after.failed

-- a line feed was taken, or another byte or none comes, or a read failed
abbrev pub EndsLine : {E : Type 0} → Feed → Feed → Result Bool E → Type 0
EndsLine before after (Ok true) = Takes (parse_expected 10) before after 10
EndsLine before after (Ok false) = Misses (parse_expected 10) before
EndsLine before after (Err e) = after.failed ≡ true

-- by this reader the bytes that were taken have no witness, and nothing follows them
pub record EndsWithout {Y : Type 0} (next : List ℕ → Option (Option Y × List ℕ))
    (before after : Feed) : Type 0 where
  pub taken : List ℕ
  pub none : next taken ≡ Some (None, [])
  pub ends : Ends before after taken

-- the next witness of a kind that is taken, or none at the end, or which line is the first that is
-- malformed, or that a read failed
abbrev pub GivesClaim : Bool → Feed → Feed → Result (Option claims.Claim) WitnessError → Type 0
GivesClaim justice before after (Ok (Some c)) =
    Takes (parse_next_claim justice) before after (Some (claim_by c))
GivesClaim justice before after (Ok None) = EndsWithout (parse_next_claim justice) before after
GivesClaim justice before after (Err e) =
    Tells (witness_cause e) (HasFault justice e before.coming) after.failed

-- the same of a bad state property alone
abbrev pub GivesNext : Feed → Feed → Result (Option lists.Witness) WitnessError → Type 0
GivesNext before after (Ok (Some w)) = Takes parse_next before after (Some (said_by w))
GivesNext before after (Ok None) = EndsWithout parse_next before after
GivesNext before after (Err e) =
    Tells (witness_cause e) (HasFault false e before.coming) after.failed
