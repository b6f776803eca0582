-- Part of what is promised.
-- Reading witnesses from the front, on lists. (AIGER 1.9, "Witness format".)
use Rattle.std.specs.Prelude.{ℕ, Bool, true, false, not, ◌==◌, if◌then◌else◌, List, [], ◌∷◌, ◌++◌, codes, Option, Some, None}
use Rattle.aig_base.specs.declared.logic.three.Lbool.{Lbool}
use Rattle.aig_base.specs.declared.logic.three.Lbool.TheVariants.{FALSE, TRUE, NONE}
use Rattle.aig_format.specs.Parse.{◌>>=◌, parse_both, parse_ended, parse_map, strip}
use Rattle.aig_format.specs.Letters.{letter_of_bads, letter_of_justice}
use Rattle.aig_witness.specs.declared.witness.PropertyKind.{PropertyKind}
use Rattle.aig_witness.specs.declared.witness.PropertyKind.TheVariants.{Bad, Justice}
use Rattle.aig_witness.specs.Witness.{Claim, Witness}

-- the value of a letter
abbrev pub value_of_letter : ℕ → Option Lbool
value_of_letter b =
    if b == 48 then Some FALSE
    else if b == 49 then Some TRUE
    else if b == 120 then Some NONE
    else None

-- what is left of a line of values, after those that were read
unfoldable pub parse_row_after : List Lbool → List ℕ → Option (List Lbool × List ℕ)
parse_row_after row [] = None
parse_row_after row (b ∷ bs) =
    if b == 10 then Some (row, bs)
    else (value_of_letter b >>= λ v. parse_row_after (row ++ v ∷ []) bs)

-- the end of the line of a point, after these lines, and no value
abbrev pub parse_point_after : List (List Lbool) → List Lbool → List ℕ
    → Option (List (List Lbool) × List ℕ)
parse_point_after steps [] bytes = strip (10 ∷ []) bytes >>= λ rest. Some (steps, rest)
parse_point_after steps (v ∷ row) bytes = None

-- what is left of lines of values up to that of a point, after the lines that were read and the
-- values of one
unfoldable pub parse_steps_after : List (List Lbool) → List Lbool → List ℕ
    → Option (List (List Lbool) × List ℕ)
parse_steps_after steps row [] = None
parse_steps_after steps row (b ∷ bs) =
    if b == 10 then parse_steps_after (steps ++ row ∷ []) [] bs
    else if b == 46 then parse_point_after steps row bs
    else (value_of_letter b >>= λ v. parse_steps_after steps (row ++ v ∷ []) bs)

-- the kind of property of a letter; those of justice are taken, or are not
abbrev pub kind_of_letter : Bool → ℕ → Option PropertyKind
kind_of_letter justice b =
    if b == letter_of_bads then Some Bad
    else if b == letter_of_justice then (if justice then Some Justice else None)
    else None

-- the letter of a kind of property
abbrev pub parse_kind : Bool → List ℕ → Option (PropertyKind × List ℕ)
parse_kind justice [] = None
parse_kind justice (b ∷ bs) = kind_of_letter justice b >>= λ kind. Some (kind, bs)

-- the line of a property
abbrev pub parse_property : Bool → List ℕ → Option ((PropertyKind × ℕ) × List ℕ)
parse_property justice = parse_both (parse_kind justice) (λ _. parse_ended 10)

-- the state and the steps
abbrev pub parse_values : List ℕ → Option ((List Lbool × List (List Lbool)) × List ℕ)
parse_values = parse_both (parse_row_after []) (λ _. parse_steps_after [] [])

-- the property, the state and the steps
abbrev pub parse_parts : Bool → List ℕ
    → Option (((PropertyKind × ℕ) × (List Lbool × List (List Lbool))) × List ℕ)
parse_parts justice = parse_both (parse_property justice) (λ _. parse_values)

-- the witness of these parts
abbrev pub claim_from : (PropertyKind × ℕ) × (List Lbool × List (List Lbool)) → Claim
claim_from x =
    record { kind = x.0.0; witness = record { bad = x.0.1; state = x.1.0; steps = x.1.1 } }

-- a witness of a property of either kind
abbrev pub parse_claim : Bool → List ℕ → Option (Claim × List ℕ)
parse_claim justice bytes =
    strip (codes "1\n") bytes >>= parse_map claim_from (parse_parts justice)

-- the bytes after comments, each of which begins with `c` and ends with its line; the first may
-- have begun before
abbrev pub after_comments : Bool → List ℕ → List ℕ
after_comments inside [] = []
after_comments true (b ∷ bs) = after_comments (not (b == 10)) bs
after_comments false (b ∷ bs) = if b == 99 then after_comments true bs else b ∷ bs

-- a witness, or none at the end
abbrev pub parse_first : Bool → List ℕ → Option (Option Claim × List ℕ)
parse_first justice [] = Some (None, [])
parse_first justice (b ∷ bs) = parse_claim justice (b ∷ bs) >>= λ x. Some (Some x.0, x.1)

-- the next witness after comments, or none at the end
unfoldable pub parse_next_claim : Bool → List ℕ → Option (Option Claim × List ℕ)
parse_next_claim justice bytes = parse_first justice (after_comments false bytes)

-- ---- of bad state properties alone

-- the witness itself
abbrev pub witness_in : Option Claim → Option Witness
witness_in None = None
witness_in (Some c) = Some c.witness

-- a witness
abbrev pub parse_witness : List ℕ → Option (Witness × List ℕ)
parse_witness = parse_map (λ c. c.witness) (parse_claim false)

-- the next witness after comments, or none at the end
unfoldable pub parse_next : List ℕ → Option (Option Witness × List ℕ)
parse_next = parse_map witness_in (parse_next_claim false)
