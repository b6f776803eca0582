-- Part of what is promised.
-- Witnesses of bad states, and their text. (AIGER 1.9, "Witness format".)
use Rattle.std.specs.Prelude.{ℕ, Bool, true, false, List, [], ◌∷◌, ◌++◌, map, codes, decimal, Vec}
use Rattle.std.specs.List.{flat_map}
use Rattle.std.specs.declared.alloc.Global.{Global}
use Rattle.aig_base.specs.declared.logic.three.Lbool.{Lbool}
use Rattle.aig_base.specs.declared.logic.three.Lbool.TheVariants.{FALSE, TRUE, NONE}
use Rattle.aig_format.specs.Letters.{letter_of_bads, letter_of_justice}
use Rattle.aig_format.specs.Text.{◌then◌, Each, Ended, Just}
use Rattle.aig_witness.specs.declared.witness.Claim as claims
use Rattle.aig_witness.specs.declared.witness.PropertyKind.{PropertyKind}
use Rattle.aig_witness.specs.declared.witness.PropertyKind.TheVariants.{Bad, Justice}
use Rattle.aig_witness.specs.declared.witness.Witness as lists

-- a witness: which bad state property is reached, the state at step 0, and the inputs at each step
pub record Witness : Type 0 where
  pub bad : ℕ
  pub state : List Lbool
  pub steps : List (List Lbool)

-- a witness of a property of either kind: its number is that of a property of this kind
pub record Claim : Type 0 where
  pub kind : PropertyKind
  pub witness : Witness

-- the letter of a kind of property
abbrev pub letter_of_kind : PropertyKind → ℕ
letter_of_kind Bad = letter_of_bads
letter_of_kind Justice = letter_of_justice

-- witnesses of this kind of property are taken, where those of justice properties are or are not
abbrev pub IsTaken : Bool → PropertyKind → Type 0
IsTaken justice Bad = Unit {0}
IsTaken true Justice = Unit {0}
IsTaken false Justice = ⊥

-- a value: 0, 1, or x where it may be either
abbrev pub letter_of : Lbool → ℕ
letter_of FALSE = 48
letter_of TRUE = 49
letter_of NONE = 120

-- a line of values
abbrev pub row_text : List Lbool → List ℕ
row_text values = map letter_of values ++ 10 ∷ []

-- `1`, the property, the state, a line for each step, and a point; a number may have leading zeros
abbrev pub SpellsClaim : Claim → List ℕ → Type 0
SpellsClaim c =
    Just (codes "1\n") then (Just (letter_of_kind c.kind ∷ []) then Ended 10 c.witness.bad)
    then Just (row_text c.witness.state) then Each (λ row. Just (row_text row)) c.witness.steps
    then Just (codes ".\n")

-- the witness of a bad state property
abbrev pub of_bad : Witness → Claim
of_bad w = record { kind = Bad; witness = w }

-- the same of a bad state property
abbrev pub SpellsWitness : Witness → List ℕ → Type 0
SpellsWitness w = SpellsClaim (of_bad w)

-- the one text of a witness that is written
unfoldable pub witness_text : Witness → List ℕ
witness_text w =
    codes "1\nb" ++ (decimal w.bad ++ 10 ∷ []) ++ row_text w.state ++ flat_map row_text w.steps
    ++ codes ".\n"

-- ---- the program's lists

-- the rows of these lists
abbrev pub rows_of : List (Vec Lbool Global) → List (List Lbool)
rows_of lists = map (λ list. list.items) lists

-- the witness of the program's lists
abbrev pub said_by : lists.Witness → Witness
said_by w = record { bad = w.bad; state = w.state.items; steps = rows_of w.steps.items }

-- the values of its lines
abbrev pub values_of : Vec Lbool Global × Vec (Vec Lbool Global) Global
    → List Lbool × List (List Lbool)
values_of x = (x.0.items, rows_of x.1.items)

-- the same of either kind
abbrev pub claim_by : claims.Claim → Claim
claim_by c = record { kind = c.kind; witness = said_by c.witness }

-- its parts
abbrev pub parts_of : claims.Claim → (PropertyKind × ℕ) × (List Lbool × List (List Lbool))
parts_of c =
    ((c.kind, c.witness.bad), (c.witness.state.items, rows_of c.witness.steps.items))
