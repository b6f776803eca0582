-- Serves private clauses alone.
-- Gates that are read one after the other.
use Rattle.std.specs.Prelude.{All, ◌≡◌, ℕ, ◌+◌, ◌/◌, ◌^◌, ◌<◌, ◌≤◌, Bool, true, false, ◌&&◌, ◌⊎◌, List, [], ◌∷◌, ◌++◌, length, map, nat_eq, nat_lt, Option, Some, None, vec_len}
use Rattle.std.specs.List.{AllByRecursion, IsDistinct}
use Rattle.aig_circuit.specs.declared.node.AigNode.{AigNode}
use Rattle.aig_circuit.specs.declared.node.AigNodeType.{AigNodeType}
use Rattle.aig_circuit.specs.declared.node.AigNodeType.TheVariants.{False, Leaf, And}
use Rattle.aig_circuit.specs.Edge.{literal_of}
use Rattle.aig_circuit.specs.Node.{and_of}
use Rattle.aig_format.specs.declared.FileKind.{FileKind}
use Rattle.aig_format.specs.File.{GateLine}
use Rattle.aig_format.specs.Fits.{IsDefinable}
use Rattle.aig_format.specs.Numbering.{are_in_order, is_above_operands}
use Rattle.aig_reader.specs.declared.gate_store.InOrder.{InOrder}
use Rattle.aig_reader.specs.declared.table.PendingGate.{PendingGate}
use Rattle.aig_reader.specs.declared.table.Table.{Table}
use Rattle.aig_reader.specs.declared.gate_store.GateStore.{GateStore}
use Rattle.aig_reader.specs.declared.gate_store.GateStore.TheVariants as held
use Rattle.aig_reader.specs.declared.variables.DefinedVariables.{DefinedVariables}
use Rattle.aig_ordering.specs.declared.gates.Operands.{Operands}
use Rattle.aig_ordering.specs.Gates.{falling, nodes_in}
use Rattle.aig_ordering.specs.Lists.{edge_from, nodes_in_row}
use Rattle.aig_reader.specs.Variables.{AreDefined, IsNewAmong, TellsDefined}

-- the last of these numbers, or this one
abbrev pub last_or : ℕ → List ℕ → ℕ
last_or n [] = n
last_or n (x ∷ xs) = last_or x xs

-- the line of a gate of this literal and these operands
abbrev pub line_of : ℕ → Operands → GateLine
line_of lhs operands = record { lhs = lhs; rhs0 = operands.rhs0; rhs1 = operands.rhs1 }

-- the node of a gate
abbrev pub gate_node_of : GateLine → AigNode
gate_node_of g = record { node_id = g.lhs / 2; typ = and_of (edge_from g.rhs0) (edge_from g.rhs1) }

-- the operands of what is a gate, the greater one first
abbrev pub gate_in : AigNodeType → Option Operands
gate_in (And a b) = Some (falling (record { rhs0 = literal_of a; rhs1 = literal_of b }))
gate_in False = None
gate_in Leaf = None

-- the literals that gates define
abbrev pub literals_of : List GateLine → List ℕ
literals_of gates = map (λ g. g.lhs) gates

-- both operands are numbers of 32 bits
abbrev pub HasWords : GateLine → Type 0
HasWords g = (g.rhs0 < 2 ^ 32) × (g.rhs1 < 2 ^ 32)

-- ---- where gates are held

-- whether the gates rise
abbrev pub is_in_order : GateStore → Bool
is_in_order (held.InOrder rising) = true
is_in_order (held.Shuffled table) = false

-- the nodes of the first variables, from 0 on, where these gates are defined, each within them
pub record AreFirstNodes (gates : List GateLine) (nodes : List AigNode) : Type 0 where
  pub some : 0 < length nodes
  pub placed : nodes ≡ nodes_in_row gates (length nodes) 0
  pub within : AllByRecursion (λ g. g.lhs / 2 < length nodes) gates

-- the lines of gates that wait for their places
abbrev pub lines_of : List PendingGate → List GateLine
lines_of pending = map (λ l. line_of l.lhs l.operands) pending

-- each of these gates defines a variable that none before it does
abbrev pub AreNew : List GateLine → List GateLine → Type 0
AreNew front [] = Unit {0}
AreNew front (g ∷ gates) =
    ((2 ≤ g.lhs) × IsNewAmong (literals_of front) g.lhs) × AreNew (front ++ g ∷ []) gates

-- gates in their places, and after them those that wait, all of so many variables at most
pub record HoldsPending (size : ℕ) (gates : List GateLine) (table : Table) : Type 0 where
  pub front : List GateLine
  pub all : gates ≡ front ++ lines_of table.pending.items
  pub nodes : AreFirstNodes front (nodes_in table.entries.items)
  pub new : AreNew front (lines_of table.pending.items)
  pub space : vec_len table.entries ≤ size
  pub within : All (λ l. l.lhs / 2 < size) table.pending.items

-- the nodes of these gates, as they are held, and of so many variables at most
abbrev pub AreHeld : ℕ → List GateLine → GateStore → Type 0
AreHeld size gates (held.InOrder rising) =
    AreFirstNodes gates rising.nodes.items × (vec_len rising.nodes ≤ size)
AreHeld size gates (held.Shuffled table) = HoldsPending size gates table

-- the same, in a table
abbrev pub AreInTable : ℕ → List GateLine → GateStore → Type 0
AreInTable size gates (held.InOrder rising) = ⊥
AreInTable size gates (held.Shuffled table) = HoldsPending size gates table

-- the literal that the last of these gates defines, which rise, each above its operands, and all
-- have numbers of 32 bits
pub record AreInOrder (gates : List GateLine) (rising : InOrder) : Type 0 where
  pub in_order : are_in_order gates ≡ true
  pub last : rising.last ≡ last_or 0 (literals_of gates)
  pub words : AllByRecursion HasWords gates

-- whether a gate is above the last one and its operands, and passes over no variable that isn't
-- defined
abbrev pub MayFollow : InOrder → DefinedVariables → GateLine → Bool → Type 0
MayFollow rising variables g true = (nat_lt rising.last g.lhs && is_above_operands g) ≡ true
MayFollow rising variables g false =
    ((nat_lt rising.last g.lhs && is_above_operands g) ≡ false)
    ⊎ TellsDefined variables (vec_len rising.nodes) (g.lhs / 2) false

-- after these leaves, no gates that begin with these rise so that no variable up to the greatest is
-- missing
abbrev pub IsNeverCompact : ℕ → List ℕ → List GateLine → Type 0
IsNeverCompact greatest leaves gates =
    (rest : List GateLine)
    → let literals = leaves ++ literals_of (gates ++ rest) in
    AllByRecursion (IsDefinable greatest) literals → IsDistinct nat_eq literals
    → greatest ≡ length literals → are_in_order (gates ++ rest) ≡ false

-- as nodes they rise, in a table the file is well-founded alone
abbrev pub IsHeld : ℕ → List ℕ → List GateLine → GateStore → Type 0
IsHeld greatest leaves gates (held.InOrder rising) = AreInOrder gates rising
IsHeld greatest leaves gates (held.Shuffled table) = IsNeverCompact greatest leaves gates

-- after these leaves, these gates are held, in no more room than there are variables
pub record ArePlaced (greatest : ℕ) (leaves : List ℕ) (gates : List GateLine) (held : GateStore)
    : Type 0 where
  pub nodes : AreHeld (greatest + 1) gates held
  pub form : IsHeld greatest leaves gates held

-- after these leaves and gates: the variables, and where the gates are held
pub record AreGates (kind : FileKind) (greatest : ℕ) (leaves : List ℕ) (gates : List GateLine)
    (variables : DefinedVariables) (held : GateStore) : Type 0 where
  pub defined : AreDefined kind greatest variables (leaves ++ literals_of gates)
  pub placed : ArePlaced greatest leaves gates held
