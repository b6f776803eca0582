-- Gates that wait for their places.
use Rattle.aig_base.proofs.Words.{◌≡◌, ℕ, ◌+◌, ◌/◌, ◌<◌, ◌≤◌, List, [], ◌∷◌, ◌++◌, Option, Vec, drop, get_or, length, map, take, vec_len, sym, ap, subst, ◌∙◌, append_assoc, All, All-get_or, All-nil, All-push}
use Rattle.std.specs.declared.alloc.Global.{Global}
use Rattle.std.proofs.lemmas.List.{append-nil, drop_more, map_push, take_all, take_more}
use Rattle.aig_circuit.specs.declared.node.AigNode.{AigNode}
use Rattle.aig_format.specs.File.{GateLine}
use Rattle.aig_reader.specs.declared.table.PendingGate.{PendingGate}
use Rattle.aig_reader.specs.declared.table.Table.{Table}
use Rattle.aig_ordering.specs.declared.gates.Operands.{Operands}
use Rattle.aig_ordering.specs.Gates.{nodes_in}
use Rattle.aig_reader.specs.Gates.{AreFirstNodes, AreNew, HoldsPending, gate_in, line_of, lines_of, literals_of}
use Rattle.aig_reader.specs.Variables.{IsNewAmong}
use Rattle.aig_reader.proofs.TableEntries.{table-back}

-- one more gate that is new after the others
new_push : (front gates : List GateLine) (g : GateLine) → AreNew front gates → 2 ≤ g.lhs
    → IsNewAmong (literals_of (front ++ gates)) g.lhs → AreNew front (gates ++ g ∷ [])
new_push front [] g new own among = ((own, subst (λ (gs : List GateLine). IsNewAmong (literals_of gs) g.lhs) (append-nil front) among), tt)
new_push front (x ∷ gates) g new own among =
    (new.0, new_push (front ++ x ∷ []) gates g new.1 own (subst (λ (gs : List GateLine). IsNewAmong (literals_of gs) g.lhs) (sym (append_assoc front (x ∷ []) gates)) among))

-- of these gates, which wait, so many are in their places, and the others are still new
module _ (size : ℕ) (front : List GateLine) (pending : List PendingGate) where
  -- the gates that are in their places once so many no longer wait
  abbrev pub placed : ℕ → List GateLine
  placed i = front ++ lines_of (take i pending)

  pub record ArePlacing (i : ℕ) (entries : Vec (Option Operands) Global) : Type 0 where
    pub nodes : AreFirstNodes (placed i) (nodes_in entries.items)
    pub new : AreNew (placed i) (lines_of (drop i pending))
    pub space : vec_len entries ≤ size

  -- none is at first
  pub placing_none : (entries : Vec (Option Operands) Global)
      → AreFirstNodes front (nodes_in entries.items) → AreNew front (lines_of pending)
      → vec_len entries ≤ size → ArePlacing 0 entries
  placing_none entries nodes new space = record {
    nodes = subst (λ (gs : List GateLine). AreFirstNodes gs (nodes_in entries.items)) (sym (append-nil front)) nodes;
    new = subst (λ (gs : List GateLine). AreNew gs (lines_of pending)) (sym (append-nil front)) new;
    space = space;
  }

  module _ (i : ℕ) (low : i < length pending) (none : PendingGate) where
    abbrev next : PendingGate
    next = get_or pending i none

    abbrev line : GateLine
    line = line_of next.lhs next.operands

    placed-next : placed (i + 1) ≡ placed i ++ line ∷ []
    placed-next =
        let lines = λ (l : PendingGate). line_of l.lhs l.operands in
        ap (λ (gates : List PendingGate). front ++ map lines gates) (take_more pending i none low)
        ∙ ap (λ (gs : List GateLine). front ++ gs) (map_push lines (take i pending) next)
        ∙ sym (append_assoc front (lines_of (take i pending)) (line ∷ []))

    -- the next one is put in its place
    pub placing_next : (old new : Vec (Option Operands) Global) → ArePlacing i old
        → All (λ l. l.lhs / 2 < size) pending
        → (IsNewAmong (literals_of (placed i)) next.lhs → 2 ≤ next.lhs → next.lhs / 2 < size → AreFirstNodes (placed i ++ line ∷ []) (nodes_in new.items) × (vec_len new ≤ size))
        → ArePlacing (i + 1) new
    placing_next old new h within put =
        let waiting = subst (λ (gates : List PendingGate). AreNew (placed i) (lines_of gates)) (drop_more pending i none low) h.new in
        let made = put waiting.0.1 waiting.0.0 (All-get_or (λ (l : PendingGate). l.lhs / 2 < size) pending i none low within) in
        record {
          nodes = subst (λ (gs : List GateLine). AreFirstNodes gs (nodes_in new.items)) (sym placed-next) made.0;
          new = subst (λ (gs : List GateLine). AreNew gs (lines_of (drop (i + 1) pending))) (sym placed-next) waiting.1;
          space = made.1;
        }

-- gates that are in their places, where none waits
pub holds_placed : (size : ℕ) (gates : List GateLine) (table : Table)
    → AreFirstNodes gates (nodes_in table.entries.items) → vec_len table.entries ≤ size
    → table.pending.items ≡ [] → HoldsPending size gates table
holds_placed size gates table nodes space none = record {
  front = gates;
  all = sym (append-nil gates) ∙ ap (λ (pending : List PendingGate). gates ++ lines_of pending) (sym none);
  nodes = nodes;
  new = subst (λ (pending : List PendingGate). AreNew gates (lines_of pending)) (sym none) tt;
  space = space;
  within = subst (All (λ (l : PendingGate). l.lhs / 2 < size)) (sym none) (All-nil (λ (l : PendingGate). l.lhs / 2 < size));
}

-- none waits any longer
pub all_placed : (size : ℕ) (gates : List GateLine) (old new : Table) (items : List PendingGate)
    (i : ℕ) (h : HoldsPending size gates old)
    → items ≡ old.pending.items
    → (AreNew h.front (lines_of items) → All (λ l. l.lhs / 2 < size) items → ArePlacing size h.front items i new.entries)
    → length items ≤ i → new.pending.items ≡ []
    → HoldsPending size gates new
all_placed size gates old new items i h same placing all none =
    let new_ones = subst (λ (pending : List PendingGate). AreNew h.front (lines_of pending)) (sym same) h.new in
    let within = subst (All (λ (l : PendingGate). l.lhs / 2 < size)) (sym same) h.within in
    let last = placing new_ones within in
    let is = ap (λ (pending : List PendingGate). h.front ++ lines_of pending) (take_all i items all ∙ same) ∙ sym h.all in
    let nodes = subst (λ (gs : List GateLine). AreFirstNodes gs (nodes_in new.entries.items)) is last.nodes in
    holds_placed size gates new nodes last.space none

-- in the table of nodes all gates are in their places
pub none_waits : (size : ℕ) (gates : List GateLine) (nodes : List AigNode) (table : Table)
    → AreFirstNodes gates nodes → table.entries.items ≡ map (λ node. gate_in node.typ) nodes
    → vec_len table.entries ≤ size → table.pending.items ≡ [] → HoldsPending size gates table
none_waits size gates nodes table h entries space none =
    holds_placed size gates table (subst (AreFirstNodes gates) (sym (ap nodes_in entries ∙ table-back gates nodes h)) h) space none

-- where none waits all gates are in their places
pub placed_all : (size : ℕ) (gates : List GateLine) (table : Table) → HoldsPending size gates table
    → table.pending.items ≡ [] → AreFirstNodes gates (nodes_in table.entries.items)
placed_all size gates table h none =
    let is = sym (append-nil h.front) ∙ ap (λ (pending : List PendingGate). h.front ++ lines_of pending) (sym none) ∙ sym h.all in
    subst (λ (gs : List GateLine). AreFirstNodes gs (nodes_in table.entries.items)) is h.nodes

-- one more gate waits
pub one_more_waits : (size : ℕ) (gates : List GateLine) (old new : Table) (lhs : ℕ)
    (operands : Operands)
    → HoldsPending size gates old → IsNewAmong (literals_of gates) lhs → 2 ≤ lhs → lhs / 2 < size
    → new.entries ≡ old.entries
    → new.pending.items ≡ old.pending.items ++ record { lhs = lhs; operands = operands } ∷ []
    → HoldsPending size (gates ++ line_of lhs operands ∷ []) new
one_more_waits size gates old new lhs operands h among own low entries pending =
    let line = λ (l : PendingGate). line_of l.lhs l.operands in
    let gate : PendingGate = record { lhs = lhs; operands = operands } in
    let lines = sym (map_push line old.pending.items gate) ∙ ap (map line) (sym pending) in
    record {
      front = h.front;
      all = ap (λ (gs : List GateLine). gs ++ line gate ∷ []) h.all ∙ append_assoc h.front (lines_of old.pending.items) (line gate ∷ []) ∙ ap (λ (gs : List GateLine). h.front ++ gs) lines;
      nodes = subst (λ (es : Vec (Option Operands) Global). AreFirstNodes h.front (nodes_in es.items)) (sym entries) h.nodes;
      new = subst (AreNew h.front) lines (new_push h.front (lines_of old.pending.items) (line gate) h.new own (subst (λ (gs : List GateLine). IsNewAmong (literals_of gs) lhs) h.all among));
      space = subst (λ (es : Vec (Option Operands) Global). vec_len es ≤ size) (sym entries) h.space;
      within = subst (All (λ (l : PendingGate). l.lhs / 2 < size)) (sym pending) (All-push (λ (l : PendingGate). l.lhs / 2 < size) old.pending.items gate h.within low);
    }
