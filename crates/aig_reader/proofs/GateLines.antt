-- A gate after others.
use Rattle.aig_base.proofs.Words.{◌≡◌, ◌≢◌, ℕ, ◌+◌, ◌/◌, ◌<◌, ◌≤◌, Bool, true, false, ◌&&◌, ltb, List, [], ◌∷◌, ◌++◌, refl, sym, ap, subst, ◌∙◌, append_assoc, arith, and-true, and_assoc, ◌==◌, list_all, list_any, lt-ltb, map_push, list_all-append}
use Rattle.aig_ordering.specs.declared.gates.Operands.{Operands}
use Rattle.aig_format.specs.declared.FileKind.{FileKind}
use Rattle.aig_format.proofs.Words.{GateLine, are_in_order, is_above_operands, is_increasing}
use Rattle.aig_format.proofs.Entries.{rec_append, rec_parts}
use Rattle.aig_reader.specs.declared.variables.DefinedVariables.{DefinedVariables}
use Rattle.aig_reader.specs.declared.gate_store.InOrder.{InOrder}
use Rattle.aig_reader.specs.declared.gate_store.GateStore.{GateStore}
use Rattle.aig_reader.specs.declared.table.Table.{Table}
use Rattle.aig_reader.specs.declared.gate_store.GateStore.TheVariants as held
use Rattle.aig_reader.specs.Gates.{AreGates, AreHeld, ArePlaced, AreInOrder, HoldsPending, HasWords, last_or, line_of, literals_of}
use Rattle.aig_reader.specs.Variables.{AreDefined, IsNewAmong, is_marked}
use Rattle.aig_reader.proofs.Defined.{unmarked_none}
use Rattle.aig_reader.proofs.TableGates.{well_founded_more, well_founded_order, well_founded_skipped}

-- ---- the order of gates

last_push : (n x : ℕ) (xs : List ℕ) → last_or n (xs ++ x ∷ []) ≡ x
last_push n x [] = refl
last_push n x (y ∷ ys) = last_push y x ys

-- numbers rise with one more where it is above the last
is_increasing_following : (n x : ℕ) (xs : List ℕ)
    → is_increasing (n ∷ (xs ++ x ∷ [])) ≡ is_increasing (n ∷ xs) && ltb (last_or n xs) x
is_increasing_following n x [] = and-true (ltb n x)
is_increasing_following n x (y ∷ ys) = ap (λ (b : Bool). ltb n y && b) (is_increasing_following y x ys) ∙ sym (and_assoc (ltb n y) (is_increasing (y ∷ ys)) (ltb (last_or y ys) x))

is_increasing_push : (x : ℕ) (xs : List ℕ) → 0 < x
    → is_increasing (xs ++ x ∷ []) ≡ is_increasing xs && ltb (last_or 0 xs) x
is_increasing_push x [] some = sym (lt-ltb 0 x some)
is_increasing_push x (y ∷ ys) some = is_increasing_following y x ys

four : (a b c d : Bool) → ((a && c) && (b && d)) ≡ (a && b) && (c && d)
four true b true d = refl
four true true false d = refl
four true false false d = refl
four false b c d = refl

-- gates are in order with one more where it is next
pub order_push : (gates : List GateLine) (g : GateLine) → 0 < g.lhs
    → are_in_order (gates ++ g ∷ []) ≡ are_in_order gates
    && (ltb (last_or 0 (literals_of gates)) g.lhs && is_above_operands g)
order_push gates g some =
    let lefts = literals_of gates in
    let all = list_all is_above_operands gates in
    ap (λ (ls : List ℕ). is_increasing ls && list_all is_above_operands (gates ++ g ∷ [])) (map_push (λ (h : GateLine). h.lhs) gates g)
    ∙ ap (λ (b : Bool). b && list_all is_above_operands (gates ++ g ∷ [])) (is_increasing_push g.lhs lefts some)
    ∙ ap (λ (b : Bool). (is_increasing lefts && ltb (last_or 0 lefts) g.lhs) && b) (list_all-append is_above_operands gates (g ∷ []) ∙ ap (λ (b : Bool). all && b) (and-true (is_above_operands g)))
    ∙ four (is_increasing lefts) all (ltb (last_or 0 lefts) g.lhs) (is_above_operands g)

-- ---- a gate in its place

module _ (greatest : ℕ) (leaves : List ℕ) (before : List GateLine) (lhs : ℕ) (operands : Operands) (some : 2 ≤ lhs) where
  abbrev g : GateLine
  g = line_of lhs operands

  order_with : (old : InOrder) → AreInOrder before old
      → are_in_order (before ++ g ∷ []) ≡ ltb old.last lhs && is_above_operands g
  order_with old h = order_push before g (omega arith) ∙ rw (h.in_order, sym h.last) refl

  -- gates that rise still do with the next one
  pub is_increasing_still : (old new : InOrder)
      → ArePlaced greatest leaves before (held.InOrder old)
      → (ltb old.last lhs && is_above_operands g) ≡ true
      → AreHeld (greatest + 1) (before ++ g ∷ []) (held.InOrder new) → new.last ≡ lhs → HasWords g
      → ArePlaced greatest leaves (before ++ g ∷ []) (held.InOrder new)
  is_increasing_still old new h next nodes last words = record {
    nodes = nodes;
    form = record {
      in_order = order_with old h.form ∙ next;
      last = last ∙ sym (ap (last_or 0) (map_push (λ (h : GateLine). h.lhs) before g) ∙ last_push 0 lhs (literals_of before));
      words = (rec_append HasWords before (g ∷ [])).1 (h.form.words, (words, tt));
    };
  }

  -- and don't with one that isn't above the others and its operands
  pub is_increasing_no_more : (old : InOrder) (table : Table)
      → ArePlaced greatest leaves before (held.InOrder old)
      → (ltb old.last lhs && is_above_operands g) ≡ false
      → HoldsPending (greatest + 1) (before ++ g ∷ []) table
      → ArePlaced greatest leaves (before ++ g ∷ []) (held.Shuffled table)
  is_increasing_no_more old table h other nodes = record { nodes = nodes; form = well_founded_order greatest leaves (before ++ g ∷ []) (order_with old h.form ∙ other) }

  -- nor do they in a compact file where one passes over a variable that isn't defined
  pub passes_over : (kind : FileKind) (variables : DefinedVariables) (v : ℕ) (table : Table)
      → AreDefined kind greatest variables ((leaves ++ literals_of before) ++ lhs ∷ []) → 1 ≤ v
      → v < lhs / 2 → is_marked variables v ≡ false
      → HoldsPending (greatest + 1) (before ++ g ∷ []) table
      → ArePlaced greatest leaves (before ++ g ∷ []) (held.Shuffled table)
  passes_over kind variables v table defined low below unmarked nodes =
      let row : (leaves ++ literals_of before) ++ lhs ∷ [] ≡ leaves ++ literals_of (before ++ g ∷ []) =
      append_assoc leaves (literals_of before) (lhs ∷ []) ∙ ap (λ (es : List ℕ). leaves ++ es) (sym (map_push (λ (h : GateLine). h.lhs) before g)) in
      let none = unmarked_none kind greatest variables v (leaves ++ literals_of before) lhs defined below unmarked in
      record { nodes = nodes; form = well_founded_skipped greatest leaves before g v low below (ap (list_any (λ e. e / 2 == v)) (sym row) ∙ none) }

  -- a file that is well-founded alone does with one gate more
  pub still_in_table : (old new : Table) → ArePlaced greatest leaves before (held.Shuffled old)
      → HoldsPending (greatest + 1) (before ++ g ∷ []) new
      → ArePlaced greatest leaves (before ++ g ∷ []) (held.Shuffled new)
  still_in_table old new h nodes = record { nodes = nodes; form = well_founded_more greatest leaves before g h.form }

-- ---- one more gate

pub more_gates : (kind : FileKind) (greatest : ℕ) (leaves : List ℕ) (before : List GateLine)
    (variables : DefinedVariables) (held : GateStore) (g : GateLine)
    → ArePlaced greatest leaves (before ++ g ∷ []) held
    → AreDefined kind greatest variables ((leaves ++ literals_of before) ++ g.lhs ∷ [])
    → AreGates kind greatest leaves (before ++ g ∷ []) variables held
more_gates kind greatest leaves before variables held g placed defined =
    let push : literals_of (before ++ g ∷ []) ≡ literals_of before ++ g.lhs ∷ [] = map_push (λ (h : GateLine). h.lhs) before g in
    record {
      defined = subst (AreDefined kind greatest variables) (append_assoc leaves (literals_of before) (g.lhs ∷ []) ∙ ap (λ (es : List ℕ). leaves ++ es) (sym push)) defined;
      placed = placed;
    }

-- a literal that is new after leaves and gates is new among those of the gates
pub new_among : (leaves : List ℕ) (before : List GateLine) (e : ℕ)
    → IsNewAmong (leaves ++ literals_of before) e → IsNewAmong (literals_of before) e
new_among leaves before e new = (rec_parts (λ d. d / 2 ≢ e / 2) leaves (literals_of before) new).1
