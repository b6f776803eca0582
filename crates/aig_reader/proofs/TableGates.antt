-- Gates that no compact file begins with.
use Rattle.aig_base.proofs.Words.{◌≡◌, ℕ, ◌/◌, ◌<◌, ◌≤◌, Bool, true, false, ◌&&◌, List, [], ◌∷◌, ◌++◌, length, map, refl, sym, ap, subst, ◌∙◌, append_assoc, arith, ◌==◌, nat_lt, AllByRecursion, IsDistinct, list_all, list_any, nat_eq, and_from, and_parts, eqb-true, false≢true, ltb-true, ne_eqb, list_all-append, list_any-append}
use Rattle.std.proofs.lemmas.List.{append-nil, map-append}
use Rattle.aig_format.proofs.Words.{GateLine, File, defined, IsDefinable, are_in_order, is_compact, is_above_operands, is_increasing}
use Rattle.aig_format.proofs.Entries.{rec_parts}
use Rattle.aig_format.proofs.Numbers.{all_there}
use Rattle.aig_reader.specs.declared.gate_store.GateStore.{GateStore}
use Rattle.aig_reader.specs.declared.gate_store.GateStore.TheVariants.{InOrder, Shuffled}
use Rattle.aig_reader.specs.Gates.{IsHeld, IsNeverCompact, is_in_order, literals_of}
use Rattle.aig_format.proofs.Rules.{definable_told}

-- ---- numbers that rise

is_increasing-front : (xs ys : List ℕ) → is_increasing (xs ++ ys) ≡ true → is_increasing xs ≡ true
is_increasing-front [] ys h = refl
is_increasing-front (x ∷ []) ys h = refl
is_increasing-front (x ∷ y ∷ xs) ys h = let p = and_parts (nat_lt x y) (is_increasing (y ∷ (xs ++ ys))) h in and_from (nat_lt x y) (is_increasing (y ∷ xs)) p.0 (is_increasing-front (y ∷ xs) ys p.1)

is_increasing-back : (xs : List ℕ) (y : ℕ) (ys : List ℕ) → is_increasing (xs ++ y ∷ ys) ≡ true
    → is_increasing (y ∷ ys) ≡ true
is_increasing-back [] y ys h = h
is_increasing-back (x ∷ []) y ys h = (and_parts (nat_lt x y) (is_increasing (y ∷ ys)) h).1
is_increasing-back (x ∷ z ∷ xs) y ys h = is_increasing-back (z ∷ xs) y ys (and_parts (nat_lt x z) (is_increasing (z ∷ (xs ++ y ∷ ys))) h).1

-- no number after another has a half below that one's
none_below : (v x : ℕ) (ys : List ℕ) → is_increasing (x ∷ ys) ≡ true → v < x / 2
    → list_any (λ e. e / 2 == v) ys ≡ false
none_below v x [] h low = refl
none_below v x (y ∷ ys) h low =
    let p = and_parts (nat_lt x y) (is_increasing (y ∷ ys)) h in
    let above = ltb-true x y p.0 in
    let higher : v < y / 2 = omega (arith, above, low) in
    rw (ne_eqb (y / 2) v (λ e. omega (arith, e, higher)), none_below v y ys p.1 higher) refl

-- ---- gates that begin a file

module _ (greatest : ℕ) (leaves : List ℕ) (gates : List GateLine) where
  -- gates that don't rise don't with more of them
  pub well_founded_order : are_in_order gates ≡ false → IsNeverCompact greatest leaves gates
  well_founded_order h = λ rest definable distinct exact. by_test rest (are_in_order (gates ++ rest)) refl
    where
      by_test : (rest : List GateLine) (b : Bool) → are_in_order (gates ++ rest) ≡ b
          → are_in_order (gates ++ rest) ≡ false
      by_test rest false is = is
      by_test rest true is =
          let p = and_parts (is_increasing (literals_of (gates ++ rest))) (list_all is_above_operands (gates ++ rest)) is in
          let front = is_increasing-front (literals_of gates) (literals_of rest) (sym (ap is_increasing (map-append (λ (g : GateLine). g.lhs) gates rest)) ∙ p.0) in
          let ordered = and_parts (list_all is_above_operands gates) (list_all is_above_operands rest) (sym (list_all-append is_above_operands gates rest) ∙ p.1) in
          absurd (false≢true (sym h ∙ and_from (is_increasing (literals_of gates)) (list_all is_above_operands gates) front ordered.0))

  -- nor do they with one more
  pub well_founded_more : (g : GateLine) → IsNeverCompact greatest leaves gates
      → IsNeverCompact greatest leaves (gates ++ g ∷ [])
  well_founded_more g h = λ rest. subst (λ (gs : List GateLine). let literals = leaves ++ literals_of gs in AllByRecursion (IsDefinable greatest) literals → IsDistinct nat_eq literals → greatest ≡ length literals → are_in_order gs ≡ false) (sym (append_assoc gates (g ∷ []) rest)) (h (g ∷ rest))

  -- and these are none themselves
  pub well_founded_told : IsNeverCompact greatest leaves gates
      → let literals = leaves ++ literals_of gates in AllByRecursion (IsDefinable greatest) literals
      → IsDistinct nat_eq literals → greatest ≡ length literals → are_in_order gates ≡ false
  well_founded_told h = subst (λ (gs : List GateLine). let literals = leaves ++ literals_of gs in AllByRecursion (IsDefinable greatest) literals → IsDistinct nat_eq literals → greatest ≡ length literals → are_in_order gs ≡ false) (append-nil gates) (h [])

-- where a variable below a gate is defined by none before, it is by one after it, or is missing
module _ (greatest : ℕ) (leaves : List ℕ) (before : List GateLine) (g : GateLine) (v : ℕ) (some : 1 ≤ v) (below : v < g.lhs / 2) where
  abbrev is_here : ℕ → Bool
  is_here e = e / 2 == v

  abbrev gates : List GateLine
  gates = before ++ g ∷ []

  -- the literals, with those after the gate apart
  following_gate : (rest : List GateLine)
      → literals_of (gates ++ rest) ≡ literals_of before ++ g.lhs ∷ literals_of rest
  following_gate rest =
      let lhs = λ (h : GateLine). h.lhs in
      map-append lhs gates rest ∙ ap (λ (es : List ℕ). es ++ literals_of rest) (map-append lhs before (g ∷ [])) ∙ append_assoc (literals_of before) (g.lhs ∷ []) (literals_of rest)

  none_following : (rest : List GateLine) → are_in_order (gates ++ rest) ≡ true
      → list_any is_here (literals_of rest) ≡ false
  none_following rest is =
      let p = and_parts (is_increasing (literals_of (gates ++ rest))) (list_all is_above_operands (gates ++ rest)) is in
      none_below v g.lhs (literals_of rest) (is_increasing-back (literals_of before) g.lhs (literals_of rest) (sym (ap is_increasing (following_gate rest)) ∙ p.0)) below

  pub well_founded_skipped : list_any is_here (leaves ++ literals_of gates) ≡ false
      → IsNeverCompact greatest leaves gates
  well_founded_skipped none = λ rest definable distinct exact.
      let front = rec_parts (IsDefinable greatest) leaves (literals_of (gates ++ rest)) definable in
      let last = (rec_parts (IsDefinable greatest) (literals_of before) (g.lhs ∷ literals_of rest) (subst (AllByRecursion (IsDefinable greatest)) (following_gate rest) front.1)).1.0 in
      let high = (definable_told greatest g.lhs last).2 in
      by_test rest (are_in_order (gates ++ rest)) refl (all_there greatest _ definable distinct exact v some (omega (arith, below, high)))
    where
      by_test : (rest : List GateLine) (b : Bool) → are_in_order (gates ++ rest) ≡ b
          → list_any is_here (leaves ++ literals_of (gates ++ rest)) ≡ true
          → are_in_order (gates ++ rest) ≡ false
      by_test rest false is there = is
      by_test rest true is there =
          let parts = ap (λ (es : List ℕ). leaves ++ es) (map-append (λ (h : GateLine). h.lhs) gates rest) ∙ sym (append_assoc leaves (literals_of gates) (literals_of rest)) in
          let split = list_any-append is_here (leaves ++ literals_of gates) (literals_of rest) ∙ rw (none, none_following rest is) refl in
          absurd (false≢true (sym split ∙ ap (list_any is_here) (sym parts) ∙ there))

-- ---- the gates of a file

-- a file whose gates are held as nodes, and where no variable is missing, is compact
pub compact_held : (f : File) (complete : Bool) (held : GateStore)
    → complete ≡ (f.greatest == length (defined f))
    → AllByRecursion (IsDefinable f.greatest) (defined f) → IsDistinct nat_eq (defined f)
    → IsHeld f.greatest (f.inputs ++ map (λ l. l.literal) f.latches) f.gates held
    → (complete && is_in_order held) ≡ is_compact f
compact_held f complete (InOrder rising) is definable distinct h = rw (is, h.in_order) refl
compact_held f complete (Shuffled table) is definable distinct h = ap (λ (b : Bool). b && false) is ∙ by_test (f.greatest == length (defined f)) refl
  where
    by_test : (b : Bool) → (f.greatest == length (defined f)) ≡ b
        → (b && false) ≡ (b && are_in_order f.gates)
    by_test true exact = sym (well_founded_told f.greatest (f.inputs ++ map (λ l. l.literal) f.latches) f.gates h definable distinct (eqb-true f.greatest (length (defined f)) exact))
    by_test false exact = refl
