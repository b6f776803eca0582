-- A file passes the tests of the running reader exactly where it fits.
use Rattle.std.proofs.Common.{◌≡◌, ◌↔◌, ℕ, ◌+◌, ◌*◌, ◌≤◌, true, List, [], ◌∷◌, ◌++◌, length, map, refl, sym, subst, ◌∙◌, leb-true, le-leb, arith, Some}
use Rattle.std.specs.Prelude.{IsTrue, nat_eq, nat_le}
use Rattle.aig_base.proofs.Words.{AllByRecursion, IsDistinct, and_parts, and_from, eqb-true, lt-ltb, ltb-true}
use Rattle.aig_format.proofs.Words.{Each, LatchLine, GateLine, File, header_of, defined, Gate, Placed, Spells, is_increasing, is_above_operands, is_compact, file_from}
use Rattle.aig_format.specs.declared.FileKind.{FileKind}
use Rattle.aig_format.specs.declared.FileKind.TheVariants.{Text, Binary}
use Rattle.aig_format.specs.Fits.{AllPass, IsDefinable, is_literal, has_reset, count_defined, has_enough, is_accepted_order, Fits, Accepts}
use Rattle.aig_format.proofs.Entries.{rec_append, rec_both, rec_map, rec_weaker, length-defined, on_used}
use Rattle.aig_format.proofs.Rules.{definable_told, above_from, above_told, compact_from, compact_ordered, rising_distinct}
use Rattle.aig_format.proofs.Places.{places_definable, places_rise, rising_end}
use Rattle.aig_format.specs.ParseTested.{parse_fitting, may_define, has_next, may_use, fitting}
use Rattle.aig_format.proofs.EntryFacts.{AllAfter, Passes}
use Rattle.aig_format.proofs.EntryLines.{latch_key, gate_key}
use Rattle.aig_format.proofs.WholeFile.{defined_anew, names_by_line}
use Rattle.aig_format.proofs.Files.{IsTested, file_sound, file_complete, parts_of}

-- ---- gates

-- both operands of a gate may be used
abbrev pub HasOperands : ℕ → GateLine → Type 0
HasOperands greatest g = IsTrue (is_literal greatest g.rhs0) × IsTrue (is_literal greatest g.rhs1)

-- a gate of a binary file has no second operand above its first
falls : (gates : List GateLine) (bytes : List ℕ) → Each (Gate Binary) gates bytes → AllByRecursion (λ g. g.rhs1 ≤ g.rhs0) gates
falls [] bytes h = tt
falls (g ∷ gates) bytes h = let second = h.3.3 in (omega arith, falls gates h.1 h.4)

-- so where the first is below it, it is above both
above_by_test : (greatest : ℕ) (gates : List GateLine) (bytes : List ℕ) → Each (Gate Binary) gates bytes → AllByRecursion (IsDefinable greatest) (map gate_key gates) → AllPass (may_use Binary greatest) gates → AllPass is_above_operands gates
above_by_test greatest gates bytes h definable below =
    let Definable : GateLine → Type 0 = λ g. IsDefinable greatest g.lhs in
    let Falls : GateLine → Type 0 = λ g. g.rhs1 ≤ g.rhs0 in
    let Below : GateLine → Type 0 = λ g. IsTrue (may_use Binary greatest g) in
    rec_weaker (λ g. Definable g × (Falls g × Below g)) (λ g. IsTrue (is_above_operands g))
    (λ g k. let even = (definable_told greatest g.lhs k.0).0 in let less = ltb-true g.rhs0 g.lhs k.1.1 in let le = k.1.0 in above_from g (omega arith) (omega arith)) gates
    (rec_both Definable (λ g. Falls g × Below g) gates ((rec_map (IsDefinable greatest) gate_key gates).0 definable) (rec_both Falls Below gates (falls gates bytes h) below))

-- the operands of gates above them are in range
in_range_above : (greatest : ℕ) (gates : List GateLine) → AllByRecursion (IsDefinable greatest) (map gate_key gates) → AllPass is_above_operands gates → AllByRecursion (HasOperands greatest) gates
in_range_above greatest gates definable above =
    let Definable : GateLine → Type 0 = λ g. IsDefinable greatest g.lhs in
    let Above : GateLine → Type 0 = λ g. IsTrue (is_above_operands g) in
    rec_weaker (λ g. Definable g × Above g) (HasOperands greatest)
    (λ g k. let high = (definable_told greatest g.lhs k.0).2 in let first = (above_told g k.1).0 in let second = (above_told g k.1).1 in (le-leb g.rhs0 (2 * greatest + 1) (omega arith), le-leb g.rhs1 (2 * greatest + 1) (omega arith))) gates
    (rec_both Definable Above gates ((rec_map (IsDefinable greatest) gate_key gates).0 definable) above)

-- ---- inputs, latches and gates

-- what a file says of its inputs, latches and gates
pub record VariablesFit (f : File) : Type 0 where
  pub definable : AllByRecursion (IsDefinable f.greatest) (defined f)
  pub distinct : IsDistinct nat_eq (defined f)
  pub operands : AllByRecursion (HasOperands f.greatest) f.gates
  pub binary : f.kind ≡ Binary → is_compact f ≡ true

-- in a binary file no variable is missing
exact_from : (f : File) → has_enough Binary (header_of f) ≡ true → f.greatest ≡ length (defined f)
exact_from f enough = eqb-true f.greatest (count_defined (header_of f)) enough ∙ sym (length-defined f)

pub variables_fit : (kind : FileKind) (f : File) (bytes : List ℕ) → f.kind ≡ kind → has_enough kind (header_of f) ≡ true → Placed kind (defined f) → Each (Gate kind) f.gates bytes
    → AllAfter (Passes (may_define kind f.greatest)) [] (defined f) → AllPass (may_use kind f.greatest) f.gates → VariablesFit f
variables_fit Text f bytes is enough placed spelled own gates =
    let anew = (defined_anew f.greatest (defined f)).0 own in
    record {
      definable = anew.0;
      distinct = anew.1;
      operands = rec_weaker (λ g. IsTrue (may_use Text f.greatest g)) (HasOperands f.greatest) (λ g h. and_parts (is_literal f.greatest g.rhs0) (is_literal f.greatest g.rhs1) h) f.gates gates;
      binary = λ binary. absurd cc;
    }
variables_fit Binary f bytes is enough placed spelled own gates =
    let n = length (defined f) in
    let exact = exact_from f enough in
    let rising : is_increasing (defined f) ≡ true = subst (λ xs. is_increasing xs ≡ true) (sym placed) (places_rise n 1) in
    let definable = subst (AllByRecursion (IsDefinable f.greatest)) (sym placed) (places_definable f.greatest n 1 (omega arith) (omega arith)) in
    let leaves = f.inputs ++ map latch_key f.latches in
    let lefts = map gate_key f.gates in
    let last = ((rec_append (IsDefinable f.greatest) leaves lefts).0 definable).1 in
    let above = above_by_test f.greatest f.gates bytes spelled last gates in
    record {
      definable = definable;
      distinct = rising_distinct (defined f) rising;
      operands = in_range_above f.greatest f.gates last above;
      binary = λ binary. compact_from f exact (rising_end leaves lefts rising) above;
    }

-- the parts of a latch's test
pub next_literals : (greatest : ℕ) (latches : List LatchLine) → AllPass (has_next greatest) latches ↔ (AllByRecursion (λ l. IsTrue (is_literal greatest l.next)) latches × AllPass has_reset latches)
next_literals greatest latches =
    let Next : LatchLine → Type 0 = λ l. IsTrue (has_next greatest l) in
    let Used : LatchLine → Type 0 = λ l. IsTrue (is_literal greatest l.next) in
    let Reset : LatchLine → Type 0 = λ l. IsTrue (has_reset l) in
    let told = λ (l : LatchLine) (h : has_next greatest l ≡ true). and_parts (is_literal greatest l.next) (has_reset l) h in (
      λ all. (rec_weaker Next Used (λ l h. (told l h).0) latches all, rec_weaker Next Reset (λ l h. (told l h).1) latches all),
      λ h. rec_weaker (λ l. Used l × Reset l) Next (λ l k. and_from (is_literal greatest l.next) (has_reset l) k.0 k.1) latches (rec_both Used Reset latches h.0 h.1),
    )

-- the tests on literals and gates of a file that fits
may_define_all : (greatest : ℕ) (xs before : List ℕ) → AllAfter (Passes (may_define Binary greatest)) before xs
may_define_all greatest [] before = tt
may_define_all greatest (x ∷ xs) before = (refl, may_define_all greatest xs (before ++ x ∷ []))

variables_pass : (kind : FileKind) (f : File) → is_accepted_order kind f ≡ true → AllByRecursion (IsDefinable f.greatest) (defined f) → IsDistinct nat_eq (defined f) → AllByRecursion (HasOperands f.greatest) f.gates
    → AllAfter (Passes (may_define kind f.greatest)) [] (defined f) × AllPass (may_use kind f.greatest) f.gates
variables_pass Text f order definable distinct operands = (
  (defined_anew f.greatest (defined f)).1 (definable, distinct),
  rec_weaker (HasOperands f.greatest) (λ g. IsTrue (may_use Text f.greatest g)) (λ g h. and_from (is_literal f.greatest g.rhs0) (is_literal f.greatest g.rhs1) h.0 h.1) f.gates operands,
)
variables_pass Binary f compact definable distinct operands = (
  may_define_all f.greatest (defined f) [],
  rec_weaker (λ g. IsTrue (is_above_operands g)) (λ g. IsTrue (may_use Binary f.greatest g)) (λ g h. let first = (above_told g h).0 in lt-ltb g.rhs0 g.lhs (omega arith)) f.gates (compact_ordered f compact),
)

-- ---- whole files

-- the test after the last gate doesn't look at names
order_named : (kind : FileKind) (f : File) → is_accepted_order kind (file_from (parts_of f) []) ≡ is_accepted_order kind f
order_named Text f = refl
order_named Binary f = refl

-- the gates of a file, as they are spelled
spelled_gates : (f : File) (bytes : List ℕ) → Spells f bytes → (text : List ℕ) × Each (Gate f.kind) f.gates text
spelled_gates f bytes h = let following = h.sections.3.4.4.4 in (following.1, following.4)

pub fits_passed : (f : File) (limit : ℕ) (bytes : List ℕ) → IsTested (fitting limit) bytes f → Fits f limit
fits_passed f limit bytes h =
    let passed = h.1 in
    let lines = passed.lines in
    let header = and_parts (has_enough f.kind (header_of f)) (nat_le (f.greatest + 1) limit) passed.header in
    let gates = spelled_gates f bytes h.0 in
    let v = variables_fit f.kind f gates.0 refl header.0 lines.placed gates.1 lines.defined lines.gates in
    let nexts = (next_literals f.greatest f.latches).0 lines.latches in
    let named = (names_by_line f).0 passed.names in
    record {
      within = leb-true (f.greatest + 1) limit header.1;
      enough = header.0;
      definable = v.definable;
      distinct = v.distinct;
      in_range = (on_used (λ e. IsTrue (is_literal f.greatest e)) f).1 (record { latches = nexts.0; properties = lines.properties; gates = v.operands });
      resets = nexts.1;
      order = sym (order_named f.kind f) ∙ passed.sections;
      named = named.0;
      once = named.1;
    }

pub passed_fits : (f : File) (limit : ℕ) (bytes : List ℕ) → Accepts bytes limit f → IsTested (fitting limit) bytes f
passed_fits f limit bytes h =
    let fits = h.1 in
    let used = (on_used (λ e. IsTrue (is_literal f.greatest e)) f).0 fits.in_range in
    let variables = variables_pass f.kind f fits.order fits.definable fits.distinct used.gates in (
      h.0,
      record {
        header = and_from (has_enough f.kind (header_of f)) (nat_le (f.greatest + 1) limit) fits.enough (le-leb (f.greatest + 1) limit fits.within);
        lines = record {
          placed = h.0.placed;
          defined = variables.0;
          latches = (next_literals f.greatest f.latches).1 (used.latches, fits.resets);
          properties = used.properties;
          gates = variables.1;
        };
        sections = order_named f.kind f ∙ fits.order;
        names = (names_by_line f).1 (fits.named, fits.once);
      },
    )

pub fitting_sound : (limit : ℕ) (bytes : List ℕ) (f : File) → parse_fitting limit bytes ≡ Some f → Accepts bytes limit f
fitting_sound limit bytes f h = let tested = file_sound (fitting limit) bytes f h in (tested.0, fits_passed f limit bytes tested)

pub fitting_complete : (limit : ℕ) (bytes : List ℕ) (f : File) → Accepts bytes limit f → parse_fitting limit bytes ≡ Some f
fitting_complete limit bytes f h = file_complete (fitting limit) bytes f (passed_fits f limit bytes h)
