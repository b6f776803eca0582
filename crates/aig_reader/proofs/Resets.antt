-- What the rules for resets accept, and files that differ in their resets alone.
use Rattle.aig_base.proofs.Words.{◌≡◌, ℕ, zero, suc, ◌+◌, ◌*◌, ◌/◌, ◌≤◌, ◌⊎◌, Bool, true, false, ◌&&◌, ◌||◌, ◌==◌, cond, eqb, List, [], ◌∷◌, ◌++◌, length, map, Option, Some, None, refl, sym, ap, subst, ◌∙◌, arith, inl, inr, eq-eqb, eqb-true, le-leb, le-ltb, leb-true, lt-ltb, ne_eqb, nat_eq, nat_le, nat_lt, or_cases, and_from, and_parts, unwrap_or, AllByRecursion, IsDistinct, filter, flat_map, list_all, list_any, length-map}
use Rattle.std.specs.Prelude.{IsTrue}
use Rattle.aig_circuit.specs.declared.view.CircuitLists.{CircuitLists}
use Rattle.aig_circuit.specs.declared.node.AigLatch.{AigLatch}
use Rattle.aig_circuit.specs.Circuit.{Circuit}
use Rattle.aig_circuit.specs.Edge.{edge_to}
use Rattle.aig_circuit.specs.Properties.{entries_of}
use Rattle.aig_circuit.specs.Renumber.{position_of}
use Rattle.aig_circuit.specs.View.{lists_circuit}
use Rattle.aig_format.specs.declared.FileKind.{FileKind}
use Rattle.aig_format.specs.declared.FileKind.TheVariants.{Text, Binary}
use Rattle.aig_format.proofs.Words.{AllPass, File, Fits, GateLine, HeaderNumbers, IsDefinable, IsKnown, LatchLine, Parts, Spells, are_in_order, circuit_of, count_defined, defined, edge_of, file_from, has_enough, header_of, is_above_operands, is_accepted_order, is_compact, is_defined, is_known, is_literal, is_name, has_level, latch_of, used, uses_known}
use Rattle.aig_format.specs.Fits.{has_reset, is_reset}
use Rattle.aig_format.specs.Levels.{is_level, level_of}
use Rattle.aig_format.specs.Numbering.{node_of_variable, numbers_from, variables_by_level, variables_in_order}
use Rattle.aig_format.specs.ParseTested.{may_define, may_use}
use Rattle.aig_format.proofs.Circuits.{defined_known, leaves_distinct, numbers}
use Rattle.aig_format.proofs.Entries.{length-defined, on_used, rec_both, rec_parts, rec_unmap, rec_weaker}
use Rattle.aig_format.proofs.EntryFacts.{AllAfter, Passes}
use Rattle.aig_format.proofs.Files.{IsTested, file_complete, file_sound, parts_of}
use Rattle.aig_format.proofs.FittingFiles.{HasOperands, variables_fit}
use Rattle.aig_format.proofs.InARow.{Reads-sections}
use Rattle.aig_format.proofs.Numbers.{all_there, any_within, node_of_variable-zero}
use Rattle.aig_format.proofs.Rules.{above_told, all_pass, compact_exact, compact_ordered, definable_told}
use Rattle.aig_format.proofs.SectionFacts.{HasCounts, LinesTell}
use Rattle.aig_format.proofs.WholeFile.{defined_anew, file_passes, names_by_line}
use Rattle.aig_reader.specs.declared.latches.Resets.{Resets}
use Rattle.aig_reader.specs.declared.latches.Resets.TheVariants.{Values, Functions}
use Rattle.aig_reader.specs.Resets.{circuit_with_resets, knows_resets, latch_with_reset, reset_in, without_reset}
use Rattle.aig_reader.specs.Rules.{AcceptsBy, AreListsBy, allows, fitting_by, greatest_by, line_tests_by, parse_by, parse_lines_by}
use Rattle.aig_reader.specs.Sections.{HasGoodLines}

abbrev pub literal_in : LatchLine → ℕ
literal_in l = l.literal

abbrev next_in : LatchLine → ℕ
next_in l = l.next

-- ---- which literals resets are

-- a reset is of no variable above the file's
greatest_within : (resets : Resets) (greatest : ℕ) → greatest_by resets greatest ≤ greatest
greatest_within Values greatest = omega arith
greatest_within Functions greatest = omega arith

reset_within : (resets : Resets) (greatest : ℕ) (l : LatchLine) → IsDefinable greatest l.literal
    → allows resets greatest l ≡ true → is_literal greatest (reset_in l) ≡ true
reset_within resets greatest l own allowed =
    elim (or_cases (is_literal (greatest_by resets greatest) (reset_in l)) (reset_in l == l.literal)
    allowed) [
      | inl low ↦ let high = leb-true (reset_in l) (2 * greatest_by resets greatest + 1) low in
          le-leb (reset_in l) (2 * greatest + 1)
          (omega (arith, high, greatest_within resets greatest))
      | inr same ↦ le-leb (reset_in l) (2 * greatest + 1)
          (omega (
            arith,
            eqb-true (reset_in l) l.literal same,
            (definable_told greatest l.literal own).2,
          ))
    ]

-- what is said of each literal that is defined is said of the latches'
on_latches : (P : ℕ → Type 0) (f : File) → AllByRecursion P (defined f)
    → AllByRecursion (λ l. P l.literal) f.latches
on_latches P f all =
    let literals = map literal_in f.latches in
    rec_unmap P literal_in f.latches (rec_parts P f.inputs literals
    (rec_parts P (f.inputs ++ literals) (map (λ (g : GateLine). g.lhs) f.gates) all).0).1

resets_within : (resets : Resets) (f : File) → AllByRecursion (IsDefinable f.greatest) (defined f)
    → AllPass (allows resets f.greatest) f.latches
    → AllPass (λ l. is_literal f.greatest (reset_in l)) f.latches
resets_within resets f definable allowed =
    let Own : LatchLine → Type 0 = λ l. IsDefinable f.greatest l.literal in
    let Allowed : LatchLine → Type 0 = λ l. allows resets f.greatest l ≡ true in
    rec_weaker (λ l. Own l × Allowed l) (λ l. is_literal f.greatest (reset_in l) ≡ true)
    (λ l h. reset_within resets f.greatest l h.0 h.1) f.latches
    (rec_both Own Allowed f.latches (on_latches (IsDefinable f.greatest) f definable) allowed)

-- a variable of a compact file is known
pub known_within : (f : File) → HasGoodLines f → is_compact f ≡ true → (v : ℕ) → v ≤ f.greatest
    → is_known f v ≡ true
known_within f good compact zero h = refl
known_within f good compact (suc v) h =
    let same : eqb (suc v) 0 ≡ false = ne_eqb (suc v) 0 (λ e. omega (arith, e)) in
    ap (λ b. b || is_defined f (suc v)) same
    ∙ all_there f.greatest (defined f) good.definable good.distinct (compact_exact f compact)
    (suc v) (omega arith) h

pub compact_knows : (f : File) → HasGoodLines f → is_compact f ≡ true → knows_resets f ≡ true
compact_knows f good compact =
    (all_pass (λ l. is_known f (reset_in l / 2)) f.latches).1
    (rec_weaker (λ l. is_literal f.greatest (reset_in l) ≡ true)
    (λ l. is_known f (reset_in l / 2) ≡ true) (λ l h. let high =
    leb-true (reset_in l) (2 * f.greatest + 1) h in
    known_within f good compact (reset_in l / 2) (omega (arith, high))) f.latches good.resets)

-- a literal whose variable is known is one of the file's
known_literal : (f : File) → AllByRecursion (IsDefinable f.greatest) (defined f) → (e : ℕ)
    → is_known f (e / 2) ≡ true → is_literal f.greatest e ≡ true
known_literal f definable e known =
    elim (or_cases (e / 2 == 0) (is_defined f (e / 2)) known) [
      | inl none ↦ le-leb e (2 * f.greatest + 1) (omega (arith, eqb-true (e / 2) 0 none))
      | inr there ↦ le-leb e (2 * f.greatest + 1)
          (omega (arith, (any_within f.greatest (e / 2) (defined f) definable there).1))
    ]

-- functions that are known are allowed
functions_allowed : (f : File) → AllByRecursion (IsDefinable f.greatest) (defined f)
    → knows_resets f ≡ true → AllPass (allows Functions f.greatest) f.latches
functions_allowed f definable known =
    rec_weaker (λ l. is_known f (reset_in l / 2) ≡ true) (λ l. allows Functions f.greatest l ≡ true)
    (λ l h. ap (λ b. b || (reset_in l == l.literal)) (known_literal f definable (reset_in l) h))
    f.latches ((all_pass (λ l. is_known f (reset_in l / 2)) f.latches).0 known)

-- the rule of AIGER 1.9 is that of values
plain_is : (own : ℕ) (o : Option ℕ) → is_reset own o ≡
    (is_literal 0 (unwrap_or o 0) || (unwrap_or o 0 == own))
plain_is own None = refl
plain_is own (Some r) = refl

plain_allowed : (greatest : ℕ) (ls : List LatchLine) → AllPass has_reset ls
    → AllPass (allows Values greatest) ls
plain_allowed greatest ls = rec_weaker (λ l. has_reset l ≡ true)
    (λ l. allows Values greatest l ≡ true) (λ l h. sym (plain_is l.literal l.reset) ∙ h) ls

allowed_plain : (greatest : ℕ) (ls : List LatchLine) → AllPass (allows Values greatest) ls
    → AllPass has_reset ls
allowed_plain greatest ls = rec_weaker (λ l. allows Values greatest l ≡ true)
    (λ l. has_reset l ≡ true) (λ l h. plain_is l.literal l.reset ∙ h) ls

-- values are known
value_known : (f : File) (l : LatchLine) → IsKnown f l.literal → allows Values f.greatest l ≡ true
    → is_known f (reset_in l / 2) ≡ true
value_known f l own allowed =
    elim (or_cases (is_literal 0 (reset_in l)) (reset_in l == l.literal) allowed) [
      | inl low ↦ let high = leb-true (reset_in l) 1 low in let none : reset_in l / 2 ≡ 0 =
          omega (arith, high) in ap (is_known f) none
      | inr same ↦ subst (IsKnown f) (sym (eqb-true (reset_in l) l.literal same)) own
    ]

values_known : (f : File) → AllPass (allows Values f.greatest) f.latches → knows_resets f ≡ true
values_known f allowed =
    let Own : LatchLine → Type 0 = λ l. IsKnown f l.literal in
    let Allowed : LatchLine → Type 0 = λ l. allows Values f.greatest l ≡ true in
    (all_pass (λ l. is_known f (reset_in l / 2)) f.latches).1
    (rec_weaker (λ l. Own l × Allowed l) (λ l. is_known f (reset_in l / 2) ≡ true)
    (λ l h. value_known f l h.0 h.1) f.latches
    (rec_both Own Allowed f.latches (on_latches (IsKnown f) f (defined_known f)) allowed))

-- ---- the lines of sections

enough_for : (kind : FileKind) (ns : HeaderNumbers) → has_enough kind ns ≡ true
    → count_defined ns ≤ ns.greatest
enough_for Text ns h = leb-true (count_defined ns) ns.greatest h
enough_for Binary ns h = let exact = eqb-true ns.greatest (count_defined ns) h in omega arith

enough_in : (kind : FileKind) (ns : HeaderNumbers) (f : File) → f.greatest ≡ ns.greatest
    → count_defined (header_of f) ≡ count_defined ns → has_enough kind ns ≡ true
    → has_enough kind (header_of f) ≡ true
enough_in Text ns f top count h = rw (top, count) h
enough_in Binary ns f top count h = rw (top, count) h

-- the next literals of latches that pass
nexts_within : (resets : Resets) (kind : FileKind) (greatest : ℕ) (ls : List LatchLine)
    → AllPass (line_tests_by resets kind greatest).latch ls
    → AllByRecursion (λ l. IsTrue (is_literal greatest l.next)) ls
    × AllPass (allows resets greatest) ls
nexts_within resets kind greatest ls all =
    let test : LatchLine → Bool = (line_tests_by resets kind greatest).latch in
    let told = λ (l : LatchLine) (h : test l ≡ true). and_parts (is_literal greatest l.next)
    (allows resets greatest l) h in (
      rec_weaker (λ l. test l ≡ true) (λ l. is_literal greatest l.next ≡ true) (λ l h. (told l h).0)
          ls all,
      rec_weaker (λ l. test l ≡ true) (λ l. allows resets greatest l ≡ true)
          (λ l h. (told l h).1) ls all,
    )

-- what the lines tell that were read after a good header
pub lines_tell_by : (resets : Resets) (kind : FileKind) (ns : HeaderNumbers) (x : Parts)
    (bytes rest : List ℕ) → has_enough kind ns ≡ true
    → parse_lines_by resets kind ns bytes ≡ Some (x, rest)
    → LinesTell kind ns x × AllPass (λ l. is_literal ns.greatest (reset_in l)) x.latches
lines_tell_by resets kind ns x bytes rest good read =
    let f = file_from ((kind, ns), x) [] in
    let tests = line_tests_by resets kind ns.greatest in
    let s = (Reads-sections tests kind ns).sound bytes (x, rest) read in
    let lines = (file_passes tests f).0 s.2.0 in
    let latches = s.2.1.4 in
    let following = latches.4 in
    let counts : HasCounts kind ns x = record {
      inputs = s.2.1.3.0;
      latches = latches.3.0;
      gates =
          following.4.0;
      placed = lines.placed;
    } in
    let all : length (defined f) ≡ count_defined ns =
    omega (arith, length-defined f, counts.inputs, counts.latches, counts.gates) in
    let header : count_defined (header_of f) ≡ count_defined ns =
    omega (arith, counts.inputs, counts.latches, counts.gates) in
    let high = enough_for kind ns good in
    let variables = variables_fit kind f following.1 refl (enough_in kind ns f refl header good)
    lines.placed following.4.1 lines.defined lines.gates in
    let nexts = nexts_within resets kind ns.greatest f.latches lines.latches in (
      record {
        counts = counts;
        count = all;
        variables = variables;
        in_range = (on_used (λ e. IsTrue (is_literal f.greatest e)) f).1
            (record {
              latches = nexts.0;
              properties = lines.properties;
              gates =
                  variables.operands;
            });
        enough = omega (arith, all, high);
      },
      resets_within resets f variables.definable nexts.1,
    )

-- ---- a file with other resets

module _ (f : File) (ms : List LatchLine) (literals : map literal_in f.latches ≡ map literal_in ms)
    (nexts : map next_in f.latches ≡ map next_in ms) where
  abbrev other : File
  other = record f { latches = ms }

  pub defined_same : defined f ≡ defined other
  defined_same = ap (λ (es : List ℕ). f.inputs ++ es ++ map (λ (g : GateLine). g.lhs) f.gates)
      literals

  used_same : used f ≡ used other
  used_same = ap (λ (es : List ℕ). es ++ entries_of f.properties ++ flat_map
      (λ (g : GateLine). g.rhs0 ∷ g.rhs1 ∷ []) f.gates) nexts

  header_same : header_of f ≡ header_of other
  header_same =
      let count = sym (length-map f.latches literal_in) ∙ ap length literals
      ∙ length-map ms literal_in in
      ap (λ (n : ℕ). let ns : HeaderNumbers = record (header_of f) { latches = n } in ns) count

  pub compact_same : is_compact f ≡ is_compact other
  compact_same = ap (λ (es : List ℕ). (f.greatest == length es) && are_in_order f.gates)
      defined_same

  uses_same : uses_known f ≡ uses_known other
  uses_same = λ i. list_all (λ e. (e / 2 == 0) || list_any (λ d. d / 2 == e / 2) (defined_same i))
      (used_same i)

  order_same : (kind : FileKind) → is_accepted_order kind f ≡ is_accepted_order kind other
  order_same Text = λ i. compact_same i || (uses_same i && list_all (has_level f) f.gates)
  order_same Binary = compact_same

  -- the test after the last gate doesn't look at names
  order_named : (kind : FileKind) → is_accepted_order kind (file_from (parts_of f) []) ≡
      is_accepted_order kind f
  order_named Text = refl
  order_named Binary = refl

  -- where the file passes the tests, the other one fits
  tested_fits : (resets : Resets) (limit : ℕ) (bytes : List ℕ)
      → IsTested (fitting_by resets limit) bytes f → AllPass has_reset ms → Fits other limit
  tested_fits resets limit bytes h plain =
      let passed = h.1 in
      let lines = passed.lines in
      let header = and_parts (has_enough f.kind (header_of f)) (nat_le (f.greatest + 1) limit)
      passed.header in
      let order = and_parts (is_accepted_order f.kind (file_from (parts_of f) [])) (knows_resets f)
      passed.sections in
      let following = h.0.sections.3.4.4.4 in
      let v = variables_fit f.kind f following.1 refl header.0 lines.placed following.4
      lines.defined lines.gates in
      let in_range = (on_used (λ e. IsTrue (is_literal f.greatest e)) f).1
      (record {
        latches = (nexts_within resets f.kind f.greatest f.latches lines.latches).0;
        properties = lines.properties;
        gates = v.operands;
      }) in
      let named = (names_by_line f).0 passed.names in
      record {
        within = leb-true (f.greatest + 1) limit header.1;
        enough = subst (λ (ns : HeaderNumbers). IsTrue (has_enough f.kind ns)) header_same header.0;
        definable = subst (AllByRecursion (IsDefinable f.greatest)) defined_same v.definable;
        distinct = subst (IsDistinct nat_eq) defined_same v.distinct;
        in_range = subst (AllPass (is_literal f.greatest)) used_same in_range;
        resets = plain;
        order = sym (order_same f.kind) ∙ sym (order_named f.kind) ∙ order.0;
        named = subst (λ (ns : HeaderNumbers). AllPass (is_name ns) f.names) header_same named.0;
        once = named.1;
      }

  -- and the other way round, where its resets are allowed and known
  fits_tested : (resets : Resets) (limit : ℕ) (bytes : List ℕ) → Spells f bytes → Fits other limit
      → AllPass (allows resets f.greatest) f.latches → knows_resets f ≡ true
      → IsTested (fitting_by resets limit) bytes f
  fits_tested resets limit bytes spelled fits allowed known =
      let in_range = (on_used (λ e. IsTrue (is_literal f.greatest e)) f).0
      (subst (AllPass (is_literal f.greatest)) (sym used_same) fits.in_range) in
      let definable = subst (AllByRecursion (IsDefinable f.greatest)) (sym defined_same)
      fits.definable in
      let distinct = subst (IsDistinct nat_eq) (sym defined_same) fits.distinct in
      let order = order_same f.kind ∙ fits.order in
      let enough = subst (λ (ns : HeaderNumbers). IsTrue (has_enough f.kind ns)) (sym header_same)
      fits.enough in
      let named = subst (λ (ns : HeaderNumbers). AllPass (is_name ns) f.names) (sym header_same)
      fits.named in
      let variables = variables_pass f.kind order definable distinct in_range.gates in
      let Next : LatchLine → Type 0 = λ l. is_literal f.greatest l.next ≡ true in
      let Allowed : LatchLine → Type 0 = λ l. allows resets f.greatest l ≡ true in (
        spelled,
        record {
          header = and_from (has_enough f.kind (header_of f)) (nat_le (f.greatest + 1) limit) enough
              (le-leb (f.greatest + 1) limit fits.within);
          lines = record {
            placed = spelled.placed;
            defined = variables.0;
            latches =
                rec_weaker (λ l. Next l × Allowed l)
                (λ l. (line_tests_by resets f.kind f.greatest).latch l ≡ true)
                (λ l k. and_from (is_literal f.greatest l.next) (allows resets f.greatest l) k.0
                k.1) f.latches
                (rec_both Next Allowed f.latches in_range.latches allowed);
            properties = in_range.properties;
            gates = variables.1;
          };
          sections = and_from (is_accepted_order f.kind (file_from (parts_of f) []))
              (knows_resets f) (order_named f.kind ∙ order) known;
          names = (names_by_line f).1 (named, fits.once);
        },
      )
    where
      may_define_all : (xs before : List ℕ)
          → AllAfter (Passes (may_define Binary f.greatest)) before xs
      may_define_all [] before = tt
      may_define_all (x ∷ xs) before = (refl, may_define_all xs (before ++ x ∷ []))

      variables_pass : (kind : FileKind) → is_accepted_order kind f ≡ true
          → AllByRecursion (IsDefinable f.greatest) (defined f) → IsDistinct nat_eq (defined f)
          → AllByRecursion (HasOperands f.greatest) f.gates
          → AllAfter (Passes (may_define kind f.greatest)) [] (defined f)
          × AllPass (may_use kind f.greatest) f.gates
      variables_pass Text order definable distinct operands = (
        (defined_anew f.greatest (defined f)).1 (definable, distinct),
        rec_weaker (HasOperands f.greatest) (λ g. IsTrue (may_use Text f.greatest g))
            (λ g h. and_from (is_literal f.greatest g.rhs0) (is_literal f.greatest g.rhs1) h.0 h.1)
            f.gates operands,
      )
      variables_pass Binary compact definable distinct operands = (
        may_define_all (defined f) [],
        rec_weaker (λ g. IsTrue (is_above_operands g)) (λ g. IsTrue (may_use Binary f.greatest g))
            (λ g h. let first = (above_told g h).0 in lt-ltb g.rhs0 g.lhs (omega arith)) f.gates
            (compact_ordered f compact),
      )

  pub by_level_same : variables_by_level f ≡ variables_by_level other
  by_level_same = ap (λ (es : List ℕ). flat_map
      (λ k. filter (λ v. list_any (λ e. e / 2 == v) es && is_level k (level_of f v))
      (numbers_from f.greatest 1)) (numbers_from (length f.gates + 1) 0)) defined_same

  -- a variable has the same number in both
  pub number_same : (v : ℕ) → node_of_variable f v ≡ node_of_variable other v
  unfolding node_of_variable variables_in_order
  number_same v = λ i. position_of (0 ∷ cond (compact_same i)
      (numbers_from (length (defined_same i)) 1) (by_level_same i)) v

-- ---- files without resets

pub literals_kept : (ls : List LatchLine)
    → map literal_in ls ≡ map literal_in (map without_reset ls)
literals_kept [] = refl
literals_kept (l ∷ ls) = ap (λ (es : List ℕ). l.literal ∷ es) (literals_kept ls)

pub nexts_kept : (ls : List LatchLine) → map next_in ls ≡ map next_in (map without_reset ls)
nexts_kept [] = refl
nexts_kept (l ∷ ls) = ap (λ (es : List ℕ). l.next ∷ es) (nexts_kept ls)

none_written : (ls : List LatchLine) → AllPass has_reset (map without_reset ls)
none_written [] = tt
none_written (l ∷ ls) = (refl, none_written ls)

-- what is read by a rule is accepted by it
pub sound_by : (resets : Resets) (limit : ℕ) (bytes : List ℕ) (f : File)
    → parse_by resets limit bytes ≡ Some f → AcceptsBy resets limit bytes f
sound_by Values limit bytes f read =
    let tested = file_sound (fitting_by Values limit) bytes f read in (
      tested.0,
      tested_fits f f.latches refl refl Values limit bytes tested
          (allowed_plain f.greatest f.latches (nexts_within Values f.kind f.greatest f.latches
          tested.1.lines.latches).1),
    )
sound_by Functions limit bytes f read =
    let tested = file_sound (fitting_by Functions limit) bytes f read in
    let known = (and_parts (is_accepted_order f.kind (file_from (parts_of f) [])) (knows_resets f)
    tested.1.sections).1 in (
      tested.0,
      record {
        rest = tested_fits f (map without_reset f.latches) (literals_kept f.latches)
            (nexts_kept f.latches) Functions limit bytes tested (none_written f.latches);
        resets =
            known;
      },
    )

-- and what is accepted is read
pub complete_by : (resets : Resets) (limit : ℕ) (bytes : List ℕ) (f : File)
    → AcceptsBy resets limit bytes f → parse_by resets limit bytes ≡ Some f
complete_by Values limit bytes f is =
    let allowed = plain_allowed f.greatest f.latches is.1.resets in
    file_complete (fitting_by Values limit) bytes f
    (fits_tested f f.latches refl refl Values limit bytes is.0 is.1 allowed
    (values_known f allowed))
complete_by Functions limit bytes f is =
    let ms = map without_reset f.latches in
    let literals = literals_kept f.latches in
    let nexts = nexts_kept f.latches in
    let definable = subst (AllByRecursion (IsDefinable f.greatest))
    (sym (defined_same f ms literals nexts)) is.1.rest.definable in
    file_complete (fitting_by Functions limit) bytes f
    (fits_tested f ms literals nexts Functions limit bytes is.0 is.1.rest
    (functions_allowed f definable is.1.resets) is.1.resets)

-- the numbers of the literals that inputs and latches define are distinct
pub accepted_distinct : (resets : Resets) (limit : ℕ) (bytes : List ℕ) (f : File)
    → AcceptsBy resets limit bytes f → IsDistinct nat_eq
    (numbers f f.inputs ++ numbers f (map (λ (l : LatchLine). l.literal) f.latches))
accepted_distinct Values limit bytes f is = leaves_distinct f limit is.1
accepted_distinct Functions limit bytes f is =
    let ms = map without_reset f.latches in
    let literals = literals_kept f.latches in
    let same : (λ v. node_of_variable (record f { latches = ms }) v) ≡ (λ v. node_of_variable f v) =
    λ i v. sym (number_same f ms literals (nexts_kept f.latches) v) i in
    subst (λ (es : List ℕ). IsDistinct nat_eq (numbers f f.inputs ++ numbers f es)) (sym literals)
    (subst (λ (number : ℕ → ℕ). IsDistinct nat_eq
    (map (λ e. number (e / 2)) f.inputs ++ map (λ e. number (e / 2)) (map literal_in ms))) same
    (leaves_distinct (record f { latches = ms }) limit is.1.rest))

-- ---- the circuit of a file whose resets are values

module _ (f : File) where
  reset_is : (r own : ℕ) → 2 ≤ own → (r ≤ 1) ⊎ (r ≡ own)
      → cond (r == own) None (Some (edge_of f r)) ≡ cond (nat_lt r 2) (Some (edge_to 0 (r == 1)))
      None
  reset_is zero own high is =
      let differs : (zero == own) ≡ false =
      ne_eqb zero own (λ e. absurd (omega (arith, e, high))) in
      rw (differs) (ap (λ n. Some (edge_to n false)) (node_of_variable-zero f))
  reset_is (suc zero) own high is =
      let differs : (suc zero == own) ≡ false =
      ne_eqb (suc zero) own (λ e. absurd (omega (arith, e, high))) in
      rw (differs) (ap (λ n. Some (edge_to n true)) (node_of_variable-zero f))
  reset_is (suc (suc r)) own high (inl low) = absurd (omega (arith, low))
  reset_is (suc (suc r)) own high (inr same) =
      let great : nat_lt (suc (suc r)) 2 ≡ false = le-ltb (suc (suc r)) 2 (omega arith) in
      ap (λ b. cond b None (Some (edge_of f (suc (suc r))))) (eq-eqb (suc (suc r)) own same)
      ∙ sym (ap (λ b. cond b (Some (edge_to 0 (suc (suc r) == 1))) None) great)

  latch_same : (l : LatchLine) → IsDefinable f.greatest l.literal
      → allows Values f.greatest l ≡ true → latch_with_reset f l ≡ latch_of f l
  latch_same l own allowed =
      let cases : (reset_in l ≤ 1) ⊎ (reset_in l ≡ l.literal) =
      elim (or_cases (is_literal 0 (reset_in l)) (reset_in l == l.literal) allowed) [
        | inl low ↦ inl (leb-true (reset_in l) 1 low)
        | inr same ↦ inr (eqb-true (reset_in l) l.literal same)
      ] in
      let init = reset_is (reset_in l) l.literal (definable_told f.greatest l.literal own).1 cases
      in
      λ i. record (latch_of f l) { init = init i }

  latches_same : (ls : List LatchLine)
      → AllByRecursion (λ l. IsDefinable f.greatest l.literal × (allows Values f.greatest l ≡ true))
      ls → map (latch_with_reset f) ls ≡ map (latch_of f) ls
  latches_same [] all = refl
  latches_same (l ∷ ls) all =
      let one = latch_same l all.0.0 all.0.1 in
      let others = latches_same ls all.1 in
      λ i. one i ∷ others i

  plain_circuit : (limit : ℕ) → Fits f limit → circuit_with_resets f ≡ circuit_of f
  plain_circuit limit fits =
      let Own : LatchLine → Type 0 = λ l. IsDefinable f.greatest l.literal in
      let Allowed : LatchLine → Type 0 = λ l. allows Values f.greatest l ≡ true in
      let latchs = latches_same f.latches (rec_both Own Allowed f.latches
      (on_latches (IsDefinable f.greatest) f fits.definable)
      (plain_allowed f.greatest f.latches fits.resets)) in
      ap (λ (ls : List AigLatch). let c : Circuit = record (circuit_of f) { latchs = ls } in c)
      latchs

-- the lists of a file's circuit, by the rule
pub lists_by : (resets : Resets) (limit : ℕ) (bytes : List ℕ) (f : File) (lists : CircuitLists)
    → AcceptsBy resets limit bytes f → lists_circuit lists ≡ circuit_with_resets f
    → AreListsBy resets f lists
lists_by Values limit bytes f lists is are = are ∙ plain_circuit f limit is.1
lists_by Functions limit bytes f lists is are = are
