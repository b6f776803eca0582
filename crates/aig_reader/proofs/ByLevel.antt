-- The numbers of variables by level, and lists under them.
use Rattle.aig_base.proofs.Words.{◌≡◌, ℕ, zero, suc, ◌+◌, ◌/◌, ◌%◌, ◌<◌, ◌≤◌, Bool, true, false, cond, eqb, ltb, ◌||◌, ◌&&◌, List, [], ◌∷◌, ◌++◌, length, map, Option, Some, None, Vec, refl, sym, ap, subst, ◌∙◌, arith, inl, inr, ◌==◌, All, IfSome, is_some, option_map, unwrap_or, AllByRecursion, list_all, flat_map, and_assoc, eqb-true, ltb-true, ltb-false, ne_eqb, false≢true, or_right, and_parts, All-from_recursion, All-map}
use Rattle.std.specs.declared.alloc.Global.{Global}
use Rattle.std.proofs.lemmas.List.{get_or_past}
use Rattle.std.proofs.lemmas.List.Folds.{list_all-append, list_all-map}
use Rattle.aig_circuit.specs.declared.edge.AigEdge.{AigEdge}
use Rattle.aig_circuit.specs.declared.node.AigNode.{AigNode}
use Rattle.aig_circuit.specs.declared.node.AigNodeType.{AigNodeType}
use Rattle.aig_circuit.specs.declared.node.AigNodeType.TheVariants.{False}
use Rattle.aig_circuit.specs.declared.node.AigLatch.{AigLatch}
use Rattle.aig_circuit.proofs.Words.{edge_to, and_of, AllProperties, Properties, map_properties, position_of, renumbered_edge, renumbered_kind, renumbered_latch, properties_of}
use Rattle.aig_circuit.proofs.Building.{and_of-cases, and_of-turned}
use Rattle.aig_format.proofs.Words.{LatchLine, GateLine, File, defined, is_defined, is_known, IsKnown, gate_of_variable, has_level, HasLevel, is_compact, node_of_variable, variables_by_level, variables_in_order, circuit_of, edge_of, kind_of, nodes_from, IsDefinable}
use Rattle.aig_format.proofs.Circuits.{defined_known, differ_from}
use Rattle.aig_format.proofs.Entries.{rec_both, rec_parts, rec_unmap, rec_weaker}
use Rattle.aig_format.proofs.Found.{found_all}
use Rattle.aig_format.proofs.Levels.{levelled}
use Rattle.aig_format.proofs.Members.{has, rec_has}
use Rattle.aig_format.proofs.Numbers.{any_within, node_of_variable-place, order-well_founded}
use Rattle.aig_format.proofs.Orders.{defined-by_level, has-by_level}
use Rattle.aig_format.proofs.Searches.{find_some}
use Rattle.aig_format.proofs.Rules.{all_pass, definable_told, even_literal}
use Rattle.aig_ordering.specs.declared.gates.Operands.{Operands}
use Rattle.aig_ordering.specs.Lists as lists
use Rattle.aig_format.specs.Circuit as of_file
use Rattle.aig_ordering.specs.Gates.{kind_of_operands, nodes_in, nodes_in_from}
use Rattle.aig_ordering.specs.Lists.{edge_from, kind_among, variable_of_literal}
use Rattle.aig_ordering.specs.Tables.{entry_value}
use Rattle.aig_ordering.specs.Numbers.{has_number, has_operands, number_at, number_in, place_in, with_numbers}
use Rattle.aig_renumber.specs.Numbers.{IsEdgeIn, IsLatchIn}
use Rattle.aig_reader.specs.declared.sections.Lists.{Lists}
use Rattle.aig_reader.specs.Numbered.{AreListsByNumber, AreNumbersOf, AreRenumbered, HasNumber, HaveNumbers, edges_pass, have_operands, init_passes, knows, knows_lists, knows_properties, lists_pass, properties_pass, resets_pass}
use Rattle.aig_reader.specs.Resets.{knows_resets, latch_with_reset, reset_in}
use Rattle.aig_reader.specs.Rules.{edge_of_reset, latch_from}
use Rattle.aig_reader.specs.Sections.{AreListsByVariable, HasGoodLines}
use Rattle.aig_reader.proofs.Numbered.{knows_properties-is}

-- ---- lists

all_rec : {A : Type 0} (P : A → Type 0) → ((x : A) → P x) → (xs : List A) → AllByRecursion P xs
all_rec P h [] = tt
all_rec P h (x ∷ xs) = (h x, all_rec P h xs)

-- entries that are mapped twice, and what they are mapped to
map_twice : {A B C : Type 0} (g : B → C) (h : A → B) (k : A → C) (xs : List A) → AllByRecursion (λ x. g (h x) ≡ k x) xs → map g (map h xs) ≡ map k xs
map_twice g h k [] same = refl
map_twice {C = C} g h k (x ∷ xs) same = ap (λ (y : C). y ∷ map g (map h xs)) same.0 ∙ ap (λ (ys : List C). k x ∷ ys) (map_twice g h k xs same.1)

-- ---- the table of numbers

module _ (f : File) (good : HasGoodLines f) (well_founded : is_compact f ≡ false) (levels : list_all (has_level f) f.gates ≡ true) where
  all_levels : AllByRecursion (HasLevel f) f.gates
  all_levels = (all_pass (has_level f) f.gates).0 levels

  abbrev order : List ℕ
  order = 0 ∷ variables_by_level f

  order_is : order ≡ 0 ∷ variables_in_order f
  order_is = ap (λ (vs : List ℕ). 0 ∷ vs) (sym (order-well_founded f well_founded))

  known_there : (v : ℕ) → is_known f v ≡ true → has order v ≡ true
  known_there zero known = refl
  known_there (suc v) known =
      let other : eqb 0 (suc v) ≡ false = ne_eqb 0 (suc v) (λ e. omega (arith, e)) in
      let same : eqb (suc v) 0 ≡ false = ne_eqb (suc v) 0 (λ e. omega (arith, e)) in
      let there : is_defined f (suc v) ≡ true = ap (λ b. b || is_defined f (suc v)) (sym same) ∙ known in
      let bounds = any_within f.greatest (suc v) (defined f) good.definable there in
      let level = levelled f all_levels (suc v) in
      ap (λ b. b || has (variables_by_level f) (suc v)) other ∙ has-by_level f (suc v) level.0 there bounds.0 bounds.1 level.1

  order_known : AllByRecursion (λ v. is_known f v ≡ true) order
  order_known = (refl, rec_weaker (λ v. is_defined f v ≡ true) (λ v. is_known f v ≡ true) (λ v h. or_right (v == 0) (is_defined f v) h) (variables_by_level f) (defined-by_level f))

  -- the order has exactly what is 0 or defined
  is_there : (v : ℕ) → has order v ≡ is_known f v
  is_there v = by_tests (has order v) (is_known f v) refl refl
    where
      by_tests : (s t : Bool) → has order v ≡ s → is_known f v ≡ t → has order v ≡ is_known f v
      by_tests true t there known = there ∙ sym (rec_has (λ v. is_known f v ≡ true) order v there order_known)
      by_tests false true there known = absurd (false≢true (sym there ∙ known_there v known))
      by_tests false false there known = there ∙ sym known

  -- what is known is within the file
  within : (v : ℕ) → is_known f v ≡ true → v ≤ f.greatest
  within zero known = omega arith
  within (suc v) known =
      let same : eqb (suc v) 0 ≡ false = ne_eqb (suc v) 0 (λ e. omega (arith, e)) in
      (any_within f.greatest (suc v) (defined f) good.definable (ap (λ b. b || is_defined f (suc v)) (sym same) ∙ known)).1

  pub numbers_are : (numbers : List ℕ) → length numbers ≡ f.greatest + 1 → ((v : ℕ) → v < f.greatest + 1 → number_at numbers v ≡ place_in order v) → AreNumbersOf f numbers
  numbers_are numbers count table v = by_bound (ltb v (f.greatest + 1)) refl
    where
      by_known : (b : Bool) → is_known f v ≡ b → f.greatest + 1 ≤ v → number_at numbers v ≡ cond (is_known f v) (Some (node_of_variable f v)) None
      by_known true known high = absurd (omega (arith, within v known))
      by_known false known high = ap entry_value (get_or_past numbers v 0 (omega (arith, count))) ∙ ap (λ b. cond b (Some (node_of_variable f v)) None) (sym known)

      by_bound : (b : Bool) → ltb v (f.greatest + 1) ≡ b → number_at numbers v ≡ cond (is_known f v) (Some (node_of_variable f v)) None
      by_bound true low =
          table v (ltb-true v (f.greatest + 1) low) ∙ ap (λ b. cond b (Some (position_of order v)) None) (is_there v)
          ∙ ap (λ n. cond (is_known f v) (Some n) None) (ap (λ vs. position_of vs v) order_is ∙ sym (node_of_variable-place f v))
      by_bound false high = by_known (is_known f v) refl (let le = ltb-false v (f.greatest + 1) high in omega (arith, le))

-- ---- lists under the numbers

module _ (f : File) (table : List ℕ) (are : AreNumbersOf f table) where
  abbrev number : ℕ → ℕ
  number = number_in table

  -- exactly what is known has a number
  has_is : (v : ℕ) → has_number table v ≡ is_known f v
  has_is v = ap is_some (are v) ∙ by_test (is_known f v)
    where
      by_test : (b : Bool) → is_some (cond b (Some (node_of_variable f v)) None) ≡ b
      by_test true = refl
      by_test false = refl

  has_same : has_number table ≡ is_known f
  has_same = λ i v. has_is v i

  number_is : (v : ℕ) → is_known f v ≡ true → number v ≡ node_of_variable f v
  number_is v known = ap (λ (o : Option ℕ). unwrap_or o 0) (are v ∙ ap (λ b. cond b (Some (node_of_variable f v)) None) known)

  abbrev HaveEdges : List AigEdge → Type 0
  HaveEdges es = All (IsEdgeIn (HasNumber table)) es

  abbrev knows_one : ℕ → Bool
  knows_one e = is_known f (e / 2)

  edge_is : (e : ℕ) → knows_one e ≡ true → renumbered_edge number (edge_from e) ≡ edge_of f e
  edge_is e known = ap (λ n. edge_to n (e % 2 == 1)) (number_is (e / 2) known)

  edges_known : (es : List ℕ) → edges_pass (has_number table) (map edge_from es) ≡ knows f es
  edges_known es = list_all-map (λ (e : AigEdge). has_number table e.node_id) edge_from es ∙ ap (λ (test : ℕ → Bool). list_all (λ e. test (e / 2)) es) has_same

  edges_are : (es : List ℕ) → knows f es ≡ true → map (renumbered_edge number) (map edge_from es) ≡ map (edge_of f) es
  edges_are es known = map_twice (renumbered_edge number) edge_from (edge_of f) es (rec_weaker (λ e. knows_one e ≡ true) (λ e. renumbered_edge number (edge_from e) ≡ edge_of f e) edge_is es ((all_pass knows_one es).0 known))

  sets_joined : (sets : List (List ℕ)) → list_all (knows f) sets ≡ knows f (flat_map (λ s. s) sets)
  sets_joined [] = refl
  sets_joined (es ∷ sets) = ap (λ b. knows f es && b) (sets_joined sets) ∙ sym (list_all-append knows_one es (flat_map (λ s. s) sets))

  sets_known : (sets : List (List ℕ)) → list_all (edges_pass (has_number table)) (map (map edge_from) sets) ≡ knows f (flat_map (λ s. s) sets)
  sets_known sets =
      let same : (λ es. edges_pass (has_number table) (map edge_from es)) ≡ knows f = λ i es. edges_known es i in
      list_all-map (edges_pass (has_number table)) (map edge_from) sets ∙ ap (λ (test : List ℕ → Bool). list_all test sets) same ∙ sets_joined sets

  sets_are : (sets : List (List ℕ)) → knows f (flat_map (λ s. s) sets) ≡ true → map (map (renumbered_edge number)) (map (map edge_from) sets) ≡ map (map (edge_of f)) sets
  sets_are sets known =
      map_twice (map (renumbered_edge number)) (map edge_from) (map (edge_of f)) sets
      (rec_weaker (λ es. knows f es ≡ true) (λ es. map (renumbered_edge number) (map edge_from es) ≡ map (edge_of f) es) edges_are sets ((all_pass (knows f) sets).0 (sets_joined sets ∙ known)))

  -- ---- latches

  leaves_known : AllByRecursion (IsKnown f) f.inputs × AllByRecursion (λ (l : LatchLine). IsKnown f l.literal) f.latches
  leaves_known =
      let literals = map (λ (l : LatchLine). l.literal) f.latches in
      let both = rec_parts (IsKnown f) f.inputs literals (rec_parts (IsKnown f) (f.inputs ++ literals) (map (λ (g : GateLine). g.lhs) f.gates) (defined_known f)).0 in
      (both.0, rec_unmap (IsKnown f) (λ (l : LatchLine). l.literal) f.latches both.1)

  abbrev knows_next : LatchLine → Bool
  knows_next l = knows_one l.next

  abbrev knows_reset : LatchLine → Bool
  knows_reset l = knows_one (reset_in l)

  -- what is known of a latch whose edges have numbers
  abbrev IsKnownLatch : LatchLine → Type 0
  IsKnownLatch l = IsKnown f l.literal × ((knows_next l ≡ true) × (knows_reset l ≡ true))

  latches_known : knows f (map (λ (l : LatchLine). l.next) f.latches) ≡ true → knows_resets f ≡ true
      → AllByRecursion IsKnownLatch f.latches
  latches_known known resets =
      let nexts = (all_pass knows_next f.latches).0 (sym (list_all-map knows_one (λ (l : LatchLine). l.next) f.latches) ∙ known) in
      rec_both (λ (l : LatchLine). IsKnown f l.literal) (λ l. (knows_next l ≡ true)
      × (knows_reset l ≡ true)) f.latches leaves_known.1
      (rec_both (λ l. knows_next l ≡ true) (λ l. knows_reset l ≡ true) f.latches nexts
      ((all_pass knows_reset f.latches).0 resets))

  nexts_known : list_all (λ (l : AigLatch). has_number table l.next.node_id)
      (map latch_from f.latches) ≡ knows f (map (λ (l : LatchLine). l.next) f.latches)
  nexts_known =
      list_all-map (λ (l : AigLatch). has_number table l.next.node_id) latch_from f.latches
      ∙ ap (λ (test : ℕ → Bool). list_all (λ (l : LatchLine). test (l.next / 2)) f.latches)
      has_same
      ∙ sym (list_all-map knows_one (λ (l : LatchLine). l.next) f.latches)

  -- the initial edge of a latch has a number where its variable is known
  init_known : (l : LatchLine) → IsKnown f l.literal
      → init_passes (has_number table) (edge_of_reset l) ≡ knows_reset l
  init_known l own = by_own (reset_in l == l.literal) refl
    where
      by_own : (b : Bool) → (reset_in l == l.literal) ≡ b
          → init_passes (has_number table) (cond b None (Some (edge_from (reset_in l)))) ≡
          knows_reset l
      by_own true is = sym (subst (IsKnown f) (sym (eqb-true (reset_in l) l.literal is)) own)
      by_own false is = has_is (reset_in l / 2)

  inits_known : (ls : List LatchLine) → AllByRecursion (λ (l : LatchLine). IsKnown f l.literal) ls
      → list_all (λ (l : AigLatch). init_passes (has_number table) l.init) (map latch_from ls) ≡
      list_all knows_reset ls
  inits_known [] all = refl
  inits_known (l ∷ ls) all =
      let one = init_known l all.0 in
      let others = inits_known ls all.1 in
      λ i. one i && others i

  latch_is : (l : LatchLine) → IsKnownLatch l
      → renumbered_latch number (latch_from l) ≡ latch_with_reset f l
  latch_is l known =
      let leaf = number_is (l.literal / 2) known.0 in
      let next = edge_is l.next known.1.0 in
      let init = by_own (reset_in l == l.literal) in
      λ i. record { input = leaf i; next = next i; init = init i }
    where
      by_own : (b : Bool) → option_map (renumbered_edge number)
          (cond b None (Some (edge_from (reset_in l)))) ≡ cond b None
          (Some (edge_of f (reset_in l)))
      by_own true = refl
      by_own false = ap (λ (e : AigEdge). Some e) (edge_is (reset_in l) known.1.1)

  latch_has : (l : LatchLine) → IsKnownLatch l → IsLatchIn (HasNumber table) (latch_from l)
  latch_has l known = record {
    leaf = has_is (l.literal / 2) ∙ known.0;
    next = has_is (l.next / 2) ∙ known.1.0;
    init = by_own (reset_in l == l.literal);
  }
    where
      by_own : (b : Bool) → IfSome (cond b None (Some (edge_from (reset_in l))))
          (IsEdgeIn (HasNumber table))
      by_own true = tt
      by_own false = has_is (reset_in l / 2) ∙ known.1.1

  -- ---- the lists of a file

  module _ (old : Lists) (made : AreListsByVariable old f) where
    properties_known : properties_pass (has_number table) old.properties ≡ knows_properties f
    properties_known =
        let p = f.properties in
        let have = edges_pass (has_number table) in
        let outputs = ap (λ (q : Properties AigEdge). have q.outputs) made.properties ∙ edges_known p.outputs in
        let bads = ap (λ (q : Properties AigEdge). have q.bads) made.properties ∙ edges_known p.bads in
        let constraints = ap (λ (q : Properties AigEdge). have q.constraints) made.properties ∙ edges_known p.constraints in
        let justice =
        sym (list_all-map have (λ (set : Vec AigEdge Global). set.items) old.properties.justice.items) ∙ ap (λ (q : Properties AigEdge). list_all have q.justice) made.properties ∙ sets_known p.justice in
        let fairness = ap (λ (q : Properties AigEdge). have q.fairness) made.properties ∙ edges_known p.fairness in
        (λ i. outputs i && bads i && constraints i && justice i && fairness i) ∙ sym (knows_properties-is f)

    -- the variables of all entries have numbers exactly where all are known
    pub lists_known : lists_pass (has_number table) old ≡ knows_lists f
    lists_known =
        let nexts = ap (list_all (λ (l : AigLatch). has_number table l.next.node_id)) made.latchs ∙ nexts_known in
        λ i. nexts i && properties_known i

    -- and those of initial edges
    pub resets_known : resets_pass (has_number table) old ≡ knows_resets f
    resets_known = ap (list_all (λ (l : AigLatch). init_passes (has_number table) l.init))
        made.latchs ∙ inits_known f.latches leaves_known.1

    module _ (known : knows_lists f ≡ true) (resets : knows_resets f ≡ true) where
      parts : (knows f (map (λ (l : LatchLine). l.next) f.latches) ≡ true) × (knows_properties f ≡ true)
      parts = and_parts (knows f (map (λ (l : LatchLine). l.next) f.latches)) (knows_properties f) known

      -- then they all have numbers
      pub lists_have : HaveNumbers table old
      lists_have = record {
        inputs =
            subst (All (HasNumber table)) (sym made.inputs)
            (All-map (HasNumber table) variable_of_literal f.inputs (All-from_recursion (λ e. HasNumber table (e / 2)) f.inputs (rec_weaker (IsKnown f) (λ e. HasNumber table (e / 2)) (λ e h. has_is (e / 2) ∙ h) f.inputs leaves_known.0)));
        latchs =
            subst (All (IsLatchIn (HasNumber table))) (sym made.latchs)
            (All-map (IsLatchIn (HasNumber table)) latch_from f.latches
            (All-from_recursion (λ l. IsLatchIn (HasNumber table) (latch_from l)) f.latches
            (rec_weaker IsKnownLatch (λ l. IsLatchIn (HasNumber table) (latch_from l)) latch_has
            f.latches (latches_known parts.0 resets))));
        properties = properties_have;
      }
        where
          from_test : (es : List AigEdge) → edges_pass (has_number table) es ≡ true → HaveEdges es
          from_test es h = All-from_recursion (IsEdgeIn (HasNumber table)) es ((all_pass (λ (e : AigEdge). has_number table e.node_id) es).0 h)

          properties_have : AllProperties (IsEdgeIn (HasNumber table)) (properties_of old.properties)
          properties_have =
              let items = λ (set : Vec AigEdge Global). set.items in
              let p = old.properties in
              let have = edges_pass (has_number table) in
              let sets = λ (ss : List (Vec AigEdge Global)). list_all (λ (set : Vec AigEdge Global). have set.items) ss in
              let four = and_parts (have p.outputs.items && have p.bads.items && have p.constraints.items && sets p.justice.items) (have p.fairness.items) (properties_known ∙ parts.1) in
              let three = and_parts (have p.outputs.items && have p.bads.items && have p.constraints.items) (sets p.justice.items) four.0 in
              let two = and_parts (have p.outputs.items && have p.bads.items) (have p.constraints.items) three.0 in
              let one = and_parts (have p.outputs.items) (have p.bads.items) two.0 in
              record {
                outputs = from_test p.outputs.items one.0;
                bads = from_test p.bads.items one.1;
                constraints = from_test p.constraints.items two.1;
                justice =
                    All-map HaveEdges items p.justice.items
                    (All-from_recursion (λ set. HaveEdges set.items) p.justice.items
                    (rec_weaker (λ (set : Vec AigEdge Global). have set.items ≡ true) (λ set. HaveEdges set.items) (λ set h. from_test set.items h) p.justice.items ((all_pass (λ (set : Vec AigEdge Global). have set.items) p.justice.items).0 three.1)));
                fairness = from_test p.fairness.items four.1;
              }

      -- and under these they are the lists of the file's circuit
      pub lists_numbered : (new : Lists) → AreRenumbered table old new → AreListsByNumber f new
      lists_numbered new moved = record {
        inputs =
            moved.inputs ∙ ap (map number) made.inputs
            ∙ map_twice number variable_of_literal (λ e. node_of_variable f (e / 2)) f.inputs (rec_weaker (IsKnown f) (λ e. number (e / 2) ≡ node_of_variable f (e / 2)) (λ e h. number_is (e / 2) h) f.inputs leaves_known.0);
        latchs =
            moved.latchs ∙ ap (map (renumbered_latch number)) made.latchs
            ∙ map_twice (renumbered_latch number) latch_from (latch_with_reset f) f.latches
            (rec_weaker IsKnownLatch (λ l. renumbered_latch number (latch_from l) ≡
            latch_with_reset f l) latch_is f.latches (latches_known parts.0 resets));
        properties = moved.properties ∙ ap (map_properties (renumbered_edge number)) made.properties ∙ properties_are;
      }
        where
          properties_are : map_properties (renumbered_edge number) (map_properties edge_from f.properties) ≡ map_properties (edge_of f) f.properties
          properties_are =
              let p = f.properties in
              let sets = flat_map (λ (s : List ℕ). s) p.justice in
              let all = sym (knows_properties-is f) ∙ parts.1 in
              let four = and_parts (knows f p.outputs && knows f p.bads && knows f p.constraints && knows f sets) (knows f p.fairness) all in
              let three = and_parts (knows f p.outputs && knows f p.bads && knows f p.constraints) (knows f sets) four.0 in
              let two = and_parts (knows f p.outputs && knows f p.bads) (knows f p.constraints) three.0 in
              let one = and_parts (knows f p.outputs) (knows f p.bads) two.0 in
              let outputs = edges_are p.outputs one.0 in
              let bads = edges_are p.bads one.1 in
              let constraints = edges_are p.constraints two.1 in
              let justice = sets_are p.justice three.1 in
              let fairness = edges_are p.fairness four.1 in
              λ i. record { outputs = outputs i; bads = bads i; constraints = constraints i; justice = justice i; fairness = fairness i }

  -- ---- nodes

  abbrev gate_known : GateLine → Bool
  gate_known g = knows_one g.rhs0 && knows_one g.rhs1

  and_swap : (s t : Bool) → (s && t) ≡ t && s
  and_swap true true = refl
  and_swap true false = refl
  and_swap false true = refl
  and_swap false false = refl

  -- a gate has numbers where its operands are known
  gate_has : (g : GateLine) → has_operands table (and_of (edge_from g.rhs0) (edge_from g.rhs1)) ≡ gate_known g
  gate_has g =
      let both : (has_number table (g.rhs0 / 2) && has_number table (g.rhs1 / 2)) ≡ gate_known g = λ i. has_is (g.rhs0 / 2) i && has_is (g.rhs1 / 2) i in
      elim (and_of-cases (edge_from g.rhs0) (edge_from g.rhs1)) [
        | inl c ↦ ap (has_operands table) c.0 ∙ and_swap (has_number table (g.rhs1 / 2)) (has_number table (g.rhs0 / 2)) ∙ both
        | inr c ↦ ap (has_operands table) c.0 ∙ both
      ]

  -- and is then the and of these
  gate_is : (g : GateLine) → gate_known g ≡ true → renumbered_kind number (Some (and_of (edge_from g.rhs0) (edge_from g.rhs1))) ≡ and_of (edge_of f g.rhs0) (edge_of f g.rhs1)
  gate_is g known =
      let p = and_parts (knows_one g.rhs0) (knows_one g.rhs1) known in
      let first = edge_is g.rhs0 p.0 in
      let second = edge_is g.rhs1 p.1 in
      let under = λ (k : AigNodeType). renumbered_kind number (Some k) in
      elim (and_of-cases (edge_from g.rhs0) (edge_from g.rhs1)) [
        | inl c ↦ ap under c.0 ∙ (λ i. and_of (second i) (first i)) ∙ and_of-turned (edge_of f g.rhs1) (edge_of f g.rhs0)
        | inr c ↦ ap under c.0 ∙ (λ i. and_of (first i) (second i))
      ]

  -- whether the operands of a variable's gate have numbers
  abbrev known_by : Option GateLine → Bool
  known_by None = true
  known_by (Some g) = gate_known g

  abbrev kind_known : ℕ → Bool
  kind_known v = cond (v == 0) true (known_by (gate_of_variable f v))

  kind_has : (v : ℕ) → has_operands table (kind_among f.gates v) ≡ kind_known v
  kind_has v = by_zero (v == 0)
    where
      by_gate : (o : Option GateLine) → has_operands table (lists.kind_of_line o) ≡ known_by o
      by_gate None = refl
      by_gate (Some g) = gate_has g

      by_zero : (b : Bool) → has_operands table (cond b False (lists.kind_of_line (gate_of_variable f v))) ≡ cond b true (known_by (gate_of_variable f v))
      by_zero true = refl
      by_zero false = by_gate (gate_of_variable f v)

  kind_is : (v : ℕ) → kind_known v ≡ true → renumbered_kind number (Some (kind_among f.gates v)) ≡ kind_of f v
  kind_is v known = by_zero (v == 0) known
    where
      by_gate : (o : Option GateLine) → known_by o ≡ true → renumbered_kind number (Some (lists.kind_of_line o)) ≡ of_file.kind_by f o
      by_gate None h = refl
      by_gate (Some g) h = gate_is g h

      by_zero : (b : Bool) → cond b true (known_by (gate_of_variable f v)) ≡ true → renumbered_kind number (Some (cond b False (lists.kind_of_line (gate_of_variable f v)))) ≡ cond b False (of_file.kind_by f (gate_of_variable f v))
      by_zero true h = refl
      by_zero false h = by_gate (gate_of_variable f v) h

  operands_known : (gs : List GateLine) → knows f (flat_map (λ g. g.rhs0 ∷ g.rhs1 ∷ []) gs) ≡ list_all gate_known gs
  operands_known [] = refl
  operands_known (g ∷ gs) = ap (λ b. knows_one g.rhs0 && (knows_one g.rhs1 && b)) (operands_known gs) ∙ sym (and_assoc (knows_one g.rhs0) (knows_one g.rhs1) (list_all gate_known gs))

  -- ---- nodes in a row

  -- nodes of these kinds are under the numbers those of the file
  row_is : (w : ℕ) (gates : List (Option Operands)) (vs : List ℕ) → map (λ (node : AigNode). node.typ) (nodes_in_from w gates) ≡ map (kind_among f.gates) vs → AllByRecursion (λ v. kind_known v ≡ true) vs
      → map (with_numbers table) (nodes_in_from w gates) ≡ nodes_from f w vs
  row_is w [] [] kinds known = refl
  row_is w [] (v ∷ vs) kinds known = absurd cc
  row_is w (gate ∷ gates) [] kinds known = absurd cc
  row_is w (gate ∷ gates) (v ∷ vs) kinds known =
      let first : kind_of_operands w gate ≡ kind_among f.gates v = cc in
      let rest = row_is (w + 1) gates vs (cc) known.1 in
      let typ = ap (λ (k : AigNodeType). renumbered_kind number (Some k)) first ∙ kind_is v known.0 in
      λ i. record { node_id = w; typ = typ i } ∷ rest i

  module _ (good : HasGoodLines f) (well_founded : is_compact f ≡ false) (levels : list_all (has_level f) f.gates ≡ true) where
    abbrev in_order : List ℕ
    in_order = 0 ∷ variables_by_level f

    gates_found : AllByRecursion (λ (g : GateLine). gate_of_variable f (g.lhs / 2) ≡ Some g) f.gates
    gates_found =
        let leaves = f.inputs ++ map (λ (l : LatchLine). l.literal) f.latches in
        let lefts = map (λ (g : GateLine). g.lhs) f.gates in
        let definable = rec_unmap (IsDefinable f.greatest) (λ (g : GateLine). g.lhs) f.gates (rec_parts (IsDefinable f.greatest) leaves lefts good.definable).1 in
        found_all (λ (g : GateLine). g.lhs) f.gates (rec_weaker (λ (g : GateLine). IsDefinable f.greatest g.lhs) (λ (g : GateLine). g.lhs % 2 ≡ 0) (λ g d. even_literal f.greatest g.lhs d) f.gates definable) (differ_from leaves lefts good.distinct).1

    -- a gate whose variable is in the order and has known operands there
    gate_told : AllByRecursion (λ v. kind_known v ≡ true) in_order → (g : GateLine) → IsDefinable f.greatest g.lhs → IsKnown f g.lhs → gate_of_variable f (g.lhs / 2) ≡ Some g → gate_known g ≡ true
    gate_told all g d known found =
        let low = (definable_told f.greatest g.lhs d).1 in
        let there = rec_has (λ v. kind_known v ≡ true) in_order (g.lhs / 2) (known_there f good well_founded levels (g.lhs / 2) known) all in
        sym (ap (λ b. cond b true (known_by (gate_of_variable f (g.lhs / 2)))) (ne_eqb (g.lhs / 2) 0 (λ e. omega (arith, e))) ∙ ap known_by found) ∙ there

    gates_told : AllByRecursion (λ v. kind_known v ≡ true) in_order → AllByRecursion (λ g. gate_known g ≡ true) f.gates
    gates_told all =
        let leaves = f.inputs ++ map (λ (l : LatchLine). l.literal) f.latches in
        let lefts = map (λ (g : GateLine). g.lhs) f.gates in
        let Definable = λ (g : GateLine). IsDefinable f.greatest g.lhs in
        let Known = λ (g : GateLine). IsKnown f g.lhs in
        let Found = λ (g : GateLine). gate_of_variable f (g.lhs / 2) ≡ Some g in
        let definable = rec_unmap (IsDefinable f.greatest) (λ (g : GateLine). g.lhs) f.gates (rec_parts (IsDefinable f.greatest) leaves lefts good.definable).1 in
        let known = rec_unmap (IsKnown f) (λ (g : GateLine). g.lhs) f.gates (rec_parts (IsKnown f) leaves lefts (defined_known f)).1 in
        rec_weaker (λ g. Definable g × (Known g × Found g)) (λ g. gate_known g ≡ true) (λ g h. gate_told all g h.0 h.1.0 h.1.1) f.gates
        (rec_both Definable (λ g. Known g × Found g) f.gates definable (rec_both Known Found f.gates known gates_found))

    kind_told : AllByRecursion (λ g. gate_known g ≡ true) f.gates → (v : ℕ) → kind_known v ≡ true
    kind_told all v = by_zero (v == 0)
      where
        by_gate : (o : Option GateLine) → gate_of_variable f v ≡ o → known_by o ≡ true
        by_gate None none = refl
        by_gate (Some g) found = (find_some (λ g. gate_known g ≡ true) (λ h. h.lhs / 2 == v) f.gates g all found).1

        by_zero : (b : Bool) → cond b true (known_by (gate_of_variable f v)) ≡ true
        by_zero true = refl
        by_zero false = by_gate (gate_of_variable f v) refl

    -- the nodes in the order have known operands exactly where all gates have
    kinds_known : list_all kind_known in_order ≡ have_operands f
    kinds_known = by_tests (list_all kind_known in_order) (list_all gate_known f.gates) refl refl ∙ sym (operands_known f.gates)
      where
        by_tests : (s t : Bool) → list_all kind_known in_order ≡ s → list_all gate_known f.gates ≡ t → list_all kind_known in_order ≡ list_all gate_known f.gates
        by_tests true t kinds gates = kinds ∙ sym ((all_pass gate_known f.gates).1 (gates_told ((all_pass kind_known in_order).0 kinds)))
        by_tests false true kinds gates = (all_pass kind_known in_order).1 (all_rec (λ v. kind_known v ≡ true) (kind_told ((all_pass gate_known f.gates).0 gates)) in_order) ∙ sym gates
        by_tests false false kinds gates = kinds ∙ sym gates

    module _ (sorted : List (Option Operands)) (kinds : map (λ (node : AigNode). node.typ) (nodes_in sorted) ≡ map (kind_among f.gates) in_order) where
      -- the nodes of the order have numbers of operands exactly where all gates have known ones
      pub nodes_known : list_all (λ (node : AigNode). has_operands table node.typ) (nodes_in sorted) ≡ have_operands f
      nodes_known =
          let same : (λ v. has_operands table (kind_among f.gates v)) ≡ kind_known = λ i v. kind_has v i in
          sym (list_all-map (has_operands table) (λ (node : AigNode). node.typ) (nodes_in sorted)) ∙ ap (list_all (has_operands table)) kinds
          ∙ list_all-map (has_operands table) (kind_among f.gates) in_order ∙ ap (λ (test : ℕ → Bool). list_all test in_order) same ∙ kinds_known

      -- and are then those of the file's circuit
      pub nodes_are : have_operands f ≡ true → map (with_numbers table) (nodes_in sorted) ≡ (circuit_of f).nodes
      nodes_are known =
          row_is 0 sorted in_order kinds ((all_pass kind_known in_order).0 (kinds_known ∙ known)) ∙ ap (λ (vs : List ℕ). nodes_from f 0 vs) (order_is f good well_founded levels)
