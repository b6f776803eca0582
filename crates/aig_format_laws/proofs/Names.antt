-- The name lines of a circuit, and the names that they stand for.
use Rattle.aig_base.proofs.Words.{◌≡◌, ◌≢◌, ℕ, suc, ◌+◌, ◌<◌, Bool, true, false, cond, ◌&&◌, ◌||◌, Option, Some, None, List, [], ◌∷◌, ◌++◌, length, nat_cmp, refl, sym, ap, subst, ◌∙◌, arith, ◌==◌, filter_map, slice_index, option_map, option_to_list, eq_by_cmp, nat_cmp_total, exact_unsigned, eq-eqb, ne_eqb, eqb-true, nat_tests}
use Rattle.std.specs.List.{AllByRecursion, IsDistinct, cons_option, list_any}
use Rattle.std.specs.FinMap.{FinMap, find, from_entries, get, get-from_entries, get-retain_keys, nat_cmp-IsAntisymmetric, retain_keys, same_map}
use Rattle.aig_format.proofs.Members.{distinct_append}
use Rattle.aig_format.proofs.Words.{File, NameLine, letter_of_inputs, letter_of_latches, same_place, name_lines, named_node}

-- the name line of a letter, a position and a name
abbrev pub line_named : ℕ → ℕ → List ℕ → NameLine
line_named letter position bytes = record { letter = letter; position = position; name = bytes }

-- a node with its name, if it has one
abbrev named : (ℕ → Option (List ℕ)) → ℕ → Option (ℕ × List ℕ)
named name n = option_map (λ bytes. (n, bytes)) (name n)

-- the nodes that have names, with them
abbrev pub with_names : (ℕ → Option (List ℕ)) → List ℕ → List (ℕ × List ℕ)
with_names name ns = filter_map (named name) ns

-- ---- each line

-- each line has what the lines of names have
pub names_all : (P : NameLine → Type 0) (letter p : ℕ) (ns : List ℕ) (name : ℕ → Option (List ℕ)) → ((i : ℕ) (bytes : List ℕ) → i < length ns → name (slice_index ns i) ≡ Some bytes → P (line_named letter (p + i) bytes)) → AllByRecursion P (name_lines letter p ns name)
names_all P letter p [] name each = tt
names_all P letter p (n ∷ ns) name each =
    by_name (name n) refl (names_all P letter (p + 1) ns name (λ i bytes h is. let e : p + suc i ≡ p + 1 + i = omega arith in subst (λ k. P (line_named letter k bytes)) e (each (suc i) bytes (omega arith) is)))
  where
    by_name : (o : Option (List ℕ)) → name n ≡ o → AllByRecursion P (name_lines letter (p + 1) ns name) → AllByRecursion P (option_to_list (option_map (line_named letter p) o) ++ name_lines letter (p + 1) ns name)
    by_name None is rest = rest
    by_name (Some bytes) is rest = let e : p + 0 ≡ p = omega arith in (subst (λ k. P (line_named letter k bytes)) e (each 0 bytes (omega arith) is), rest)

-- ---- no place twice

differs_by_position : (letter p k : ℕ) (b c : List ℕ) → p < k → same_place (line_named letter p b) (line_named letter k c) ≡ false
differs_by_position letter p k b c h = let no : (p == k) ≡ false = ne_eqb p k (λ e. absurd (omega arith)) in rw no (and_false (letter == letter))
  where
    and_false : (b : Bool) → b && false ≡ false
    and_false true = refl
    and_false false = refl

pub names_once : (letter p : ℕ) (ns : List ℕ) (name : ℕ → Option (List ℕ)) → IsDistinct same_place (name_lines letter p ns name)
unfolding IsDistinct
names_once letter p [] name = tt
names_once letter p (n ∷ ns) name =
    by_name (name n) (λ bytes. names_all (λ m. same_place (line_named letter p bytes) m ≡ false) letter (p + 1) ns name (λ i c h is. differs_by_position letter p (p + 1 + i) bytes c (omega arith))) (names_once letter (p + 1) ns name)
  where
    by_name : (o : Option (List ℕ)) → ((bytes : List ℕ) → AllByRecursion (λ m. same_place (line_named letter p bytes) m ≡ false) (name_lines letter (p + 1) ns name))
        → IsDistinct same_place (name_lines letter (p + 1) ns name) → IsDistinct same_place (option_to_list (option_map (line_named letter p) o) ++ name_lines letter (p + 1) ns name)
    by_name None new rest = rest
    by_name (Some bytes) new rest = (new bytes, rest)

-- names of inputs and names of latches
pub names_distinct : (ns ms : List ℕ) (name : ℕ → Option (List ℕ)) → IsDistinct same_place (name_lines letter_of_inputs 0 ns name ++ name_lines letter_of_latches 0 ms name)
names_distinct ns ms name =
    distinct_append same_place (name_lines letter_of_inputs 0 ns name) (name_lines letter_of_latches 0 ms name) (names_once letter_of_inputs 0 ns name) (names_once letter_of_latches 0 ms name)
    (names_all (λ x. AllByRecursion (λ y. same_place x y ≡ false) (name_lines letter_of_latches 0 ms name)) letter_of_inputs 0 ns name (λ i b h is.
    names_all (λ y. same_place (line_named letter_of_inputs (0 + i) b) y ≡ false) letter_of_latches 0 ms name (λ j c k jis. refl)))

-- ---- the names again

-- the lines of a letter name the nodes of a list, where each position does
pub names_again : (f : File) (letter p : ℕ) (ns : List ℕ) (name : ℕ → Option (List ℕ)) → ((i : ℕ) (bytes : List ℕ) → i < length ns → named_node f (line_named letter (p + i) bytes) ≡ Some (slice_index ns i, bytes))
    → filter_map (named_node f) (name_lines letter p ns name) ≡ with_names name ns
names_again f letter p [] name each = refl
names_again f letter p (n ∷ ns) name each =
    by_name (name n) (names_again f letter (p + 1) ns name (λ i bytes h. let e : p + suc i ≡ p + 1 + i = omega arith in subst (λ k. named_node f (line_named letter k bytes) ≡ Some (slice_index ns i, bytes)) e (each (suc i) bytes (omega arith))))
  where
    first : (bytes : List ℕ) → named_node f (line_named letter p bytes) ≡ Some (n, bytes)
    first bytes = let e : p + 0 ≡ p = omega arith in subst (λ k. named_node f (line_named letter k bytes) ≡ Some (n, bytes)) e (each 0 bytes (omega arith))

    by_name : (o : Option (List ℕ)) → filter_map (named_node f) (name_lines letter (p + 1) ns name) ≡ with_names name ns
        → filter_map (named_node f) (option_to_list (option_map (line_named letter p) o) ++ name_lines letter (p + 1) ns name) ≡ cons_option (option_map (λ bytes. (n, bytes)) o) (with_names name ns)
    by_name None rest = rest
    by_name (Some bytes) rest = ap (λ o. cons_option o (filter_map (named_node f) (name_lines letter (p + 1) ns name))) (first bytes) ∙ ap (λ (es : List (ℕ × List ℕ)). (n, bytes) ∷ es) rest

empty : (b : Bool) → cond {A = Option (List ℕ)} b None None ≡ None
empty true = refl
empty false = refl

-- a search among the nodes with names
find_named : (name : ℕ → Option (List ℕ)) (ns : List ℕ) (q : ℕ) → find nat_cmp q (with_names name ns) ≡ cond (list_any (λ m. m == q) ns) (name q) None
find_named name [] q = refl
find_named name (n ∷ ns) q = by_test (n == q) refl (find_named name ns q)
  where
    found : Option (List ℕ) → List (ℕ × List ℕ)
    found o = cons_option (option_map (λ bytes. (n, bytes)) o) (with_names name ns)

    here : n ≡ q → (o : Option (List ℕ)) → name n ≡ o → find nat_cmp q (with_names name ns) ≡ cond (list_any (λ m. m == q) ns) (name q) None → find nat_cmp q (found o) ≡ name q
    here same None is rest = let none : name q ≡ None = ap name (sym same) ∙ is in rest ∙ ap (λ o. cond (list_any (λ m. m == q) ns) o None) none ∙ empty (list_any (λ m. m == q) ns) ∙ sym none
    here same (Some bytes) is rest = let some : name q ≡ Some bytes = ap name (sym same) ∙ is in let test : eq_by_cmp nat_cmp q n ≡ true = grind (arith, nat_tests) in rw (test, some) refl

    there : n ≢ q → (o : Option (List ℕ)) → find nat_cmp q (found o) ≡ find nat_cmp q (with_names name ns)
    there differ None = refl
    there differ (Some bytes) = let test : eq_by_cmp nat_cmp q n ≡ false = grind (arith, nat_tests) in rw test refl

    by_test : (b : Bool) → (n == q) ≡ b → find nat_cmp q (with_names name ns) ≡ cond (list_any (λ m. m == q) ns) (name q) None
        → find nat_cmp q (found (name n)) ≡ cond ((n == q) || list_any (λ m. m == q) ns) (name q) None
    by_test true is rest = rw is (here (eqb-true n q is) (name n) refl rest)
    by_test false is rest = rw is (there (λ e. absurd (false_is_true (sym is ∙ eq-eqb n q e))) (name n) ∙ rest)
      where
        false_is_true : false ≡ true → ⊥
        false_is_true h = absurd cc

-- the names of these nodes, and no others
pub names_kept : (names : FinMap nat_cmp (List ℕ)) (ns : List ℕ) → from_entries (with_names (get names) ns) ≡ retain_keys names (λ n. list_any (λ m. m == n) ns)
names_kept names ns =
    same_map nat_cmp_total nat_cmp-IsAntisymmetric (from_entries (with_names (get names) ns)) (retain_keys names (λ n. list_any (λ m. m == n) ns)) (λ q.
    get-from_entries nat_cmp_total (with_names (get names) ns) q
    ∙ find_named (get names) ns q
    ∙ sym (get-retain_keys names (λ n. list_any (λ m. m == n) ns) q (λ x e. let same : q ≡ x = exact_unsigned q x e in ap (λ n. list_any (λ m. m == n) ns) (sym same))))
