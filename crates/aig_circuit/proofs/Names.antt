-- The names that a map holds.
use Rattle.std.proofs.Common.{◌≡◌, ℕ, ◌<◌, Bool, true, false, cond, IsTrue, Option, Some, List, [], ◌∷◌, map, nat_cmp, nat_eq, String, refl, sym, ap, ◌∙◌, arith}
use Rattle.aig_base.proofs.Words.{option_map, string_bytes, is_some, lookup, nat_cmp_total, nat_tests}
use Rattle.std.specs.declared.alloc.Global.{Global}
use Rattle.std.specs.FinMap.{FinMap, insert, get, find, contains_key, get-insert, get-from_entries, same_map, nat_cmp-IsAntisymmetric}
use Rattle.aig_base.proofs.Mapping.{same_test, turned}
use Rattle.aig_circuit.specs.View.{names_of}

option_map_cond : (b : Bool) (v : String Global) (o : Option (String Global)) → option_map string_bytes (cond b (Some v) o) ≡ cond b (Some (string_bytes v)) (option_map string_bytes o)
option_map_cond true v o = refl
option_map_cond false v o = refl

find_names : (es : List (ℕ × String Global)) (q : ℕ) → find nat_cmp q (map (λ (entry : ℕ × String Global). (entry.0, string_bytes entry.1)) es) ≡ option_map string_bytes (lookup (nat_eq q) es)
find_names [] q = refl
find_names (e ∷ es) q =
    ap (λ b. cond b (Some (string_bytes e.1)) (find nat_cmp q (map (λ (entry : ℕ × String Global). (entry.0, string_bytes entry.1)) es))) (same_test q e.0)
    ∙ ap (cond (nat_eq q e.0) (Some (string_bytes e.1))) (find_names es q)
    ∙ sym (option_map_cond (nat_eq q e.0) e.1 (lookup (nat_eq q) es))

-- what name a node has
pub get_names : (es : List (ℕ × String Global)) (q : ℕ) → get (names_of es) q ≡ option_map string_bytes (lookup (nat_eq q) es)
get_names es q = get-from_entries nat_cmp_total _ q ∙ find_names es q

-- entries that differ at one node give names that differ there
pub names_insert : (es fs : List (ℕ × String Global)) (k : ℕ) (v : String Global) → ((q : ℕ) → lookup (nat_eq q) fs ≡ cond (nat_eq k q) (Some v) (lookup (nat_eq q) es)) → names_of fs ≡ insert (names_of es) k (string_bytes v)
names_insert es fs k v h = same_map nat_cmp_total nat_cmp-IsAntisymmetric _ _ (λ q.
    get_names fs q ∙ ap (option_map string_bytes) (h q) ∙ option_map_cond (nat_eq k q) v (lookup (nat_eq q) es)
    ∙ ap (cond (nat_eq k q) (Some (string_bytes v))) (sym (get_names es q))
    ∙ ap (λ b. cond b (Some (string_bytes v)) (get (names_of es) q)) (sym (same_test q k ∙ turned q k))
    ∙ sym (get-insert nat_cmp_total (names_of es) k (string_bytes v) q))

-- only nodes are named, after one of them is
pub named_insert : (names : FinMap nat_cmp (List ℕ)) (k : ℕ) (v : List ℕ) (count : ℕ) → k < count → ((n : ℕ) → IsTrue (contains_key names n) → n < count) → (n : ℕ) → IsTrue (contains_key (insert names k v) n) → n < count
named_insert names k v count h before n has = at (nat_eq n k) refl
  where
    at : (b : Bool) → nat_eq n k ≡ b → n < count
    at true e = (let same : n ≡ k = grind (arith, nat_tests) in omega arith)
    at false e = before n (sym (ap is_some (get-insert nat_cmp_total names k v n ∙ ap (λ b. cond b (Some v) (get names n)) (same_test n k ∙ e))) ∙ has)
