-- Entries of a table as a finite map.
use Rattle.std.proofs.Common.{◌≡◌, ℕ, ◌+◌, false, cond, Some, None, List, [], ◌∷◌, length, nat_cmp, nat_eq, refl, sym, ap, ◌∙◌, arith}
use Rattle.aig_base.proofs.Words.{is_some, eq_by_cmp, AllByRecursion, IsDistinct, nat_cmp_total, nat_tests}
use Rattle.std.specs.Map.{lookup, keys_of}
use Rattle.std.specs.FinMap.{from_entries, insert, get, len, find, contains_key, get-from_entries, get-insert, len-empty, len-insert, same_map, nat_cmp-IsAntisymmetric}
use Rattle.std.proofs.lemmas.Map.Keys.{IsDistinct-head, IsDistinct-tail}

-- the order's test is that of equality
pub same_test : (q k : ℕ) → eq_by_cmp nat_cmp q k ≡ nat_eq q k
same_test q k = grind (arith, nat_tests)

-- either number may stand first
pub turned : (q k : ℕ) → nat_eq q k ≡ nat_eq k q
turned q k = grind (arith, nat_tests)

find_lookup : (es : List (ℕ × ℕ)) (q : ℕ) → find nat_cmp q es ≡ lookup (nat_eq q) es
find_lookup [] q = refl
find_lookup (e ∷ es) q =
    ap (λ b. cond b (Some e.1) (find nat_cmp q es)) (same_test q e.0) ∙ ap (cond (nat_eq q e.0) (Some e.1)) (find_lookup es q)

-- what the map has at a key
pub get_lookup : (es : List (ℕ × ℕ)) (q : ℕ) → get (from_entries {R = nat_cmp} es) q ≡ lookup (nat_eq q) es
get_lookup es q = get-from_entries nat_cmp_total es q ∙ find_lookup es q

-- entries that differ at one key give maps that differ there
pub entries_insert : (es fs : List (ℕ × ℕ)) (k v : ℕ) → ((q : ℕ) → lookup (nat_eq q) fs ≡ cond (nat_eq k q) (Some v) (lookup (nat_eq q) es)) → from_entries {R = nat_cmp} fs ≡ insert (from_entries es) k v
entries_insert es fs k v h = same_map nat_cmp_total nat_cmp-IsAntisymmetric _ _ (λ q.
    get_lookup fs q ∙ h q
    ∙ ap (cond (nat_eq k q) (Some v)) (sym (get_lookup es q))
    ∙ ap (λ b. cond b (Some v) (get (from_entries {R = nat_cmp} es) q)) (sym (same_test q k ∙ turned q k))
    ∙ sym (get-insert nat_cmp_total (from_entries es) k v q))

absent : (es : List (ℕ × ℕ)) (k : ℕ) → AllByRecursion (λ key. nat_eq k key ≡ false) (keys_of es) → lookup (nat_eq k) es ≡ None
absent [] k h = refl
absent (e ∷ es) k h = ap (λ b. cond b (Some e.1) (lookup (nat_eq k) es)) h.0 ∙ absent es k h.1

-- there are as many keys as entries
pub len-from_entries : (es : List (ℕ × ℕ)) → IsDistinct nat_eq (keys_of es) → len (from_entries {R = nat_cmp} es) ≡ length es
len-from_entries [] h = len-empty nat_cmp ℕ
len-from_entries (e ∷ es) h =
    let m = from_entries {R = nat_cmp} es in
    let new : contains_key m e.0 ≡ false = ap is_some (get_lookup es e.0 ∙ absent es e.0 (IsDistinct-head nat_eq e.0 (keys_of es) h)) in
    let rest = len-from_entries es (IsDistinct-tail nat_eq e.0 (keys_of es) h) in
    len-insert nat_cmp_total m e.0 e.1 ∙ ap (λ b. cond b (len m) (len m + 1)) new ∙ omega (arith, rest)
