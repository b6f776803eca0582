-- Names under other numbers.
use Rattle.std.proofs.Common.{◌≡◌, ℕ, zero, suc, ◌<◌, Bool, true, false, cond, eqb, nat_cmp, Option, Some, None, List, [], ◌∷◌, length, map, get_or, refl, sym, ap, subst, ◌∙◌, arith, IsTrue, ◌++◌, nat_eq, String, Global, length-append, append_assoc, append-nil}
use Rattle.aig_base.proofs.Words.{All, filter, is_some, slice_index, string_bytes, eq_by_cmp, All-filter, All-map, filter-append, filter_passes, nat_cmp_total, eqb-true, eqb-false, eq-eqb, ne_eqb, false≢true}
use Rattle.std.specs.List.{AllByRecursion, IsDistinct}
use Rattle.std.specs.Map.{keys_of, lookup}
use Rattle.std.proofs.lemmas.List.{get_or_append_left, get_or_at, map-id}
use Rattle.std.specs.FinMap.{FinMap, find, contains_key, entries, from_entries, get-from_entries, get-entries, same_map, nat_cmp-IsAntisymmetric, insert, from_entries_push, retain_keys, get-retain_keys}
use Rattle.std.proofs.lemmas.Option.{none-some}
use Rattle.std.proofs.lemmas.Map.Lookups.{exact_unsigned, map_keys}
use Rattle.aig_circuit.proofs.Words.{names_of, renumbered_names}
use Rattle.aig_base.proofs.Mapping.{same_test}
use Rattle.aig_circuit.proofs.Names.{names_insert}
use Rattle.aig_renumber.specs.Numbers.{IsIndex}
use Rattle.aig_circuit.proofs.Lists.{All-from_map, map-same}

-- entries of names, by their bytes
abbrev pub Entries : Type 0
Entries = List (ℕ × List ℕ)

-- the number of an entry is found
found_there : (es : Entries) (k : ℕ) (d : ℕ × List ℕ) → k < length es → is_some (find nat_cmp (get_or es k d).0 es) ≡ true
found_there [] k d h = absurd (omega arith)
found_there (e ∷ es) zero d h = let same : eqb e.0 e.0 ≡ true = eq-eqb e.0 e.0 refl in rw (same_test e.0 e.0, same) refl
found_there (e ∷ es) (suc k) d h = by_test (eq_by_cmp nat_cmp (get_or es k d).0 e.0) (found_there es k d (omega arith))
  where
    by_test : (b : Bool) → is_some (find nat_cmp (get_or es k d).0 es) ≡ true → is_some (cond b (Some e.1) (find nat_cmp (get_or es k d).0 es)) ≡ true
    by_test true rest = refl
    by_test false rest = rest

-- what holds of the numbers with a name holds of those of the entries
pub numbers_in : (S : ℕ → Type 0) (es : Entries) → ((n : ℕ) → IsTrue (contains_key (from_entries {R = nat_cmp} es) n) → S n) → All (λ (e : ℕ × List ℕ). S e.0) es
numbers_in S es named k d h = named (get_or es k d).0 (ap is_some (get-from_entries nat_cmp_total es (get_or es k d).0) ∙ found_there es k d h)

-- the names of a map's entries are that map
pub from_entries-entries : (names : FinMap nat_cmp (List ℕ)) → from_entries (entries names) ≡ names
from_entries-entries names = same_map nat_cmp_total nat_cmp-IsAntisymmetric _ _ (λ q. get-from_entries nat_cmp_total (entries names) q ∙ sym (get-entries names q))

-- what holds of the numbers with a name holds of those of the map's entries
pub names_in_circuit : (S : ℕ → Type 0) (names : FinMap nat_cmp (List ℕ)) → ((n : ℕ) → IsTrue (contains_key names n) → S n) → All (λ (e : ℕ × List ℕ). S e.0) (entries names)
names_in_circuit S names named = numbers_in S (entries names) (λ n has. named n (subst (λ (m : FinMap nat_cmp (List ℕ)). IsTrue (contains_key m n)) (from_entries-entries names) has))

module _ (S : ℕ → Type 0) (number : ℕ → ℕ) where
  -- a name that is found under a new number was there under an old one
  pub found_back : (es : Entries) (q : ℕ) (v : List ℕ) → All (λ (e : ℕ × List ℕ). S e.0) es → find nat_cmp q (map_keys number es) ≡ Some v → (n : ℕ) × S n × (number n ≡ q) × (find nat_cmp n es ≡ Some v)
  found_back [] q v all is = absurd (none-some v is)
  found_back (e ∷ es) q v all is = by_test (eqb q (number e.0)) refl (subst (λ b. cond b (Some e.1) (find nat_cmp q (map_keys number es)) ≡ Some v) (same_test q (number e.0)) is)
      (found_back es q v (λ k d h. all (suc k) d (omega arith)))
    where
      Found : Type 0
      Found = (n : ℕ) × S n × (number n ≡ q) × (find nat_cmp n (e ∷ es) ≡ Some v)

      Rest : Type 0
      Rest = find nat_cmp q (map_keys number es) ≡ Some v → (n : ℕ) × S n × (number n ≡ q) × (find nat_cmp n es ≡ Some v)

      by_test : (b : Bool) → eqb q (number e.0) ≡ b → cond b (Some e.1) (find nat_cmp q (map_keys number es)) ≡ Some v → Rest → Found
      by_test true same here rest =
          let itself : eqb e.0 e.0 ≡ true = eq-eqb e.0 e.0 refl in
          (e.0, all 0 e (omega arith), sym (eqb-true q (number e.0) same), rw (same_test e.0 e.0, itself) here)
      by_test false differs here rest =
          let old = rest here in
          let other : eqb old.0 e.0 ≡ false = ne_eqb old.0 e.0 (λ same. eqb-false q (number e.0) differs (sym old.2 ∙ ap number same)) in
          (old.0, old.1, old.2, rw (same_test old.0 e.0, other) old.3)

  module _ (apart : (m n : ℕ) → S m → S n → number m ≡ number n → m ≡ n) where
    -- a number has its name under the new number
    pub find-number : (es : Entries) (n : ℕ) → S n → All (λ (e : ℕ × List ℕ). S e.0) es → find nat_cmp (number n) (map_keys number es) ≡ find nat_cmp n es
    find-number [] n s all = refl
    find-number (e ∷ es) n s all =
        ap (λ b. cond b (Some e.1) (find nat_cmp (number n) (map_keys number es))) (same_test (number n) (number e.0) ∙ told (eqb n e.0) refl ∙ sym (same_test n e.0))
        ∙ ap (cond (eq_by_cmp nat_cmp n e.0) (Some e.1)) (find-number es n s (λ k d h. all (suc k) d (omega arith)))
      where
        told : (b : Bool) → eqb n e.0 ≡ b → eqb (number n) (number e.0) ≡ eqb n e.0
        told true is = eq-eqb (number n) (number e.0) (ap number (eqb-true n e.0 is)) ∙ sym is
        told false is = ne_eqb (number n) (number e.0) (λ e'. eqb-false n e.0 is (apart n e.0 s (all 0 e (omega arith)) e')) ∙ sym is

    -- where the names are the same, they are the same under the new numbers
    found_too : (es fs : Entries) (q : ℕ) (v : List ℕ) → All (λ (e : ℕ × List ℕ). S e.0) es → All (λ (e : ℕ × List ℕ). S e.0) fs → ((n : ℕ) → find nat_cmp n es ≡ find nat_cmp n fs)
        → find nat_cmp q (map_keys number es) ≡ Some v → find nat_cmp q (map_keys number fs) ≡ Some v
    found_too es fs q v in_es in_fs same is =
        let old = found_back es q v in_es is in
        ap (λ m. find nat_cmp m (map_keys number fs)) (sym old.2) ∙ find-number fs old.0 old.1 in_fs ∙ sym (same old.0) ∙ old.3

    find-same : (es fs : Entries) (q : ℕ) → All (λ (e : ℕ × List ℕ). S e.0) es → All (λ (e : ℕ × List ℕ). S e.0) fs → ((n : ℕ) → find nat_cmp n es ≡ find nat_cmp n fs)
        → find nat_cmp q (map_keys number es) ≡ find nat_cmp q (map_keys number fs)
    find-same es fs q in_es in_fs same = by_found (find nat_cmp q (map_keys number es)) refl (find nat_cmp q (map_keys number fs)) refl
      where
        by_found : (o : Option (List ℕ)) → find nat_cmp q (map_keys number es) ≡ o → (p : Option (List ℕ)) → find nat_cmp q (map_keys number fs) ≡ p → find nat_cmp q (map_keys number es) ≡ find nat_cmp q (map_keys number fs)
        by_found (Some v) is p other = is ∙ sym (found_too es fs q v in_es in_fs same is)
        by_found None is (Some w) other = found_too fs es q w in_fs in_es (λ n. sym (same n)) other ∙ sym other
        by_found None is None other = is ∙ sym other

    pub names-same : (es fs : Entries) → All (λ (e : ℕ × List ℕ). S e.0) es → All (λ (e : ℕ × List ℕ). S e.0) fs → ((n : ℕ) → find nat_cmp n es ≡ find nat_cmp n fs)
        → from_entries {R = nat_cmp} (map_keys number es) ≡ from_entries (map_keys number fs)
    names-same es fs in_es in_fs same = same_map nat_cmp_total nat_cmp-IsAntisymmetric _ _ (λ q.
        get-from_entries nat_cmp_total (map_keys number es) q ∙ find-same es fs q in_es in_fs same ∙ sym (get-from_entries nat_cmp_total (map_keys number fs) q))

-- only new numbers of named nodes have names
pub named_back : (S : ℕ → Type 0) (number : ℕ → ℕ) (es : Entries) (q : ℕ) → All (λ (e : ℕ × List ℕ). S e.0) es → IsTrue (contains_key (from_entries {R = nat_cmp} (map_keys number es)) q) → (n : ℕ) × S n × (number n ≡ q)
named_back S number es q all has = by_found (find nat_cmp q (map_keys number es)) refl
  where
    by_found : (o : Option (List ℕ)) → find nat_cmp q (map_keys number es) ≡ o → (n : ℕ) × S n × (number n ≡ q)
    by_found (Some v) is = let old = found_back S number es q v all is in (old.0, old.1, old.2)
    by_found None is = absurd (false≢true (sym (ap is_some (get-from_entries nat_cmp_total (map_keys number es) q ∙ is)) ∙ has))

-- names under the same numbers
pub names-kept : (number : ℕ → ℕ) (names : FinMap nat_cmp (List ℕ)) → All (λ (e : ℕ × List ℕ). number e.0 ≡ e.0) (entries names) → from_entries (map_keys number (entries names)) ≡ names
names-kept number names all = ap from_entries (map-same (λ (e : ℕ × List ℕ). (number e.0, e.1)) (entries names) (λ k d h. ap (λ n. (n, (get_or (entries names) k d).1)) (all k d h))) ∙ from_entries-entries names

-- ---- the entries of a map, one after another

-- the entries, by the bytes of their names
abbrev pub name_entries : List (ℕ × String Global) → Entries
name_entries es = map (λ (entry : ℕ × String Global). (entry.0, string_bytes entry.1)) es

later_differs : (P : ℕ → Type 0) (es rest : List (ℕ × String Global)) (e : ℕ × String Global) → AllByRecursion P (keys_of (es ++ e ∷ rest)) → P e.0
later_differs P [] rest e all = all.0
later_differs P (d ∷ ds) rest e all = later_differs P ds rest e all.1

-- the number of an entry isn't among those before it
not_before : (es rest : List (ℕ × String Global)) (e : ℕ × String Global) → IsDistinct nat_eq (keys_of (es ++ e ∷ rest)) → find nat_cmp e.0 (name_entries es) ≡ None
unfolding IsDistinct
not_before [] rest e distinct = refl
not_before (d ∷ ds) rest e distinct =
    let differs : nat_eq d.0 e.0 ≡ false = later_differs (λ y. nat_eq d.0 y ≡ false) ds rest e distinct.0 in
    let other : nat_eq e.0 d.0 ≡ false = ne_eqb e.0 d.0 (λ same. eqb-false d.0 e.0 differs (sym same)) in
    rw (same_test e.0 d.0, other) (not_before ds rest e distinct.1)

pub numbers_there : (S : ℕ → Type 0) (es : List (ℕ × String Global)) → All (λ (e : ℕ × String Global). S e.0) es → All (λ (e : ℕ × List ℕ). S e.0) (name_entries es)
numbers_there S es all = All-map (λ (e : ℕ × List ℕ). S e.0) (λ (entry : ℕ × String Global). (entry.0, string_bytes entry.1)) es all

module _ (S : ℕ → Type 0) (number : ℕ → ℕ) (apart : (m n : ℕ) → S m → S n → number m ≡ number n → m ≡ n) where
  -- one more name, under its new number
  pub names-more : (done : List (ℕ × String Global)) (e : ℕ × String Global) → find nat_cmp e.0 (name_entries done) ≡ None → All (λ (x : ℕ × String Global). S x.0) done → S e.0
      → from_entries {R = nat_cmp} (map_keys number (name_entries (done ++ e ∷ []))) ≡ insert (from_entries (map_keys number (name_entries done))) (number e.0) (string_bytes e.1)
  names-more done e none before here =
      let fresh = find-number S number apart (name_entries done) e.0 here (numbers_there S done before) ∙ none in
      let parts : map_keys number (name_entries (done ++ e ∷ [])) ≡ map_keys number (name_entries done) ++ (number e.0, string_bytes e.1) ∷ [] = pieces done in
      ap from_entries parts ∙ from_entries_push nat_cmp_total nat_cmp-IsAntisymmetric (map_keys number (name_entries done)) (number e.0) (string_bytes e.1) fresh
    where
      pieces : (es : List (ℕ × String Global)) → map_keys number (name_entries (es ++ e ∷ [])) ≡ map_keys number (name_entries es) ++ (number e.0, string_bytes e.1) ∷ []
      pieces [] = refl
      pieces (d ∷ ds) = ap (λ l. (number d.0, string_bytes d.1) ∷ l) (pieces ds)

  -- all names, under their new numbers
  pub names-all : (es : List (ℕ × String Global)) → All (λ (x : ℕ × String Global). S x.0) es → from_entries {R = nat_cmp} (map_keys number (name_entries es)) ≡ renumbered_names number (names_of es)
  names-all es all =
      names-same S number apart (name_entries es) (entries (names_of es)) (numbers_there S es all)
      (numbers_in S (entries (names_of es)) (λ n has.
      let old = named_back S (λ m. m) (name_entries es) n (numbers_there S es all) (subst (λ (names : FinMap nat_cmp (List ℕ)). IsTrue (contains_key names n)) (from_entries-entries (names_of es) ∙ ap from_entries (sym (map-id (name_entries es)))) has) in
      subst S old.2 old.1))
      (λ n. sym (get-from_entries nat_cmp_total (name_entries es) n) ∙ get-entries (names_of es) n)

-- ---- the loop over a map's entries

-- the entries whose number passes the test
abbrev pub kept_entries : (ℕ → Bool) → List (ℕ × String Global) → List (ℕ × String Global)
kept_entries test es = filter (λ (e : ℕ × String Global). test e.0) es

-- a name is found among them where its number passes
find-kept_entries : (test : ℕ → Bool) (es : List (ℕ × String Global)) (q : ℕ) → find nat_cmp q (name_entries (kept_entries test es)) ≡ cond (test q) (find nat_cmp q (name_entries es)) None
find-kept_entries test [] q = both None (test q)
  where
    both : (o : Option (List ℕ)) (b : Bool) → o ≡ cond b o o
    both o true = refl
    both o false = refl
find-kept_entries test (e ∷ es) q = by_tests (eqb q e.0) refl (test e.0) refl (test q) refl (find-kept_entries test es q)
  where
    by_tests : (same : Bool) → eqb q e.0 ≡ same → (here : Bool) → test e.0 ≡ here → (there : Bool) → test q ≡ there
        → find nat_cmp q (name_entries (kept_entries test es)) ≡ cond (test q) (find nat_cmp q (name_entries es)) None
        → find nat_cmp q (name_entries (cond (test e.0) (e ∷ kept_entries test es) (kept_entries test es))) ≡ cond (test q) (cond (eq_by_cmp nat_cmp q e.0) (Some (string_bytes e.1)) (find nat_cmp q (name_entries es))) None
    by_tests true same true here true there more = rw (here, there, same_test q e.0, same) refl
    by_tests true same true here false there more = absurd (false≢true (sym there ∙ ap test (eqb-true q e.0 same) ∙ here))
    by_tests true same false here true there more = absurd (false≢true (sym here ∙ ap test (sym (eqb-true q e.0 same)) ∙ there))
    by_tests true same false here false there more = rw here (more ∙ rw there refl)
    by_tests false same true here there is more = rw (here, same_test q e.0, same) more
    by_tests false same false here there is more = rw (here, same_test q e.0, same) more

-- the names of these entries are the names that are retained
retain_keys-names_of : (test : ℕ → Bool) (es : List (ℕ × String Global)) → retain_keys (names_of es) test ≡ names_of (kept_entries test es)
retain_keys-names_of test es = same_map nat_cmp_total nat_cmp-IsAntisymmetric _ _ (λ q.
    get-retain_keys (names_of es) test q (λ k e. let same : q ≡ k = exact_unsigned q k e in ap test (sym same))
    ∙ ap (λ o. cond (test q) o None) (get-from_entries nat_cmp_total (name_entries es) q)
    ∙ sym (find-kept_entries test es q)
    ∙ sym (get-from_entries nat_cmp_total (name_entries (kept_entries test es)) q))

-- what stands in the new map after some entries
abbrev pub NamesSoFar : List ℕ → (ℕ → Bool) → List (ℕ × String Global) → List (ℕ × String Global) → List (ℕ × String Global) → Type 0
NamesSoFar numbers test es rest made =
    (done : List (ℕ × String Global)) × (done ++ rest ≡ es) × (names_of made ≡ from_entries (map_keys (slice_index numbers) (name_entries (kept_entries test done))))

module _ (numbers : List ℕ) (test : ℕ → Bool) (es : List (ℕ × String Global)) where
  -- it has a number, and is kept
  abbrev IsKept : ℕ → Type 0
  IsKept n = IsIndex numbers n × (test n ≡ true)

  are_kept : (done : List (ℕ × String Global)) → All (λ (e : ℕ × String Global). IsIndex numbers e.0) done → All (λ (e : ℕ × String Global). IsKept e.0) (kept_entries test done)
  are_kept done there k d h =
      (All-filter (λ (e : ℕ × String Global). test e.0) (λ (e : ℕ × String Global). IsIndex numbers e.0) done there k d h, filter_passes (λ (e : ℕ × String Global). test e.0) done k d h)

  -- an entry whose number fails the test adds nothing
  pub names-pass : (rest left made : List (ℕ × String Global)) (id : ℕ) (name : String Global) → NamesSoFar numbers test es rest made → rest ≡ (id, name) ∷ left → test id ≡ false → NamesSoFar numbers test es left made
  names-pass rest left made id name so_far step fails =
      let done = so_far.0 in
      let split : done ++ (id, name) ∷ left ≡ es = ap (λ l. done ++ l) (sym step) ∙ so_far.1 in
      let same : kept_entries test (done ++ (id, name) ∷ []) ≡ kept_entries test done =
      filter-append (λ (e : ℕ × String Global). test e.0) done ((id, name) ∷ []) ∙ ap (λ b. kept_entries test done ++ cond b ((id, name) ∷ []) []) fails ∙ append-nil (kept_entries test done)
      in
      (done ++ (id, name) ∷ [], append_assoc done ((id, name) ∷ []) left ∙ split, so_far.2 ∙ ap (λ l. from_entries (map_keys (slice_index numbers) (name_entries l))) (sym same))

  module _ (there : All (λ (e : ℕ × String Global). IsIndex numbers e.0) es) (apart : (m n : ℕ) → IsKept m → IsKept n → slice_index numbers m ≡ slice_index numbers n → m ≡ n) where
    pub names-turn : (rest left made after : List (ℕ × String Global)) (id : ℕ) (name copy : String Global) → IsDistinct nat_eq (keys_of es)
        → NamesSoFar numbers test es rest made → rest ≡ (id, name) ∷ left → test id ≡ true → string_bytes copy ≡ string_bytes name
        → ((q : ℕ) → lookup (nat_eq q) after ≡ cond (nat_eq (slice_index numbers id) q) (Some copy) (lookup (nat_eq q) made)) → NamesSoFar numbers test es left after
    names-turn rest left made after id name copy distinct so_far step passes same updates =
        let done = so_far.0 in
        let entry : ℕ × String Global = (id, name) in
        let split : done ++ entry ∷ left ≡ es = ap (λ l. done ++ l) (sym step) ∙ so_far.1 in
        let all = subst (All (λ (e : ℕ × String Global). IsIndex numbers e.0)) (sym split) there in
        let before : All (λ (x : ℕ × String Global). IsIndex numbers x.0) done = λ k d h. subst (λ (x : ℕ × String Global). IsIndex numbers x.0) (get_or_append_left done (entry ∷ left) d k h) (all k d (omega (arith, length-append done (entry ∷ left)))) in
        let here : IsIndex numbers id = subst (λ (x : ℕ × String Global). IsIndex numbers x.0) (get_or_at done entry left entry (length done) refl) (all (length done) entry (omega (arith, length-append done (entry ∷ left)))) in
        let new : find nat_cmp id (name_entries done) ≡ None = not_before done left entry (subst (λ (l : List (ℕ × String Global)). IsDistinct nat_eq (keys_of l)) (sym split) distinct) in
        let fresh : find nat_cmp id (name_entries (kept_entries test done)) ≡ None = find-kept_entries test done id ∙ ap (λ b. cond b (find nat_cmp id (name_entries done)) None) passes ∙ new in
        let more = names-more IsKept (slice_index numbers) apart (kept_entries test done) entry fresh (are_kept done before) (here, passes) in
        let kept : kept_entries test (done ++ entry ∷ []) ≡ kept_entries test done ++ entry ∷ [] =
        filter-append (λ (e : ℕ × String Global). test e.0) done (entry ∷ []) ∙ ap (λ b. kept_entries test done ++ cond b (entry ∷ []) []) passes
        in
        let names = names_insert made after (slice_index numbers id) copy updates
        ∙ ap (λ (bytes : List ℕ). insert (names_of made) (slice_index numbers id) bytes) same
        ∙ ap (λ (m : FinMap nat_cmp (List ℕ)). insert m (slice_index numbers id) (string_bytes name)) so_far.2
        ∙ sym more
        ∙ ap (λ l. from_entries (map_keys (slice_index numbers) (name_entries l))) (sym kept)
        in
        (done ++ entry ∷ [], append_assoc done (entry ∷ []) left ∙ split, names)

    pub names-end : (rest made : List (ℕ × String Global)) → NamesSoFar numbers test es rest made → rest ≡ [] → names_of made ≡ renumbered_names (slice_index numbers) (retain_keys (names_of es) test)
    names-end rest made so_far none =
        let all : so_far.0 ≡ es = sym (append-nil so_far.0) ∙ ap (λ l. so_far.0 ++ l) (sym none) ∙ so_far.1 in
        so_far.2 ∙ ap (λ (l : List (ℕ × String Global)). from_entries (map_keys (slice_index numbers) (name_entries (kept_entries test l)))) all
        ∙ names-all IsKept (slice_index numbers) apart (kept_entries test es) (are_kept es there)
        ∙ ap (renumbered_names (slice_index numbers)) (sym (retain_keys-names_of test es))

-- what holds of the numbers with a name holds of those of the map's entries
pub entries_there : (S : ℕ → Type 0) (es : List (ℕ × String Global)) → ((n : ℕ) → IsTrue (contains_key (names_of es) n) → S n) → All (λ (e : ℕ × String Global). S e.0) es
entries_there S es named = All-from_map (λ (entry : ℕ × String Global). (entry.0, string_bytes entry.1)) (λ (e : ℕ × List ℕ). S e.0) es (numbers_in S (name_entries es) named)
