-- Clauses that keep out of the way of a pivot: by the table, and by those that are there.
use Rattle.aig_base.proofs.Words.{◌≡◌, ◌≢◌, ◌⊎◌, inl, inr, ℕ, ◌+◌, ◌-◌, ◌<◌, ◌≤◌, ◌==◌, Bool, true, false, cond, not, ◌&&◌, ◌||◌, Option, Some, None, List, [], ◌∷◌, ◌++◌, length, refl, sym, ap, subst, ◌∙◌, arith, fun_ext, All, All-append, All-filter, AllByRecursion, list_all, list_any, list_all-append, list_any-append, lookup, and_from, and_parts, cases_eq, eq-eqb, eqb-true, ne_eqb, false≢true, get_or_from_slice_get, slice_get, slice_get-get_or, slice_get_within, slice_index_or, is_some}
use Rattle.aig_base.specs.declared.logic.literal.Lit.{Lit}
use Rattle.aig_base.specs.Clauses.{inverse_lit}
use Rattle.aig_refutation.specs.Checking.{Live, are_named, clause_at, is_named}
use Rattle.aig_refutation.specs.Propagation.{has, is_lit, is_rup, is_tautology, propagates, when_false}
use Rattle.aig_refutation.specs.Rat.{hints_for, is_apart, is_rat, resolvent, without_lit}
use Rattle.aig_refutation.specs.Tables.{Holds, SaysSame, Table, clause_by, clause_in, entry_at, entry_in, is_apart_if, name_in, place_in, places_of}
use Rattle.aig_refutation.specs.Tokens.{said_numbers}
use Rattle.aig_refutation.specs.declared.words.Number.{Number}
use Rattle.aig_refutation.proofs.Conflicts.{inverse_twice}
use Rattle.aig_refutation.proofs.HintedRup.{rup_same}
use Rattle.aig_refutation.proofs.Numbering.{named_by_place}
use Rattle.aig_refutation.proofs.Once.{is_lit-equiv}
use Rattle.aig_refutation.proofs.Rup.{same_lit}
use Rattle.aig_refutation.proofs.Sameness.{alike, said_same}

-- ---- clauses of the same literals

abbrev pub Same : List Lit → List Lit → Type 0
Same a b = (lit : Lit) → has a lit ≡ has b lit

inverse_of : (a b : Lit) → is_lit (inverse_lit a) b ≡ true → is_lit (inverse_lit b) a ≡ true
inverse_of a b e =
    subst (λ (l : Lit). is_lit (inverse_lit l) a ≡ true) (same_lit (inverse_lit a) b e)
    (ap (λ (l : Lit). is_lit l a) (inverse_twice a) ∙ is_lit-equiv.refl a)

inverse_alike : (a b : Lit) → is_lit (inverse_lit a) b ≡ is_lit (inverse_lit b) a
inverse_alike a b =
    alike (is_lit (inverse_lit a) b) (is_lit (inverse_lit b) a) (inverse_of a b) (inverse_of b a)

false_has : (clause : List Lit) (lit : Lit) → when_false clause lit ≡ has clause (inverse_lit lit)
false_has clause lit =
    ap (λ (p : Lit → Bool). list_any p clause) (fun_ext (λ other. inverse_alike other lit))

pub any_at : (p : Lit → Bool) (b : List Lit) (lit : Lit) → p lit ≡ true → has b lit ≡ true
    → list_any p b ≡ true
any_at p [] lit is h = absurd (false≢true h)
any_at p (first ∷ rest) lit is h = by (is_lit lit first) refl h (any_at p rest lit is)
  where
    by : (c : Bool) → is_lit lit first ≡ c → (c || has rest lit) ≡ true
        → (has rest lit ≡ true → list_any p rest ≡ true) → (p first || list_any p rest) ≡ true
    by true e k later =
        ap (λ (c : Bool). c || list_any p rest)
        (ap p (sym (same_lit lit first e)) ∙ is)
    by false e k later = or_later (p first) (list_any p rest) (later k)
      where
        or_later : (c d : Bool) → d ≡ true → (c || d) ≡ true
        or_later true d f = refl
        or_later false d f = f

pub any_among : (p : Lit → Bool) (a b : List Lit)
    → ((lit : Lit) → has a lit ≡ true → has b lit ≡ true) → list_any p a ≡ true
    → list_any p b ≡ true
any_among p [] b each h = absurd (false≢true h)
any_among p (first ∷ rest) b each h = by (p first) refl h (any_among p rest b among)
  where
    among : (lit : Lit) → has rest lit ≡ true → has b lit ≡ true
    among lit k = each lit (or_later (is_lit lit first) (has rest lit) k)
      where
        or_later : (c d : Bool) → d ≡ true → (c || d) ≡ true
        or_later true d f = refl
        or_later false d f = f

    by : (c : Bool) → p first ≡ c → (c || list_any p rest) ≡ true
        → (list_any p rest ≡ true → list_any p b ≡ true) → list_any p b ≡ true
    by true e k later =
        any_at p b first e (each first (ap (λ (c : Bool). c || has rest first)
        (is_lit-equiv.refl first)))
    by false e k later = later k

module _ (a b : List Lit) (same : Same a b) where
  any_same : (p : Lit → Bool) → list_any p a ≡ list_any p b
  any_same p =
      alike (list_any p a) (list_any p b)
      (any_among p a b (λ lit h. sym (same lit) ∙ h)) (any_among p b a (λ lit h. same lit ∙ h))

  false_same : when_false a ≡ when_false b
  false_same = fun_ext (λ lit.
      false_has a lit ∙ same (inverse_lit lit) ∙ sym (false_has b lit))

  rup_alike : (clause_of : ℕ → Option (List Lit)) (hints : List ℕ)
      → is_rup clause_of a hints ≡ is_rup clause_of b hints
  rup_alike clause_of hints =
      ap (λ (holds : Lit → Bool). propagates clause_of holds hints) false_same

  tautology_same : is_tautology a ≡ is_tautology b
  tautology_same = ap (λ (p : Lit → Bool). list_any p a) false_same ∙ any_same (when_false b)

-- ---- what follows of two clauses

kept_as : (c d h : Bool) → (c ≡ false → d ≡ false) → cond c false h ≡ cond c false (d || h)
kept_as true d h none = refl
kept_as false d h none = ap (λ (b : Bool). b || h) (sym (none refl))

left_as : (c d h : Bool) → (c ≡ true → d ≡ false) → (d || cond c false h) ≡ cond c false (d || h)
left_as true d h none = ap (λ (b : Bool). b || false) (none refl)
left_as false d h none = refl

has_without : (out : Lit) (clause : List Lit) (lit : Lit)
    → has (without_lit out clause) lit ≡ cond (is_lit out lit) false (has clause lit)
has_without out [] lit = by (is_lit out lit)
  where
    by : (c : Bool) → false ≡ cond c false false
    by true = refl
    by false = refl
has_without out (first ∷ rest) lit =
    by (is_lit out first) refl (has_without out rest lit)
  where
    by : (c : Bool) → is_lit out first ≡ c
        → has (without_lit out rest) lit ≡ cond (is_lit out lit) false (has rest lit)
        → has (cond (not c) (first ∷ without_lit out rest) (without_lit out rest)) lit
        ≡ cond (is_lit out lit) false (is_lit lit first || has rest lit)
    by true e later =
        later ∙ kept_as (is_lit out lit) (is_lit lit first) (has rest lit) (λ other.
        ap (is_lit lit) (sym (same_lit out first e)) ∙ is_lit-equiv.symm lit out ∙ other)
    by false e later =
        ap (λ (h : Bool). is_lit lit first || h) later
        ∙ left_as (is_lit out lit) (is_lit lit first) (has rest lit) (λ here.
        ap (λ (l : Lit). is_lit l first) (sym (same_lit out lit here)) ∙ e)

resolved_same : (pivot : Lit) (clause k c : List Lit) → Same k c
    → Same (resolvent pivot clause k) (resolvent pivot clause c)
resolved_same pivot clause k c same lit =
    let out = inverse_lit pivot in
    list_any-append (is_lit lit) clause (without_lit out k)
    ∙ ap (λ (h : Bool). has clause lit || h)
    (has_without out k lit ∙ ap (λ (h : Bool). cond (is_lit out lit) false h) (same lit)
    ∙ sym (has_without out c lit))
    ∙ sym (list_any-append (is_lit lit) clause (without_lit out c))

module _ (clause_of : ℕ → Option (List Lit)) (pivot : Lit) (clause : List Lit) (hints : List ℕ)
    (groups : List (Bool × ℕ)) where
  apart_same : (n : ℕ) (k c : List Lit) → Same k c
      → is_apart clause_of pivot clause hints groups (n, k)
      ≡ is_apart clause_of pivot clause hints groups (n, c)
  apart_same n k c same =
      let all = hints ++ hints_for n false groups in
      let one = resolvent pivot clause k in
      let two = resolvent pivot clause c in
      let alike = resolved_same pivot clause k c same in
      ap (λ (b : Bool). not b || (is_rup clause_of one all || is_tautology one))
      (same (inverse_lit pivot))
      ∙ ap (λ (b : Bool). not (has c (inverse_lit pivot)) || (b || is_tautology one))
      (rup_alike one two alike clause_of all)
      ∙ ap (λ (b : Bool). not (has c (inverse_lit pivot)) || (is_rup clause_of two all || b))
      (tautology_same one two alike)

-- ---- hints that name clauses

hints_named : (p : ℕ → Bool) (n : ℕ) (here : Bool) (groups : List (Bool × ℕ))
    → list_all (λ hint. p hint.1) groups ≡ true → list_all p (hints_for n here groups) ≡ true
hints_named p n here [] all = refl
hints_named p n here (hint ∷ groups) all =
    let parts = and_parts (p hint.1) (list_all (λ h. p h.1) groups) all in
    by hint.0 here parts.0 (λ now. hints_named p n now groups parts.1)
  where
    by : (b now : Bool) → p hint.1 ≡ true
        → ((next : Bool) → list_all p (hints_for n next groups) ≡ true)
        → list_all p (cond b (cond now (hint.1 ∷ hints_for n now groups) (hints_for n now groups))
        (hints_for n (n == hint.1) groups)) ≡ true
    by true true first rest = and_from (p hint.1) (list_all p (hints_for n true groups)) first
        (rest true)
    by true false first rest = rest false
    by false now first rest = rest (n == hint.1)

pub all_hints_named : (live : Live) (hints : List ℕ) (groups : List (Bool × ℕ)) (n : ℕ)
    → are_named live hints groups ≡ true
    → list_all (is_named live) (hints ++ hints_for n false groups) ≡ true
all_hints_named live hints groups n all =
    let parts = and_parts (list_all (is_named live) hints)
    (list_all (λ hint. is_named live hint.1) groups) all in
    list_all-append (is_named live) hints (hints_for n false groups)
    ∙ and_from (list_all (is_named live) hints)
    (list_all (is_named live) (hints_for n false groups)) parts.0
    (hints_named (is_named live) n false groups parts.1)

-- ---- the table's clauses, and those that are there

clause_next : (clauses : List (List Lit)) (entry i : ℕ) → entry ≡ i + 1
    → clause_by clauses entry ≡ slice_get clauses i
clause_next clauses entry i is =
    let at : entry - 1 ≡ i = omega (arith, is) in
    rw (ne_eqb entry 0 (λ z. omega (arith, is, z)), at) refl

says_none : (a b : Option (List Lit)) → SaysSame a b → a ≡ None
    → (c : List Lit) → b ≡ Some c → ⊥
says_none a b says none c some = rw (none, some) at says

says_alike : (a b : Option (List Lit)) → SaysSame a b → (k c : List Lit) → a ≡ Some k → b ≡ Some c
    → Same k c
says_alike a b says k c is some = said_alike (rw (is, some) at says)
  where
    said_alike : SaysSame (Some k) (Some c) → Same k c
    said_alike same lit = said_same lit k c same

module _ (t : Table) (live : Live) (is : Holds t live) (pivot : Lit) (clause : List Lit)
    (hints : List ℕ) (groups : List (Bool × ℕ)) where
  abbrev apart : ℕ × List Lit → Bool
  apart entry = is_apart (clause_at live) pivot clause hints groups entry

  abbrev at_place : ℕ → Bool
  at_place i = is_apart_if (clause_at live) pivot clause hints groups (entry_in t i)

  -- a clause that is there has a place
  pub record IsPlaced (n : ℕ) (c : List Lit) : Type 0 where
    place : ℕ
    own : List Lit
    inside : place < length t.clauses
    entry : entry_in t place ≡ Some (n, own)
    same : Same own c

  placed : (n : ℕ) (c : List Lit) → clause_at live n ≡ Some c → IsPlaced n c
  placed n c found = by (cases_eq (entry_at t.places n) 0)
    where
      at : (i : ℕ) → entry_at t.places n ≡ i + 1 → (o : Option (List Lit))
          → slice_get t.clauses i ≡ o → IsPlaced n c
      at i e None f =
          absurd (says_none (clause_in t n) (clause_at live n) (is.there n)
          (clause_next t.clauses (entry_at t.places n) i e ∙ f) c found)
      at i e (Some k) f =
          let inside = slice_get_within t.clauses i k f in
          record {
            place = i;
            own = k;
            inside = inside;
            entry =
                rw (
                  is.table.numbering.named n i e inside,
                  eq-eqb (entry_at t.places n) (i + 1) e,
                  get_or_from_slice_get t.clauses i k [] f,
                ) refl;
            same = says_alike (clause_in t n) (clause_at live n) (is.there n) k c
                (clause_next t.clauses (entry_at t.places n) i e ∙ f) found;
          }

      by : (entry_at t.places n ≡ 0) ⊎ (entry_at t.places n ≢ 0) → IsPlaced n c
      by (inl zero) =
          absurd (says_none (clause_in t n) (clause_at live n) (is.there n)
          (rw zero refl) c found)
      by (inr some) =
          let e : entry_at t.places n ≡ entry_at t.places n - 1 + 1 = omega (arith, some) in
          at (entry_at t.places n - 1) e (slice_get t.clauses (entry_at t.places n - 1)) refl

  -- where each place's clause is apart, each clause is that is there
  each_apart : ((i : ℕ) → i < length t.clauses → at_place i ≡ true) → (some : List (ℕ × List Lit))
      → AllByRecursion (λ entry. clause_at live entry.0 ≡ Some entry.1) some
      → list_all apart some ≡ true
  each_apart places [] own = refl
  each_apart places (entry ∷ some) own =
      let p = placed entry.0 entry.1 own.0 in
      and_from (apart entry) (list_all apart some)
      (sym (apart_same (clause_at live) pivot clause hints groups entry.0 p.own entry.1 p.same)
      ∙ ap (is_apart_if (clause_at live) pivot clause hints groups) (sym p.entry)
      ∙ places p.place p.inside)
      (each_apart places some own.1)

  pub all_apart : ((i : ℕ) → i < length t.clauses → at_place i ≡ true)
      → list_all apart live.clauses ≡ true
  all_apart places = each_apart places live.clauses is.own

  -- where a place's clause isn't, one isn't that is there
  found_not : (n : ℕ) (c : List Lit) → apart (n, c) ≡ false → (some : List (ℕ × List Lit))
      → lookup (λ m. n == m) some ≡ Some c → list_all apart some ≡ false
  found_not n c wrong [] found = absurd cc
  found_not n c wrong (entry ∷ some) found =
      by (n == entry.0) refl (found_not n c wrong some) found
    where
      none : (a b : Bool) → b ≡ false → (a && b) ≡ false
      none true b e = e
      none false b e = refl

      by : (b : Bool) → (n == entry.0) ≡ b
          → (lookup (λ m. n == m) some ≡ Some c → list_all apart some ≡ false)
          → cond b (Some entry.1) (lookup (λ m. n == m) some) ≡ Some c
          → (apart entry && list_all apart some) ≡ false
      by true e later f =
          let same : entry.1 ≡ c = cc in
          ap (λ (b : Bool). b && list_all apart some)
          (ap (λ (m : ℕ). apart (m, entry.1)) (sym (eqb-true n entry.0 e))
          ∙ ap (λ (k : List Lit). apart (n, k)) same ∙ wrong)
      by false e later f = none (apart entry) (list_all apart some) (later f)

  pub one_not : (i : ℕ) → i < length t.clauses → at_place i ≡ false
      → list_all apart live.clauses ≡ false
  one_not i inside wrong = by (entry_at t.places n == i + 1) refl
    where
      n : ℕ
      n = slice_index_or t.numbers i 0

      k : List Lit
      k = slice_index_or t.clauses i []

      at : entry_in t i ≡ Some (n, k) → (o : Option (List Lit)) → clause_at live n ≡ o
          → clause_in t n ≡ Some k → list_all apart live.clauses ≡ false
      at entry None f own = absurd (let says = rw (own, f) at (is.there n) in says)
      at entry (Some c) f own =
          found_not n c
          (sym (apart_same (clause_at live) pivot clause hints groups n k c
          (says_alike (clause_in t n) (clause_at live n) (is.there n) k c own f))
          ∙ ap (is_apart_if (clause_at live) pivot clause hints groups) (sym entry) ∙ wrong)
          live.clauses f

      by : (b : Bool) → (entry_at t.places n == i + 1) ≡ b → list_all apart live.clauses ≡ false
      by true e =
          at (rw e refl) (clause_at live n) refl
          (clause_next t.clauses (entry_at t.places n) i (eqb-true (entry_at t.places n) (i + 1) e)
          ∙ slice_get-get_or t.clauses i [] inside)
      by false e =
          let none : entry_in t i ≡ None = rw e refl in
          absurd (false≢true (sym wrong
          ∙ ap (is_apart_if (clause_at live) pivot clause hints groups) none))

-- ---- numbers that name clauses, whatever their signs

pub groups_named : (t : Table) (live : Live) → Holds t live → (numbers : List Number)
    → list_all (λ hint. is_named live hint.1) (said_numbers numbers)
    ≡ list_all (λ number. is_some (place_in t number.value)) numbers
groups_named t live h [] = refl
groups_named t live h (number ∷ numbers) =
    ap (λ (b : Bool). b && list_all (λ hint. is_named live hint.1) (said_numbers numbers))
    (named_by_place t live number.value h)
    ∙ ap (λ (b : Bool). is_some (place_in t number.value) && b) (groups_named t live h numbers)

-- ---- literals of what follows of two clauses

pub resolved_literals : (P : Lit → Type 0) (pivot : Lit) (clause other : List Lit) → All P clause
    → All P other → All P (resolvent pivot clause other)
resolved_literals P pivot clause other first second =
    All-append P clause (without_lit (inverse_lit pivot) other) first
    (All-filter (λ lit. not (is_lit (inverse_lit pivot) lit)) P other second)

-- ---- what code finds

module _ (t : Table) (live : Live) (is : Holds t live) where
  -- a clause that has the inverse
  pub found_apart : (pivot : Lit) (clause : List Lit) (hints : List ℕ) (groups : List (Bool × ℕ))
      (place number : ℕ) (other : List Lit) → name_in t place ≡ Some number
      → slice_get t.clauses place ≡ Some other → has other (inverse_lit pivot) ≡ true
      → (made : List Lit) → made ≡ resolvent pivot clause other
      → (places : List ℕ) → places ≡ places_of t (hints ++ hints_for number false groups)
      → list_all (λ n. is_some (place_in t n)) (hints ++ hints_for number false groups) ≡ true
      → (result : Bool)
      → result ≡ (is_rup (slice_get t.clauses) made places || is_tautology made)
      → result ≡ is_apart_if (clause_at live) pivot clause hints groups (entry_in t place)
  found_apart pivot clause hints groups place number other name there inverse made made_is places at
      have result exact =
      let all = hints ++ hints_for number false groups in
      let whole = resolvent pivot clause other in
      let entry : entry_in t place ≡ Some (number, other) =
      rw (name, get_or_from_slice_get t.clauses place other [] there) refl in
      exact
      ∙ ap (λ (list : List Lit). is_rup (slice_get t.clauses) list places || is_tautology list)
      made_is
      ∙ ap (λ (list : List ℕ). is_rup (slice_get t.clauses) whole list || is_tautology whole) at
      ∙ ap (λ (b : Bool). b || is_tautology whole) (rup_same t live is whole all have)
      ∙ ap (λ (b : Bool). not b || (is_rup (clause_at live) whole all || is_tautology whole))
      (sym inverse)
      ∙ ap (is_apart_if (clause_at live) pivot clause hints groups) (sym entry)

  pub rat_all : (clause : List Lit) (hints : List ℕ) (groups : List (Bool × ℕ)) (d : Lit)
      → 1 ≤ length clause
      → ((i : ℕ) → i < length t.clauses → is_apart_if (clause_at live) (slice_index_or clause 0 d)
      clause hints groups (entry_in t i) ≡ true)
      → is_rat live.clauses clause hints groups ≡ true
  rat_all [] hints groups d some places = absurd (omega (arith, some))
  rat_all (pivot ∷ lits) hints groups d some places =
      all_apart t live is pivot (pivot ∷ lits) hints groups places

  pub rat_not : (clause : List Lit) (hints : List ℕ) (groups : List (Bool × ℕ)) (d : Lit)
      → 1 ≤ length clause → (i : ℕ) → i < length t.clauses
      → is_apart_if (clause_at live) (slice_index_or clause 0 d) clause hints groups (entry_in t i)
      ≡ false
      → is_rat live.clauses clause hints groups ≡ false
  rat_not [] hints groups d some i inside wrong = absurd (omega (arith, some))
  rat_not (pivot ∷ lits) hints groups d some i inside wrong =
      one_not t live is pivot (pivot ∷ lits) hints groups i inside wrong
