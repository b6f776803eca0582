-- Rows of values, one for each step, and the bad edges of the last.
use Rattle.std.proofs.Common.{◌≡◌, ℕ, ◌+◌, ◌-◌, ◌*◌, ◌<◌, ◌≤◌, Bool, false, List, [], ◌∷◌, ◌++◌, length, length-drop, map, take, drop, get_or, slice_get, Some, refl, sym, ap, subst, ◌∙◌, arith}
use Rattle.std.specs.Prelude.{Vec}
use Rattle.std.specs.declared.alloc.Global.{Global}
use Rattle.aig_base.proofs.Words.{map-append, take_all, take_more}
use borrow.Author.Count.{below_more}
use Rattle.aig_base.specs.declared.logic.three.Lbool.{Lbool}
use Rattle.aig_circuit.specs.declared.edge.AigEdge.{AigEdge}
use Rattle.aig_circuit.specs.Circuit.{Circuit}
use Rattle.aig_runs.specs.Queries.{last_bads}
use Rattle.aig_unroll.specs.Unroll.{UnrollsTo}
use Rattle.aig_unroll.proofs.Lists.{get_left, get_right}
use Rattle.aig_witness.specs.Witness.{rows_of}

-- each step before t has its row
pub record AreRows (row_at : ℕ → List Lbool) (t : ℕ) (rows : List (List Lbool)) : Type 0 where
  pub count : length rows ≡ t
  pub each : (s : ℕ) → s < t → slice_get rows s ≡ Some (row_at s)

-- one row more
pub rows_more : (row_at : ℕ → List Lbool) (t : ℕ) (old made : List (Vec Lbool Global))
    (row : Vec Lbool Global) → AreRows row_at t (rows_of old) → made ≡ old ++ row ∷ []
    → row.items ≡ row_at t → AreRows row_at (t + 1) (rows_of made)
rows_more row_at t old made row rows is here =
    let whole : rows_of made ≡ rows_of old ++ row_at t ∷ [] = ap rows_of is ∙ map-append (λ (list : Vec Lbool Global). list.items) old (row ∷ []) ∙ ap (λ r. rows_of old ++ r ∷ []) here in
    let last : t ≡ length (rows_of old) + 0 = omega (arith, rows.count) in
    subst (AreRows row_at (t + 1)) (sym whole) (record {
      count = length_more (rows_of old) (row_at t) ∙ ap (λ n. n + 1) rows.count;
      each = below_more (λ s. slice_get (rows_of old ++ row_at t ∷ []) s ≡ Some (row_at s)) t (λ s lt. get_left (rows_of old) (row_at t ∷ []) s (row_at s) (rows.each s lt)) (get_right (rows_of old) (row_at t ∷ []) 0 t last);
    })
  where
    length_more : (xs : List (List Lbool)) (x : List Lbool) → length (xs ++ x ∷ []) ≡ length xs + 1
    length_more [] x = refl
    length_more (y ∷ ys) x = let more = length_more ys x in omega arith

-- one value more
pub map_more : {A : Type 0} (f : A → Lbool) (made old : List Lbool) (xs : List A) (i : ℕ) (d : A)
    (y : Lbool) → i < length xs → old ≡ map f (take i xs) → made ≡ old ++ y ∷ []
    → y ≡ f (get_or xs i d) → made ≡ map f (take (i + 1) xs)
map_more f made old xs i d y low before step is =
    let more : map f (take (i + 1) xs) ≡ map f (take i xs) ++ f (get_or xs i d) ∷ [] = ap (map f) (take_more xs i d low) ∙ map-append f (take i xs) (get_or xs i d ∷ []) in
    step ∙ ap (λ list. list ++ y ∷ []) before ∙ ap (λ v. map f (take i xs) ++ v ∷ []) is ∙ sym more

-- all rows, or values
pub map_whole : {A : Type 0} (f : A → Lbool) (made : List Lbool) (xs ys : List A) (i : ℕ)
    → length xs ≤ i → made ≡ map f (take i xs) → xs ≡ ys → made ≡ map f ys
map_whole f made xs ys i end before same = before ∙ ap (map f) (take_all i xs end) ∙ ap (map f) same

-- ---- bad edges

-- those of step k are the last of so many
pub bads_room : (c u : Circuit) (k : ℕ) (old new : List AigEdge) → UnrollsTo c k u
    → old ≡ c.properties.bads → new ≡ u.properties.bads → k * length old + length old ≡ length new
bads_room c u k old new unrolls is_old is_new =
    let y : ℕ → Bool = λ n. false in
    let r = unrolls.run_of y in
    let count = (unrolls.same y r.0 r.1 r.2).properties.bads.count in
    rw (is_old, is_new) (omega (arith, count))

-- and are cut out from there on
pub bads_cut : (c u : Circuit) (k : ℕ) (old new : List AigEdge) → old ≡ c.properties.bads
    → new ≡ u.properties.bads
    → take (length new - k * length old) (drop (k * length old) new) ≡ last_bads c k u
bads_cut c u k old new is_old is_new =
    take_all (length new - k * length old) (drop (k * length old) new) (simp length-drop (omega arith))
    ∙ ap (λ (bads : List AigEdge). drop (k * length bads) new) is_old
    ∙ ap (drop (k * length c.properties.bads)) is_new
