-- Facts on each entry of a list beside those before it, over lists that are joined or seen by a key.
use Rattle.aig_base.proofs.Words.{◌≡◌, ◌↔◌, Bool, false, ◌&&◌, List, [], ◌∷◌, ◌++◌, map, refl, sym, ap, subst, ◌∙◌, append_assoc, append-nil, map-append}
use Rattle.std.specs.Prelude.{IsTrue, not}
use Rattle.std.proofs.lemmas.Bool.{and_parts, and_from, not-true, not_from_false, or_parts, or_from}
use Rattle.std.specs.Bool.{Decides}
use Rattle.std.specs.List.{AllByRecursion, IsDistinct, list_any}

-- each entry has the fact beside the entries before it
abbrev pub AllAfter : {A : Type 0} → (List A → A → Type 0) → List A → List A → Type 0
AllAfter F before [] = Unit {0}
AllAfter F before (x ∷ xs) = F before x × AllAfter F (before ++ x ∷ []) xs

-- an entry passes the test beside those before it
abbrev pub Passes : {A : Type 0} → (List A → A → Bool) → List A → A → Type 0
Passes test before x = IsTrue (test before x)

module _ {A : Type 0} (F G : List A → A → Type 0) where
  pub after_weaker : ((before : List A) (x : A) → F before x → G before x) → (xs before : List A) → AllAfter F before xs → AllAfter G before xs
  after_weaker h [] before all = tt
  after_weaker h (x ∷ xs) before all = (h before x all.0, after_weaker h xs (before ++ x ∷ []) all.1)

module _ {A : Type 0} (F G : List A → A → Type 0) where
  pub after_both : (xs before : List A) → AllAfter F before xs → AllAfter G before xs → AllAfter (λ b x. F b x × G b x) before xs
  after_both [] before p q = tt
  after_both (x ∷ xs) before p q = ((p.0, q.0), after_both xs (before ++ x ∷ []) p.1 q.1)

  pub after_parts : (xs before : List A) → AllAfter (λ b x. F b x × G b x) before xs → AllAfter F before xs × AllAfter G before xs
  after_parts [] before all = (tt, tt)
  after_parts (x ∷ xs) before all = let rest = after_parts xs (before ++ x ∷ []) all.1 in ((all.0.0, rest.0), (all.0.1, rest.1))

-- two tests beside those before are one
pub after_and : {A : Type 0} (t u : List A → A → Bool) (xs before : List A) → AllAfter (λ b x. IsTrue (t b x && u b x)) before xs ↔ (AllAfter (λ b x. IsTrue (t b x)) before xs × AllAfter (λ b x. IsTrue (u b x)) before xs)
after_and t u [] before = (λ all. (tt, tt), λ all. tt)
after_and t u (x ∷ xs) before =
    let rest = after_and t u xs (before ++ x ∷ []) in (
      λ all. let p = and_parts (t before x) (u before x) all.0 in let q = rest.0 all.1 in ((p.0, q.0), (p.1, q.1)),
      λ all. (and_from (t before x) (u before x) all.0.0 all.1.0, rest.1 (all.0.1, all.1.1)),
    )

-- a fact that does not look at those before
pub after_each : {A : Type 0} (P : A → Type 0) (xs before : List A) → AllAfter (λ _. P) before xs ↔ AllByRecursion P xs
after_each P [] before = (λ all. tt, λ all. tt)
after_each P (x ∷ xs) before = let r = after_each P xs (before ++ x ∷ []) in (λ all. (all.0, r.0 all.1), λ all. (all.0, r.1 all.1))

-- one list, and then another after it
pub after_append : {A : Type 0} (F : List A → A → Type 0) (xs ys before : List A) → AllAfter F before (xs ++ ys) ↔ (AllAfter F before xs × AllAfter F (before ++ xs) ys)
after_append F [] ys before =
    let same = append-nil before in
    (λ all. (tt, subst (λ b. AllAfter F b ys) (sym same) all), λ all. subst (λ b. AllAfter F b ys) same all.1)
after_append F (x ∷ xs) ys before =
    let r = after_append F xs ys (before ++ x ∷ []) in
    let same : (before ++ x ∷ []) ++ xs ≡ before ++ x ∷ xs = append_assoc before (x ∷ []) xs in (
      λ all. let s = r.0 all.1 in ((all.0, s.0), subst (λ b. AllAfter F b ys) same s.1),
      λ all. (all.0.0, r.1 (all.0.1, subst (λ b. AllAfter F b ys) (sym same) all.1)),
    )

-- entries by a key, after a list of keys
pub after_keys : {A B : Type 0} (F : List B → B → Type 0) (key : A → B) (front : List B) (xs before : List A)
    → AllAfter (λ b x. F (front ++ map key b) (key x)) before xs ↔ AllAfter F (front ++ map key before) (map key xs)
after_keys F key front [] before = (λ all. tt, λ all. tt)
after_keys F key front (x ∷ xs) before =
    let r = after_keys F key front xs (before ++ x ∷ []) in
    let same : front ++ map key (before ++ x ∷ []) ≡ (front ++ map key before) ++ key x ∷ [] =
    ap (λ bs. front ++ bs) (map-append key before (x ∷ [])) ∙ sym (append_assoc front (map key before) (key x ∷ [])) in (
      λ all. (all.0, subst (λ b. AllAfter F b (map key xs)) same (r.0 all.1)),
      λ all. (all.0, r.1 (subst (λ b. AllAfter F b (map key xs)) (sym same) all.1)),
    )

-- the same of a whole section after the keys of the sections before it
pub section_keys : {A B : Type 0} (F : List B → B → Type 0) (key : A → B) (front : List B) (xs : List A)
    → AllAfter (λ b x. F (front ++ map key b) (key x)) [] xs ↔ AllAfter F front (map key xs)
section_keys F key front xs =
    let r = after_keys F key front xs [] in
    let same = append-nil front in
    (λ all. subst (λ b. AllAfter F b (map key xs)) same (r.0 all), λ all. r.1 (subst (λ b. AllAfter F b (map key xs)) (sym same) all))

-- ---- each entry is new beside those before exactly if the list is distinct

-- no entry before it is the same
abbrev pub IsNew : {A : Type 0} → (A → A → Bool) → List A → A → Type 0
IsNew same before x = AllByRecursion (λ y. same y x ≡ false) before

module _ {A : Type 0} (same : A → A → Bool) where
  -- an entry is new where none of those before it is the same
  pub Decides-new : (x : A) (before : List A) → Decides (not (list_any (λ y. same y x) before)) (IsNew same before x)
  Decides-new x [] = (λ _. tt, λ _. refl)
  Decides-new x (y ∷ before) =
      let d = Decides-new x before in (
        λ e. let p = or_parts (same y x) (list_any (λ z. same z x) before) (not-true _ e) in (p.0, d.0 (not_from_false _ p.1)),
        λ h. not_from_false _ (or_from (same y x) (list_any (λ z. same z x) before) h.0 (not-true _ (d.1 h.1))),
      )

  new_push : (before : List A) (x y : A) → IsNew same before y → same x y ≡ false → IsNew same (before ++ x ∷ []) y
  new_push [] x y h e = (e, tt)
  new_push (b ∷ before) x y h e = (h.0, new_push before x y h.1 e)

  push_new : (before : List A) (x y : A) → IsNew same (before ++ x ∷ []) y → IsNew same before y × (same x y ≡ false)
  push_new [] x y h = (tt, h.0)
  push_new (b ∷ before) x y h = let r = push_new before x y h.1 in ((h.0, r.0), r.1)

  all_push : (before : List A) (x : A) (ys : List A) → AllByRecursion (IsNew same (before ++ x ∷ [])) ys → AllByRecursion (IsNew same before) ys × AllByRecursion (λ y. same x y ≡ false) ys
  all_push before x [] h = (tt, tt)
  all_push before x (y ∷ ys) h = let r = push_new before x y h.0 in let s = all_push before x ys h.1 in ((r.0, s.0), (r.1, s.1))

  push_all : (before : List A) (x : A) (ys : List A) → AllByRecursion (IsNew same before) ys → AllByRecursion (λ y. same x y ≡ false) ys → AllByRecursion (IsNew same (before ++ x ∷ [])) ys
  push_all before x [] h k = tt
  push_all before x (y ∷ ys) h k = (new_push before x y h.0 k.0, push_all before x ys h.1 k.1)

  distinct_from_new : (xs before : List A) → AllAfter (IsNew same) before xs → IsDistinct same xs × AllByRecursion (IsNew same before) xs
  unfolding IsDistinct
  distinct_from_new [] before h = (tt, tt)
  distinct_from_new (x ∷ xs) before h =
      let r = distinct_from_new xs (before ++ x ∷ []) h.1 in
      let s = all_push before x xs r.1 in
      ((s.1, r.0), (h.0, s.0))

  new_from_distinct : (xs before : List A) → IsDistinct same xs → AllByRecursion (IsNew same before) xs → AllAfter (IsNew same) before xs
  unfolding IsDistinct
  new_from_distinct [] before d h = tt
  new_from_distinct (x ∷ xs) before d h = (h.0, new_from_distinct xs (before ++ x ∷ []) d.1 (push_all before x xs h.1 d.0))

  new_beside_none : (xs : List A) → AllByRecursion (IsNew same []) xs
  new_beside_none [] = tt
  new_beside_none (x ∷ xs) = (tt, new_beside_none xs)

  -- entries are distinct exactly if each is new beside those before it
  pub distinct_after : (xs : List A) → AllAfter (IsNew same) [] xs ↔ IsDistinct same xs
  distinct_after xs = (λ all. (distinct_from_new xs [] all).0, λ d. new_from_distinct xs [] d (new_beside_none xs))
