-- Entries that are read one after the other, each beside those before it.
use Rattle.aig_base.proofs.Words.{◌≡◌, ℕ, zero, suc, ◌+◌, ◌<◌, List, [], ◌∷◌, ◌++◌, Option, Some, None, refl, sym, ap, subst, ◌∙◌, append_assoc, append-nil, add-one, length, length-append, map, get_or, arith, same_Some, map_push, get_or-append_seam}
use Rattle.aig_format.specs.Parse.{◌>>=◌, parse_entries, parse_sets}
use Rattle.aig_format.specs.ParseTested.{parse_literals, parse_literal_sets}
use Rattle.aig_format.proofs.NumberReaders.{bind_some}
use Rattle.aig_lexer.specs.Takes.{Feed, Takes, Misses}
use Rattle.aig_lexer.proofs.Feeds.{advances_on}
use Rattle.aig_lexer.proofs.Going.{known_rest}
use Rattle.aig_lexer.proofs.Taking.{takes_same, misses_same}

-- an entry before others
abbrev pub put_first : {A : Type 0} → A → List A × List ℕ → Option (List A × List ℕ)
put_first x xs = Some (x ∷ xs.0, xs.1)

module _ {A : Type 0} (p : List A → List ℕ → Option (A × List ℕ)) where
  -- some entries, and the bytes after them
  abbrev lines : List A → List ℕ → List A × List ℕ
  lines xs rest = (xs, rest)

  -- the entries after one
  abbrev lines_after : List A → ℕ → A × List ℕ → Option (List A × List ℕ)
  lines_after front n x = parse_entries p (front ++ x.0 ∷ []) n x.1 >>= put_first x.0

  -- the entry after some
  abbrev next_at : List A → List A × List ℕ → Option (A × List ℕ)
  next_at front y = p (front ++ y.0) y.1

  next_is : (front : List A) (y xs : List A) (z : A) (r rest : List ℕ) (o : Option (A × List ℕ))
      → lines (z ∷ y) r ≡ lines xs rest → next_at front (xs, rest) ≡ o
      → p ((front ++ z ∷ []) ++ y) r ≡ o
  next_is front y xs z r rest o same k =
      ap (λ (ys : List A). p ys r) (append_assoc front (z ∷ []) y) ∙ subst (λ (w : List A × List ℕ). next_at front w ≡ o) (sym same) k

  next_first : (front : List A) (bs : List ℕ) (xs : List A) (rest : List ℕ)
      (o : Option (A × List ℕ)) → lines [] bs ≡ lines xs rest → next_at front (xs, rest) ≡ o
      → p front bs ≡ o
  next_first front bs xs rest o same k =
      ap (λ (ys : List A). p ys bs) (sym (append-nil front)) ∙ subst (λ (w : List A × List ℕ). next_at front w ≡ o) (sym same) k

  one_more : (i : ℕ) (front : List A) (bs rest last : List ℕ) (xs : List A) (x : A) → parse_entries p front i bs ≡ Some (xs, rest) → next_at front (xs, rest) ≡ Some (x, last)
      → parse_entries p front (suc i) bs ≡ Some (xs ++ x ∷ [], last)
  one_more zero front bs rest last xs x h k =
      let same : lines [] bs ≡ lines xs rest = same_Some _ _ h in
      ap (λ (o : Option (A × List ℕ)). o >>= lines_after front 0) (next_first front bs xs rest (Some (x, last)) same k) ∙ ap (λ (w : List A × List ℕ). Some (w.0 ++ x ∷ [], last)) same
  one_more (suc i) front bs rest last xs x h k =
      let y = bind_some (p front bs) (lines_after front i) (xs, rest) h in
      let ys = bind_some (parse_entries p (front ++ y.0.0 ∷ []) i y.0.1) (put_first y.0.0) (xs, rest) y.2 in
      let same : lines (y.0.0 ∷ ys.0.0) ys.0.1 ≡ lines xs rest = same_Some _ _ ys.2 in
      ap (λ (o : Option (A × List ℕ)). o >>= lines_after front (suc i)) y.1
      ∙ ap (λ (o : Option (List A × List ℕ)). o >>= put_first y.0.0) (one_more i (front ++ y.0.0 ∷ []) y.0.1 ys.0.1 last ys.0.0 x ys.1 (next_is front ys.0.0 xs y.0.0 ys.0.1 rest (Some (x, last)) same k))
      ∙ ap (λ (w : List A × List ℕ). Some (w.0 ++ x ∷ [], last)) same

  no_more : (i n : ℕ) (front : List A) (bs rest : List ℕ) (xs : List A) → i < n
      → parse_entries p front i bs ≡ Some (xs, rest) → next_at front (xs, rest) ≡ None
      → parse_entries p front n bs ≡ None
  no_more i zero front bs rest xs lt h k = absurd (omega arith)
  no_more zero (suc n) front bs rest xs lt h k =
      let same : lines [] bs ≡ lines xs rest = same_Some _ _ h in
      ap (λ (o : Option (A × List ℕ)). o >>= lines_after front n) (next_first front bs xs rest None same k)
  no_more (suc i) (suc n) front bs rest xs lt h k =
      let y = bind_some (p front bs) (lines_after front i) (xs, rest) h in
      let ys = bind_some (parse_entries p (front ++ y.0.0 ∷ []) i y.0.1) (put_first y.0.0) (xs, rest) y.2 in
      let same : lines (y.0.0 ∷ ys.0.0) ys.0.1 ≡ lines xs rest = same_Some _ _ ys.2 in
      ap (λ (o : Option (A × List ℕ)). o >>= lines_after front n) y.1
      ∙ ap (λ (o : Option (List A × List ℕ)). o >>= put_first y.0.0) (no_more i n (front ++ y.0.0 ∷ []) y.0.1 ys.0.1 ys.0.0 (omega arith) ys.1 (next_is front ys.0.0 xs y.0.0 ys.0.1 rest None same k))

  count_is : (n : ℕ) (front : List A) (bs rest : List ℕ) (xs : List A)
      → parse_entries p front n bs ≡ Some (xs, rest) → length xs ≡ n
  count_is zero front bs rest xs h = let same : lines [] bs ≡ lines xs rest = same_Some _ _ h in ap (λ (w : List A × List ℕ). length w.0) (sym same)
  count_is (suc n) front bs rest xs h =
      let y = bind_some (p front bs) (lines_after front n) (xs, rest) h in
      let ys = bind_some (parse_entries p (front ++ y.0.0 ∷ []) n y.0.1) (put_first y.0.0) (xs, rest) y.2 in
      let same : lines (y.0.0 ∷ ys.0.0) ys.0.1 ≡ lines xs rest = same_Some _ _ ys.2 in
      ap (λ (w : List A × List ℕ). length w.0) (sym same) ∙ ap suc (count_is n (front ++ y.0.0 ∷ []) y.0.1 ys.0.1 ys.0.0 ys.1)

  -- one more entry
  pub takes_more : (i : ℕ) (b m a : Feed) (xs : List A) (x : A)
      → Takes (parse_entries p [] i) b m xs → Takes (p xs) m a x
      → Takes (parse_entries p [] (i + 1)) b a (xs ++ x ∷ [])
  takes_more i b m a xs x h k = record {
    taken = h.taken ++ k.taken;
    reads = λ rest. ap (λ (bs : List ℕ). parse_entries p [] (i + 1) bs) (append_assoc h.taken k.taken rest)
        ∙ ap (λ (n : ℕ). parse_entries p [] n (h.taken ++ (k.taken ++ rest))) (add-one i)
        ∙ one_more i [] (h.taken ++ (k.taken ++ rest)) (k.taken ++ rest) rest xs x (h.reads (k.taken ++ rest)) (k.reads rest);
    advances = advances_on b m a h.taken k.taken h.advances k.advances;
  }

  -- an entry that isn't there
  pub misses_more : (i n : ℕ) (b m : Feed) (xs : List A) → i < n
      → Takes (parse_entries p [] i) b m xs → Misses (p xs) m → Misses (parse_entries p [] n) b
  misses_more i n b m xs lt h k =
      known_rest b.coming m.coming h.taken (λ bs. parse_entries p [] n bs ≡ None) (λ bs. p xs bs ≡ None) h.advances.consumed k
      (λ rest e. no_more i n [] (h.taken ++ rest) rest xs lt (h.reads rest) e)

  -- all entries
  pub takes_every : (i n : ℕ) (b a : Feed) (xs : List A) → i ≡ n
      → Takes (parse_entries p [] i) b a xs → Takes (parse_entries p [] n) b a xs
  takes_every i n b a xs all h = subst (λ (k : ℕ). Takes (parse_entries p [] k) b a xs) all h

  -- as many as were asked for
  pub takes_count : (n : ℕ) (b a : Feed) (xs : List A) → Takes (parse_entries p [] n) b a xs
      → length xs ≡ n
  takes_count n b a xs h = count_is n [] (h.taken ++ []) [] xs (h.reads [])

pub length_push : {A : Type 0} (xs : List A) (x : A) → length (xs ++ x ∷ []) ≡ length xs + 1
length_push xs x = length-append xs (x ∷ [])

-- the set of the next size
abbrev pub set_at : ℕ → List ℕ → List (List ℕ) → List ℕ → Option (List ℕ × List ℕ)
set_at greatest sizes front = parse_literals greatest (get_or sizes (length front) 0)

middle_is : (xs ys : List ℕ) (y n : ℕ) → length xs ≡ n → get_or (xs ++ y ∷ ys) n 0 ≡ y
middle_is xs ys y n h = subst (λ (k : ℕ). get_or (xs ++ y ∷ ys) k 0 ≡ y) h (get_or-append_seam xs y ys 0)

sets_following : (greatest : ℕ) (done sizes : List ℕ) (front : List (List ℕ)) (bs : List ℕ)
    → length done ≡ length front
    → parse_entries (set_at greatest (done ++ sizes)) front (length sizes) bs
    ≡ parse_literal_sets greatest sizes bs
unfolding parse_sets
sets_following greatest done [] front bs h = refl
sets_following greatest done (n ∷ sizes) front bs h =
    ap (λ (k : ℕ). parse_literals greatest k bs >>= lines_after (set_at greatest (done ++ n ∷ sizes)) front (length sizes)) (middle_is done sizes n (length front) h)
    ∙ go (parse_literals greatest n bs)
    (λ x. ap (λ (all : List ℕ). parse_entries (set_at greatest all) (front ++ x.0 ∷ []) (length sizes) x.1) (sym (append_assoc done (n ∷ []) sizes))
    ∙ sets_following greatest (done ++ n ∷ []) sizes (front ++ x.0 ∷ []) x.1 (length_push done n ∙ ap (λ (k : ℕ). k + 1) h ∙ sym (length_push front x.0)))
  where
    go : (o : Option (List ℕ × List ℕ)) → ((x : List ℕ × List ℕ) → parse_entries (set_at greatest (done ++ n ∷ sizes)) (front ++ x.0 ∷ []) (length sizes) x.1 ≡ parse_literal_sets greatest sizes x.1)
        → (o >>= lines_after (set_at greatest (done ++ n ∷ sizes)) front (length sizes)) ≡ (o >>= λ set. parse_literal_sets greatest sizes set.1 >>= λ sets. Some (set.0 ∷ sets.0, sets.1))
    go None rest = refl
    go (Some x) rest = ap (λ (r : Option (List (List ℕ) × List ℕ)). r >>= put_first x.0) (rest x)

-- sets of these sizes
sets_is_entries : (greatest : ℕ) (sizes : List ℕ) (bs : List ℕ)
    → parse_entries (set_at greatest sizes) [] (length sizes) bs
    ≡ parse_literal_sets greatest sizes bs
sets_is_entries greatest sizes bs = sets_following greatest [] sizes [] bs refl

module _ (greatest : ℕ) (sizes : List ℕ) (i : ℕ) (b m : Feed) (front : List (List ℕ)) (h : Takes (parse_entries (set_at greatest sizes) [] i) b m front) where
  -- the size of the set after these
  next_size : get_or sizes i 0 ≡ get_or sizes (length front) 0
  next_size = ap (λ (k : ℕ). get_or sizes k 0) (sym (takes_count (set_at greatest sizes) i b m front h))

  -- one more set
  pub takes_set : (a : Feed) (set : List ℕ)
      → Takes (parse_literals greatest (get_or sizes i 0)) m a set
      → Takes (parse_entries (set_at greatest sizes) [] (i + 1)) b a (front ++ set ∷ [])
  takes_set a set k = takes_more (set_at greatest sizes) i b m a front set h (subst (λ (n : ℕ). Takes (parse_literals greatest n) m a set) next_size k)

  -- a set that isn't there
  pub misses_set : i < length sizes → Misses (parse_literals greatest (get_or sizes i 0)) m
      → Misses (parse_literal_sets greatest sizes) b
  misses_set lt k =
      misses_same (parse_entries (set_at greatest sizes) [] (length sizes)) (parse_literal_sets greatest sizes) b
      (misses_more (set_at greatest sizes) i (length sizes) b m front lt h (subst (λ (n : ℕ). Misses (parse_literals greatest n) m) next_size k))
      (sets_is_entries greatest sizes)

  -- all sets
  pub takes_sets : i ≡ length sizes → Takes (parse_literal_sets greatest sizes) b m front
  takes_sets all =
      takes_same (parse_entries (set_at greatest sizes) [] (length sizes)) (parse_literal_sets greatest sizes) b m front
      (takes_every (set_at greatest sizes) i (length sizes) b m front all h)
      (sets_is_entries greatest sizes)

-- one more value, made of one more entry
pub made_push : {A B : Type 0} (f : A → B) (front : List B) (xs : List A) (x : A) (old new : List B)
    (y : B) → old ≡ front ++ map f xs → y ≡ f x → new ≡ old ++ y ∷ []
    → new ≡ front ++ map f (xs ++ x ∷ [])
made_push {B = B} f front xs x old new y h e is = is ∙ rw (h, e) (append_assoc front (map f xs) (f x ∷ []) ∙ ap (λ (ys : List B). front ++ ys) (sym (map_push f xs x)))
