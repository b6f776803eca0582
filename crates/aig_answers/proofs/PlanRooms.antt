-- The room for a plan: the first question that passes the limit.
use Rattle.aig_answers.proofs.Words.{◌≡◌, ◌<◌, ℕ, Bool, true, false, All, List, Option, Some, None, Ok, arith, ap, cond, get_or, le-ltb, length, lt-ltb, ltb-false, nat_lt, refl, ◌∙◌, position, position_or_len, Circuit, HasRoom, room_by, room_of, size_of, Question}
use Rattle.std.proofs.lemmas.List.Sums.{fails_before_first, position_or_len_is}

module _ {X : Type 0} (p : X → Bool) (xs : List X) where
  abbrev at_first : ℕ → Bool → Option ℕ
  at_first n there = cond there (Some n) None

  -- it is the first that passes
  pub position_is : (i : ℕ) (d : X) → i < length xs → ((k : ℕ) → k < i → p (get_or xs k d) ≡ false)
      → p (get_or xs i d) ≡ true → position p xs ≡ Some i
  position_is i d low fails passes =
      ap (λ n. at_first n (nat_lt n (length xs)))
      (position_or_len_is p xs i d (omega (arith, low)) fails (λ _. passes))
      ∙ ap (at_first i) (lt-ltb i (length xs) low)

  -- none passes
  pub position_none : (d : X) → ((k : ℕ) → k < length xs → p (get_or xs k d) ≡ false)
      → position p xs ≡ None
  position_none d fails =
      ap (λ n. at_first n (nat_lt n (length xs)))
      (position_or_len_is p xs (length xs) d (omega arith) fails
      (λ low. absurd (omega (arith, low))))
      ∙ ap (at_first (length xs)) (le-ltb (length xs) (length xs) (omega arith))

  pub none_passes : position p xs ≡ None → (i : ℕ) (d : X) → i < length xs
      → p (get_or xs i d) ≡ false
  none_passes none i d low = by (nat_lt (position_or_len p xs) (length xs)) refl none
    where
      by : (there : Bool) → nat_lt (position_or_len p xs) (length xs) ≡ there
          → at_first (position_or_len p xs) there ≡ None → p (get_or xs i d) ≡ false
      by true e is = absurd cc
      by false e is =
          fails_before_first p xs i d
          (omega (arith, low, ltb-false (position_or_len p xs) (length xs) e))

-- ---- plans

-- there is room for all that is asked where the verdict is that
room_none : (many none : Bool) (first crowded : Option ℕ) → room_by many first none crowded ≡ Ok tt
    → crowded ≡ None
room_none true none first crowded is = absurd cc
room_none false none (Some i) crowded is = absurd cc
room_none false true None crowded is = absurd cc
room_none false false None (Some i) is = absurd cc
room_none false false None None is = refl

pub has_room : (limit : ℕ) (plan : List Question) (c : Circuit) → room_of limit plan c ≡ Ok tt
    → All (λ q. HasRoom limit q.ask c) plan
has_room limit plan c is i d low =
    ltb-false limit (size_of false (get_or plan i d).ask c)
    (none_passes (λ q. nat_lt limit (size_of false q.ask c)) plan
    (room_none _ _ _ _ is) i d low)
