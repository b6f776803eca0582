-- A difference, group by group.
use Rattle.aig_base.proofs.Words.{◌≡◌, ℕ, suc, ◌+◌, ◌-◌, ◌*◌, ◌^◌, ◌<◌, ◌≤◌, ◌%◌, cond, ltb, List, [], ◌∷◌, Option, Some, None, refl, ap, ◌∙◌, arith, lt-ltb, le-ltb}
use Rattle.std.proofs.Math.Nat.{mul-le-mul_left, pow-le-pow_right}
use Rattle.aig_format.specs.Parse.{◌>>=◌, parse_groups, parse_delta, parse_map, parse_if}

-- a value, and the bytes after it
abbrev read : ℕ → List ℕ → Option (ℕ × List ℕ)
read d bytes = Some (d, bytes)

abbrev small : ℕ × List ℕ → Option (ℕ × List ℕ)
small x = cond (ltb x.0 (2 ^ 32)) (Some x) None

-- at most k groups after those that make this value; the next one counts `place` times
abbrev pub groups_following : ℕ → ℕ → ℕ → List ℕ → Option (ℕ × List ℕ)
groups_following value place k = parse_if (parse_map (λ d. value + place * d) (parse_groups k)) (λ d. ltb d (2 ^ 32))

pub delta_starts : (bs : List ℕ) → parse_delta bs ≡ groups_following 0 1 5 bs
delta_starts bs = go (parse_groups 5 bs)
  where
    go : (o : Option (ℕ × List ℕ)) → (o >>= small) ≡ ((o >>= λ x. read (0 + 1 * x.0) x.1) >>= small)
    go None = refl
    go (Some x) = let e : x.0 ≡ 0 + 1 * x.0 = omega arith in ap (λ (d : ℕ). small (d, x.1)) e

-- ---- after i groups

-- there is a byte to come
one_left : (i : ℕ) → i < 5 → 5 - i ≡ suc (5 - (i + 1))
one_left i lt = omega arith

pub delta_ends : (value place i : ℕ) → i < 5 → groups_following value place (5 - i) [] ≡ None
unfolding parse_groups
delta_ends value place i lt = rw (one_left i lt) refl

module _ (value place i b : ℕ) (bs : List ℕ) (lt : i < 5) where
  delta_stops : b < 128 → groups_following value place (5 - i) (b ∷ bs) ≡ small (value + place * (b % 128), bs)
  unfolding parse_groups
  delta_stops low = let r : b % 128 ≡ b = omega arith in rw (one_left i lt, lt-ltb b 128 low, r) refl

  -- the last group
  pub delta_gives : b < 128 → value + place * (b % 128) < 2 ^ 32 → groups_following value place (5 - i) (b ∷ bs) ≡ Some (value + place * (b % 128), bs)
  delta_gives low fits = delta_stops low ∙ rw (lt-ltb _ _ fits) refl

  -- the last group, past the largest value
  pub delta_overflows : b < 128 → 2 ^ 32 ≤ value + place * (b % 128) → groups_following value place (5 - i) (b ∷ bs) ≡ None
  delta_overflows low over = delta_stops low ∙ rw (le-ltb _ _ over) refl

  -- a group with others after it
  pub delta_goes : 128 ≤ b → b < 256 → groups_following value place (5 - i) (b ∷ bs) ≡ groups_following (value + place * (b % 128)) (place * 128) (5 - (i + 1)) bs
  unfolding parse_groups
  delta_goes high byte = let r : b % 128 ≡ b - 128 = omega arith in rw (one_left i lt, le-ltb b 128 high, r) (go (parse_groups (5 - (i + 1)) bs))
    where
      go : (o : Option (ℕ × List ℕ)) → (((o >>= λ x. read ((b - 128) + 128 * x.0) x.1) >>= λ x. read (value + place * x.0) x.1) >>= small)
          ≡ ((o >>= λ x. read ((value + place * (b - 128)) + place * 128 * x.0) x.1) >>= small)
      go None = refl
      go (Some x) =
          let e : value + place * ((b - 128) + 128 * x.0) ≡ (value + place * (b - 128)) + place * 128 * x.0 = omega arith in
          ap (λ (d : ℕ). small (d, x.1)) e

pub delta_too_long : (value place i : ℕ) → 5 ≤ i → (bs : List ℕ) → groups_following value place (5 - i) bs ≡ None
unfolding parse_groups
delta_too_long value place i le bs = let k : 5 - i ≡ 0 = omega arith in rw k refl

-- ---- sizes

-- one more group keeps the value below the next place
pub group_fits : (value place b : ℕ) → value < place → value + place * (b % 128) < place * 128
group_fits value place b lt = let r : b % 128 ≤ 127 = omega arith in omega (arith, mul-le-mul_left place r)

pub place_fits : (place i : ℕ) → i < 5 → place ≡ 128 ^ i → place * 128 ≤ 2 ^ 35
place_fits place i lt is =
    let le : i ≤ 4 = omega arith in
    let some : 0 < 128 = omega arith in
    let p : 128 ^ i ≤ 128 ^ 4 = pow-le-pow_right some le in
    omega arith

-- four groups are below 2^28
pub near_fits : (place i : ℕ) → i < 4 → place ≡ 128 ^ i → place * 128 ≤ 2 ^ 28
near_fits place i lt is =
    let le : i ≤ 3 = omega arith in
    let some : 0 < 128 = omega arith in
    let p : 128 ^ i ≤ 128 ^ 3 = pow-le-pow_right some le in
    omega arith
