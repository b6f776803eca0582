-- What is written is in the grammar: numbers, lines, and one text for each entry.
use Rattle.aig_base.proofs.Words.{◌≡◌, ◌≢◌, ℕ, zero, suc, ◌+◌, ◌-◌, ◌*◌, ◌/◌, ◌%◌, ◌^◌, ◌<◌, ◌≤◌, List, [], ◌∷◌, ◌++◌, length, refl, sym, ◌∙◌, append_assoc, arith, decimal, AllByRecursion, flat_map, pow-succ', cases_lt, lt-ltb, le-ltb, inl, inr}
use Rattle.std.proofs.lemmas.List.{length-append}
use Rattle.std.proofs.lemmas.Fmt.{decimal_by_steps}
use Rattle.aig_format.specs.Text.{Each, IsDigit, value_of, IsNumber, IsLine, Groups, IsDelta}
use Rattle.aig_format.specs.Written.{line_text, groups_of, delta_of}

value_push : (ds : List ℕ) (g : ℕ) → value_of (ds ++ g ∷ []) ≡ value_of ds * 10 + (g - 48)
value_push [] g = omega arith
value_push (d ∷ ds) g =
    let len : length (ds ++ g ∷ []) ≡ suc (length ds) = omega (arith, length-append ds (g ∷ [])) in
    let p = pow-succ' 10 (length ds) in
    let step : (d - 48) * 10 ^ suc (length ds) + (value_of ds * 10 + (g - 48)) ≡ ((d - 48) * 10 ^ length ds + value_of ds) * 10 + (g - 48) = rw p (omega arith) in
    rw (len, value_push ds g) step

digits_push : (ds : List ℕ) (g : ℕ) → AllByRecursion IsDigit ds → IsDigit g → AllByRecursion IsDigit (ds ++ g ∷ [])
digits_push [] g all d = (d, tt)
digits_push (x ∷ ds) g all d = (all.0, digits_push ds g all.1 d)

push_some : (ds : List ℕ) (g : ℕ) → ds ++ g ∷ [] ≢ []
push_some [] g = λ e. cc
push_some (d ∷ ds) g = λ e. cc

pub record Spelled (n : ℕ) (ds : List ℕ) : Type 0 where
  pub some : ds ≢ []
  pub each : AllByRecursion IsDigit ds
  pub value : value_of ds ≡ n

one : (n : ℕ) → n < 10 → Spelled n ((48 + n) ∷ [])
one n lt = record { some = λ e. cc; each = ((omega arith, omega arith), tt); value = omega arith }

more : (n : ℕ) (ds : List ℕ) → 10 ≤ n → Spelled (n / 10) ds → Spelled n (ds ++ ((48 + n % 10) ∷ []))
more n ds le h = record {
  some = push_some ds (48 + n % 10);
  each = digits_push ds (48 + n % 10) h.each (omega arith, omega arith);
  value = value_push ds (48 + n % 10) ∙ let v = h.value in rw v (omega arith);
}

pub number_written : (n : ℕ) → n < 2 ^ 32 → IsNumber n (decimal n)
number_written n lt =
    let s = decimal_by_steps Spelled one more n (omega arith) in
    record { some = s.some; each = s.each; value = s.value; small = lt }

pub line_written : (n : ℕ) (ns : List ℕ) → n < 2 ^ 32 → AllByRecursion (λ m. m < 2 ^ 32) ns → IsLine (n ∷ ns) (line_text (n ∷ ns))
unfolding line_text
line_written n [] lt all = (decimal n, 10 ∷ [], refl, number_written n lt, refl)
line_written n (m ∷ ns) lt all =
    (decimal n ++ 32 ∷ [], line_text (m ∷ ns), sym (append_assoc (decimal n) (32 ∷ []) (line_text (m ∷ ns))), (decimal n, 32 ∷ [], refl, number_written n lt, refl), line_written m ns all.0 all.1)

-- a text for each entry
pub each_written : {A : Type 0} (P : A → List ℕ → Type 0) (Q : A → Type 0) (text : A → List ℕ) → ((x : A) → Q x → P x (text x)) → (xs : List A) → AllByRecursion Q xs → Each P xs (flat_map text xs)
each_written P Q text h [] all = refl
each_written P Q text h (x ∷ xs) all = (text x, flat_map text xs, refl, h x all.0, each_written P Q text h xs all.1)

groups_more : (b high : ℕ) (d : ℕ) (bytes : List ℕ) → 128 ≤ b → d + 128 ≡ b + 128 * high → Groups high bytes → Groups d (b ∷ bytes)
groups_more b high d [] le e h = absurd h
groups_more b high d (c ∷ bytes) le e h = (high, le, e, h)

groups_written : (k d : ℕ) → d < 128 ^ suc k → Groups d (groups_of k d) × (length (groups_of k d) ≤ suc k)
groups_written zero d lt = ((omega arith, refl), omega arith)
groups_written (suc k) d lt =
    elim (cases_lt d 128) [
      | inl small ↦ rw (lt-ltb _ _ small) ((small, refl), omega arith)
      | inr large ↦
          let p = pow-succ' 128 (suc k) in
          let next : d / 128 < 128 ^ suc k = omega arith in
          let h = groups_written k (d / 128) next in
          rw (le-ltb _ _ large) (groups_more (d % 128 + 128) (d / 128) d (groups_of k (d / 128)) (omega arith) (omega arith) h.0, omega (arith, h.1))
    ]

pub delta_written : (d : ℕ) → d < 2 ^ 32 → IsDelta d (delta_of d)
unfolding delta_of
delta_written d lt = let h = groups_written 4 d (omega arith) in record { groups = h.0; short = h.1; small = lt }
