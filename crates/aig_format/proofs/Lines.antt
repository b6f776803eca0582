-- Lines, headers, latches and gates of a text file are read from the front exactly.
use Rattle.aig_base.proofs.Words.{◌≡◌, ℕ, zero, suc, ◌≤◌, Bool, true, false, cond, eqb, List, [], ◌∷◌, ◌++◌, length, Option, Some, None, refl, sym, ap, subst, ◌∙◌, append_assoc, arith, inl, inr, eqb-true, same_Some}
use Rattle.aig_format.proofs.Words.{IsDigit, Ended, IsLine}
use Rattle.aig_format.specs.Parse.{◌>>=◌, parse_number, parse_line}
use Rattle.aig_format.proofs.Entries.{chosen}
use Rattle.aig_format.proofs.NumberReaders.{bind_some, number_sound, number_complete, Taken}
use Rattle.aig_format.proofs.Joined.{Begins, Reads}

abbrev pub IsShortLine : ℕ → List ℕ → List ℕ → Type 0
IsShortLine k ns bytes = (length ns ≤ k) × IsLine ns bytes

pub cond_then : {A : Type 0} (b : Bool) (o : Option A) (x : A) → cond b o None ≡ Some x → (b ≡ true) × (o ≡ Some x)
cond_then true o x h = (refl, h)
cond_then false o x h = absurd cc

line_more : (n : ℕ) (ns first rest : List ℕ) → Ended 32 n first → IsLine ns rest → IsLine (n ∷ ns) (first ++ rest)
line_more n [] first rest e h = absurd h
line_more n (m ∷ ns) first rest e h = (first, rest, refl, e, h)

-- the rest of a line after its first number
abbrev after : ℕ → (ℕ × ℕ) × List ℕ → Option (List ℕ × List ℕ)
after k n = cond (eqb n.0.1 10) (Some (n.0.0 ∷ [], n.1)) (cond (eqb n.0.1 32) (parse_line k n.1 >>= λ ns. Some (n.0.0 ∷ ns.0, ns.1)) None)

-- the bytes of a number and of the byte that ends it
pub taken_front : (bytes : List ℕ) (n e end : ℕ) (rest : List ℕ) → e ≡ end → Taken bytes n e rest → (front : List ℕ) × (bytes ≡ front ++ rest) × Ended end n front
taken_front bytes n e end rest is t =
    (t.digits ++ end ∷ [], t.whole ∙ ap (λ (k : ℕ). t.digits ++ k ∷ rest) is ∙ sym (append_assoc t.digits (end ∷ []) rest), (t.digits, end ∷ [], refl, t.is, refl))

pub line_sound : (k : ℕ) (bytes : List ℕ) (x : List ℕ × List ℕ) → parse_line k bytes ≡ Some x → Begins (IsShortLine k) bytes x
unfolding parse_line
line_sound zero bytes x h = absurd cc
line_sound (suc k) bytes x h =
    let b = bind_some (parse_number bytes) (after k) x h in
    let t = number_sound bytes b.0.0.0 b.0.0.1 b.0.1 b.1 in
    elim (chosen (eqb b.0.0.1 10) (Some (b.0.0.0 ∷ [], b.0.1)) (cond (eqb b.0.0.1 32) (parse_line k b.0.1 >>= λ ns. Some (b.0.0.0 ∷ ns.0, ns.1)) None) (Some x) b.2) [
      | inl last ↦
          let f = taken_front bytes b.0.0.0 b.0.0.1 10 b.0.1 (eqb-true _ _ last.0) t in
          subst (Begins (IsShortLine (suc k)) bytes) (same_Some _ _ last.1) (f.0, f.1, (omega arith, f.2))
      | inr more ↦
          let g = cond_then (eqb b.0.0.1 32) (parse_line k b.0.1 >>= λ ns. Some (b.0.0.0 ∷ ns.0, ns.1)) x more.1 in
          let c = bind_some (parse_line k b.0.1) (λ ns. Some (b.0.0.0 ∷ ns.0, ns.1)) x g.1 in
          let f = taken_front bytes b.0.0.0 b.0.0.1 32 b.0.1 (eqb-true _ _ g.0) t in
          let r = line_sound k b.0.1 c.0 c.1 in
          let whole : bytes ≡ (f.0 ++ r.0) ++ c.0.1 = f.1 ∙ ap (λ (xs : List ℕ). f.0 ++ xs) r.1 ∙ sym (append_assoc f.0 r.0 c.0.1) in
          subst (Begins (IsShortLine (suc k)) bytes) (same_Some _ _ c.2) (f.0 ++ r.0, whole, (omega (arith, r.2.0), line_more b.0.0.0 c.0.0 f.0 r.0 f.2 r.2.1))
    ]

-- a number at the front
pub number_again : (end n : ℕ) (front rest : List ℕ) → (IsDigit end → ⊥) → Ended end n front → parse_number (front ++ rest) ≡ Some ((n, end), rest)
number_again end n front rest ends h =
    let same : front ++ rest ≡ h.0 ++ end ∷ rest = ap (λ (xs : List ℕ). xs ++ rest) (h.2 ∙ ap (λ (xs : List ℕ). h.0 ++ xs) h.4) ∙ append_assoc h.0 (end ∷ []) rest in
    rw (same, number_complete h.0 n end rest h.3 ends) refl

pub not_10 : IsDigit 10 → ⊥
not_10 h = omega arith

pub not_32 : IsDigit 32 → ⊥
not_32 h = omega arith

pub line_complete : (k : ℕ) (ns front rest : List ℕ) → IsShortLine k ns front → parse_line k (front ++ rest) ≡ Some (ns, rest)
unfolding parse_line
line_complete k [] front rest h = absurd h.1
line_complete zero (n ∷ ns) front rest h = absurd (omega (arith, h.0))
line_complete (suc k) (n ∷ []) front rest h = rw (number_again 10 n front rest not_10 h.1) refl
line_complete (suc k) (n ∷ m ∷ ns) front rest h =
    let l = h.1 in
    let same : front ++ rest ≡ l.0 ++ (l.1 ++ rest) = ap (λ (xs : List ℕ). xs ++ rest) l.2 ∙ append_assoc l.0 l.1 rest in
    rw (same, number_again 32 n l.0 (l.1 ++ rest) not_32 l.3, line_complete k (m ∷ ns) l.1 rest (omega (arith, h.0), l.4)) refl

pub Reads-line : (k : ℕ) → Reads (IsShortLine k) (parse_line k)
Reads-line k = record { sound = line_sound k; complete = line_complete k }
