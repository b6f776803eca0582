-- Readers from the front that read a text exactly, and how they are joined.
use Rattle.aig_base.proofs.Words.{◌≡◌, ℕ, zero, suc, Bool, true, cond, eqb, List, [], ◌∷◌, ◌++◌, length, Option, Some, None, refl, sym, ap, subst, ◌∙◌, append_assoc, AllByRecursion, eqb-true, eq-eqb, same_Some, cond_some}
use Rattle.std.specs.Prelude.{IsTrue}
use Rattle.aig_format.proofs.Words.{◌then◌, Each, IsDigit, Ended}
use Rattle.aig_format.specs.Parse.{◌>>=◌, parse_number, parse_ended, parse_both, parse_if, parse_map, parse_entries, parse_times}
use Rattle.aig_format.proofs.EntryFacts.{AllAfter, after_each}
use Rattle.aig_format.proofs.NumberReaders.{bind_some, number_sound, number_complete}

-- the bytes begin with a text of x, and the rest follows
abbrev pub Begins : {A : Type 0} → (A → List ℕ → Type 0) → List ℕ → A × List ℕ → Type 0
Begins text bytes x = (front : List ℕ) × (bytes ≡ front ++ x.1) × text x.0 front

-- what a reader takes from the front is a text of what it gives, and each such text is taken, whatever follows
pub record Reads {A : Type 0} (text : A → List ℕ → Type 0) (read : List ℕ → Option (A × List ℕ)) : Type 0 where
  pub sound : (bytes : List ℕ) (x : A × List ℕ) → read bytes ≡ Some x → Begins text bytes x
  pub complete : (x : A) (front rest : List ℕ) → text x front → read (front ++ rest) ≡ Some (x, rest)

-- the same text in other words
pub Reads-same : {A : Type 0} (P Q : A → List ℕ → Type 0) (p : List ℕ → Option (A × List ℕ)) → Reads P p
    → ((x : A) (bytes : List ℕ) → P x bytes → Q x bytes) → ((x : A) (bytes : List ℕ) → Q x bytes → P x bytes) → Reads Q p
Reads-same P Q p hp to from = record {
  sound = λ bytes x h. let s = hp.sound bytes x h in (s.0, s.1, to x.0 s.0 s.2);
  complete = λ x front rest h. hp.complete x front rest (from x front h);
}

ended_sound : (end : ℕ) (bytes : List ℕ) (x : ℕ × List ℕ) → parse_ended end bytes ≡ Some x → Begins (Ended end) bytes x
unfolding parse_ended
ended_sound end bytes x h =
    let b = bind_some (parse_number bytes) (λ y. cond (eqb y.0.1 end) (Some (y.0.0, y.1)) None) x h in
    let g = cond_some (eqb b.0.0.1 end) (b.0.0.0, b.0.1) x b.2 in
    let t = number_sound bytes b.0.0.0 b.0.0.1 b.0.1 b.1 in
    let e : b.0.0.1 ≡ end = eqb-true _ _ g.0 in
    let whole : bytes ≡ (t.digits ++ end ∷ []) ++ b.0.1 = t.whole ∙ ap (λ (k : ℕ). t.digits ++ k ∷ b.0.1) e ∙ sym (append_assoc t.digits (end ∷ []) b.0.1) in
    subst (Begins (Ended end) bytes) g.1 (t.digits ++ end ∷ [], whole, (t.digits, end ∷ [], refl, t.is, refl))

ended_complete : (end : ℕ) (ends : IsDigit end → ⊥) (n : ℕ) (front rest : List ℕ) → Ended end n front → parse_ended end (front ++ rest) ≡ Some (n, rest)
unfolding parse_ended
ended_complete end ends n front rest h =
    let same : front ++ rest ≡ h.0 ++ end ∷ rest = ap (λ (xs : List ℕ). xs ++ rest) (h.2 ∙ ap (λ (xs : List ℕ). h.0 ++ xs) h.4) ∙ append_assoc h.0 (end ∷ []) rest in
    rw (same, number_complete h.0 n end rest h.3 ends, eq-eqb end end refl) refl

pub Reads-ended : (end : ℕ) → (IsDigit end → ⊥) → Reads (Ended end) (parse_ended end)
Reads-ended end ends = record { sound = ended_sound end; complete = ended_complete end ends }

-- one after the other
pub Reads-both : {A B : Type 0} (P : A → List ℕ → Type 0) (Q : A → B → List ℕ → Type 0) (p : List ℕ → Option (A × List ℕ)) (q : A → List ℕ → Option (B × List ℕ))
    → Reads P p → ((x : A) → Reads (Q x) (q x)) → Reads (λ xy. P xy.0 then Q xy.0 xy.1) (parse_both p q)
Reads-both {A} {B} P Q p q hp hq = record {
  sound = λ bytes x h.
      let b = bind_some (p bytes) (λ x. q x.0 x.1 >>= λ y. Some ((x.0, y.0), y.1)) x h in
      let c = bind_some (q b.0.0 b.0.1) (λ y. Some ((b.0.0, y.0), y.1)) x b.2 in
      let s = hp.sound bytes b.0 b.1 in
      let t = (hq b.0.0).sound b.0.1 c.0 c.1 in
      let whole : bytes ≡ (s.0 ++ t.0) ++ c.0.1 = s.1 ∙ ap (λ (xs : List ℕ). s.0 ++ xs) t.1 ∙ sym (append_assoc s.0 t.0 c.0.1) in
      subst (Begins (λ xy. P xy.0 then Q xy.0 xy.1) bytes) (same_Some _ _ c.2) (s.0 ++ t.0, whole, (s.0, t.0, refl, s.2, t.2));
  complete = λ xy front rest h.
      let same : front ++ rest ≡ h.0 ++ (h.1 ++ rest) = ap (λ (xs : List ℕ). xs ++ rest) h.2 ∙ append_assoc h.0 h.1 rest in
      rw (same, hp.complete xy.0 h.0 (h.1 ++ rest) h.3, (hq xy.0).complete xy.1 h.1 rest h.4) refl;
}

-- a value with a fact, and a text of it
abbrev pub With : {A : Type 0} → (A → Type 0) → (A → List ℕ → Type 0) → A → List ℕ → Type 0
With F P x bytes = F x × P x bytes

-- with a test
pub Reads-tested : {A : Type 0} (P : A → List ℕ → Type 0) (F : A → Type 0) (p : List ℕ → Option (A × List ℕ)) (test : A → Bool)
    → Reads P p → ((x : A) → test x ≡ true → F x) → ((x : A) → F x → test x ≡ true) → Reads (With F P) (parse_if p test)
Reads-tested P F p test hp to from = record {
  sound = λ bytes x h.
      let b = bind_some (p bytes) (λ y. cond (test y.0) (Some y) None) x h in
      let g = cond_some (test b.0.0) b.0 x b.2 in
      let s = hp.sound bytes b.0 b.1 in
      subst (Begins (With F P) bytes) g.1 (s.0, s.1, (to b.0.0 g.0, s.2));
  complete = λ x front rest h. rw (hp.complete x front rest h.1, from x h.0) refl;
}

-- with a test that is all that is known, beside what was
pub Reads-if : {A : Type 0} (F : A → Type 0) (P : A → List ℕ → Type 0) (p : List ℕ → Option (A × List ℕ)) (test : A → Bool) → Reads (With F P) p → Reads (With (λ x. F x × IsTrue (test x)) P) (parse_if p test)
Reads-if F P p test hp =
    Reads-same (With (λ x. IsTrue (test x)) (With F P)) (With (λ x. F x × IsTrue (test x)) P) (parse_if p test)
    (Reads-tested (With F P) (λ x. IsTrue (test x)) p test hp (λ x h. h) (λ x h. h))
    (λ x bytes h. ((h.1.0, h.0), h.1.1)) (λ x bytes h. (h.0.1, (h.0.0, h.1)))

-- nothing is known yet
abbrev pub Any : {A : Type 0} → A → Type 0
Any x = Unit {0}

pub Reads-any : {A : Type 0} (P : A → List ℕ → Type 0) (p : List ℕ → Option (A × List ℕ)) → Reads P p → Reads (With Any P) p
Reads-any P p hp = Reads-same P (With Any P) p hp (λ x bytes h. (tt, h)) (λ x bytes h. h.1)

-- seen otherwise
pub Reads-mapped : {A B : Type 0} (P : A → List ℕ → Type 0) (Q : B → List ℕ → Type 0) (p : List ℕ → Option (A × List ℕ)) (f : A → B) (g : B → A)
    → Reads P p → ((x : A) (bytes : List ℕ) → P x bytes → Q (f x) bytes) → ((y : B) (bytes : List ℕ) → Q y bytes → P (g y) bytes) → ((y : B) → f (g y) ≡ y) → Reads Q (parse_map f p)
Reads-mapped P Q p f g hp to from back = record {
  sound = λ bytes x h.
      let b = bind_some (p bytes) (λ y. Some (f y.0, y.1)) x h in
      let s = hp.sound bytes b.0 b.1 in
      subst (Begins Q bytes) (same_Some _ _ b.2) (s.0, s.1, to b.0.0 s.0 s.2);
  complete = λ y front rest h. rw (hp.complete (g y) front rest (from y front h), back y) refl;
}

-- n entries, with a text for each
abbrev pub Several : {A : Type 0} → (A → List ℕ → Type 0) → ℕ → List A → List ℕ → Type 0
Several P n xs bytes = (length xs ≡ n) × Each P xs bytes

-- n entries after these, each with a fact beside those before it
module _ {A : Type 0} (F : List A → A → Type 0) (P : A → List ℕ → Type 0) (p : List A → List ℕ → Option (A × List ℕ)) (hp : (before : List A) → Reads (With (F before) P) (p before)) where
  abbrev SeveralAfter : List A → ℕ → List A → List ℕ → Type 0
  SeveralAfter before n = With (AllAfter F before) (Several P n)

  entries_sound : (n : ℕ) (before : List A) (bytes : List ℕ) (x : List A × List ℕ) → parse_entries p before n bytes ≡ Some x → Begins (SeveralAfter before n) bytes x
  entries_sound zero before bytes x h = subst (Begins (SeveralAfter before zero) bytes) (same_Some _ _ h) ([], refl, (tt, (refl, refl)))
  entries_sound (suc n) before bytes x h =
      let b = bind_some (p before bytes) (λ x. parse_entries p (before ++ x.0 ∷ []) n x.1 >>= λ xs. Some (x.0 ∷ xs.0, xs.1)) x h in
      let c = bind_some (parse_entries p (before ++ b.0.0 ∷ []) n b.0.1) (λ xs. Some (b.0.0 ∷ xs.0, xs.1)) x b.2 in
      let s = (hp before).sound bytes b.0 b.1 in
      let t = entries_sound n (before ++ b.0.0 ∷ []) b.0.1 c.0 c.1 in
      let whole : bytes ≡ (s.0 ++ t.0) ++ c.0.1 = s.1 ∙ ap (λ (xs : List ℕ). s.0 ++ xs) t.1 ∙ sym (append_assoc s.0 t.0 c.0.1) in
      subst (Begins (SeveralAfter before (suc n)) bytes) (same_Some _ _ c.2) (s.0 ++ t.0, whole, ((s.2.0, t.2.0), (ap suc t.2.1.0, (s.0, t.0, refl, s.2.1, t.2.1.1))))

  entries_complete : (xs : List A) (before : List A) (front rest : List ℕ) → Each P xs front → AllAfter F before xs → parse_entries p before (length xs) (front ++ rest) ≡ Some (xs, rest)
  entries_complete [] before front rest h all = rw h refl
  entries_complete (x ∷ xs) before front rest h all =
      let same : front ++ rest ≡ h.0 ++ (h.1 ++ rest) = ap (λ (ys : List ℕ). ys ++ rest) h.2 ∙ append_assoc h.0 h.1 rest in
      rw (same, (hp before).complete x h.0 (h.1 ++ rest) (all.0, h.3), entries_complete xs (before ++ x ∷ []) h.1 rest h.4 all.1) refl

  pub Reads-entries : (n : ℕ) (before : List A) → Reads (SeveralAfter before n) (parse_entries p before n)
  Reads-entries n before = record {
    sound = entries_sound n before;
    complete = λ xs front rest h. ap (λ (k : ℕ). parse_entries p before k (front ++ rest)) (sym h.1.0) ∙ entries_complete xs before front rest h.1.1 h.0;
  }

-- n times, with a fact
pub Reads-times : {A : Type 0} (F : A → Type 0) (P : A → List ℕ → Type 0) (p : List ℕ → Option (A × List ℕ)) (n : ℕ) → Reads (With F P) p → Reads (With (AllByRecursion F) (Several P n)) (parse_times p n)
Reads-times F P p n hp =
    Reads-same (With (AllAfter (λ _. F) []) (Several P n)) (With (AllByRecursion F) (Several P n)) (parse_times p n) (Reads-entries (λ _. F) P (λ _. p) (λ _. hp) n [])
    (λ xs bytes h. ((after_each F xs []).0 h.0, h.1)) (λ xs bytes h. ((after_each F xs []).1 h.0, h.1))

-- seen otherwise, where several values may be seen as one
pub Reads-seen : {A B : Type 0} (P : A → List ℕ → Type 0) (Q : B → List ℕ → Type 0) (p : List ℕ → Option (A × List ℕ)) (f : A → B)
    → Reads P p → ((x : A) (bytes : List ℕ) → P x bytes → Q (f x) bytes) → ((y : B) (bytes : List ℕ) → Q y bytes → (x : A) × P x bytes × (f x ≡ y)) → Reads Q (parse_map f p)
Reads-seen P Q p f hp to from = record {
  sound = λ bytes x h.
      let b = bind_some (p bytes) (λ y. Some (f y.0, y.1)) x h in
      let s = hp.sound bytes b.0 b.1 in
      subst (Begins Q bytes) (same_Some _ _ b.2) (s.0, s.1, to b.0.0 s.0 s.2);
  complete = λ y front rest h. let x = from y front h in rw (hp.complete x.0 front rest x.1, x.2) refl;
}
