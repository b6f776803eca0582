-- Names and the comment are read exactly.
use Rattle.aig_base.proofs.Words.{◌≡◌, ◌≢◌, ℕ, zero, suc, ◌<◌, Bool, true, false, not, ◌&&◌, eqb, List, [], ◌∷◌, ◌++◌, length, Some, refl, sym, ap, subst, ◌∙◌, append_assoc, arith, inl, inr, AllByRecursion, eqb-true, eqb-false, eq-eqb, ne_eqb, same_Some}
use Rattle.std.proofs.lemmas.List.{length-append}
use Rattle.aig_format.proofs.Words.{◌then◌, Each, Just, IsDigit, Ended, NameLine}
use Rattle.aig_format.specs.Spells.{is_letter, Name, IsComment}
use Rattle.aig_format.specs.Parse.{◌>>=◌, is_digit, parse_ended, parse_both, parse_if, parse_byte, parse_text, name_from, parse_name, is_comment, parse_tail}
use Rattle.aig_format.proofs.Entries.{chosen}
use Rattle.aig_format.proofs.EntryFacts.{AllAfter, Passes}
use Rattle.aig_format.proofs.NumberReaders.{bind_some, true_digit, digit_false, false_digit}
use Rattle.aig_format.proofs.Joined.{Begins, Reads, With, Reads-ended, Reads-both, Reads-tested, Reads-seen}

abbrev pub IsByte : ℕ → List ℕ → Type 0
IsByte b = Just (b ∷ [])

byte_sound : (bytes : List ℕ) (x : ℕ × List ℕ) → parse_byte bytes ≡ Some x → Begins IsByte bytes x
byte_sound [] x h = absurd cc
byte_sound (b ∷ bs) x h = subst (Begins IsByte (b ∷ bs)) (same_Some _ _ h) (b ∷ [], refl, refl)

pub Reads-byte : Reads IsByte parse_byte
Reads-byte = record { sound = byte_sound; complete = λ b front rest h. rw h refl }

-- a text without a line feed, and the line feed
abbrev pub IsText : List ℕ → List ℕ → Type 0
IsText name bytes = AllByRecursion (λ b. b ≢ 10) name × Just (name ++ 10 ∷ []) bytes

text_sound : (bytes : List ℕ) (x : List ℕ × List ℕ) → parse_text bytes ≡ Some x → Begins IsText bytes x
unfolding parse_text
text_sound [] x h = absurd cc
text_sound (b ∷ bs) x h =
    elim (chosen (eqb b 10) (Some ([], bs)) (parse_text bs >>= λ x. Some (b ∷ x.0, x.1)) (Some x) h) [
      | inl last ↦ subst (Begins IsText (b ∷ bs)) (same_Some _ _ last.1) (10 ∷ [], ap (λ (k : ℕ). k ∷ bs) (eqb-true _ _ last.0), (tt, refl))
      | inr more ↦
          let c = bind_some (parse_text bs) (λ x. Some (b ∷ x.0, x.1)) x more.1 in
          let s = text_sound bs c.0 c.1 in
          subst (Begins IsText (b ∷ bs)) (same_Some _ _ c.2) (b ∷ s.0, ap (λ (xs : List ℕ). b ∷ xs) s.1, ((eqb-false _ _ more.0, s.2.0), ap (λ (xs : List ℕ). b ∷ xs) s.2.1))
    ]

text_again : (name rest : List ℕ) → AllByRecursion (λ b. b ≢ 10) name → parse_text (name ++ 10 ∷ rest) ≡ Some (name, rest)
unfolding parse_text
text_again [] rest h = refl
text_again (b ∷ name) rest h = rw (ne_eqb b 10 h.0, text_again name rest h.1) refl

pub Reads-text : Reads IsText parse_text
Reads-text = record {
  sound = text_sound;
  complete = λ name front rest h. rw (h.1, append_assoc name (10 ∷ []) rest) (text_again name rest h.0);
}

abbrev Raw : ℕ × (ℕ × List ℕ) → List ℕ → Type 0
Raw x = (λ b. (is_letter x.0 ≡ true) × IsByte x.0 b) then (Ended 32 x.1.0 then IsText x.1.1)

pub Reads-name : Reads Name parse_name
Reads-name =
    Reads-seen Raw Name (parse_both (parse_if parse_byte is_letter) (λ _. parse_both (parse_ended 32) (λ _. parse_text))) name_from
    (Reads-both (λ l b. (is_letter l ≡ true) × IsByte l b) (λ _ y. Ended 32 y.0 then IsText y.1) (parse_if parse_byte is_letter) (λ _. parse_both (parse_ended 32) (λ _. parse_text))
    (Reads-tested IsByte (λ l. is_letter l ≡ true) parse_byte is_letter Reads-byte (λ l h. h) (λ l h. h))
    (λ _. Reads-both (Ended 32) (λ _. IsText) (parse_ended 32) (λ _. parse_text) (Reads-ended 32 (λ h. omega arith)) (λ _. Reads-text)))
    (λ x bytes h. (h.3.0, h.4.4.0, (h.0, h.1, h.2, h.3.1, (h.4.0, h.4.1, h.4.2, h.4.3, h.4.4.1))))
    (λ n bytes h. ((n.letter, (n.position, n.name)), (h.2.0, h.2.1, h.2.2, (h.0, h.2.3), (h.2.4.0, h.2.4.1, h.2.4.2, h.2.4.3, (h.1, h.2.4.4))), refl))

and_false : (b : Bool) → (b && false) ≡ false
and_false true = refl
and_false false = refl

both_true : (x y : Bool) → (x && not y) ≡ true → (x ≡ true) × (y ≡ false)
both_true true true h = absurd cc
both_true true false h = (refl, refl)
both_true false y h = absurd cc

comment_sound : (bytes : List ℕ) → is_comment bytes ≡ true → IsComment bytes
comment_sound [] h = tt
comment_sound (c ∷ []) h = eqb-true c 99 h
comment_sound (c ∷ b ∷ bs) h = let t = both_true (eqb c 99) (is_digit b) h in (eqb-true c 99 t.0, digit_false b t.1)

comment_complete : (bytes : List ℕ) → IsComment bytes → is_comment bytes ≡ true
comment_complete [] h = refl
comment_complete (c ∷ []) h = eq-eqb c 99 h
comment_complete (c ∷ b ∷ bs) h = rw (eq-eqb c 99 h.0, false_digit b h.1) refl

-- a letter and a digit begin no comment
digits_go_on : (letter : ℕ) (digits more : List ℕ) → digits ≢ [] → AllByRecursion IsDigit digits → is_comment (letter ∷ (digits ++ more)) ≡ false
digits_go_on letter [] more some each = absurd (some refl)
digits_go_on letter (d ∷ ds) more some each = rw (true_digit d each.0) (and_false (eqb letter 99))

-- a name line is no comment, and has some bytes
pub name_goes_on : (n : NameLine) (front rest : List ℕ) → Name n front → is_comment (front ++ rest) ≡ false
name_goes_on n front rest h =
    let w = h.2 in
    let e = w.4.3 in
    let more : List ℕ = e.1 ++ (w.4.1 ++ rest) in
    let inner : w.1 ++ rest ≡ e.0 ++ more =
    ap (λ (xs : List ℕ). xs ++ rest) (w.4.2 ∙ ap (λ (xs : List ℕ). xs ++ w.4.1) e.2) ∙ append_assoc (e.0 ++ e.1) w.4.1 rest ∙ append_assoc e.0 e.1 (w.4.1 ++ rest) in
    let same : front ++ rest ≡ n.letter ∷ (e.0 ++ more) =
    ap (λ (xs : List ℕ). xs ++ rest) (w.2 ∙ ap (λ (xs : List ℕ). xs ++ w.1) w.3) ∙ ap (λ (xs : List ℕ). n.letter ∷ xs) inner in
    ap is_comment same ∙ digits_go_on n.letter e.0 more e.3.some e.3.each

pub name_is_some : (n : NameLine) (front : List ℕ) → Name n front → 0 < length front
name_is_some n front h =
    let w = h.2 in
    let same : front ≡ n.letter ∷ w.1 = w.2 ∙ ap (λ (xs : List ℕ). xs ++ w.1) w.3 in
    omega (arith, ap length same)

-- the names and the comment after them
abbrev pub IsTail : List NameLine → List ℕ → Type 0
IsTail ns = Each Name ns then IsComment

module _ (test : List NameLine → NameLine → Bool) where
  -- the same, of names that pass the test beside those before them
  abbrev pub TailPasses : List NameLine → List NameLine → List ℕ → Type 0
  TailPasses before ns bytes = IsTail ns bytes × AllAfter (Passes test) before ns

  Reads-one : (before : List NameLine) → Reads (With (Passes test before) Name) (parse_if parse_name (test before))
  Reads-one before = Reads-tested Name (Passes test before) parse_name (test before) Reads-name (λ n h. h) (λ n h. h)

  pub tail_sound : (k : ℕ) (before : List NameLine) (bytes : List ℕ) (ns : List NameLine) → parse_tail test k before bytes ≡ Some ns → TailPasses before ns bytes
  unfolding parse_tail
  tail_sound zero before bytes ns h = absurd cc
  tail_sound (suc k) before bytes ns h =
      let read = parse_if parse_name (test before) bytes in
      elim (chosen (is_comment bytes) (Some []) (read >>= λ n. parse_tail test k (before ++ n.0 ∷ []) n.1 >>= λ ns. Some (n.0 ∷ ns)) (Some ns) h) [
        | inl done ↦ subst (λ (ms : List NameLine). TailPasses before ms bytes) (same_Some _ _ done.1) (([], bytes, refl, refl, comment_sound bytes done.0), tt)
        | inr more ↦
            let b = bind_some read (λ n. parse_tail test k (before ++ n.0 ∷ []) n.1 >>= λ ns. Some (n.0 ∷ ns)) ns more.1 in
            let c = bind_some (parse_tail test k (before ++ b.0.0 ∷ []) b.0.1) (λ ns. Some (b.0.0 ∷ ns)) ns b.2 in
            let s = (Reads-one before).sound bytes b.0 b.1 in
            let r = tail_sound k (before ++ b.0.0 ∷ []) b.0.1 c.0 c.1 in
            let t = r.0 in
            let whole : bytes ≡ (s.0 ++ t.0) ++ t.1 = s.1 ∙ ap (λ (xs : List ℕ). s.0 ++ xs) t.2 ∙ sym (append_assoc s.0 t.0 t.1) in
            subst (λ (ms : List NameLine). TailPasses before ms bytes) (same_Some _ _ c.2) ((s.0 ++ t.0, t.1, whole, (s.0, t.0, refl, s.2.1, t.3), t.4), (s.2.0, r.1))
      ]

  pub tail_complete : (ns : List NameLine) (k : ℕ) (before : List NameLine) (bytes : List ℕ) → length bytes < k → TailPasses before ns bytes → parse_tail test k before bytes ≡ Some ns
  unfolding parse_tail
  tail_complete ns zero before bytes lt p = absurd (omega (arith, lt))
  tail_complete [] (suc k) before bytes lt p =
      let h = p.0 in
      let same : bytes ≡ h.1 = h.2 ∙ ap (λ (xs : List ℕ). xs ++ h.1) h.3 in
      let is : is_comment bytes ≡ true = ap is_comment same ∙ comment_complete h.1 h.4 in
      rw is refl
  tail_complete (n ∷ ns) (suc k) before bytes lt p =
      let h = p.0 in
      let e = h.3 in
      let same : bytes ≡ e.0 ++ (e.1 ++ h.1) = h.2 ∙ ap (λ (xs : List ℕ). xs ++ h.1) e.2 ∙ append_assoc e.0 e.1 h.1 in
      let some = name_is_some n e.0 e.3 in
      let is_not : is_comment bytes ≡ false = ap is_comment same ∙ name_goes_on n e.0 (e.1 ++ h.1) e.3 in
      let one : parse_if parse_name (test before) bytes ≡ Some (n, e.1 ++ h.1) = ap (parse_if parse_name (test before)) same ∙ (Reads-one before).complete n e.0 (e.1 ++ h.1) (p.1.0, e.3) in
      let rest : parse_tail test k (before ++ n ∷ []) (e.1 ++ h.1) ≡ Some ns =
      tail_complete ns k (before ++ n ∷ []) (e.1 ++ h.1) (omega (arith, ap length same, length-append e.0 (e.1 ++ h.1))) ((e.1, h.1, refl, e.4, h.4), p.1.1) in
      rw (is_not, one, rest) refl
