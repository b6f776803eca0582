-- Witnesses are read from the front exactly.
use Rattle.aig_base.proofs.Words.{◌≡◌, ℕ, ◌^◌, ◌<◌, Bool, true, false, cond, eqb, List, [], ◌∷◌, ◌++◌, map, Some, None, refl, sym, ap, subst, ◌∙◌, append_assoc, append-nil, inl, inr, arith, decimal, flat_map, eqb-true, map-append, same_Some}
use Rattle.aig_base.specs.declared.logic.three.Lbool.{Lbool}
use Rattle.aig_base.specs.declared.logic.three.Lbool.TheVariants.{FALSE, TRUE, NONE}
use Rattle.aig_format.proofs.Words.{◌then◌, Each, Ended, IsDigit, Just, ◌>>=◌, parse_both, parse_ended, parse_map, strip}
use Rattle.aig_format.proofs.Entries.{chosen}
use Rattle.aig_format.proofs.NumberReaders.{bind_some}
use Rattle.aig_format.proofs.Joined.{Begins, Reads, Reads-both, Reads-ended, Reads-mapped, Reads-same, Reads-seen, With}
use Rattle.aig_format.proofs.Sections.{Reads-following}
use Rattle.aig_format.proofs.Printed.{number_written}
use Rattle.aig_witness.specs.declared.witness.PropertyKind.{PropertyKind}
use Rattle.aig_witness.specs.declared.witness.PropertyKind.TheVariants.{Bad, Justice}
use Rattle.aig_witness.specs.Reading.{after_comments, claim_from, kind_of_letter, parse_claim, parse_first, parse_kind, parse_next, parse_next_claim, parse_parts, parse_point_after, parse_property, parse_row_after, parse_steps_after, parse_witness, value_of_letter, witness_in}
use Rattle.aig_witness.specs.Witness.{Claim, IsTaken, SpellsClaim, SpellsWitness, Witness, letter_of, letter_of_kind, of_bad, row_text, witness_text}

-- ---- letters

letter_sound : (b : ℕ) (v : Lbool) → value_of_letter b ≡ Some v → b ≡ letter_of v
letter_sound b v h = elim (chosen (eqb b 48) (Some FALSE) (cond (eqb b 49) (Some TRUE) (cond (eqb b 120) (Some NONE) None)) (Some v) h) [
  | inl zero ↦ eqb-true b 48 zero.0 ∙ ap letter_of (same_Some FALSE v zero.1)
  | inr other ↦ elim (chosen (eqb b 49) (Some TRUE) (cond (eqb b 120) (Some NONE) None) (Some v) other.1) [
    | inl one ↦ eqb-true b 49 one.0 ∙ ap letter_of (same_Some TRUE v one.1)
    | inr last ↦ elim (chosen (eqb b 120) (Some NONE) None (Some v) last.1) [
      | inl x ↦ eqb-true b 120 x.0 ∙ ap letter_of (same_Some NONE v x.1)
      | inr none ↦ absurd (nothing v none.1)
    ]
  ]
]
  where
    nothing : (v : Lbool) → None ≡ Some v → ⊥
    nothing v h = cc

-- ---- a line of values

row_sound : (row : List Lbool) (bytes : List ℕ) (x : List Lbool × List ℕ) → parse_row_after row bytes ≡ Some x → map letter_of row ++ bytes ≡ row_text x.0 ++ x.1
unfolding parse_row_after
row_sound row [] x h = absurd cc
row_sound row (b ∷ bs) x h = elim (chosen (eqb b 10) (Some (row, bs)) (value_of_letter b >>= λ v. parse_row_after (row ++ v ∷ []) bs) (Some x) h) [
  | inl end ↦
      let same : (row, bs) ≡ x = same_Some (row, bs) x end.1 in
      ap (λ k. map letter_of row ++ k ∷ bs) (eqb-true b 10 end.0) ∙ sym (append_assoc (map letter_of row) (10 ∷ []) bs) ∙ ap (λ (y : List Lbool × List ℕ). row_text y.0 ++ y.1) same
  | inr more ↦
      let found = bind_some (value_of_letter b) (λ v. parse_row_after (row ++ v ∷ []) bs) x more.1 in
      ap (λ k. map letter_of row ++ k ∷ bs) (letter_sound b found.0 found.1)
      ∙ sym (append_assoc (map letter_of row) (letter_of found.0 ∷ []) bs)
      ∙ ap (λ front. front ++ bs) (sym (map-append letter_of row (found.0 ∷ [])))
      ∙ row_sound (row ++ found.0 ∷ []) bs x found.2
]

row_complete : (row values : List Lbool) (rest : List ℕ) → parse_row_after row (map letter_of values ++ 10 ∷ rest) ≡ Some (row ++ values, rest)
unfolding parse_row_after
row_complete row [] rest = ap (λ vs. Some (vs, rest)) (sym (append-nil row))
row_complete row (FALSE ∷ values) rest = row_complete (row ++ FALSE ∷ []) values rest ∙ ap (λ vs. Some (vs, rest)) (append_assoc row (FALSE ∷ []) values)
row_complete row (TRUE ∷ values) rest = row_complete (row ++ TRUE ∷ []) values rest ∙ ap (λ vs. Some (vs, rest)) (append_assoc row (TRUE ∷ []) values)
row_complete row (NONE ∷ values) rest = row_complete (row ++ NONE ∷ []) values rest ∙ ap (λ vs. Some (vs, rest)) (append_assoc row (NONE ∷ []) values)

Reads-row : Reads (λ values. Just (row_text values)) (parse_row_after [])
Reads-row = record {
  sound = λ bytes x h. (row_text x.0, row_sound [] bytes x h, refl);
  complete = λ values front rest h.
      let whole : front ++ rest ≡ map letter_of values ++ 10 ∷ rest = ap (λ bs. bs ++ rest) h ∙ append_assoc (map letter_of values) (10 ∷ []) rest in
      ap (parse_row_after []) whole ∙ row_complete [] values rest;
}

-- ---- lines of values, and the point

-- lines and the point after them
abbrev steps_text : List (List Lbool) → List ℕ → List ℕ
steps_text steps rest = flat_map row_text steps ++ 46 ∷ 10 ∷ rest

-- the lines that were added
record Added (steps : List (List Lbool)) (row : List Lbool) (bytes : List ℕ) (x : List (List Lbool) × List ℕ) : Type 0 where
  more : List (List Lbool)
  is : x.0 ≡ steps ++ more
  whole : map letter_of row ++ bytes ≡ steps_text more x.1

point_sound : (steps : List (List Lbool)) (row : List Lbool) (bytes : List ℕ) (x : List (List Lbool) × List ℕ) → parse_point_after steps row bytes ≡ Some x → Added steps row (46 ∷ bytes) x
point_sound steps [] [] x h = absurd cc
point_sound steps [] (b ∷ bs) x h =
    let found = bind_some (cond (eqb 10 b) (Some bs) None) (λ rest. Some (steps, rest)) x h in
    let same : (steps, found.0) ≡ x = same_Some (steps, found.0) x found.2 in
    elim (chosen (eqb 10 b) (Some bs) None (Some found.0) found.1) [
      | inl end ↦ record {
        more = [];
        is = ap (λ (y : List (List Lbool) × List ℕ). y.0) (sym same) ∙ sym (append-nil steps);
        whole = ap (λ k. 46 ∷ k ∷ bs) (sym (eqb-true 10 b end.0)) ∙ ap (λ rest. 46 ∷ 10 ∷ rest) (same_Some bs found.0 end.1 ∙ ap (λ (y : List (List Lbool) × List ℕ). y.1) same);
      }
      | inr other ↦ absurd (nothing found.0 other.1)
    ]
  where
    nothing : (rest : List ℕ) → None ≡ Some rest → ⊥
    nothing rest h = cc
point_sound steps (v ∷ row) bytes x h = absurd cc

steps_sound : (steps : List (List Lbool)) (row : List Lbool) (bytes : List ℕ) (x : List (List Lbool) × List ℕ) → parse_steps_after steps row bytes ≡ Some x → Added steps row bytes x
unfolding parse_steps_after
steps_sound steps row [] x h = absurd cc
steps_sound steps row (b ∷ bs) x h =
    let value = value_of_letter b >>= λ v. parse_steps_after steps (row ++ v ∷ []) bs in
    elim (chosen (eqb b 10) (parse_steps_after (steps ++ row ∷ []) [] bs) (cond (eqb b 46) (parse_point_after steps row bs) value) (Some x) h) [
      | inl end ↦
          let a = steps_sound (steps ++ row ∷ []) [] bs x end.1 in
          record {
            more = row ∷ a.more;
            is = a.is ∙ append_assoc steps (row ∷ []) a.more;
            whole =
                ap (λ k. map letter_of row ++ k ∷ bs) (eqb-true b 10 end.0)
                ∙ ap (λ rest. map letter_of row ++ 10 ∷ rest) a.whole
                ∙ sym (append_assoc (map letter_of row) (10 ∷ []) (steps_text a.more x.1))
                ∙ sym (append_assoc (row_text row) (flat_map row_text a.more) (46 ∷ 10 ∷ x.1));
          }
      | inr on ↦ elim (chosen (eqb b 46) (parse_point_after steps row bs) value (Some x) on.1) [
        | inl point ↦ subst (λ k. Added steps row (k ∷ bs) x) (sym (eqb-true b 46 point.0)) (point_sound steps row bs x point.1)
        | inr more ↦
            let found = bind_some (value_of_letter b) (λ v. parse_steps_after steps (row ++ v ∷ []) bs) x more.1 in
            let a = steps_sound steps (row ++ found.0 ∷ []) bs x found.2 in
            record {
              more = a.more;
              is = a.is;
              whole =
                  ap (λ k. map letter_of row ++ k ∷ bs) (letter_sound b found.0 found.1)
                  ∙ sym (append_assoc (map letter_of row) (letter_of found.0 ∷ []) bs)
                  ∙ ap (λ front. front ++ bs) (sym (map-append letter_of row (found.0 ∷ [])))
                  ∙ a.whole;
            }
      ]
    ]

line_complete : (steps : List (List Lbool)) (row values : List Lbool) (rest : List ℕ) → parse_steps_after steps row (map letter_of values ++ 10 ∷ rest) ≡ parse_steps_after (steps ++ (row ++ values) ∷ []) [] rest
unfolding parse_steps_after
line_complete steps row [] rest = ap (λ vs. parse_steps_after (steps ++ vs ∷ []) [] rest) (sym (append-nil row))
line_complete steps row (FALSE ∷ values) rest = line_complete steps (row ++ FALSE ∷ []) values rest ∙ ap (λ vs. parse_steps_after (steps ++ vs ∷ []) [] rest) (append_assoc row (FALSE ∷ []) values)
line_complete steps row (TRUE ∷ values) rest = line_complete steps (row ++ TRUE ∷ []) values rest ∙ ap (λ vs. parse_steps_after (steps ++ vs ∷ []) [] rest) (append_assoc row (TRUE ∷ []) values)
line_complete steps row (NONE ∷ values) rest = line_complete steps (row ++ NONE ∷ []) values rest ∙ ap (λ vs. parse_steps_after (steps ++ vs ∷ []) [] rest) (append_assoc row (NONE ∷ []) values)

steps_complete : (steps more : List (List Lbool)) (rest : List ℕ) → parse_steps_after steps [] (steps_text more rest) ≡ Some (steps ++ more, rest)
unfolding parse_steps_after
steps_complete steps [] rest = ap (λ rows. Some (rows, rest)) (sym (append-nil steps))
steps_complete steps (row ∷ more) rest =
    let regroup : steps_text (row ∷ more) rest ≡ map letter_of row ++ 10 ∷ steps_text more rest = append_assoc (row_text row) (flat_map row_text more) (46 ∷ 10 ∷ rest) ∙ append_assoc (map letter_of row) (10 ∷ []) (steps_text more rest) in
    ap (parse_steps_after steps []) regroup
    ∙ line_complete steps [] row (steps_text more rest)
    ∙ steps_complete (steps ++ row ∷ []) more rest
    ∙ ap (λ rows. Some (rows, rest)) (append_assoc steps (row ∷ []) more)

-- the lines of rows
abbrev Lines : List (List Lbool) → List ℕ → Type 0
Lines = Each (λ row. Just (row_text row))

lines_spelled : (rows : List (List Lbool)) → Lines rows (flat_map row_text rows)
lines_spelled [] = refl
lines_spelled (row ∷ rows) = (row_text row, flat_map row_text rows, refl, refl, lines_spelled rows)

lines_are : (rows : List (List Lbool)) (bytes : List ℕ) → Lines rows bytes → bytes ≡ flat_map row_text rows
lines_are [] bytes h = h
lines_are (row ∷ rows) bytes h = h.2 ∙ ap (λ front. front ++ h.1) h.3 ∙ ap (λ rest. row_text row ++ rest) (lines_are rows h.1 h.4)

Reads-steps : Reads (λ steps. Lines steps then Just (46 ∷ 10 ∷ [])) (parse_steps_after [] [])
Reads-steps = record {
  sound = λ bytes x h.
      let a = steps_sound [] [] bytes x h in
      let text = flat_map row_text x.0 in
      let whole : bytes ≡ (text ++ 46 ∷ 10 ∷ []) ++ x.1 = a.whole ∙ ap (λ rows. steps_text rows x.1) (sym a.is) ∙ sym (append_assoc text (46 ∷ 10 ∷ []) x.1) in
      (text ++ 46 ∷ 10 ∷ [], whole, (text, 46 ∷ 10 ∷ [], refl, lines_spelled x.0, refl));
  complete = λ steps front rest h.
      let whole : front ++ rest ≡ steps_text steps rest =
      ap (λ bs. bs ++ rest) (h.2 ∙ ap (λ bs. bs ++ h.1) (lines_are steps h.0 h.3) ∙ ap (λ bs. flat_map row_text steps ++ bs) h.4) ∙ append_assoc (flat_map row_text steps) (46 ∷ 10 ∷ []) rest in
      ap (parse_steps_after [] []) whole ∙ steps_complete [] steps rest;
}

-- ---- the property

justice_taken : (justice : Bool) (k : PropertyKind)
    → cond justice (Some Justice) None ≡ Some k → IsTaken justice k × (Justice ≡ k)
justice_taken true k h =
    let same : Justice ≡ k = same_Some Justice k h in (subst (IsTaken true) same tt, same)
justice_taken false k h = absurd cc

-- the letter is that of the kind, which is taken
kind_sound : (justice : Bool) (b : ℕ) (k : PropertyKind) → kind_of_letter justice b ≡ Some k
    → IsTaken justice k × (b ≡ letter_of_kind k)
kind_sound justice b k h =
    let second = cond justice (Some Justice) None in
    elim (chosen (eqb b 98) (Some Bad) (cond (eqb b 106) second None) (Some k) h) [
      | inl bad ↦
          let same : Bad ≡ k = same_Some Bad k bad.1 in
          (subst (IsTaken justice) same tt, eqb-true b 98 bad.0 ∙ ap letter_of_kind same)
      | inr other ↦ elim (chosen (eqb b 106) second None (Some k) other.1) [
        | inl just ↦
            let t = justice_taken justice k just.1 in
            (t.0, eqb-true b 106 just.0 ∙ ap letter_of_kind t.1)
        | inr none ↦ absurd (nothing k none.1)
      ]
    ]
  where
    nothing : (k : PropertyKind) → None ≡ Some k → ⊥
    nothing k h = cc

kind_complete : (justice : Bool) (k : PropertyKind) → IsTaken justice k
    → kind_of_letter justice (letter_of_kind k) ≡ Some k
kind_complete justice Bad h = refl
kind_complete true Justice h = refl
kind_complete false Justice h = absurd h

-- a kind that is taken, by its letter
abbrev KindText : Bool → PropertyKind → List ℕ → Type 0
KindText justice k = With (IsTaken justice) (λ k. Just (letter_of_kind k ∷ [])) k

Reads-kind : (justice : Bool) → Reads (KindText justice) (parse_kind justice)
Reads-kind justice = record { sound = sound; complete = complete }
  where
    sound : (bytes : List ℕ) (x : PropertyKind × List ℕ) → parse_kind justice bytes ≡ Some x
        → Begins (KindText justice) bytes x
    sound [] x h = absurd cc
    sound (b ∷ bs) x h =
        let found = bind_some (kind_of_letter justice b) (λ k. Some (k, bs)) x h in
        let k = kind_sound justice b found.0 found.1 in
        subst (Begins (KindText justice) (b ∷ bs)) (same_Some (found.0, bs) x found.2)
        (letter_of_kind found.0 ∷ [], ap (λ l. l ∷ bs) k.1, (k.0, refl))

    complete : (k : PropertyKind) (front rest : List ℕ) → KindText justice k front
        → parse_kind justice (front ++ rest) ≡ Some (k, rest)
    complete k front rest h =
        ap (λ bytes. parse_kind justice (bytes ++ rest)) h.1
        ∙ ap (λ o. o >>= λ k. Some (k, rest)) (kind_complete justice k h.0)

-- ---- witnesses

abbrev PartsText : Bool → (PropertyKind × ℕ) × (List Lbool × List (List Lbool)) → List ℕ → Type 0
PartsText justice x = (KindText justice x.0.0 then Ended 10 x.0.1) then Just (row_text x.1.0) then Lines x.1.1 then Just (46 ∷ 10 ∷ [])

no_digit : IsDigit 10 → ⊥
no_digit h = omega arith

Reads-parts : (justice : Bool) → Reads (PartsText justice) (parse_parts justice)
Reads-parts justice =
    Reads-both (λ (p : PropertyKind × ℕ). KindText justice p.0 then Ended 10 p.1) (λ _ y. Just (row_text y.0) then Lines y.1 then Just (46 ∷ 10 ∷ [])) (parse_property justice) (λ _. parse_both (parse_row_after []) (λ _. parse_steps_after [] []))
    (Reads-both (KindText justice) (λ _. Ended 10) (parse_kind justice) (λ _. parse_ended 10) (Reads-kind justice) (λ _. Reads-ended 10 no_digit))
    (λ _. Reads-both (λ row. Just (row_text row)) (λ _ steps. Lines steps then Just (46 ∷ 10 ∷ [])) (parse_row_after []) (λ _. parse_steps_after [] []) Reads-row (λ _. Reads-steps))

abbrev parts : Claim → (PropertyKind × ℕ) × (List Lbool × List (List Lbool))
parts c = ((c.kind, c.witness.bad), (c.witness.state, c.witness.steps))

-- a claim of a kind that is taken
abbrev ClaimText : Bool → Claim → List ℕ → Type 0
ClaimText justice = With (λ c. IsTaken justice c.kind) SpellsClaim

pub Reads-claim : (justice : Bool) → Reads (ClaimText justice) (parse_claim justice)
Reads-claim justice =
    Reads-same (λ c. Just (49 ∷ 10 ∷ []) then PartsText justice (parts c)) (ClaimText justice) (parse_claim justice)
    (Reads-following (49 ∷ 10 ∷ []) (λ c. PartsText justice (parts c)) (parse_map claim_from (parse_parts justice))
    (Reads-mapped (PartsText justice) (λ c. PartsText justice (parts c)) (parse_parts justice) claim_from parts (Reads-parts justice) (λ x bytes h. h) (λ c bytes h. h) (λ c. refl)))
    (λ c bytes h. (h.4.3.3.0, (h.0, h.1, h.2, h.3, (h.4.0, h.4.1, h.4.2, (h.4.3.0, h.4.3.1, h.4.3.2, h.4.3.3.1, h.4.3.4), h.4.4))))
    (λ c bytes k. let h = k.1 in (h.0, h.1, h.2, h.3, (h.4.0, h.4.1, h.4.2, (h.4.3.0, h.4.3.1, h.4.3.2, (k.0, h.4.3.3), h.4.3.4), h.4.4)))

pub Reads-witness : Reads SpellsWitness parse_witness
Reads-witness =
    Reads-seen (ClaimText false) SpellsWitness (parse_claim false) (λ c. c.witness) (Reads-claim false)
    (λ c bytes h. bad_only c bytes h) (λ w bytes h. (of_bad w, (tt, h), refl))
  where
    bad_only : (c : Claim) (bytes : List ℕ) → ClaimText false c bytes
        → SpellsWitness c.witness bytes
    bad_only c bytes h = by c.kind h.0 h.1
      where
        by : (k : PropertyKind) → IsTaken false k → SpellsClaim (record { kind = k; witness = c.witness }) bytes → SpellsWitness c.witness bytes
        by Bad t s = s
        by Justice t s = absurd t

-- where a witness is read, no comment stands
pub claim_next : (justice : Bool) (bytes rest : List ℕ) (c : Claim)
    → parse_claim justice bytes ≡ Some (c, rest)
    → parse_next_claim justice bytes ≡ Some (Some c, rest)
unfolding parse_next_claim
claim_next justice [] rest c h = absurd cc
claim_next justice (b ∷ bs) rest c h =
    let found = bind_some (cond (eqb 49 b) (strip (10 ∷ []) bs) None) (parse_map claim_from (parse_parts justice)) (c, rest) h in
    elim (chosen (eqb 49 b) (strip (10 ∷ []) bs) None (Some found.0) found.1) [
      | inl one ↦
          let same : 49 ≡ b = eqb-true 49 b one.0 in
          subst (λ k. parse_claim justice (k ∷ bs) ≡ Some (c, rest) → parse_first justice (after_comments false (k ∷ bs)) ≡ Some (Some c, rest)) same
          (λ (is : parse_claim justice (49 ∷ bs) ≡ Some (c, rest)). ap (λ o. o >>= λ x. Some (Some x.0, x.1)) is) h
      | inr other ↦ absurd (nothing found.0 other.1)
    ]
  where
    nothing : (rest : List ℕ) → None ≡ Some rest → ⊥
    nothing rest h = cc

pub spelled_claim : (justice : Bool) (front rest : List ℕ) (c : Claim) → IsTaken justice c.kind
    → SpellsClaim c front → parse_next_claim justice (front ++ rest) ≡ Some (Some c, rest)
spelled_claim justice front rest c taken h = claim_next justice (front ++ rest) rest c ((Reads-claim justice).complete c front rest (taken, h))

pub spelled_next : (front rest : List ℕ) (w : Witness) → SpellsWitness w front → parse_next (front ++ rest) ≡ Some (Some w, rest)
unfolding parse_next
spelled_next front rest w h = ap (λ o. o >>= λ x. Some (witness_in x.0, x.1)) (spelled_claim false front rest (of_bad w) tt h)

pub written_spelled : (w : Witness) → w.bad < 2 ^ 32 → SpellsWitness w (witness_text w)
unfolding witness_text
written_spelled w lt =
    let number = decimal w.bad ++ 10 ∷ [] in
    let lines = flat_map row_text w.steps in
    let following = row_text w.state ++ (lines ++ 46 ∷ 10 ∷ []) in
    let regroup : witness_text w ≡ (49 ∷ 10 ∷ []) ++ ((98 ∷ number) ++ following) = simp append_assoc in (
      49 ∷ 10 ∷ [],
      (98 ∷ number) ++ following,
      regroup,
      refl,
      (
        98 ∷ number,
        following,
        refl,
        (98 ∷ [], number, refl, refl, (decimal w.bad, 10 ∷ [], refl, number_written w.bad lt, refl)),
        (row_text w.state, lines ++ 46 ∷ 10 ∷ [], refl, refl, (lines, 46 ∷ 10 ∷ [], refl, lines_spelled w.steps, refl)),
      ),
    )
