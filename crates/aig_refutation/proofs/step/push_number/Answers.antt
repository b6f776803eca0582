use Rattle.aig_base.proofs.Words.{◌≡◌, ℕ, Bool, true, false, List, [], ◌∷◌, ◌++◌, length, refl, sym, ap, ◌∙◌, map-append, on_ok_weaker, eq-eqb, eqb-true, false≢true, ◌==◌}
use Rattle.aig_refutation.specs.Proofs.{groups_at}
use Rattle.aig_refutation.specs.Tokens.{said_number, said_numbers}
use Rattle.aig_refutation.specs.declared.words.Number.{Number}
use Rattle.aig_refutation.proofs.LineParts.{group_pushed, hint_pushed}
use Rattle.aig_refutation.proofs.NearNumbers.{no_length}
use Rattle.aig_refutation.proofs.step.push_number.Goals as goal
use Rattle.aig_refutation.proofs.step.push_number.Goals.{else-number-via-then-number+else-is_first, else-number-via-else-number}

some_length : (numbers : List Number) → (length numbers ≡ 0 → ⊥) → said_numbers numbers ≡ [] → ⊥
some_length [] some is = some refl
some_length (number ∷ numbers) some is = cc

pub returns-then-is_first : goal.returns-then-is_first
returns-then-is_first c numbers hints groups =
    let n = said_number c.args.number in
    let items = c.args.groups.now.items in
    let none : said_numbers items ≡ [] =
    no_length items (eqb-true (length items) 0
    (ap (λ (list : List Number). length list == 0) (sym c.as_slice.ensures.value)
    ∙ sym c.is_empty-is_first.ensures ∙ c.if-is_first.true)) in
    let pushed = hint_pushed n numbers c.if-number.true (groups ∙ none) in
    on_ok_weaker c.push.result (λ more. (
      pushed.0 ∙ ap (λ (list : List ℕ). list ++ n.1 ∷ []) hints ∙ sym more,
      pushed.1 ∙ groups,
    )) c.push.ensures.items

pub returns-else-number : goal.returns-else-number
returns-else-number c numbers hints groups =
    let n = said_number c.args.number in
    let items = c.args.groups.now.items in
    let behind : n.0 ≡ true → groups_at numbers ≡ [] → ⊥ =
    λ positive none. elim c.else-number.branch [
      | else-number-via-then-number+else-is_first w ↦
          let some : (length items == 0) ≡ false =
          ap (λ (list : List Number). length list == 0) (sym c.as_slice.ensures.value)
          ∙ sym c.is_empty-is_first.ensures ∙ w.if-is_first.false in
          some_length items (λ z. false≢true (sym some ∙ eq-eqb (length items) 0 z))
          (sym groups ∙ none)
      | else-number-via-else-number w ↦ false≢true (sym w.if-number.false ∙ positive)
    ] in
    let pushed = group_pushed n numbers behind in
    on_ok_weaker c.push-else-number.result (λ more. (
      pushed.0 ∙ hints,
      pushed.1 ∙ ap (λ (list : List (Bool × ℕ)). list ++ n ∷ []) groups
          ∙ sym (map-append said_number items (c.args.number ∷ []))
          ∙ ap said_numbers (sym more),
    )) c.push-else-number.ensures.items
