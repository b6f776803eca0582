use Rattle.aig_base.proofs.Words.{◌≡◌, ℕ, List, [], ◌∷◌, ◌++◌, length, refl, sym, ap, ◌∙◌, inr, on_ok_weaker, eqb-true, ◌==◌}
use Rattle.std.proofs.lemmas.List.{append-nil}
use Rattle.aig_refutation.specs.Proofs.{groups_at, hints_at}
use Rattle.aig_refutation.specs.Tokens.{said_number, said_numbers}
use Rattle.aig_refutation.specs.declared.words.Number.{Number}
use Rattle.aig_refutation.proofs.NearNumbers.{hints_more, no_length}
use Rattle.aig_refutation.proofs.step.push_near.Goals as goal

pub returns-then-not-is_first-clause-taken : goal.returns-then-not-is_first-clause-taken
returns-then-not-is_first-clause-taken c = ([], record { next = refl; same = refl; goes_on = inr refl })

pub returns-then-not-is_first-clause-hints : goal.returns-then-not-is_first-clause-hints
returns-then-not-is_first-clause-hints c numbers hints groups =
    let all = numbers ++ said_number c.args.number ∷ [] in
    let pushed = c.in_ok-push_number.ensures numbers hints groups in
    record {
      taken = [];
      takes = record { next = refl; same = refl; goes_on = inr refl };
      hints_are = ap hints_at (append-nil all) ∙ pushed.0;
      groups_are = ap groups_at (append-nil all) ∙ pushed.1;
    }

pub returns-clause-taken : goal.returns-clause-taken
returns-clause-taken c =
    on_ok_weaker c.near_numbers.result (λ near. (near.0, near.2)) c.near_numbers.ensures

pub returns-clause-hints : goal.returns-clause-hints
returns-clause-hints c numbers hints groups =
    let all = numbers ++ said_number c.args.number ∷ [] in
    let items = c.push_number.new.groups.items in
    let pushed = c.in_ok-push_number.ensures numbers hints groups in
    let none : said_numbers items ≡ [] =
    no_length items (eqb-true (length items) 0
    (ap (λ (list : List Number). length list == 0) (sym c.as_slice.ensures.value)
    ∙ sym c.is_empty-is_first.ensures ∙ c.if-not-is_first.false)) in
    let more = λ (taken : List ℕ). hints_more all taken (pushed.1 ∙ none) in
    on_ok_weaker c.near_numbers.result (λ near. record {
      taken = near.0;
      takes = near.2;
      hints_are = (more near.0).0 ∙ ap (λ (l : List ℕ). l ++ near.0) pushed.0 ∙ sym near.1;
      groups_are = (more near.0).1 ∙ sym none;
    }) c.near_numbers.ensures
