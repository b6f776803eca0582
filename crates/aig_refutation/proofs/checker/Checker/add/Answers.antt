use Rattle.aig_base.proofs.Words.{◌≡◌, Bool, true, false, ◌&&◌, List, ℕ, Ok, Err, sym, ap, subst, ◌∙◌, refl, and_from, is_some, list_all}
use Rattle.aig_base.specs.declared.MemoryError.{MemoryError}
use Rattle.aig_refutation.specs.declared.error.RefutationError.{RefutationError}
use Rattle.aig_refutation.specs.declared.words.Number.{Number}
use Rattle.aig_refutation.specs.Checking.{Live, added, are_named, is_named, stands}
use Rattle.aig_refutation.specs.Tables.{FindsHints, Holds, HoldsNext, Table, place_in}
use Rattle.aig_refutation.specs.Tokens.{said_numbers}
use Rattle.aig_refutation.proofs.Adding.{added_not, added_on, added_unnamed}
use Rattle.aig_refutation.proofs.Apart.{groups_named}
use Rattle.aig_refutation.proofs.HintedRup.{all_named}
use Rattle.aig_refutation.proofs.Known.{tells}
use Rattle.aig_refutation.proofs.checker.Checker.add.Goals as goal
use Rattle.aig_refutation.proofs.checker.Checker.add.Goals.{then-not-branch-via-then-not-branch, then-not-branch-via-else-not-branch+then-not-are_named}

-- hints name clauses, or some don't, by their places
module _ (t : Table) (live : Live) (h : Holds t live) (hints : List ℕ) (numbers : List Number) where
  abbrev named : Bool
  named = are_named live hints (said_numbers numbers)

  abbrev placed : Bool
  placed = list_all (λ number. is_some (place_in t number.value)) numbers

  hint_unnamed : list_all (λ n. is_some (place_in t n)) hints ≡ false → named ≡ false
  hint_unnamed none =
      ap (λ (b : Bool). b && list_all (λ hint. is_named live hint.1) (said_numbers numbers))
      (all_named t live h hints ∙ none)

  group_unnamed : placed ≡ false → named ≡ false
  group_unnamed none = by (list_all (is_named live) hints)
    where
      by : (a : Bool)
          → (a && list_all (λ hint. is_named live hint.1) (said_numbers numbers)) ≡ false
      by true = groups_named t live h numbers ∙ none
      by false = refl

  both_named : list_all (λ n. is_some (place_in t n)) hints ≡ true → placed ≡ true → named ≡ true
  both_named first second =
      and_from (list_all (is_named live) hints)
      (list_all (λ hint. is_named live hint.1) (said_numbers numbers))
      (all_named t live h hints ∙ first) (groups_named t live h numbers ∙ second)

pub returns-then-not-branch-clause-moves : goal.returns-then-not-branch-clause-moves
returns-then-not-branch-clause-moves c live h =
    let t : Table = c.self.inside.numbered in
    let clause = c.args.clause.now in
    let hints = c.args.hints.now in
    let numbers = c.args.groups.now in
    let before : Holds t live = subst (λ (table : Table). Holds table live)
    (sym (ap (λ v. v.table) c.self.view_is)) (subst (λ (table : Table). Holds table live)
    (sym c.fit.ensures.same) h) in
    let none : are_named live hints (said_numbers numbers) ≡ false =
    elim c.then-not-branch.branch [
      | then-not-branch-via-then-not-branch w ↦
          let finds : FindsHints {E = MemoryError} t hints c.find_hints.new.places.items (Ok false) =
          subst (λ (b : Bool). FindsHints {E = MemoryError} t hints c.find_hints.new.places.items
          (Ok b)) w.if-not-branch.true c.in_ok-find_hints.ensures in
          hint_unnamed t live before hints numbers finds
      | then-not-branch-via-else-not-branch+then-not-are_named w ↦
          group_unnamed t live before hints numbers
          (sym w.are_named.ensures ∙ w.if-not-are_named.true)
    ] in
    (added_unnamed live c.args.number clause hints
    (said_numbers numbers) none)

pub returns-then-not-branch-2-clause-moves : goal.returns-then-not-branch-2-clause-moves
returns-then-not-branch-2-clause-moves c live h =
    let t : Table = c.self.inside.numbered in
    let number = c.args.number in
    let clause = c.args.clause.now in
    let hints = c.args.hints.now in
    let groups = said_numbers c.args.groups.now in
    let before : Holds t live = subst (λ (table : Table). Holds table live)
    (sym (ap (λ v. v.table) c.self.view_is)) (subst (λ (table : Table). Holds table live)
    (sym c.fit.ensures.same) h) in
    let finds : FindsHints {E = MemoryError} t hints c.find_hints.new.places.items (Ok true) =
    subst (λ (b : Bool). FindsHints {E = MemoryError} t hints c.find_hints.new.places.items (Ok b))
    c.if-not-branch.false c.in_ok-find_hints.ensures in
    let named = both_named t live before hints c.args.groups.now finds.1
    (sym c.are_named.ensures ∙ c.if-not-are_named.false) in
    let not : stands live clause hints groups ≡ false =
    sym (c.in_ok-stands.ensures.stands live before named (c.deref.ensures.value ∙ finds.0))
    ∙ c.if-not-branch-2.true in
    let e = c.refusal.result in
    (tells e (added live number clause hints groups ≡ Err e)
    (added_not live number clause hints groups named not
    ∙ ap (λ (f : RefutationError). Err f) (sym c.refusal.ensures.refusal)))

pub returns-clause-moves : goal.returns-clause-moves
returns-clause-moves c live h =
    let t : Table = c.self.inside.numbered in
    let number = c.args.number in
    let clause = c.args.clause.now in
    let hints = c.args.hints.now in
    let groups = said_numbers c.args.groups.now in
    let before : Holds t live = subst (λ (table : Table). Holds table live)
    (sym (ap (λ v. v.table) c.self.view_is)) (subst (λ (table : Table). Holds table live)
    (sym c.fit.ensures.same) h) in
    let finds : FindsHints {E = MemoryError} t hints c.find_hints.new.places.items (Ok true) =
    subst (λ (b : Bool). FindsHints {E = MemoryError} t hints c.find_hints.new.places.items (Ok b))
    c.if-not-branch.false c.in_ok-find_hints.ensures in
    let named = both_named t live before hints c.args.groups.now finds.1
    (sym c.are_named.ensures ∙ c.if-not-are_named.false) in
    let does : stands live clause hints groups ≡ true =
    sym (c.in_ok-stands.ensures.stands live before named (c.deref.ensures.value ∙ finds.0))
    ∙ c.if-not-branch-2.false in
    let is = added_on live number clause hints groups named does in
    (subst (λ said. HoldsNext c.put.new.self.table c.put.result said) (sym is)
    (c.put.ensures.moves live before))
