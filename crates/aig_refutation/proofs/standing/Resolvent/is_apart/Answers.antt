use Rattle.aig_base.proofs.Words.{◌≡◌, ◌+◌, ◌*◌, ◌<◌, Bool, true, false, ◌||◌, List, ◌++◌, length, slice_get, Some, Ok, sym, ap, subst, ◌∙◌, All, false≢true}
use Rattle.aig_base.specs.declared.MemoryError.{MemoryError}
use Rattle.aig_base.specs.declared.logic.literal.Lit.{Lit}
use Rattle.aig_base.specs.Clauses.{inverse_lit, variable_of}
use Rattle.aig_refutation.specs.Propagation.{FitsMarks, has, is_rup, is_tautology}
use Rattle.aig_refutation.specs.Rat.{hints_for, resolvent}
use Rattle.aig_refutation.specs.Starts.{IsStart, start_in}
use Rattle.aig_refutation.specs.Tables.{FindsHints, Table}
use Rattle.aig_refutation.specs.Tokens.{said_numbers}
use Rattle.aig_refutation.proofs.Apart.{all_hints_named, found_apart, resolved_literals}
use Rattle.aig_refutation.proofs.HintedRup.{all_named}
use Rattle.aig_refutation.proofs.Literals.{clause_there}
use Rattle.aig_refutation.proofs.standing.Resolvent.is_apart.Goals as goal

pub returns-then-not-branch-clause-apart : goal.returns-then-not-branch-clause-apart
returns-then-not-branch-clause-apart c live h named at =
    let t : Table = c.args.numbered.now in
    let hints = c.args.hints.now in
    let groups = said_numbers c.args.groups.now in
    let number = c.in-Some.number in
    let all = hints ++ hints_for number false groups in
    let same : start_in c.resolve.new.self.starts.items c.args.place
    ≡ start_in c.args.self.now.starts.items c.args.place =
    ap (λ v. start_in v.items c.args.place) c.in_ok-resolve.ensures.starts in
    let begins = subst (IsStart c.args.groups.now c.args.groups.now number) (sym same)
    (at c.args.place number c.requires.place (sym c.in-Some.ensures)) in
    let finds : FindsHints {E = MemoryError} t all c.find.new.self.places.items (Ok false) =
    subst (λ (b : Bool). FindsHints {E = MemoryError} t all c.find.new.self.places.items (Ok b))
    c.if-not-branch.true (c.in_ok-find.ensures.found begins) in
    absurd (false≢true (sym finds ∙ sym (all_named t live h all)
    ∙ all_hints_named live hints groups number named))

pub is_implied-requires-clause-clause : goal.is_implied-requires-clause-clause
is_implied-requires-clause-clause c =
    let marks = c.args.marks.now in
    let P : Lit → Type 0 = λ lit. 2 * variable_of lit + 1 < length marks in
    let clauses : All (FitsMarks marks) c.clauses.result.now =
    subst (λ (list : List (List Lit)). All (FitsMarks marks) list) (sym c.clauses.ensures)
    c.requires.clauses in
    let other = c.clause-other.result.now in
    let fits : All P other = clause_there (FitsMarks marks) c.clauses.result.now _ other
    c.clause-other.ensures clauses in
    let made : c.deref.result.now ≡ resolvent c.args.pivot c.args.clause.now other =
    c.deref.ensures.value ∙ ap (λ v. v.items) c.in_ok-find.ensures.clause
    ∙ c.in_ok-resolve.ensures.clause in
    subst (λ (list : List Lit). All P list) (sym made)
    (resolved_literals P c.args.pivot c.args.clause.now other c.requires.clause fits)

pub returns-clause-apart : goal.returns-clause-apart
returns-clause-apart c live h named at =
    let t : Table = c.args.numbered.now in
    let clause = c.args.clause.now in
    let pivot = c.args.pivot in
    let hints = c.args.hints.now in
    let groups = said_numbers c.args.groups.now in
    let number = c.in-Some.number in
    let other = c.clause-other.result.now in
    let all = hints ++ hints_for number false groups in
    let same : start_in c.resolve.new.self.starts.items c.args.place
    ≡ start_in c.args.self.now.starts.items c.args.place =
    ap (λ v. start_in v.items c.args.place) c.in_ok-resolve.ensures.starts in
    let begins = subst (IsStart c.args.groups.now c.args.groups.now number) (sym same)
    (at c.args.place number c.requires.place (sym c.in-Some.ensures)) in
    let finds : FindsHints {E = MemoryError} t all c.find.new.self.places.items (Ok true) =
    subst (λ (b : Bool). FindsHints {E = MemoryError} t all c.find.new.self.places.items (Ok b))
    c.if-not-branch.false (c.in_ok-find.ensures.found begins) in
    let there : slice_get t.clauses c.args.place ≡ Some other =
    ap (λ (list : List (List Lit)). slice_get list c.args.place) (sym c.clauses.ensures)
    ∙ c.clause-other.ensures in
    let inverse : has other (inverse_lit pivot) ≡ true =
    ap (has other) (sym c.not.ensures) ∙ sym c.has.ensures ∙ c.if-not-has.false in
    let made : c.deref.result.now ≡ resolvent pivot clause other =
    c.deref.ensures.value ∙ ap (λ v. v.items) c.in_ok-find.ensures.clause
    ∙ c.in_ok-resolve.ensures.clause in
    let exact = c.is_implied.ensures.exact
    ∙ ap (λ (list : List (List Lit)). is_rup (slice_get list) c.deref.result.now
    c.deref-2.result.now || is_tautology c.deref.result.now) c.clauses-2.ensures in
    found_apart t live h pivot clause hints groups c.args.place number other (sym c.in-Some.ensures) there
    inverse c.deref.result.now made c.deref-2.result.now (c.deref-2.ensures.value ∙ finds.0)
    finds.1 c.is_implied.result exact
