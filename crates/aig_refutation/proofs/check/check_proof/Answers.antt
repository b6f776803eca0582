use Rattle.aig_base.proofs.Words.{◌≡◌, ◌≤◌, ℕ, true, false, drop, length, List, sym, ap, subst, ◌∙◌, prepend_known}
use Rattle.aig_base.specs.declared.logic.literal.Lit.{Lit}
use Rattle.aig_base.specs.Formula.{IsSatisfiable}
use Rattle.aig_lexer.specs.Takes.{feed}
use Rattle.aig_refutation.specs.Ahead.{IsAhead}
use Rattle.aig_refutation.specs.Binary.{binary_steps_in}
use Rattle.aig_refutation.specs.BinaryNumbered.{numbered_steps_in}
use Rattle.aig_refutation.specs.Checking.{all_live}
use Rattle.aig_refutation.specs.Concluding.{Concludes, ConcludesPlain, ShowsPlain, ShowsText, shown_of, text_outcome}
use Rattle.aig_refutation.specs.Forms.{has_word, is_binary, is_numbered}
use Rattle.aig_refutation.specs.Tables.{Holds}
use Rattle.aig_refutation.specs.Taken.{CanHold}
use Rattle.aig_refutation.specs.Tokens.{Text}
use Rattle.aig_refutation.proofs.Formulas.{formula_inside, numbered_form, shows_binary, shows_numbered, shows_text, word_form}
use Rattle.aig_refutation.proofs.Fronts.{front_binary, front_coming, front_numbered, front_word, word_coming}
use Rattle.aig_refutation.proofs.Keeping.{formula_ahead}
use Rattle.aig_refutation.proofs.Showing.{formula_holds, ok_on}
use Rattle.aig_refutation.proofs.check.check_proof.Goals as goal

pub consume-requires : goal.consume-requires
consume-requires g c =
    subst (λ (l : List ℕ). 4 ≤ length l) c.window.ensures (c.has_word.ensures.long c.if-has_word.true)

pub returns-then-has_word-clause-shown : goal.returns-then-has_word-clause-shown
returns-then-has_word-clause-shown g c clauses fresh formula list same none =
    let left = g.R.Source.left c.args.r.now in
    let variables = c.args.variables in
    let checker = c.args.checker.now in
    let held = c.hold.new.self in
    let after = g.R.Source.left c.hold.new.r in
    let moved = c.in_ok-hold.ensures.moved in
    let enough = c.in_ok-hold.ensures.enough in
    let inside = formula_inside checker variables clauses formula same list in
    let f = feed g.R.Source.left g.R.Source.failed g.R.Source.pulls c.consume.new.self
    c.hold.new.r in
    let long : 4 ≤ length held = subst (λ (l : List ℕ). 4 ≤ length l) c.window.ensures
    (c.has_word.ensures.long c.if-has_word.true) in
    let word : has_word held ≡ true =
    ap has_word (sym c.window.ensures) ∙ sym c.has_word.ensures.word ∙ c.if-has_word.true in
    let holds : Holds checker.table (all_live clauses) = subst (λ (l : List (List Lit)). Holds
    checker.table (all_live l)) list formula.holds.holds in
    let r = c.take_binary_numbered.result in
    shows_numbered variables clauses left inside none f (drop 4)
    (λ bytes known. ap (λ (l : List ℕ). prepend_known l after) c.consume.ensures
    ∙ word_coming left after held moved long bytes known)
    (λ bytes known. word_form variables bytes (front_word left after held moved enough bytes known
    ∙ word)) r
    (subst (λ (n : ℕ). Concludes f (λ bytes. shown_of (all_live clauses) (numbered_steps_in n
    bytes)) r) c.allowed-bound.ensures.allowed
    (c.take_binary_numbered.ensures.shown (all_live clauses) holds))

pub returns-then-not-is_binary-clause-shown : goal.returns-then-not-is_binary-clause-shown
returns-then-not-is_binary-clause-shown g c clauses fresh formula list same none =
    let left = g.R.Source.left c.args.r.now in
    let variables = c.args.variables in
    let checker = c.args.checker.now in
    let held = c.hold.new.self in
    let after = g.R.Source.left c.hold.new.r in
    let moved = c.in_ok-hold.ensures.moved in
    let enough = c.in_ok-hold.ensures.enough in
    let inside = formula_inside checker variables clauses formula same list in
    let f = feed g.R.Source.left g.R.Source.failed g.R.Source.pulls held c.hold.new.r in
    let no_word : has_word held ≡ false =
    ap has_word (sym c.window.ensures) ∙ sym c.has_word.ensures.word ∙ c.if-has_word.false in
    let binary : is_binary held ≡ false =
    ap is_binary (sym c.window-2.ensures) ∙ sym c.is_binary.ensures ∙ c.if-not-is_binary.true in
    let holds : Holds checker.table (all_live clauses) = subst (λ (l : List (List Lit)). Holds
    checker.table (all_live l)) list formula.holds.holds in
    let ahead : IsAhead clauses checker.table = subst (λ (l : List (List Lit)). IsAhead l
    checker.table) list (formula_ahead checker.table formula.holds) in
    let goes_on = ap (λ (t : Text). t.end) (c.words.view_is ∙ c.new-words.ensures) in
    shows_text variables clauses left inside none f (front_coming left after held moved)
    (λ bytes known. front_word left after held moved enough bytes known ∙ no_word)
    (λ bytes known. front_binary left after held moved enough bytes known ∙ binary)
    c.check_steps.result
    (subst (λ (n : ℕ). ShowsText f (text_outcome n (all_live clauses)) c.check_steps.result)
    c.allowed-bound.ensures.allowed
    (c.check_steps.ensures.shown (all_live clauses) goes_on fresh holds))
    (subst (λ (n : ℕ). ShowsPlain f n clauses c.check_steps.result) c.allowed-bound.ensures.allowed
    (c.check_steps.ensures.plain clauses goes_on fresh ahead))

pub returns-then-is_numbered-clause-shown : goal.returns-then-is_numbered-clause-shown
returns-then-is_numbered-clause-shown g c clauses fresh formula list same none =
    let left = g.R.Source.left c.args.r.now in
    let variables = c.args.variables in
    let checker = c.args.checker.now in
    let held = c.hold.new.self in
    let after = g.R.Source.left c.hold.new.r in
    let moved = c.in_ok-hold.ensures.moved in
    let enough = c.in_ok-hold.ensures.enough in
    let inside = formula_inside checker variables clauses formula same list in
    let f = feed g.R.Source.left g.R.Source.failed g.R.Source.pulls held c.hold.new.r in
    let no_word : has_word held ≡ false =
    ap has_word (sym c.window.ensures) ∙ sym c.has_word.ensures.word ∙ c.if-has_word.false in
    let binary : is_binary held ≡ true =
    ap is_binary (sym c.window-2.ensures) ∙ sym c.is_binary.ensures ∙ c.if-not-is_binary.false in
    let numbered : is_numbered held ≡ true =
    ap is_numbered (sym c.window-3.ensures) ∙ sym c.is_numbered.ensures ∙ c.if-is_numbered.true in
    let holds : Holds checker.table (all_live clauses) = subst (λ (l : List (List Lit)). Holds
    checker.table (all_live l)) list formula.holds.holds in
    let r = c.take_binary_numbered-then-is_numbered.result in
    shows_numbered variables clauses left inside none f (λ bytes. bytes)
    (front_coming left after held moved)
    (numbered_form variables clauses left inside none f (front_coming left after held moved)
    (λ bytes known. front_word left after held moved enough bytes known ∙ no_word)
    (λ bytes known. front_binary left after held moved enough bytes known ∙ binary)
    (λ bytes known. front_numbered left after held moved enough bytes known ∙ numbered)) r
    (subst (λ (n : ℕ). Concludes f (λ bytes. shown_of (all_live clauses) (numbered_steps_in n
    bytes)) r) c.allowed-bound.ensures.allowed
    (c.take_binary_numbered-then-is_numbered.ensures.shown (all_live clauses) holds))

pub returns-clause-shown : goal.returns-clause-shown
returns-clause-shown g c clauses fresh formula list same none =
    let left = g.R.Source.left c.args.r.now in
    let variables = c.args.variables in
    let checker = c.args.checker.now in
    let held = c.hold.new.self in
    let after = g.R.Source.left c.hold.new.r in
    let moved = c.in_ok-hold.ensures.moved in
    let enough = c.in_ok-hold.ensures.enough in
    let inside = formula_inside checker variables clauses formula same list in
    let f = feed g.R.Source.left g.R.Source.failed g.R.Source.pulls held c.hold.new.r in
    let no_word : has_word held ≡ false =
    ap has_word (sym c.window.ensures) ∙ sym c.has_word.ensures.word ∙ c.if-has_word.false in
    let binary : is_binary held ≡ true =
    ap is_binary (sym c.window-2.ensures) ∙ sym c.is_binary.ensures ∙ c.if-not-is_binary.false in
    let numbered : is_numbered held ≡ false =
    ap is_numbered (sym c.window-3.ensures) ∙ sym c.is_numbered.ensures ∙ c.if-is_numbered.false in
    let ahead : IsAhead clauses checker.table = subst (λ (l : List (List Lit)). IsAhead l
    checker.table) list (formula_ahead checker.table formula.holds) in
    shows_binary variables clauses left inside none f (front_coming left after held moved)
    (λ bytes known. front_word left after held moved enough bytes known ∙ no_word)
    (λ bytes known. front_binary left after held moved enough bytes known ∙ binary)
    (λ bytes known. front_numbered left after held moved enough bytes known ∙ numbered)
    c.check_binary.result
    (subst (λ (n : ℕ). ConcludesPlain f clauses (binary_steps_in n) c.check_binary.result)
    c.allowed-bound.ensures.allowed (c.check_binary.ensures.plain clauses ahead))

pub returns-then-has_word-clause-refuted : goal.returns-then-has_word-clause-refuted
returns-then-has_word-clause-refuted g c formula =
    let clauses = c.args.checker.now.table.clauses in
    ok_on c.take_binary_numbered.result (¬ CanHold (all_live clauses)) (¬ IsSatisfiable clauses)
    (λ fails can. fails (formula_holds clauses can))
    (c.take_binary_numbered.ensures.fails (all_live clauses) formula.holds)

pub returns-then-is_numbered-clause-refuted : goal.returns-then-is_numbered-clause-refuted
returns-then-is_numbered-clause-refuted g c formula =
    let clauses = c.args.checker.now.table.clauses in
    ok_on c.take_binary_numbered-then-is_numbered.result (¬ CanHold (all_live clauses)) (¬ IsSatisfiable clauses)
    (λ fails can. fails (formula_holds clauses can))
    (c.take_binary_numbered-then-is_numbered.ensures.fails (all_live clauses) formula.holds)

pub returns-clause-refuted : goal.returns-clause-refuted
returns-clause-refuted g c formula =
    let clauses = c.args.checker.now.table.clauses in
    ok_on c.check_binary.result (¬ CanHold (all_live clauses)) (¬ IsSatisfiable clauses)
    (λ fails can. fails (formula_holds clauses can))
    (c.check_binary.ensures.fails (all_live clauses) formula.holds)
