use Rattle.aig_base.proofs.Words.{◌≡◌, ℕ, ◌||◌, Bool, true, List, is_some, list_all, sym, ap, ◌∙◌, and_parts, IfOk-weaker}
use Rattle.aig_refutation.specs.Checking.{Live, are_named, follows, is_named}
use Rattle.aig_refutation.specs.Rat.{is_rat}
use Rattle.aig_refutation.specs.Tables.{Holds, Table, place_in}
use Rattle.aig_refutation.specs.Tokens.{said_numbers}
use Rattle.aig_refutation.proofs.HintedRup.{all_named}
use Rattle.aig_refutation.proofs.Kept.{same_follows}
use Rattle.aig_refutation.proofs.standing.Resolvent.stands.Goals as goal

-- the first hints name clauses
have : (t : Table) (live : Live) → Holds t live → (hints : List ℕ) (groups : List (Bool × ℕ))
    → are_named live hints groups ≡ true → list_all (λ n. is_some (place_in t n)) hints ≡ true
have t live h hints groups named =
    let parts = and_parts (list_all (is_named live) hints)
    (list_all (λ hint. is_named live hint.1) groups) named in
    sym (all_named t live h hints) ∙ parts.0

pub returns-then-is_implied-clause-stands : goal.returns-then-is_implied-clause-stands
returns-then-is_implied-clause-stands c live h named at =
    let groups = said_numbers c.args.groups.now in
    let rat = is_rat live.clauses c.args.clause.now c.args.hints.now groups in
    let same = c.is_implied.ensures.exact ∙ same_follows c.args.numbered.now live h
    c.args.clause.now c.args.hints.now c.clauses.result.now c.args.places.now
    (have c.args.numbered.now live h c.args.hints.now groups named) c.clauses.ensures at in
    ap (λ (b : Bool). b || rat) (sym c.if-is_implied.true ∙ same)

pub returns-clause-stands : goal.returns-clause-stands
returns-clause-stands c live h named at =
    let groups = said_numbers c.args.groups.now in
    let rat = is_rat live.clauses c.args.clause.now c.args.hints.now groups in
    let same = c.is_implied.ensures.exact ∙ same_follows c.args.numbered.now live h
    c.args.clause.now c.args.hints.now c.clauses.result.now c.args.places.now
    (have c.args.numbered.now live h c.args.hints.now groups named) c.clauses.ensures at in
    IfOk-weaker c.is_rat.result (λ (is : Bool). is ≡ rat)
    (λ (is : Bool). is ≡ (follows live c.args.clause.now c.args.hints.now || rat))
    (λ is e. e ∙ ap (λ (b : Bool). b || rat) (sym c.if-is_implied.false ∙ same))
    (c.is_rat.ensures.rat live h named)
