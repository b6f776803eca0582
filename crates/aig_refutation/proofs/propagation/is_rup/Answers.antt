use Rattle.std.proofs.Common.{◌+◌, ◌*◌, ◌<◌, true, length, drop, get_or, slice_get, sym, ap, ◌∙◌, arith}
use Rattle.aig_base.proofs.Words.{length-set, slice_get_past}
use Rattle.aig_base.specs.Clauses.{number_of_lit, variable_of}
use Rattle.aig_refutation.specs.declared.propagation.Reading.TheVariants.{Implied, Open}
use Rattle.aig_refutation.specs.Propagation.{FitsMarks, marked, propagates, reading_if}
use Rattle.aig_refutation.proofs.Literals.{clause_there, implied_within, marked_also, number-fits, propagates_next}
use Rattle.aig_refutation.proofs.propagation.is_rup.Goals as goal

pub read_clause-requires : goal.read_clause-requires
read_clause-requires c = λ k d h.
    let fits = clause_there (FitsMarks c.args.marks.now) c.args.clauses.now _ c.clause.result.now c.clause.ensures c.requires.clauses in
    omega (arith, fits k d h, c.loop-hint.invariant.0)

pub returns-then-hint-len-clause-rup : goal.returns-then-hint-len-clause-rup
returns-then-hint-len-clause-rup c =
    let i = c.loop-hint.hint-index in
    let clauses = c.args.clauses.now in
    let none = slice_get_past clauses (get_or c.args.hints.now i 0) (omega (arith, c.len.ensures)) in
    sym (propagates_next (slice_get clauses) (marked c.loop-hint.marks) c.args.hints.now i Open c.loop-hint-test.true (ap (reading_if (marked c.loop-hint.marks)) none)) ∙ c.loop-hint.invariant.1

pub add-requires : goal.add-requires
add-requires c =
    let fits = clause_there (FitsMarks c.args.marks.now) c.args.clauses.now _ c.clause.result.now c.clause.ensures c.requires.clauses in
    let lit = c.in-Implied.lit in
    let within = implied_within (marked c.loop-hint.marks) (λ l. 2 * variable_of l + 1 < length c.args.marks.now) c.clause.result.now lit c.in-Implied.ensures fits in
    omega (arith, number-fits lit, within, c.loop-hint.invariant.0)

pub loop-hint-preserved : goal.loop-hint-preserved
loop-hint-preserved c =
    let i = c.loop-hint.hint-index in
    let clauses = c.args.clauses.now in
    let marks = c.loop-hint.marks in
    let lit = c.in-Implied.lit in
    let fits = clause_there (FitsMarks c.args.marks.now) clauses _ c.clause.result.now c.clause.ensures c.requires.clauses in
    let within = implied_within (marked marks) (λ l. 2 * variable_of l + 1 < length c.args.marks.now) c.clause.result.now lit c.in-Implied.ensures fits in
    let there : number_of_lit lit < length marks = omega (arith, number-fits lit, within, c.loop-hint.invariant.0) in
    let next = propagates_next (slice_get clauses) (marked marks) c.args.hints.now i (Implied lit) c.loop-hint-test.true (ap (reading_if (marked marks)) c.clause.ensures ∙ sym c.in-Implied.ensures) in
    let more = ap marked c.add.ensures ∙ marked_also marks lit there in (
      ap length c.add.ensures ∙ length-set marks _ true ∙ c.loop-hint.invariant.0,
      ap (λ holds. propagates (slice_get clauses) holds (drop (i + 1) c.args.hints.now)) more ∙ sym next ∙ c.loop-hint.invariant.1,
    )
