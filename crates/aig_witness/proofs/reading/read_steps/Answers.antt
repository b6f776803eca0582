use Rattle.aig_base.proofs.Words.{[], ◌∷◌, ◌++◌, ℕ, List, Option, Some, refl, err_from_is_err_and}
use Rattle.aig_base.specs.declared.logic.three.Lbool.{Lbool}
use Rattle.aig_lexer.specs.Takes.{feed, Misses}
use Rattle.aig_lexer.specs.WordReaders.{parse_expected}
use Rattle.aig_lexer.proofs.Faults.{tells-weaker}
use Rattle.aig_lexer.proofs.Going.{goes_byte, goes_call, goes_done, goes_end, goes_wrong}
use Rattle.aig_lexer.proofs.Taking.{misses_where}
use Rattle.aig_witness.specs.Faults.{values_cause}
use Rattle.aig_witness.specs.Reading.{parse_point_after, parse_row_after, parse_steps_after}
use Rattle.aig_witness.specs.Witness.{rows_of}
use Rattle.aig_witness.proofs.Going.{line_read, line_wrong, point_comes, point_ends, point_wrong, rows_more, steps_cut}
use Rattle.aig_witness.proofs.reading.read_steps.Goals as goal

abbrev read : List ℕ → Option (List (List Lbool) × List ℕ)
read = parse_steps_after [] []

pub returns-then-not-branch : goal.returns-then-not-branch
returns-then-not-branch g c =
    let rows = rows_of c.loop-steps.steps.items in
    let now = feed g.R.Source.left g.R.Source.failed g.R.Source.pulls c.next.new.self
    c.next.new.r in
    goes_wrong read (parse_point_after rows []) _ now
    (goes_byte read (parse_steps_after rows []) (parse_point_after rows []) _ _ now
    c.in_ok-first.field-0 c.in-Some.first c.loop-steps.invariant c.in_ok-first.ensures.steps
    c.in-Some.is (point_comes rows c.in-Some.first c.if-first-eq46.true))
    (misses_where (parse_expected 10) (parse_point_after rows []) now
    (rw c.if-not-branch.true at c.in_ok-ends_line.ensures) (point_wrong rows))

pub returns-then-first-eq46 : goal.returns-then-first-eq46
returns-then-first-eq46 g c =
    let rows = rows_of c.loop-steps.steps.items in
    let now = feed g.R.Source.left g.R.Source.failed g.R.Source.pulls c.next.new.self
    c.next.new.r in
    let after = feed g.R.Source.left g.R.Source.failed g.R.Source.pulls c.ends_line.new.buffer
    c.ends_line.new.r in
    goes_done read rows _ after
    (goes_call read (parse_expected 10) (parse_point_after rows []) (λ bs. Some (rows, bs)) _ now
    after 10
    (goes_byte read (parse_steps_after rows []) (parse_point_after rows []) _ _ now
    c.in_ok-first.field-0 c.in-Some.first c.loop-steps.invariant c.in_ok-first.ensures.steps
    c.in-Some.is (point_comes rows c.in-Some.first c.if-first-eq46.true))
    (rw c.if-not-branch.false at c.in_ok-ends_line.ensures) (point_ends rows))

pub returns-in_err-row : goal.returns-in_err-row
returns-in_err-row g c =
    let p = err_from_is_err_and c.from_residual-in_err-row.result
    c.from_residual-in_err-row.ensures.1 in
    let rows = rows_of c.loop-steps.steps.items in
    let now = feed g.R.Source.left g.R.Source.failed g.R.Source.pulls c.next.new.self
    c.next.new.r in
    let b = c.in-Some.first in
    let begun = goes_byte read (parse_steps_after rows []) (λ bs. parse_steps_after rows []
    (b ∷ bs)) _ _ now c.in_ok-first.field-0 b c.loop-steps.invariant c.in_ok-first.ensures.steps
    c.in-Some.is (λ bs. refl) in
    rw (p.1, p.2) (tells-weaker (values_cause c.in_err-row.field-0.0) _ _ _
    (λ (m : Misses (λ bs. parse_row_after [] (b ∷ bs)) now). goes_wrong read
    (λ bs. parse_steps_after rows [] (b ∷ bs)) _ now begun
    (misses_where (λ bs. parse_row_after [] (b ∷ bs)) (λ bs. parse_steps_after rows [] (b ∷ bs))
    now m (line_wrong rows b c.if-first-eq46.false)))
    c.in_err-row.ensures)

pub loop-steps-preserved : goal.loop-steps-preserved
loop-steps-preserved g c =
    let rows = rows_of c.loop-steps.steps.items in
    let now = feed g.R.Source.left g.R.Source.failed g.R.Source.pulls c.next.new.self
    c.next.new.r in
    let after = feed g.R.Source.left g.R.Source.failed g.R.Source.pulls c.read_row.new.buffer
    c.read_row.new.r in
    let b = c.in-Some.first in
    let row = c.in_ok-row.row in
    let begun = goes_byte read (parse_steps_after rows []) (λ bs. parse_steps_after rows []
    (b ∷ bs)) _ _ now c.in_ok-first.field-0 b c.loop-steps.invariant c.in_ok-first.ensures.steps
    c.in-Some.is (λ bs. refl) in
    rw (c.in_ok-append.ensures, rows_more c.loop-steps.steps.items row)
    (goes_call read (λ bs. parse_row_after [] (b ∷ bs)) (λ bs. parse_steps_after rows [] (b ∷ bs))
    (parse_steps_after (rows ++ row.items ∷ []) []) _ now after row.items begun
    c.in_ok-row.ensures (line_read rows b c.if-first-eq46.false row.items))

pub returns : goal.returns
returns g c =
    let rows = rows_of c.loop-steps.steps.items in
    goes_end read (parse_steps_after rows []) _ _
    (feed g.R.Source.left g.R.Source.failed g.R.Source.pulls c.next.new.self c.next.new.r)
    c.in_ok-first.field-0 c.loop-steps.invariant c.in_ok-first.ensures.steps c.in_default.is
    (steps_cut rows)
