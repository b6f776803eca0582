use Rattle.std.proofs.Common.{◌∙◌, [], ◌∷◌, ◌++◌, ℕ, List, Option, None, Some, refl, sym}
use Rattle.aig_base.specs.declared.logic.three.Lbool.{Lbool}
use Rattle.aig_lexer.specs.Takes.{feed}
use Rattle.aig_lexer.proofs.Going.{goes_byte, goes_done, goes_end, goes_nowhere, goes_same}
use Rattle.aig_witness.specs.Reading.{parse_row_after}
use Rattle.aig_witness.proofs.Going.{row_cut, row_ends, row_goes, row_stops}
use Rattle.aig_witness.proofs.reading.read_row.Goals as goal

-- the line from its first byte on
abbrev from : ℕ → List ℕ → Option (List Lbool × List ℕ)
from first bs = parse_row_after [] (first ∷ bs)

abbrev on : List Lbool → ℕ → List ℕ → Option (List Lbool × List ℕ)
on row letter bs = parse_row_after row (letter ∷ bs)

pub returns-in_default : goal.returns-in_default
returns-in_default g c =
    let row = c.loop-letter.row.items in
    goes_nowhere (from c.args.first) _
    (feed g.R.Source.left g.R.Source.failed g.R.Source.pulls c.loop-letter.buffer
    c.loop-letter.r)
    (goes_same (from c.args.first) (on row c.loop-letter.letter) (λ bs. None) _ _
    c.loop-letter.invariant
    (row_stops row c.loop-letter.letter c.loop-letter-test.true (sym c.value_of.ensures
    ∙ c.in_default.is)))

pub returns-in_default-2 : goal.returns-in_default-2
returns-in_default-2 g c =
    let row = c.loop-letter.row.items in
    let more = row ++ c.in-Some.value ∷ [] in
    goes_end (from c.args.first) (parse_row_after more) _ _
    (feed g.R.Source.left g.R.Source.failed g.R.Source.pulls c.next.new.self c.next.new.r)
    c.in_ok-next.field-0
    (goes_same (from c.args.first) (on row c.loop-letter.letter) (parse_row_after more) _
    (feed g.R.Source.left g.R.Source.failed g.R.Source.pulls c.loop-letter.buffer
    c.loop-letter.r) c.loop-letter.invariant
    (row_goes row c.loop-letter.letter c.in-Some.value c.loop-letter-test.true
    (sym c.value_of.ensures ∙ c.in-Some.is)))
    c.in_ok-next.ensures.steps c.in_default-2.is (row_cut more)

pub loop-letter-preserved : goal.loop-letter-preserved
loop-letter-preserved g c =
    let row = c.loop-letter.row.items in
    let more = row ++ c.in-Some.value ∷ [] in
    rw c.in_ok-append.ensures
    (goes_byte (from c.args.first) (parse_row_after more) (on more c.in-Some-2.next) _ _
    (feed g.R.Source.left g.R.Source.failed g.R.Source.pulls c.next.new.self c.next.new.r)
    c.in_ok-next.field-0 c.in-Some-2.next
    (goes_same (from c.args.first) (on row c.loop-letter.letter) (parse_row_after more) _
    (feed g.R.Source.left g.R.Source.failed g.R.Source.pulls c.loop-letter.buffer
    c.loop-letter.r) c.loop-letter.invariant
    (row_goes row c.loop-letter.letter c.in-Some.value c.loop-letter-test.true
    (sym c.value_of.ensures ∙ c.in-Some.is)))
    c.in_ok-next.ensures.steps c.in-Some-2.is (λ bs. refl))

pub returns : goal.returns
returns g c =
    let row = c.loop-letter.row.items in
    goes_done (from c.args.first) row _ (feed g.R.Source.left g.R.Source.failed g.R.Source.pulls
    c.loop-letter.buffer c.loop-letter.r)
    (goes_same (from c.args.first) (on row c.loop-letter.letter) (λ bs. Some (row, bs)) _ _
    c.loop-letter.invariant (row_ends row c.loop-letter.letter c.loop-letter-test.false))
