use Rattle.aig_base.proofs.Words.{◌++◌, ◌+◌, [], ℕ, ap, refl, sym, arith, ◌==◌, err_from_is_err_and}
use Rattle.aig_format.proofs.Words.{Parts}
use Rattle.aig_lexer.specs.Header.{numbers_of}
use Rattle.aig_lexer.specs.Takes.{Feed, Makes, Misses, feed}
use Rattle.aig_lexer.specs.declared.header.Header.{Header}
use Rattle.aig_lexer.proofs.Taking.{misses_tested}
use Rattle.aig_reader.specs.declared.error.Section.TheVariants.{Inputs, Latches}
use Rattle.aig_reader.specs.Faults.{error_in, gate_error_in, section_cause}
use Rattle.aig_reader.specs.Sections.{AreLinesOf, file_by}
use Rattle.aig_reader.specs.declared.latches.Resets.{Resets}
use Rattle.aig_reader.specs.Rules.{keeps, parse_lines_by, parse_sections_by}
use Rattle.aig_reader.proofs.Resets.{lines_tell_by}
use Rattle.aig_lexer.proofs.Faults.{tells-weaker}
use Rattle.aig_reader.proofs.TableGates.{compact_held}
use Rattle.aig_reader.proofs.Body.{in_gates, in_section, makes_in, makes_sections, missed_in, misses_inputs, misses_latches, misses_properties}
use Rattle.aig_reader.proofs.Steps.{numbered_made}
use Rattle.aig_reader.proofs.ReadLeaves.{InputsRead, LatchesRead, inputs_read, latches_read, literals_with}
use Rattle.aig_reader.proofs.lines.read_lines.Goals as goal
use Rattle.aig_reader.proofs.lines.read_lines.Goals.{After-gates_result, In_ok-result_of, In_ok-result_of-2}
use Rattle.aig_reader.proofs.lines.read_lines.Given as given

module _ (resets : Resets) (header : Header) (b : Feed) where
  -- what refuses the lines refuses the sections
  refused : (P : Type 0) → (P → Misses (parse_lines_by resets header.kind (numbers_of header)) b)
      → P
      → Misses (parse_sections_by resets header.kind (numbers_of header)) b
  refused P f h = misses_tested (parse_lines_by resets header.kind (numbers_of header))
      (λ x. keeps header.kind (file_by header x)) b (f h)

pub read_inputs-inputs-requires : goal.read_inputs-inputs-requires
read_inputs-inputs-requires g c =
    let header = c.args.header in
    let enough = c.requires.enough in
    (header.kind, header.greatest, c.requires.few, omega (arith, enough), c.requires.defined)

pub returns-in_err-result_of : goal.returns-in_err-result_of
returns-in_err-result_of g c =
    let header = c.args.header in
    let e = c.in_err-result_of.field-0.0 in
    let p = err_from_is_err_and c.from_residual.result c.from_residual.ensures.1 in
    let missed = missed_in (error_in Inputs) (in_section Inputs) _ _ _ _ c.read_inputs-inputs.result c.result_of.result e c.result_of.ensures c.in_err-result_of.was (c.read_inputs-inputs.ensures header.kind header.greatest c.requires.defined) in
    rw (p.1, p.2) (tells-weaker (section_cause e) _ _ _
    (refused c.args.resets header (feed g.R.Source.left g.R.Source.failed g.R.Source.pulls
    c.args.buffer.now c.args.r.now) _ (misses_inputs c.args.resets header.kind
    (numbers_of header) (feed g.R.Source.left g.R.Source.failed g.R.Source.pulls
    c.args.buffer.now c.args.r.now))) missed)

-- the inputs, as they were read
inputs_of : (g : given.Over) (c : In_ok-result_of g)
    → InputsRead c.args.header
    (feed g.R.Source.left g.R.Source.failed g.R.Source.pulls c.args.buffer.now c.args.r.now)
    (feed g.R.Source.left g.R.Source.failed g.R.Source.pulls c.read_inputs-inputs.new.buffer
    c.read_inputs-inputs.new.r) c.read_inputs-inputs.new.variables
    c.read_inputs-inputs.new.inputs.items
inputs_of g c =
    inputs_read c.args.header _ _ _ _ _ c.in_ok-result_of.field-0 c.args.lists.now.inputs.items _ c.result_of.ensures c.in_ok-result_of.was c.requires.empty.inputs (c.read_inputs-inputs.ensures c.args.header.kind c.args.header.greatest c.requires.defined)

pub read_latches-latchs-requires : goal.read_latches-latchs-requires
read_latches-latchs-requires g c =
    let header = c.args.header in
    let enough = c.requires.enough in
    let inputs = inputs_of g (goal.at.read_latches-latchs-requires g c).In_ok-result_of in
    (header.kind, inputs.literals, c.requires.few, omega (arith, enough, inputs.count), inputs.defined)

pub returns-in_err-result_of-2 : goal.returns-in_err-result_of-2
returns-in_err-result_of-2 g c =
    let header = c.args.header in
    let inputs = inputs_of g (goal.at.returns-in_err-result_of-2 g c).In_ok-result_of in
    let e = c.in_err-result_of-2.field-0.0 in
    let p = err_from_is_err_and c.from_residual-in_err-result_of-2.result c.from_residual-in_err-result_of-2.ensures.1 in
    let missed = missed_in (error_in Latches) (in_section Latches) _ _ _ _ c.read_latches-latchs.result c.result_of-2.result e c.result_of-2.ensures c.in_err-result_of-2.was (c.read_latches-latchs.ensures header.kind inputs.literals inputs.defined) in
    rw (p.1, p.2) (tells-weaker (section_cause e) _ _ _
    (refused c.args.resets header (feed g.R.Source.left g.R.Source.failed g.R.Source.pulls
    c.args.buffer.now c.args.r.now) _ (misses_latches c.args.resets header.kind
    (numbers_of header) _ _ inputs.literals inputs.takes)) missed)

-- and the latches after them
latches_of : (g : given.Over) (c : In_ok-result_of-2 g)
    (inputs : InputsRead c.args.header
    (feed g.R.Source.left g.R.Source.failed g.R.Source.pulls c.args.buffer.now c.args.r.now)
    (feed g.R.Source.left g.R.Source.failed g.R.Source.pulls c.read_inputs-inputs.new.buffer
    c.read_inputs-inputs.new.r) c.read_inputs-inputs.new.variables
    c.read_inputs-inputs.new.inputs.items)
    → LatchesRead c.args.resets c.args.header inputs.literals
    (feed g.R.Source.left g.R.Source.failed g.R.Source.pulls c.read_inputs-inputs.new.buffer
    c.read_inputs-inputs.new.r)
    (feed g.R.Source.left g.R.Source.failed g.R.Source.pulls c.read_latches-latchs.new.buffer
    c.read_latches-latchs.new.r) c.read_latches-latchs.new.variables
    c.read_latches-latchs.new.latchs.items
latches_of g c inputs =
    latches_read c.args.header _ _ _ c.args.resets inputs.literals _ _ c.in_ok-result_of-2.field-0
    c.args.lists.now.latchs.items _ c.result_of-2.ensures c.in_ok-result_of-2.was
    c.requires.empty.latchs (c.read_latches-latchs.ensures c.args.header.kind inputs.literals
    inputs.defined)

pub returns-in_err-read_properties : goal.returns-in_err-read_properties
returns-in_err-read_properties g c =
    let header = c.args.header in
    let at = goal.at.returns-in_err-read_properties g c in
    let inputs = inputs_of g at.In_ok-result_of in
    let latches = latches_of g at.In_ok-result_of-2 inputs in
    let p = err_from_is_err_and c.from_residual-in_err-read_properties.result c.from_residual-in_err-read_properties.ensures.1 in
    rw (p.1, p.2) (tells-weaker (section_cause c.in_err-read_properties.field-0.0) _ _ _
    (refused c.args.resets header (feed g.R.Source.left g.R.Source.failed g.R.Source.pulls
    c.args.buffer.now c.args.r.now) _ (misses_properties c.args.resets header.kind
    (numbers_of header) _ _ inputs.literals inputs.takes _ latches.lines latches.takes))
    c.in_err-read_properties.ensures)

pub read_gates-gates-requires : goal.read_gates-gates-requires
read_gates-gates-requires g c =
    let header = c.args.header in
    let enough = c.requires.enough in
    let at = goal.at.read_gates-gates-requires g c in
    let inputs = inputs_of g at.In_ok-result_of in
    let latches = latches_of g at.In_ok-result_of-2 inputs in
    (header.kind, header.greatest, literals_with inputs.literals latches.lines, c.requires.few, omega (arith, enough, inputs.count, latches.count), latches.defined)

-- the lines of all sections, as the numbering takes them, or a refusal
gates_of : (g : given.Over) (c : After-gates_result g)
    (inputs : InputsRead c.args.header
    (feed g.R.Source.left g.R.Source.failed g.R.Source.pulls c.args.buffer.now c.args.r.now)
    (feed g.R.Source.left g.R.Source.failed g.R.Source.pulls c.read_inputs-inputs.new.buffer
    c.read_inputs-inputs.new.r) c.read_inputs-inputs.new.variables
    c.read_inputs-inputs.new.inputs.items)
    (latches : LatchesRead c.args.resets c.args.header inputs.literals
    (feed g.R.Source.left g.R.Source.failed g.R.Source.pulls c.read_inputs-inputs.new.buffer
    c.read_inputs-inputs.new.r)
    (feed g.R.Source.left g.R.Source.failed g.R.Source.pulls c.read_latches-latchs.new.buffer
    c.read_latches-latchs.new.r) c.read_latches-latchs.new.variables
    c.read_latches-latchs.new.latchs.items)
    → Makes section_cause
    (λ held x. AreLinesOf (file_by c.args.header x) (c.args.header.greatest == c.args.header.inputs + c.args.header.latches + c.args.header.gates)
    (record { inputs = c.read_inputs-inputs.new.inputs; latchs = c.read_latches-latchs.new.latchs; properties = c.read_properties.new.properties }) c.read_gates-gates.new.variables held)
    (feed g.R.Source.left g.R.Source.failed g.R.Source.pulls c.args.buffer.now c.args.r.now)
    (feed g.R.Source.left g.R.Source.failed g.R.Source.pulls c.read_gates-gates.new.buffer c.read_gates-gates.new.r) c.gates_result.result
    (parse_lines_by c.args.resets c.args.header.kind (numbers_of c.args.header))
gates_of g c inputs latches =
    let header = c.args.header in
    let kind = header.kind in
    let ns = numbers_of header in
    let enough = c.requires.enough in
    let properties = c.in_ok-read_properties.ensures in
    let defined = literals_with inputs.literals latches.lines in
    let gates = makes_in (gate_error_in kind) (in_gates kind) _ _ _ _ c.read_gates-gates.result c.gates_result.result c.gates_result.ensures
    (c.read_gates-gates.ensures kind header.greatest defined (omega (arith, enough, inputs.count, latches.count)) latches.defined) in
    makes_sections c.args.resets kind ns _ _ inputs.literals inputs.takes _ latches.lines
    latches.takes _ properties.0 properties.2 _ _ _
    (λ held gs are taken.
    let y : Parts = record { inputs = inputs.literals; latches = latches.lines; properties = properties.0; gates = gs } in
    let tells = lines_tell_by c.args.resets kind ns y (taken.taken ++ []) [] c.requires.good
    (taken.reads []) in
    let tell = tells.0 in record {
      good = record {
        definable = tell.variables.definable;
        distinct =
            tell.variables.distinct;
        enough = tell.enough;
        in_range = tell.in_range;
        resets =
            tells.1;
        binary = tell.variables.binary;
      };
      few = c.requires.few;
      defined = are.defined;
      lists = record { inputs = inputs.are; latchs = latches.are; properties = properties.1 };
      gates = are.placed;
      compact = compact_held (file_by header y) _ held (ap (λ (n : ℕ). header.greatest == n) (sym tell.count)) tell.variables.definable tell.variables.distinct are.placed.form;
    }) c.gates_result.result gates

pub returns-in_err-gates : goal.returns-in_err-gates
returns-in_err-gates g c =
    let header = c.args.header in
    let at = goal.at.returns-in_err-gates g c in
    let inputs = inputs_of g at.In_ok-result_of in
    let e = c.in_err-gates.field-0.0 in
    let p = err_from_is_err_and c.from_residual-in_err-gates.result c.from_residual-in_err-gates.ensures.1 in
    let gates = gates_of g at.After-gates_result inputs (latches_of g at.In_ok-result_of-2 inputs) in
    rw (p.1, p.2) (tells-weaker (section_cause e) _ _ _
    (refused c.args.resets header (feed g.R.Source.left g.R.Source.failed g.R.Source.pulls
    c.args.buffer.now c.args.r.now) _ (λ none. none)) (rw c.in_err-gates.was at gates))

pub number-requires : goal.number-requires
number-requires g c =
    let at = goal.at.number-requires g c in
    let inputs = inputs_of g at.In_ok-result_of in
    let made = rw c.in_ok-gates.was at (gates_of g at.After-gates_result inputs (latches_of g at.In_ok-result_of-2 inputs)) in
    (file_by c.args.header made.0, refl, made.1)

pub returns : goal.returns
returns g c =
    let at = goal.at.returns g c in
    let inputs = inputs_of g at.In_ok-result_of in
    let made = rw c.in_ok-gates.was at (gates_of g at.After-gates_result inputs (latches_of g at.In_ok-result_of-2 inputs)) in
    numbered_made c.args.resets c.args.header c.requires.good made.0 _ _ made.2
    (λ numbered. record { numbered = numbered; lists = c.number.new.self }) c.number.result
    (c.number.ensures (file_by c.args.header made.0) refl made.1)
