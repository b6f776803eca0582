use Rattle.aig_base.proofs.Words.{◌≡◌, ◌∙◌, ◌++◌, [], ℕ, List, ap, arith, subst, sym, Consumes-trans, err_from_is_err_and}
use Rattle.aig_circuit.proofs.Words.{latch_leaves, names_of}
use Rattle.aig_circuit.specs.declared.node.AigLatch.{AigLatch}
use Rattle.aig_format.proofs.Words.{file_from, parse_fitting_header}
use Rattle.aig_lexer.specs.Header.{numbers_of}
use Rattle.aig_lexer.specs.Takes.{feed}
use Rattle.aig_lexer.proofs.Taking.{takes_both}
use Rattle.aig_symbols.specs.Names.{kept_names, tail_of}
use Rattle.aig_reader.proofs.Accepting.{Body, refused_header, refused_section, refused_names, sections_of, accepted}
use Rattle.aig_reader.proofs.HeaderLines.{header_good, header_small, header_within}
use Rattle.aig_reader.proofs.FileCircuit.{circuit_is, nodes_distinct}
use Rattle.aig_reader.proofs.Resets.{lists_by}
use Rattle.aig_reader.proofs.ReadNames.{names_fault, names_in, no_names_in, no_names_left}
use Rattle.aig_reader.proofs.Told.{told_with_names}
use Rattle.aig_reader.specs.Reading.{TellsNodes}
use Rattle.aig_reader.proofs.reader.read_by.Goals as goal

pub returns-in_err-header-clause-refusal : goal.returns-in_err-header-clause-refusal
returns-in_err-header-clause-refusal g c =
    let p = err_from_is_err_and c.from_residual.result c.from_residual.ensures.1 in
    rw (p.1, p.2) (refused_header c.args.resets c.args.limit
    (feed g.R.Source.left g.R.Source.failed g.R.Source.pulls c.args.buffer.now c.args.r.now)
    (feed g.R.Source.left g.R.Source.failed g.R.Source.pulls c.read_header.new.buffer
    c.read_header.new.r) c.in_err-header.field-0.0 c.in_err-header.ensures.exact)

pub read_sections-requires-clause-few : goal.read_sections-requires-clause-few
read_sections-requires-clause-few g c =
    omega (arith, header_within c.args.limit _ _ _ c.in_ok-header.ensures.exact, c.requires)

pub read_sections-requires-clause-good : goal.read_sections-requires-clause-good
read_sections-requires-clause-good g c = header_good c.args.limit _ _ _ c.in_ok-header.ensures.exact

pub returns-in_err-sections-clause-refusal : goal.returns-in_err-sections-clause-refusal
returns-in_err-sections-clause-refusal g c =
    let p = err_from_is_err_and c.from_residual-in_err-sections.result
    c.from_residual-in_err-sections.ensures.1 in
    let e = c.in_err-sections.field-0.0 in
    let header = c.in_ok-header.header in
    rw (p.1, p.2)
    (refused_section c.args.resets c.args.limit _ _ _ (header.kind, numbers_of header) e
    c.in_ok-header.ensures.exact c.in_err-sections.ensures
    (header_small c.args.limit _ _ _ c.in_ok-header.ensures.exact))

pub read_names-names-requires-clause-distinct : goal.read_names-names-requires-clause-distinct
read_names-names-requires-clause-distinct g c =
    let header = c.in_ok-header.header in
    let made = c.in_ok-sections.ensures in
    let body : Body = ((header.kind, numbers_of header), made.0) in
    let taken = takes_both (parse_fitting_header c.args.limit)
    (sections_of c.args.resets c.args.limit) _ _ _ (header.kind, numbers_of header) made.0
    c.in_ok-header.ensures.exact made.2 in
    let accepts = accepted c.args.resets c.args.limit _ _ body taken [] []
    (no_names_left (numbers_of header)) in
    rw (c.deref.ensures.value, c.deref-2.ensures.value)
    (nodes_distinct (file_from body []) c.in_ok-sections.sections made.1.numbered.0 c.args.resets
    c.args.limit _ accepts)

pub returns-in_err-names-clause-refusal : goal.returns-in_err-names-clause-refusal
returns-in_err-names-clause-refusal g c =
    let p = err_from_is_err_and c.from_residual-in_err-names.result
    c.from_residual-in_err-names.ensures.1 in
    let e = c.in_err-names.field-0.0 in
    let header = c.in_ok-header.header in
    let made = c.in_ok-sections.ensures in
    let body : Body = ((header.kind, numbers_of header), made.0) in
    let taken = takes_both (parse_fitting_header c.args.limit)
    (sections_of c.args.resets c.args.limit) _ _ _ (header.kind, numbers_of header) made.0
    c.in_ok-header.ensures.exact made.2 in
    rw (p.1, p.2)
    (refused_names c.args.resets c.args.limit _ _ _ body e taken
    (no_names_in _ _ _ (tail_of (numbers_of header)) c.read_names-names.result c.names_result.result
    c.names_result.ensures c.read_names-names.ensures e c.in_err-names.was)
    (names_fault c.read_names-names.result c.names_result.result e c.names_result.ensures
    c.in_err-names.was) (header_small c.args.limit _ _ _ c.in_ok-header.ensures.exact))

pub returns-clause-circuit : goal.returns-clause-circuit
returns-clause-circuit g c =
    let header = c.in_ok-header.header in
    let made = c.in_ok-sections.ensures in
    let body : Body = ((header.kind, numbers_of header), made.0) in
    let taken = takes_both (parse_fitting_header c.args.limit)
    (sections_of c.args.resets c.args.limit) _ _ _ (header.kind, numbers_of header) made.0
    c.in_ok-header.ensures.exact made.2 in
    let names = names_in _ _ _ (tail_of (numbers_of header)) c.read_names-names.result
    c.names_result.result c.names_result.ensures c.read_names-names.ensures c.in_ok-names.names
    c.in_ok-names.was in
    let accepts = accepted c.args.resets c.args.limit _ _ body taken names.0 names.2 names.3 in
    let s = c.in_ok-sections.sections in
    let map = names_of c.in_ok-names.names.entries in
    let kept : map ≡ kept_names s.lists.inputs.items (latch_leaves s.lists.latchs.items) names.0 =
    names.1 ∙ ap (λ (ns : List ℕ). kept_names ns (latch_leaves c.deref-2.result.now) names.0)
    c.deref.ensures.value ∙ ap (λ (ls : List AigLatch). kept_names s.lists.inputs.items
    (latch_leaves ls) names.0) c.deref-2.ensures.value in record {
      file = file_from body names.0;
      bytes = taken.taken ++ names.2;
      holds = accepts;
      means = (
        lists_by c.args.resets c.args.limit _ (file_from body names.0) c.with_names.result.lists
            accepts
            (c.with_names.ensures.lists ∙ circuit_is body names.0 s map made.1.numbered.0 kept),
        subst (TellsNodes (file_from body names.0)) (sym c.with_names.ensures.variables)
            (told_with_names body names.0 s.numbered.variables made.1.numbered.1),
      );
      taken = Consumes-trans _ _ _ taken.taken names.2 taken.advances.consumed names.4.consumed;
    }

pub returns-clause-whole : goal.returns-clause-whole
returns-clause-whole g c =
    let header = c.in_ok-header.header in
    let names = names_in _ _ _ (tail_of (numbers_of header)) c.read_names-names.result
    c.names_result.result c.names_result.ensures c.read_names-names.ensures c.in_ok-names.names
    c.in_ok-names.was in
    (names.4.sound, names.4.at_end)
