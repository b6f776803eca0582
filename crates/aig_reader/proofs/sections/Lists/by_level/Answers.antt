use Rattle.aig_base.proofs.Words.{◌≡◌, ◌∙◌, ◌&&◌, ℕ, Bool, true, false, List, Option, Vec, refl, sym, ap, subst, MatchOption, list_all, and_from, and_parts, err_from_is_err_and}
use Rattle.std.specs.declared.alloc.Global.{Global}
use Rattle.aig_circuit.specs.declared.node.AigNode.{AigNode}
use Rattle.aig_format.proofs.Words.{circuit_of, File, has_level, uses_known}
use Rattle.aig_lexer.specs.Faults.{Tested}
use Rattle.aig_lexer.proofs.Faults.{tells-weaker}
use Rattle.aig_ordering.specs.Numbers.{has_number}
use Rattle.aig_reader.specs.declared.error.Section.{Section}
use Rattle.aig_reader.specs.Faults.{section_cause}
use Rattle.aig_reader.specs.Numbered.{AreNumbersOf, AreTablesOf, have_operands, knows_lists, lists_pass, resets_pass}
use Rattle.aig_reader.specs.Resets.{knows_resets}
use Rattle.aig_reader.specs.Sections.{AreListsByVariable}
use Rattle.aig_reader.specs.declared.sections.Lists.{Lists}
use Rattle.aig_reader.specs.declared.variable_nodes.VariableNodes.TheVariants.{Table}
use Rattle.aig_reader.proofs.ByLevel.{lists_have, lists_known, lists_numbered, resets_known}
use Rattle.aig_reader.proofs.Numbered.{in_gates, no_lists, no_nodes, well_founded-is}
use Rattle.aig_reader.proofs.Steps.{numbered_circuit}
use Rattle.aig_reader.proofs.sections.Lists.by_level.Goals as goal
use Rattle.aig_reader.proofs.sections.Lists.by_level.Goals.{After-result_of}

module _ (c : After-result_of) (f : File) (t : AreTablesOf f c.args.gates.items c.args.marked.now c.args.self.now) where
  -- what numbering the nodes gave
  numbered : Tested section_cause (list_all (has_level f) f.gates && have_operands f) (λ (x : Vec AigNode Global × Vec ℕ Global). (x.0.items ≡ (circuit_of f).nodes) × AreNumbersOf f x.1.items) c.result_of.result
  numbered = in_gates _ _ c.number_nodes-numbered.result c.result_of.result c.result_of.ensures (c.number_nodes-numbered.ensures f t.good t.nodes t.marks t.not_compact)

pub returns-in_err-nodes : goal.returns-in_err-nodes
returns-in_err-nodes c = λ f t.
    let here = (goal.at.returns-in_err-nodes c).After-result_of in
    let p = err_from_is_err_and c.from_residual.result c.from_residual.ensures.1 in
    let levels = list_all (has_level f) f.gates in
    let e = c.in_err-nodes.field-0.0 in
    rw (p.1, p.2) (tells-weaker (section_cause e) _ _ false
    (λ (no : (levels && have_operands f) ≡ false). ap (λ b. b && knows_resets f)
    (well_founded-is f levels _ _ refl refl
    ∙ no_nodes levels (knows_lists f) (have_operands f) no))
    (rw c.in_err-nodes.was at (numbered here f t)))

-- the variables of all entries have numbers exactly where they are known
sections_known : (f : File) (table : List ℕ) → AreNumbersOf f table → (old : Lists)
    → AreListsByVariable old f
    → (lists_pass (has_number table) old && resets_pass (has_number table) old) ≡
    (knows_lists f && knows_resets f)
sections_known f table are old made =
    let lists = lists_known f table are old made in
    let resets = resets_known f table are old made in
    λ i. lists i && resets i

pub returns-in-Some : goal.returns-in-Some
returns-in-Some c = λ f t.
    let nodes = rw c.in_ok-nodes.was at (numbered (goal.at.returns-in-Some c).After-result_of f t) in
    let table = c.deref.result.now in
    let are = subst (AreNumbersOf f) (sym c.deref.ensures.value) nodes.1.1 in
    let passes : Bool = lists_pass (has_number table) c.args.self.now && resets_pass
    (has_number table) c.args.self.now in
    let fails : passes ≡ false = subst (λ (o : Option Section). MatchOption o (passes ≡ true) (λ _. passes ≡ false)) c.in-Some.is c.unnumbered.ensures in
    ap (λ b. b && knows_resets f) (well_founded-is f (list_all (has_level f) f.gates) _ _ refl refl)
    ∙ no_lists (knows_lists f) (have_operands f) (list_all (has_level f) f.gates) (knows_resets f)
    (sym (sections_known f table are c.args.self.now t.lists) ∙ fails)

pub renumber-requires : goal.renumber-requires
renumber-requires c =
    let f = c.requires.tables.0 in
    let t = c.requires.tables.1 in
    let nodes = rw c.in_ok-nodes.was at (numbered (goal.at.renumber-requires c).After-result_of f t) in
    let table = c.deref.result.now in
    let are = subst (AreNumbersOf f) (sym c.deref.ensures.value) nodes.1.1 in
    let passes : Bool = lists_pass (has_number table) c.args.self.now && resets_pass
    (has_number table) c.args.self.now in
    let passed : passes ≡ true = subst (λ (o : Option Section). MatchOption o (passes ≡ true) (λ _. passes ≡ false)) c.in_default.is c.unnumbered.ensures in
    let known = and_parts (knows_lists f) (knows_resets f)
    (sym (sections_known f table are c.args.self.now t.lists) ∙ passed) in
    lists_have f table are c.args.self.now t.lists known.0 known.1

pub returns : goal.returns
returns c = λ f t.
    let nodes = rw c.in_ok-nodes.was at (numbered (goal.at.returns c).After-result_of f t) in
    let table = c.deref.result.now in
    let are = subst (AreNumbersOf f) (sym c.deref.ensures.value) nodes.1.1 in
    let passes : Bool = lists_pass (has_number table) c.args.self.now && resets_pass
    (has_number table) c.args.self.now in
    let passed : passes ≡ true = subst (λ (o : Option Section). MatchOption o (passes ≡ true) (λ _. passes ≡ false)) c.in_default.is c.unnumbered.ensures in
    let known = and_parts (knows_lists f) (knows_resets f)
    (sym (sections_known f table are c.args.self.now t.lists) ∙ passed) in
    let both = and_parts (list_all (has_level f) f.gates) (have_operands f) nodes.0 in (
      and_from (uses_known f && list_all (has_level f) f.gates) (knows_resets f)
          (well_founded-is f (list_all (has_level f) f.gates) true true known.0 both.1 ∙ both.0)
          known.1,
      (
        numbered_circuit f record {
          numbered = record { nodes = c.in_ok-nodes.nodes; variables = Table c.in_ok-nodes.table };
          lists = c.renumber.new.self;
        } nodes.1.0 (lists_numbered f table are c.args.self.now t.lists known.0 known.1
            c.renumber.new.self c.renumber.ensures),
        nodes.1.1,
      ),
    )
