use Rattle.std.proofs.Common.{◌∙◌, refl, sym}
use Rattle.aig_reader.proofs.sections.Lists.unnumbered.Goals as goal

pub returns-then-not-has_nexts : goal.returns-then-not-has_nexts
returns-then-not-has_nexts c =
    let fact_0 = rw c.deref.ensures.value at (sym c.has_nexts.ensures ∙ c.if-not-has_nexts.true) in
    rw (fact_0) refl

pub returns-then-not-has_edges : goal.returns-then-not-has_edges
returns-then-not-has_edges c =
    let fact_0 = rw c.deref.ensures.value at (sym c.has_nexts.ensures ∙ c.if-not-has_nexts.false) in
    let fact_1 = rw c.deref-2.ensures.value at (sym c.has_edges.ensures ∙ c.if-not-has_edges.true) in
    rw (fact_0, fact_1) refl

pub returns-then-not-has_edges-2 : goal.returns-then-not-has_edges-2
returns-then-not-has_edges-2 c =
    let fact_0 = rw c.deref.ensures.value at (sym c.has_nexts.ensures ∙ c.if-not-has_nexts.false) in
    let fact_1 = rw c.deref-2.ensures.value at (sym c.has_edges.ensures ∙ c.if-not-has_edges.false) in
    let fact_2 = rw c.deref-3.ensures.value at (sym c.has_edges-2.ensures ∙ c.if-not-has_edges-2.true) in
    rw (fact_0, fact_1, fact_2) refl

pub returns-then-not-has_edges-3 : goal.returns-then-not-has_edges-3
returns-then-not-has_edges-3 c =
    let fact_0 = rw c.deref.ensures.value at (sym c.has_nexts.ensures ∙ c.if-not-has_nexts.false) in
    let fact_1 = rw c.deref-2.ensures.value at (sym c.has_edges.ensures ∙ c.if-not-has_edges.false) in
    let fact_2 = rw c.deref-3.ensures.value at (sym c.has_edges-2.ensures ∙ c.if-not-has_edges-2.false) in
    let fact_3 = rw c.deref-4.ensures.value at (sym c.has_edges-3.ensures ∙ c.if-not-has_edges-3.true) in
    rw (fact_0, fact_1, fact_2, fact_3) refl

pub returns-then-not-has_sets : goal.returns-then-not-has_sets
returns-then-not-has_sets c =
    let fact_0 = rw c.deref.ensures.value at (sym c.has_nexts.ensures ∙ c.if-not-has_nexts.false) in
    let fact_1 = rw c.deref-2.ensures.value at (sym c.has_edges.ensures ∙ c.if-not-has_edges.false) in
    let fact_2 = rw c.deref-3.ensures.value at (sym c.has_edges-2.ensures ∙ c.if-not-has_edges-2.false) in
    let fact_3 = rw c.deref-4.ensures.value at (sym c.has_edges-3.ensures ∙ c.if-not-has_edges-3.false) in
    let fact_4 = rw c.deref-5.ensures.value at (sym c.has_sets.ensures ∙ c.if-not-has_sets.true) in
    rw (fact_0, fact_1, fact_2, fact_3, fact_4) refl

pub returns-then-not-has_edges-4 : goal.returns-then-not-has_edges-4
returns-then-not-has_edges-4 c =
    let fact_0 = rw c.deref.ensures.value at (sym c.has_nexts.ensures ∙ c.if-not-has_nexts.false) in
    let fact_1 = rw c.deref-2.ensures.value at (sym c.has_edges.ensures ∙ c.if-not-has_edges.false) in
    let fact_2 = rw c.deref-3.ensures.value at (sym c.has_edges-2.ensures ∙ c.if-not-has_edges-2.false) in
    let fact_3 = rw c.deref-4.ensures.value at (sym c.has_edges-3.ensures ∙ c.if-not-has_edges-3.false) in
    let fact_4 = rw c.deref-5.ensures.value at (sym c.has_sets.ensures ∙ c.if-not-has_sets.false) in
    let fact_5 = rw c.deref-6.ensures.value at (sym c.has_edges-4.ensures ∙ c.if-not-has_edges-4.true) in
    rw (fact_0, fact_1, fact_2, fact_3, fact_4, fact_5) refl

pub returns-then-not-has_resets : goal.returns-then-not-has_resets
returns-then-not-has_resets c =
    let fact_0 = rw c.deref.ensures.value at (sym c.has_nexts.ensures ∙ c.if-not-has_nexts.false) in
    let fact_1 = rw c.deref-2.ensures.value at (sym c.has_edges.ensures ∙ c.if-not-has_edges.false) in
    let fact_2 = rw c.deref-3.ensures.value at (sym c.has_edges-2.ensures ∙ c.if-not-has_edges-2.false) in
    let fact_3 = rw c.deref-4.ensures.value at (sym c.has_edges-3.ensures ∙ c.if-not-has_edges-3.false) in
    let fact_4 = rw c.deref-5.ensures.value at (sym c.has_sets.ensures ∙ c.if-not-has_sets.false) in
    let fact_5 = rw c.deref-6.ensures.value at (sym c.has_edges-4.ensures ∙ c.if-not-has_edges-4.false) in
    let fact_6 = rw c.deref-7.ensures.value at (sym c.has_resets.ensures ∙ c.if-not-has_resets.true)
    in
    rw (fact_0, fact_1, fact_2, fact_3, fact_4, fact_5, fact_6) refl

pub returns : goal.returns
returns c =
    let fact_0 = rw c.deref.ensures.value at (sym c.has_nexts.ensures ∙ c.if-not-has_nexts.false) in
    let fact_1 = rw c.deref-2.ensures.value at (sym c.has_edges.ensures ∙ c.if-not-has_edges.false) in
    let fact_2 = rw c.deref-3.ensures.value at (sym c.has_edges-2.ensures ∙ c.if-not-has_edges-2.false) in
    let fact_3 = rw c.deref-4.ensures.value at (sym c.has_edges-3.ensures ∙ c.if-not-has_edges-3.false) in
    let fact_4 = rw c.deref-5.ensures.value at (sym c.has_sets.ensures ∙ c.if-not-has_sets.false) in
    let fact_5 = rw c.deref-6.ensures.value at (sym c.has_edges-4.ensures ∙ c.if-not-has_edges-4.false) in
    let fact_6 = rw c.deref-7.ensures.value at (sym c.has_resets.ensures
    ∙ c.if-not-has_resets.false) in
    rw (fact_0, fact_1, fact_2, fact_3, fact_4, fact_5, fact_6) refl
