use Rattle.std.proofs.Common.{◌≡◌, ◌<◌, ◌≤◌, ℕ, length, List, get_or, slice_get, rules, sym, ap, ◌∙◌, arith}
use Rattle.aig_base.proofs.Words.{get_or_read}
use Rattle.aig_base.specs.Cut.{cut_at, start_of, AreEnds}
use Rattle.aig_base.proofs.Cutting.{length-cut_at, end_within, start_before, get-cut_at}
use Rattle.aig_base.specs.declared.logic.literal.Lit.{Lit}
use Rattle.aig_base.proofs.logic.far_clauses.FarClauses.clause.Goals as goal

-- a place in the list is a place among the ends
place : (ends : List ℕ) (literals : List Lit) (clauses : List (List Lit)) (i : ℕ) → cut_at 0 ends literals ≡ clauses → i < length clauses → i < length ends
place ends literals clauses i e h = omega (arith, length-cut_at 0 ends literals, ap length e)

-- where a clause begins and ends
bounds : (ends : List ℕ) (literals : List Lit) (clauses : List (List Lit)) (i start end : ℕ) → cut_at 0 ends literals ≡ clauses → i < length clauses → AreEnds 0 ends (length literals) → start ≡ start_of 0 ends i → end ≡ get_or ends i end → (start ≤ end) × (end ≤ length literals)
bounds ends literals clauses i start end e h is from to =
    let there : i < length ends = place ends literals clauses i e h in
    let read : end ≡ get_or ends i 0 = get_or_read ends i end there to 0 in
    (rw (from, read) (start_before 0 ends (length literals) i is there), rw read (end_within 0 ends (length literals) i 0 is there))

pub start-requires : goal.start-requires
start-requires c =
    let a = c.self.inside in
    let there : c.args.i < length a.ends.items = place a.ends.items a.literals.items c.args.self.now c.args.i c.self.view_is c.requires in
    search rules

pub index-requires : goal.index-requires
index-requires c =
    let a = c.self.inside in
    let there : c.args.i < length a.ends.items = place a.ends.items a.literals.items c.args.self.now c.args.i c.self.view_is c.requires in
    omega (arith, a.ends.ok.0)

pub slice_bounds-result-count : goal.slice_bounds-result-count
slice_bounds-result-count c =
    let a = c.self.inside in
    let b = bounds a.ends.items a.literals.items c.args.self.now c.args.i _ _ c.self.view_is c.requires c.self.invariant (rw c.deref-2.ensures.value at c.start.ensures) c.index.ensures in
    b.0

pub slice_bounds-result-start : goal.slice_bounds-result-start
slice_bounds-result-start c =
    let a = c.self.inside in
    let b = bounds a.ends.items a.literals.items c.args.self.now c.args.i _ _ c.self.view_is c.requires c.self.invariant (rw c.deref-2.ensures.value at c.start.ensures) c.index.ensures in
    search rules

pub slice_bounds-result-end : goal.slice_bounds-result-end
slice_bounds-result-end c =
    let a = c.self.inside in
    let b = bounds a.ends.items a.literals.items c.args.self.now c.args.i _ _ c.self.view_is c.requires c.self.invariant (rw c.deref-2.ensures.value at c.start.ensures) c.index.ensures in
    search rules

pub offset_bounds-deref-start : goal.offset_bounds-deref-start
offset_bounds-deref-start c =
    let a = c.self.inside in
    let b = bounds a.ends.items a.literals.items c.args.self.now c.args.i _ _ c.self.view_is c.requires c.self.invariant (rw c.deref-2.ensures.value at c.start.ensures) c.index.ensures in
    search rules

pub returns : goal.returns
returns c =
    let a = c.self.inside in
    let there : c.args.i < length a.ends.items = place a.ends.items a.literals.items c.args.self.now c.args.i c.self.view_is c.requires in
    let from : c.start.result ≡ start_of 0 a.ends.items c.args.i = c.start.ensures ∙ ap (λ ends. start_of 0 ends c.args.i) c.deref-2.ensures.value in
    let to : c.index.result.now ≡ get_or a.ends.items c.args.i 0 = get_or_read a.ends.items c.args.i c.index.result.now there c.index.ensures 0 in
    rw (from, to, c.deref.ensures.value) (ap (λ clauses. slice_get clauses c.args.i) (sym c.self.view_is) ∙ get-cut_at 0 a.ends.items a.literals.items c.args.i there)
