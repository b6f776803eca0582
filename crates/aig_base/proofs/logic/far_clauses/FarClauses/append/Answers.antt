use Rattle.std.proofs.Common.{◌≡◌, ℕ, ◌+◌, ◌≤◌, List, ◌++◌, length, map, get_or, refl, ap, ◌∙◌, arith, length-append}
use Rattle.aig_base.proofs.Cutting.{cut_at-joined, AreEnds-joined, end_within}
use Rattle.aig_base.proofs.logic.far_clauses.FarClauses.append.Goals as goal

-- the ends after those that there were
joined : (es fs now first second : List ℕ) (n by : ℕ) → now ≡ first ++ map (λ end. by + end) second
    → first ≡ es → second ≡ fs → by ≡ n → now ≡ es ++ map (λ end. n + end) fs
joined es fs now first second n by is old more start = rw (is, old, more, start) refl

pub append_shifted-requires-clause-fits : goal.append_shifted-requires-clause-fits
append_shifted-requires-clause-fits c = λ k d h.
    let a = c.self.inside in
    let b = c.other.inside in
    let literals = c.in_ok-extend_from_slice.ensures.items ∙ ap (λ literals. a.literals.items ++ literals) c.deref.ensures.value in
    let within : get_or b.ends.items k d ≤ length b.literals.items = end_within 0 b.ends.items (length b.literals.items) k d c.other.invariant (rw c.deref-2.ensures.value at h) in
    rw c.deref-2.ensures.value (omega (arith, c.len-before.ensures, ap length literals, length-append a.literals.items b.literals.items, a.literals.ok.0, c.extend_from_slice.new.self.ok.0))

pub invariant_of-self-2 : goal.invariant_of-self-2
invariant_of-self-2 c =
    let a = c.self.inside in
    let b = c.other.inside in
    let literals = c.in_ok-extend_from_slice.ensures.items ∙ ap (λ literals. a.literals.items ++ literals) c.deref.ensures.value in
    let start : c.len-before.result ≡ length a.literals.items = omega (arith, c.len-before.ensures, a.literals.ok.0) in
    let ends = joined a.ends.items b.ends.items _ _ _ _ _ c.append_shifted.ensures c.make_room.ensures.items c.deref-2.ensures.value start in
    rw (literals, ends, length-append) (AreEnds-joined a.ends.items b.ends.items (length a.literals.items) (length b.literals.items) c.self.invariant c.other.invariant)

pub returns-clause-ok : goal.returns-clause-ok
returns-clause-ok c =
    let a = c.self.inside in
    let b = c.other.inside in
    let literals = c.in_ok-extend_from_slice.ensures.items ∙ ap (λ literals. a.literals.items ++ literals) c.deref.ensures.value in
    let start : c.len-before.result ≡ length a.literals.items = omega (arith, c.len-before.ensures, a.literals.ok.0) in
    let ends = joined a.ends.items b.ends.items _ _ _ _ _ c.append_shifted.ensures c.make_room.ensures.items c.deref-2.ensures.value start in
    rw (literals, ends, ← c.self.view_is, ← c.other.view_is) (cut_at-joined a.ends.items b.ends.items a.literals.items b.literals.items c.self.invariant)
