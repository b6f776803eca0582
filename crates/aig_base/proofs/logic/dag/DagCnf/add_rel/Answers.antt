use Rattle.aig_base.proofs.Words.{◌≡◌, ◌<◌, ◌≤◌, ◌^◌, ◌++◌, [], ℕ, ◌+◌, List, length, get_or, ap, sym, subst, ◌∙◌, arith, All-append, All-set, sum_by-set}
use Rattle.std.proofs.Math.ListN.{set, length-set}
use Rattle.std.specs.List.{All}
use Rattle.std.proofs.lemmas.List.{length-append, get_or_read}
use Rattle.aig_base.specs.declared.logic.literal.Lit.{Lit}
use Rattle.aig_base.specs.Clauses.{AreBelow, AreRelations, IsCount, variable_of}
use Rattle.aig_base.proofs.logic.dag.DagCnf.add_rel.Goals as goal

-- clauses after those of one list are counted with them
counted : (lists : List (List (List Lit))) (i count : ℕ) (old new rel : List (List Lit)) → i < length lists → old ≡ get_or lists i old → new ≡ old ++ rel → IsCount lists count → count + length rel ≤ 2 ^ 63
    → IsCount (set lists i new) (count + length rel)
counted lists i count old new rel lt at more h low =
    let step = sum_by-set length lists i new old lt in
    let one = ap length at in
    let two = ap length more ∙ length-append old rel in
    record { sum = omega (arith, h.sum, step, one, two); few = low }

-- and they are lists of so many variables
related : (lists : List (List (List Lit))) (i : ℕ) (old new rel : List (List Lit)) → i < length lists → old ≡ get_or lists i old → new ≡ old ++ rel → AreRelations lists → AreBelow (length lists) rel
    → AreRelations (set lists i new)
related lists i old new rel lt at more h below =
    let same = length-set lists i new in
    let first : AreBelow (length lists) old = subst (AreBelow (length lists)) (sym at) (h.below i old lt) in
    let both : AreBelow (length lists) new = subst (AreBelow (length lists)) (sym more) (All-append (λ clause. All (λ lit. variable_of lit < length lists) clause) old rel first below) in
    record { some = omega (arith, same, h.some); few = omega (arith, same, h.few); below = subst (λ n. All (AreBelow n) (set lists i new)) (sym same) (All-set (AreBelow (length lists)) lists i new both h.below) }

pub invariant_of-self-2 : goal.invariant_of-self-2
invariant_of-self-2 c =
    let lists = c.self.inside.relations.items in
    let lt : c.from-i.result < length lists = omega (arith, c.from-i.ensures, ap length c.self.view_is, c.requires.var) in
    let low : c.self.inside.clauses + length c.args.rel.now ≤ 2 ^ 63 = omega (arith, c.if-more-self.false, c.len-more.ensures.count, c.self.invariant.1.few) in
    let at = c.index_mut.ensures.value in
    let more = c.in_ok-append.ensures.ok in
    let below : AreBelow (length lists) c.args.rel.now = rw (c.self.view_is) c.requires.rel in
    let lists_hold = related lists c.from-i.result _ c.append.new.self c.args.rel.now lt at more c.self.invariant.0 below in
    let count_holds = counted lists c.from-i.result c.self.inside.clauses _ c.append.new.self c.args.rel.now lt at more c.self.invariant.1 low in
    (lists_hold, subst (IsCount (set lists c.from-i.result c.append.new.self)) (ap (λ n. c.self.inside.clauses + n) (sym c.len-more.ensures.count)) count_holds)

pub returns-clause-ok : goal.returns-clause-ok
returns-clause-ok c =
    let lists = c.self.inside.relations.items in
    let rel = c.args.rel.now in
    let lt : c.from-i.result < length lists = omega (arith, c.from-i.ensures, ap length c.self.view_is, c.requires.var) in
    ap (set lists c.from-i.result) (c.in_ok-append.ensures.ok ∙ ap (λ old. old ++ rel) (get_or_read lists c.from-i.result c.index_mut.result.now lt c.index_mut.ensures.value []))
    ∙ ap (λ (i : ℕ). set lists i (get_or lists i [] ++ rel)) c.from-i.ensures
    ∙ ap (λ relations. set relations c.args.var (get_or relations c.args.var [] ++ rel)) c.self.view_is
