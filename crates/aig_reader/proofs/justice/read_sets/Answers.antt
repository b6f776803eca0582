use Rattle.aig_base.proofs.Words.{◌≡◌, ◌∙◌, ◌∷◌, ◌++◌, [], ℕ, List, length, map, ap, sym, append-nil, arith, err_from_is_err_and, map_push}
use Rattle.std.specs.Prelude.{Vec}
use Rattle.std.specs.declared.alloc.Global.{Global}
use Rattle.aig_circuit.specs.declared.edge.AigEdge.{AigEdge}
use Rattle.aig_lexer.proofs.Taking.{takes_nothing}
use Rattle.aig_ordering.specs.Lists.{edge_from}
use Rattle.aig_lexer.specs.Faults.{line_cause}
use Rattle.aig_lexer.proofs.Faults.{tells-weaker}
use Rattle.aig_reader.proofs.Entries.{made_push, takes_set, misses_set, takes_sets}
use Rattle.aig_reader.proofs.justice.read_sets.Goals as goal

abbrev items_of : Vec AigEdge Global → List AigEdge
items_of set = set.items

push_set : (front : List (List AigEdge)) (old new : List (Vec AigEdge Global))
    (set : Vec AigEdge Global) (xs : List (List ℕ)) (x : List ℕ)
    → map items_of old ≡ front ++ map (map edge_from) xs → set.items ≡ map edge_from x
    → new ≡ old ++ set ∷ [] → map items_of new ≡ front ++ map (map edge_from) (xs ++ x ∷ [])
push_set front old new set xs x h k is = made_push (map edge_from) front xs x (map items_of old) (map items_of new) set.items h k (ap (map items_of) is ∙ map_push items_of old set)

pub loop-size-init : goal.loop-size-init
loop-size-init g c = ([], sym (append-nil (map items_of c.args.sets.now.items)), takes_nothing _ [])

pub returns-in_err-read_edges : goal.returns-in_err-read_edges
returns-in_err-read_edges g c =
    let p = err_from_is_err_and c.from_residual.result c.from_residual.ensures.1 in
    let h = c.loop-size.invariant in
    let sizes = c.args.sizes.now in
    rw (p.1, p.2) (tells-weaker (line_cause c.in_err-read_edges.field-0.0) _ _ _ (misses_set c.args.greatest sizes c.loop-size.size-index _ _ h.0 h.2 (omega arith)) c.in_err-read_edges.ensures)

pub loop-size-preserved : goal.loop-size-preserved
loop-size-preserved g c =
    let h = c.loop-size.invariant in
    let k = c.in_ok-read_edges.ensures in
    (h.0 ++ k.0 ∷ [], push_set _ _ _ c.read_edges.new.edges h.0 k.0 h.1 (k.1 ∙ ap (λ (es : List AigEdge). es ++ map edge_from k.0) c.new-set.ensures.items) c.in_ok-append.ensures, takes_set c.args.greatest c.args.sizes.now c.loop-size.size-index _ _ h.0 h.2 _ k.0 k.2)

pub returns : goal.returns
returns g c =
    let sizes = c.args.sizes.now in
    let all : c.loop-size.size-index ≡ length sizes = omega arith in
    let h = c.loop-size.invariant in
    (h.0, h.1, takes_sets c.args.greatest sizes c.loop-size.size-index _ _ h.0 h.2 all)
