use Rattle.aig_base.proofs.Words.{ℕ, ◌≢◌, ◌<◌, List, length, sym, subst, ◌∙◌, All, AllPairs, MatchResult-weaker}
use Rattle.aig_circuit.specs.Reencode.{order_of}
use Rattle.aig_renumber.proofs.Order.{order-distinct, order-there, order-within}
use Rattle.aig_renumber.proofs.Tables.{HasPlaces-same, table-count, table-reencodes, table-within}
use Rattle.aig_renumber.proofs.reencoding.reencode.Goals as goal

pub places-requires-clause-distinct : goal.places-requires-clause-distinct
places-requires-clause-distinct c =
    subst (AllPairs (λ m n. m ≢ n)) (sym (c.deref.ensures.value ∙ c.in_ok-order.ensures.order)) (order-distinct c.args.circuit.now c.in_ok-order.ensures.circuit)

pub places-requires-clause-within : goal.places-requires-clause-within
places-requires-clause-within c =
    subst (λ (l : List ℕ). All (λ n. n < length l) l) (sym (c.deref.ensures.value ∙ c.in_ok-order.ensures.order)) (order-within c.args.circuit.now c.in_ok-order.ensures.circuit c.requires.closed)

pub renumber-requires-clause-table : goal.renumber-requires-clause-table
renumber-requires-clause-table c =
    let circuit = c.args.circuit.now in
    let has = HasPlaces-same c.deref.result.now (order_of circuit) c.in_ok-numbers.numbers.items c.deref-2.result.now (c.deref.ensures.value ∙ c.in_ok-order.ensures.order) c.deref-2.ensures.value c.in_ok-numbers.ensures.count c.in_ok-numbers.ensures.places in
    table-count circuit c.in_ok-order.ensures.circuit c.requires.closed c.deref-2.result.now has

pub renumber-requires-clause-there : goal.renumber-requires-clause-there
renumber-requires-clause-there c =
    subst (All (λ n. n < length c.args.circuit.now.nodes)) (sym (c.deref-3.ensures.value ∙ c.in_ok-order.ensures.order)) (order-there c.args.circuit.now c.in_ok-order.ensures.circuit)

pub renumber-requires-clause-within : goal.renumber-requires-clause-within
renumber-requires-clause-within c =
    let circuit = c.args.circuit.now in
    let has = HasPlaces-same c.deref.result.now (order_of circuit) c.in_ok-numbers.numbers.items c.deref-2.result.now (c.deref.ensures.value ∙ c.in_ok-order.ensures.order) c.deref-2.ensures.value c.in_ok-numbers.ensures.count c.in_ok-numbers.ensures.places in
    subst (λ (l : List ℕ). All (λ n. n < length l) c.deref-2.result.now) (sym (c.deref-3.ensures.value ∙ c.in_ok-order.ensures.order)) (table-within circuit c.in_ok-order.ensures.circuit c.requires.closed c.deref-2.result.now has)

pub returns : goal.returns
returns c =
    let circuit = c.args.circuit.now in
    let has = HasPlaces-same c.deref.result.now (order_of circuit) c.in_ok-numbers.numbers.items c.deref-2.result.now (c.deref.ensures.value ∙ c.in_ok-order.ensures.order) c.deref-2.ensures.value c.in_ok-numbers.ensures.count c.in_ok-numbers.ensures.places in
    MatchResult-weaker c.renumber.result c.renumber.ensures (λ lists made. made ∙ table-reencodes circuit c.in_ok-order.ensures.circuit c.requires.closed c.deref-2.result.now has c.deref-3.result.now (c.deref-3.ensures.value ∙ c.in_ok-order.ensures.order)) (λ e h. tt)
