use Rattle.aig_answers.proofs.Words.{◌+◌, ◌<◌, false, get_or, length, sym, ap, subst, ◌∙◌, arith, known_of, Witness, said_by, Named, assigned, with_value}
use Rattle.aig_base.proofs.Words.{get_or_default}
use Rattle.aig_answers.proofs.Saying.{SaysTo, leaves_long, room_at, said_more}
use Rattle.aig_answers.proofs.bounded_checks.values.said_values.Goals as goal

pub index-requires : goal.index-requires
index-requires c =
    let q = c.requires.asks.1 in
    let count = leaves_long c.args.circuit.now c.args.k _ _ c.args.made.now.question.places.items
    c.args.made.now.named.items q c.requires.named in
    omega (
      arith,
      count,
      c.loop-i-test.true,
      ap length c.deref-name-items.ensures.value,
      c.args.made.now.question.circuit.inputs.ok.0,
    )

pub set_value-requires : goal.set_value-requires
set_value-requires c =
    let q = c.requires.asks.1 in
    let named = c.args.made.now.named.items in
    room_at c.args.circuit.now c.args.k c.args.made.now.question.places.items _ q.are_places
    q.steps q.distinct (rw c.deref-name-items.ensures.value c.requires.named) _
    c.loop-i.invariant.0 c.loop-i.i _ c.loop-i-test.true

pub loop-i-init : goal.loop-i-init
loop-i-init c = (
  c.in_ok-witness.ensures.begins,
  λ j d low. absurd (omega (arith, low)),
  λ name free now. absurd (c.in_ok-witness.ensures.blank name free now),
)

pub loop-i-preserved : goal.loop-i-preserved
loop-i-preserved c =
    let q = c.requires.asks.1 in
    let circuit = c.args.circuit.now in
    let made = c.args.made.now in
    let named = made.named.items in
    let leaves = made.question.circuit.inputs.items in
    let values = c.args.values.now in
    let i = c.loop-i.i in
    let w : Witness = said_by c.loop-i.witness in
    let v = c.value_of.result in
    let nameless : Named = record { step = 0; is_latch = false; number = 0 } in
    let same = c.deref-name-items.ensures.value in
    let low : i < length named = omega (arith, c.loop-i-test.true, ap length same) in
    let count = leaves_long circuit c.args.k _ _ made.question.places.items named q
    c.requires.named in
    let path = c.set_value.ensures ∙ ap (λ ns. with_value w (get_or ns i nameless) v) same in
    let is = c.value_of.ensures ∙ ap (λ n. known_of (assigned values n)) (c.index.ensures ∙
    get_or_default leaves i c.index.result.now 0 (omega (arith, low, count))) in
    let more = said_more circuit c.args.k made.question.places.items named q.are_places q.steps
    q.distinct c.requires.named leaves values w i nameless v c.loop-i.invariant.0 low is
    c.loop-i.invariant.1 c.loop-i.invariant.2 in
    subst (SaysTo circuit c.args.k named leaves values (i + 1)) (sym path) more
