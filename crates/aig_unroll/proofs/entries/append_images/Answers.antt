use Rattle.std.proofs.Common.{◌≡◌, ◌+◌, ◌-◌, ◌<◌, ◌++◌, [], ◌∷◌, true, false, cond, vec_len, vec_capacity, length, map, append-nil, sym, ap, ◌∙◌, arith}
use Rattle.std.specs.Prelude.{is_ok}
use Rattle.aig_base.proofs.Words.{take_all}
use Rattle.aig_circuit.specs.Edge.{edge_to}
use Rattle.aig_unroll.specs.Step.{image_in}
use Rattle.aig_unroll.proofs.Pushed.{made_pushed, count_down, room_less, room_after}
use Rattle.aig_unroll.proofs.entries.append_images.Goals as goal

pub loop-edge-init : goal.loop-edge-init
loop-edge-init c = record { items = sym (append-nil c.args.list.now.items); room = omega arith }

pub image_of-requires : goal.image_of-requires
image_of-requires c = c.requires.there c.loop-edge.edge-index (edge_to 0 false) c.loop-edge-test.true

pub loop-edge-preserved : goal.loop-edge-preserved
loop-edge-preserved c =
    let i = c.loop-edge.edge-index in
    let edges = c.args.edges.now in
    let old = c.loop-edge.list in
    let new = c.push.new.self in
    let image = c.image_of.result in
    let within : i < length edges = c.loop-edge-test.true in
    let one : length edges - i ≡ (length edges - (i + 1)) + 1 = count_down (length edges) i within in
    let room = c.loop-edge.invariant.room in
    let ok : is_ok c.push.result ≡ true = c.push.ensures.succeeds (room_less (vec_len old) (length edges - i) (length edges - (i + 1)) (vec_capacity old) room one) in
    let pushed : new.items ≡ old.items ++ (image ∷ []) = c.push.ensures.items ∙ ap (λ v. cond v (old.items ++ (image ∷ [])) old.items) ok in
    let longer : vec_len new ≡ vec_len old + 1 = c.push.ensures.len ∙ ap (λ v. cond v (vec_len old + 1) (vec_len old)) ok in
    record {
      items = pushed ∙ made_pushed (image_in c.args.images.now) edges i (edge_to 0 false) c.args.list.now.items old.items image within c.image_of.ensures c.loop-edge.invariant.items;
      room = room_after (vec_len old) (vec_len new) (length edges - i) (length edges - (i + 1)) (vec_capacity old) (vec_capacity new) room one longer c.push.ensures.capacity;
    }

pub returns : goal.returns
returns c = c.loop-edge.invariant.items ∙ ap (λ l. c.args.list.now.items ++ map (image_in c.args.images.now) l) (take_all c.loop-edge.edge-index c.args.edges.now c.loop-edge-test.false)
