use Rattle.aig_base.proofs.Words.{All, map-append, take_all, map-map}
use Rattle.std.proofs.Common.{◌≡◌, ◌+◌, ◌<◌, ◌≤◌, ℕ, List, [], ◌∷◌, ◌++◌, Vec, Global, vec_len, vec_capacity, append-nil, length, map, take, get_or, sym, ap, ◌∙◌, arith}
use Rattle.std.proofs.Math.Seq.{take-length}
use Rattle.aig_circuit.specs.declared.edge.AigEdge.{AigEdge}
use Rattle.aig_unroll.specs.Step.{entries_of, image_in}
use Rattle.aig_renumber.proofs.Sets.{set_among}
use Rattle.aig_unroll.proofs.Pushed.{first_kept, made_pushed}
use Rattle.aig_unroll.proofs.entries.push_sets.Goals as goal

-- an empty vector with room for so many has room for them
fits : (empty added count capacity : ℕ) → empty ≡ 0 → added ≡ count → count ≤ capacity
    → empty + added ≤ capacity
fits empty added count capacity none same room = omega arith

pub append_images-requires-clause-there : goal.append_images-requires-clause-there
append_images-requires-clause-there c = set_among (All (λ e. e.node_id < length c.args.images.now)) c.args.sets.now c.loop-set.set-index c.set-item.result c.deref.result.now c.loop-set-test.true c.set-item.is c.deref.ensures.value c.requires

pub append_images-requires-clause-room : goal.append_images-requires-clause-room
append_images-requires-clause-room c =
    let new = c.in_ok-appended.ensures in
    fits (vec_len c.in_ok-appended.appended) (length c.deref.result.now) c.len.result (vec_capacity c.in_ok-appended.appended) new.len (c.deref.ensures.len ∙ sym c.len.ensures) new.capacity

pub loop-set-init : goal.loop-set-init
loop-set-init c = record { ok = sym (append-nil (entries_of c.args.list.now.items)); kept = take-length c.args.list.now.items }

pub returns-in_err-appended-clause-kept : goal.returns-in_err-appended-clause-kept
returns-in_err-appended-clause-kept c = c.loop-set.invariant.kept

pub returns-in_err-push-clause-kept : goal.returns-in_err-push-clause-kept
returns-in_err-push-clause-kept c = ap (take (length c.args.list.now.items)) c.in_err-push.ensures.items ∙ c.loop-set.invariant.kept

pub loop-set-preserved : goal.loop-set-preserved
loop-set-preserved c =
    let image = image_in c.args.images.now in
    let images_of : Vec AigEdge Global → List AigEdge = λ set. map image set.items in
    let old = c.loop-set.list.items in
    let copy = c.append_images.new.list in
    let set = c.set-item.result in
    let made : copy.items ≡ images_of (get_or c.args.sets.now c.loop-set.set-index set) =
    c.append_images.ensures ∙ ap (λ l. l ++ map image c.deref.result.now) c.in_ok-appended.ensures.items ∙ ap (map image) c.deref.ensures.value ∙ ap images_of c.set-item.is in
    record {
      ok =
          ap entries_of c.in_ok-push.ensures.items ∙ map-append (λ (v : Vec AigEdge Global). v.items) old (copy ∷ [])
          ∙ made_pushed images_of c.args.sets.now c.loop-set.set-index set (entries_of c.args.list.now.items) (entries_of old) copy.items c.loop-set-test.true made c.loop-set.invariant.ok;
      kept = ap (take (length c.args.list.now.items)) c.in_ok-push.ensures.items ∙ first_kept c.args.list.now.items old copy c.loop-set.invariant.kept;
    }

pub returns-clause-ok : goal.returns-clause-ok
returns-clause-ok c =
    let all = take_all c.loop-set.set-index c.args.sets.now c.loop-set-test.false in
    c.loop-set.invariant.ok
    ∙ ap (λ l. entries_of c.args.list.now.items ++ map (λ (set : Vec AigEdge Global). map (image_in c.args.images.now) set.items) l) all
    ∙ ap (λ l. entries_of c.args.list.now.items ++ l) (sym (map-map (map (image_in c.args.images.now)) (λ (set : Vec AigEdge Global). set.items) c.args.sets.now))

pub returns-clause-kept : goal.returns-clause-kept
returns-clause-kept c = c.loop-set.invariant.kept
