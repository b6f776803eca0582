use Rattle.aig_base.proofs.Words.{◌≡◌, ◌+◌, ◌-◌, ◌<◌, ◌≤◌, ◌∷◌, ℕ, false, List, drop, drop_more, length, slice_index_or, refl, sym, ap, subst, ◌∙◌, arith, with_items_is}
use Rattle.aig_refutation.specs.Checking.{Live}
use Rattle.aig_refutation.specs.Starts.{AreStarts, IsStart, start_in, with_start}
use Rattle.aig_refutation.specs.Tables.{Holds, Table, place_in}
use Rattle.aig_refutation.specs.declared.words.Number.{Number}
use Rattle.aig_refutation.proofs.HintGroups.{length-with_start, starts_hint, starts_number}
use Rattle.aig_refutation.proofs.starts.find_starts.Goals as goal
use Rattle.aig_refutation.proofs.starts.find_starts.Goals.{then-not-groups-i, else-not-groups-i}

pub loop-passed-preserved : goal.loop-passed-preserved
loop-passed-preserved c =
    let t : Table = c.args.numbered.now in
    let groups = c.args.groups.now in
    let passed = c.loop-passed.passed in
    let i = length groups - 1 - passed in
    let zero : Number = record { value = 0; positive = false } in
    let x = slice_index_or groups i zero in
    let starts = c.loop-passed.starts.items in
    let now = c.if-not-groups-i.starts.items in
    let rest = drop (i + 1) groups in
    let there : passed < length groups = c.loop-passed-test.true in
    let at : length groups - (passed + 1) ≡ i = omega (arith, there) in
    let inside : i < length groups = omega (arith, there) in
    let left : drop (length groups - (passed + 1)) groups ≡ x ∷ rest =
    ap (λ (m : ℕ). drop m groups) at ∙ drop_more groups i zero inside in
    let behind : length groups - passed ≡ i + 1 = omega (arith, there) in
    let before : (live : Live) → Holds t live → AreStarts t groups rest starts =
    λ live h. subst (λ (m : ℕ). AreStarts t groups (drop m groups) starts) behind
    (c.loop-passed.invariant.starts live h) in
    elim c.if-not-groups-i.branch [
      | then-not-groups-i w ↦
          let noted : now ≡ with_start (place_in t x.value) (i + 1) starts =
          ap (λ v. v.items) w.starts-is
          ∙ with_items_is c.loop-passed.starts w.note.new.starts (omega (
            arith,
            w.note.auto.starts,
            ap length w.deref_mut.ensures.value,
            c.loop-passed.starts.ok.0,
          ))
          ∙ w.note.ensures
          ∙ ap (with_start (place_in t x.value) (i + 1)) w.deref_mut.ensures.value in
          record {
            count = ap length noted ∙ length-with_start (place_in t x.value) (i + 1) starts
                ∙ c.loop-passed.invariant.count;
            starts = λ live h. subst (λ (list : List Number). AreStarts t groups list now) (sym left)
                (subst (λ (list : List ℕ). AreStarts t groups (x ∷ rest) list) (sym noted)
                (starts_number t live h groups rest x starts i w.if-not-groups-i.true refl
                c.loop-passed.invariant.count (before live h)));
          }
      | else-not-groups-i w ↦
          let same : now ≡ starts = ap (λ v. v.items) w.starts-is in
          record {
            count = ap length same ∙ c.loop-passed.invariant.count;
            starts = λ live h. subst (λ (list : List Number). AreStarts t groups list now) (sym left)
                (subst (λ (list : List ℕ). AreStarts t groups (x ∷ rest) list) (sym same)
                (starts_hint t live h groups rest x starts w.if-not-groups-i.false
                (before live h)));
          }
    ]

pub returns : goal.returns
returns c live h i n inside name =
    let groups = c.args.groups.now in
    let done : length groups ≤ c.loop-passed.passed = c.loop-passed-test.false in
    let none : length groups - c.loop-passed.passed ≡ 0 = omega (arith, done) in
    subst (λ (m : ℕ). IsStart groups (drop m groups) n (start_in c.loop-passed.starts.items i)) none
    (c.loop-passed.invariant.starts live h i n inside name)
