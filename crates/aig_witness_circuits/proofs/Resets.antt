-- Tables of the initial edges of latches.
use Rattle.aig_witness_circuits.proofs.Words.{AigEdge, AigLatch, All, All-contains, All-contains_itself, All-filter, All-push, All-same, AreResets, Circuit, Contains, Contains-append_left, Contains-get_or, Contains-push, HoldsResets, IsOwn, IsReset, List, None, Option, Sharing, Some, [], ap, arith, cases_eq, filter_passes, get_or, get_or-set_other, get_or-set_same, get_or-take, get_or_default, inl, inr, length, length-take, own_among, reset_at, set, subst, sym, take_more, ℕ, ◌++◌, ◌+◌, ◌<◌, ◌∙◌, ◌∷◌, ◌≡◌, ◌≢◌, ◌⊎◌}
use Rattle.aig_base.proofs.Words.{take}
use Rattle.aig_witness_circuits.proofs.Constant.{AreApart}
use Rattle.aig_witness_circuits.proofs.Owned.{filter_each, is_own, owns, passes}

abbrev Edges : Type 0
Edges = List (Option AigEdge)

-- an empty table
pub holds_none : (resets : Edges) → ((n : ℕ) → reset_at resets n ≡ None) → HoldsResets [] resets
holds_none resets none = record {
  each = λ k d h. absurd (omega (arith, h));
  only = λ n e has. (let wrong = sym (none n) ∙ has in absurd cc);
}

-- the table of one latch more
module _ (latchs : List AigLatch) (resets : Edges) (i : ℕ) (d : AigLatch)
    (within : i < length latchs) (apart : AreApart latchs)
    (low : (get_or latchs i d).input < length resets)
    (so_far : HoldsResets (take i latchs) resets) where
  abbrev latch : AigLatch
  latch = get_or latchs i d

  abbrev now : Edges
  now = set resets latch.input latch.init

  more : take (i + 1) latchs ≡ take i latchs ++ latch ∷ []
  more = take_more latchs i d within

  here : reset_at now latch.input ≡ latch.init
  here = get_or-set_same resets latch.input latch.init None low

  elsewhere : (n : ℕ) → n ≢ latch.input → reset_at now n ≡ reset_at resets n
  elsewhere n differs = get_or-set_other resets latch.input n latch.init None differs

  abbrev Holds : AigLatch → Type 0
  Holds l = reset_at now l.input ≡ l.init

  old : All Holds (take i latchs)
  old k e h =
      let short : k < i = omega (arith, h, length-take i latchs) in
      let at : get_or (take i latchs) k e ≡ get_or latchs k e = get_or-take i latchs k e short in
      let last : get_or latchs i e ≡ latch = get_or_default latchs i e d within in
      let differs : (get_or latchs k e).input ≢ latch.input =
      subst (λ (l : AigLatch). (get_or latchs k e).input ≢ l.input) last (apart k i e short within)
      in
      elsewhere (get_or (take i latchs) k e).input
      (λ same. differs (ap (λ (l : AigLatch). l.input) (sym at) ∙ same))
      ∙ so_far.each k e h

  pub holds_more : HoldsResets (take (i + 1) latchs) now
  holds_more = record {
    each = All-same Holds (take (i + 1) latchs) (take i latchs ++ latch ∷ []) more
        (All-push Holds (take i latchs) latch old here);
    only = λ n e has. by_case n e (cases_eq n latch.input) has;
  }
    where
      by_case : (n : ℕ) (e : AigEdge) → (n ≡ latch.input) ⊎ (n ≢ latch.input)
          → reset_at now n ≡ Some e
          → (l : AigLatch) × Contains (take (i + 1) latchs) l × (l.input ≡ n) × (l.init ≡ Some e)
      by_case n e (inl same) has = (
        latch,
        subst (λ (ls : List AigLatch). Contains ls latch) (sym more)
            (Contains-push (take i latchs) latch),
        sym same,
        sym here ∙ subst (λ (k : ℕ). reset_at now k ≡ Some e) same has,
      )
      by_case n e (inr differs) has =
          let found = so_far.only n e (sym (elsewhere n differs) ∙ has) in (
            found.0,
            subst (λ (ls : List AigLatch). Contains ls found.0) (sym more)
                (Contains-append_left (take i latchs) (latch ∷ []) found.0 found.1),
            found.2,
            found.3,
          )

-- the table of the own latches
module _ (shared : Sharing) (c : Circuit) (resets : Edges)
    (holds : HoldsResets (own_among shared c.latchs) resets) where
  abbrev own : List AigLatch
  own = own_among shared c.latchs

  found : (n : ℕ) (e : AigEdge) → reset_at resets n ≡ Some e → IsReset shared c n e
  found n e has =
      let one = holds.only n e has in (
        one.0,
        All-contains (Contains c.latchs) own one.0
            (All-filter (is_own shared) (Contains c.latchs) c.latchs
            (All-contains_itself c.latchs)) one.1,
        All-contains (λ (l : AigLatch). IsOwn shared l.input) own one.0
            (λ k d h. owns shared (get_or own k d)
            (filter_passes (is_own shared) c.latchs k d h)) one.1,
        one.2,
        one.3,
      )

  among : (latch : AigLatch) → Contains c.latchs latch → IsOwn shared latch.input
      → Contains own latch
  among latch has is_its =
      All-contains (λ (l : AigLatch). IsOwn shared l.input → Contains own l) c.latchs latch
      (λ k d h o.
      filter_each (is_own shared) (Contains own) c.latchs
      (λ i e l. Contains-get_or own i e l) k d h (passes shared (get_or c.latchs k d) o)) has is_its

  held : (n : ℕ) (e : AigEdge) → IsReset shared c n e → reset_at resets n ≡ Some e
  held n e (latch, has, is_its, same, init) =
      subst (λ (k : ℕ). reset_at resets k ≡ Some e) same
      (All-contains (λ (l : AigLatch). reset_at resets l.input ≡ l.init) own latch holds.each
      (among latch has is_its)
      ∙ init)

  pub are_resets : length resets ≡ length c.nodes → AreResets shared c resets
  are_resets count = record { count = count; exactly = λ n e. (found n e, held n e) }
