-- What the edge of each question decides: that it is never true is that the condition holds.
use Rattle.aig_witness_circuits.proofs.Words.{Agrees, AigEdge, AigLatch, AigNode, All, All-filter, All-nil, All-same, AllOwn, AreCircuits, AreNodes, Base, BaseHolds, Bool, CanShareLeaves, Circuit, Condition, Frame, Grows, Grows-then, Holds, IsCircuit, IsGoodState, IsInitial, IsLatch, IsLeaf, IsMove, Leaf, List, MeetsConstraints, Property, PropertyHolds, Reset, ResetHolds, Sharing, Starts, Step, StepHolds, TakesNext, Transition, TransitionHolds, [], ap, arith, asked_of, beside, constraint_claims, copy_after, edge_value, false, get_or, good_claims, image_at, image_in, kind_at-within, length, make_base, make_property, make_reset, make_step, make_transition, model_leaf, move_claims, moved, moved_beside, no_leaf, own_among, own_latches, refl, start_claims, subst, sym, ℕ, ◌++◌, ◌<◌, ◌∙◌, ◌≡◌}
use Rattle.aig_witness_circuits.proofs.Copied.{same_below}
use Rattle.aig_witness_circuits.proofs.Exactly.{own_is}
use Rattle.aig_witness_circuits.proofs.Framed.{IsCopy, IsFrame, beside_frame, copy_stays, first_frame, moved_beside_frame, moved_frame, read}
use Rattle.aig_witness_circuits.proofs.Owned.{is_own, own_all, own_each}
use Rattle.aig_witness_circuits.proofs.Reading.{AsksWhether, Says, all_start_same, asks_whether, constraints_same, constraints_say, good_same, good_says, moves_same, moves_say, says_both, starts_say, value_same}

-- ---- values that go on

pub carry2 : {A B : Type 0} (P : A → B → Type 0) (a a' : A) (b b' : B) → a ≡ a' → b ≡ b' → P a b
    → P a' b'
carry2 P a a' b b' first second p = subst (P a') second (subst (λ x. P x b) first p)

-- states that are the same on leaves
abbrev Same : Circuit → (ℕ → Bool) → (ℕ → Bool) → Type 0
Same c x y = (n : ℕ) → IsLeaf c.nodes n → x n ≡ y n

turned : (c : Circuit) (x y : ℕ → Bool) → Same c x y → Same c y x
turned c x y same n leaf = sym (same n leaf)

-- what was read is still read, where the first values stay
carried : (c : Circuit) (old new : List AigNode) (images : List AigEdge) → AreNodes old
    → Grows old new → IsCopy c.nodes old images → (v w : ℕ → Bool)
    → ((n : ℕ) → n < length old → w n ≡ v n) → Same c (read new images w) (read old images v)
carried c old new images are grows copy v w first n leaf =
    grows.values w (image_at images n) (copy.there n (kind_at-within c.nodes n Leaf leaf))
    ∙ same_below old are w v first (image_at images n)

first_met : (c : Circuit) (old : List AigNode) (f : Frame) → IsFrame c [] [] [] [] old f
    → (x : ℕ → Bool) → (w : ℕ → Bool) × Same c (read f.nodes f.images w) x
first_met c old f frame x =
    let w = frame.each (λ _. false) x (All-nil _) (All-nil _) in
    (w.0, w.2)

-- latches of a copy after a step move
frame_moves : (c : Circuit) → IsCircuit c → (shared : Sharing) (before others : List AigEdge)
    (old : List AigNode) (f : Frame) → IsFrame c c.latchs before shared others old f
    → IsCopy c.nodes f.nodes before → (z : ℕ → Bool)
    → AllOwn shared (TakesNext c (read f.nodes before z) (read f.nodes f.images z)) c.latchs
frame_moves c is shared before others old f frame copy z k d h own =
    ap (edge_value f.nodes z) (frame.moves k d h own)
    ∙ copy.value z (get_or c.latchs k d).next (is.latchs k d h).next

-- and those of one that shares nothing all move
all_move : (c : Circuit) → IsCircuit c → (before : List AigEdge) (old : List AigNode) (f : Frame)
    → IsFrame c c.latchs before [] [] old f → IsCopy c.nodes f.nodes before → (z : ℕ → Bool)
    → IsMove c (read f.nodes before z) (read f.nodes f.images z)
all_move c is before old f frame copy z k d h =
    frame_moves c is [] before [] old f frame copy z k d h (λ has. absurd (omega (arith, has.1)))

-- the next values of latches are those of the state that is read
next_read : (c : Circuit) → IsCircuit c → (old : List AigNode) (before : List AigEdge)
    → IsCopy c.nodes old before → (v y z : ℕ → Bool) → Same c (read old before v) y → (l : AigLatch)
    → IsLatch c.nodes l → TakesNext c y z l
    → edge_value old v (image_in before l.next) ≡ z l.input
next_read c is old before copy v y z same l is_latch moves =
    copy.value v l.next is_latch.next
    ∙ value_same c is (read old before v) y same l.next
    ∙ sym moves

-- ---- both circuits

module _ (shared : Sharing) (model witness : Circuit) (is_model : IsCircuit model)
    (is_witness : IsCircuit witness) (can : CanShareLeaves shared model witness)
    (old : List AigNode) (are : AreNodes old) (x : Frame) (is_x : x ≡ copy_after old model no_leaf)
  where
    pub frame_x : IsFrame model [] [] [] [] old x
    frame_x = first_frame model is_model old are x is_x

    module _ (y : Frame) (is_y : y ≡ beside (model_leaf shared) witness x) where
      pub frame_y : IsFrame witness [] [] shared x.images x.nodes y
      frame_y =
          subst (IsFrame witness [] [] shared x.images x.nodes) (sym is_y)
          (beside_frame shared model witness can x frame_x.copy is_witness frame_x.grows.sound)

      pub copy_x : IsCopy model.nodes y.nodes x.images
      copy_x =
          copy_stays model.nodes x.nodes y.nodes x.images is_model.nodes frame_y.grows frame_x.copy

      agrees : (z : ℕ → Bool) → Agrees shared (read y.nodes x.images z) (read y.nodes y.images z)
      agrees z k d h = ap (edge_value y.nodes z) (sym (frame_y.shares k d h))

      -- states that agree on the shared leaves are read off some values
      record Met (s t : ℕ → Bool) : Type 0 where
        at : ℕ → Bool
        of_model : Same model (read y.nodes x.images at) s
        of_witness : Same witness (read y.nodes y.images at) t

      met_at : (s t v w : ℕ → Bool) → Same model (read x.nodes x.images v) s
          → ((n : ℕ) → n < length x.nodes → w n ≡ v n) → Same witness (read y.nodes y.images w) t
          → Met s t
      met_at s t v w first stays second = record {
        at = w;
        of_model = λ n leaf.
            carried model x.nodes y.nodes x.images frame_x.grows.sound frame_y.grows frame_x.copy
            v w
            stays n leaf
            ∙ first n leaf;
        of_witness = second;
      }

      met : (s t : ℕ → Bool) → Agrees shared s t → Met s t
      met s t same =
          let v = first_met model old x frame_x s in
          let w = frame_y.each v.0 t
          (λ k d h. v.1 (get_or shared k d).0 (can.model_leaves k d h) ∙ same k d h) (All-nil _) in
          met_at s t v.0 w.0 v.1 w.1 w.2

      module _ (own : List AigLatch) (same_own : own ≡ own_among shared witness.latchs) where
        own_latchs : All (IsLatch witness.nodes) own
        own_latchs =
            All-same (IsLatch witness.nodes) own (own_among shared witness.latchs) same_own
            (All-filter (is_own shared) (IsLatch witness.nodes) witness.latchs is_witness.latchs)

        pub reset_premises : Says y.nodes
            (start_claims model.latchs x.images ++ constraint_claims model x.images
            ++ start_claims own y.images)
            (λ z. (IsInitial model (read y.nodes x.images z)
            × MeetsConstraints model (read y.nodes x.images z))
            × All (Starts witness (read y.nodes y.images z)) own)
        reset_premises =
            says_both y.nodes _ (start_claims own y.images) _ _
            (says_both y.nodes (start_claims model.latchs x.images)
            (constraint_claims model x.images)
            _ _ (starts_say model is_model y.nodes x.images copy_x model.latchs is_model.latchs)
            (constraints_say model is_model y.nodes x.images copy_x))
            (starts_say witness is_witness y.nodes y.images frame_y.copy own own_latchs)

        pub reset_conclusions : Says y.nodes
            (start_claims witness.latchs y.images ++ constraint_claims witness y.images)
            (λ z. IsInitial witness (read y.nodes y.images z)
            × MeetsConstraints witness (read y.nodes y.images z))
        reset_conclusions =
            says_both y.nodes (start_claims witness.latchs y.images)
            (constraint_claims witness y.images) _ _
            (starts_say witness is_witness y.nodes y.images frame_y.copy witness.latchs
            is_witness.latchs)
            (constraints_say witness is_witness y.nodes y.images frame_y.copy)

        pub reset_decided : AsksWhether (ResetHolds shared model witness)
            (make_reset own model witness x y)
        reset_decided =
            asks_whether y.nodes frame_y.grows.sound _ _ _ _ reset_premises reset_conclusions _ (
              λ holds z p. holds (read y.nodes x.images z) (read y.nodes y.images z)
                  (agrees z) p.0.0
                  p.0.1
                  (own_each shared (Starts witness (read y.nodes y.images z)) witness.latchs
                  (All-same (Starts witness (read y.nodes y.images z))
                  (own_among shared witness.latchs)
                  own (sym same_own) p.1)),
              λ never s t same initial constraints starts.
                  let m = met s t same in
                  let s' = read y.nodes x.images m.at in
                  let t' = read y.nodes y.images m.at in
                  let to_s = turned model s' s m.of_model in
                  let to_t = turned witness t' t m.of_witness in
                  let shown = never m.at (
                    (
                      all_start_same model is_model s s' to_s model.latchs is_model.latchs initial,
                      constraints_same model is_model s s' to_s constraints,
                    ),
                    all_start_same witness is_witness t t' to_t own own_latchs
                        (All-same (Starts witness t) own (own_among shared witness.latchs) same_own
                        (own_all shared (Starts witness t) witness.latchs starts)),
                  ) in (
                    all_start_same witness is_witness t' t m.of_witness witness.latchs
                        is_witness.latchs shown.0,
                    constraints_same witness is_witness t' t m.of_witness shown.1,
                  ),
            )

      pub property_premises : Says y.nodes
          (constraint_claims model x.images ++ constraint_claims witness y.images
          ++ good_claims witness y.images)
          (λ z. (MeetsConstraints model (read y.nodes x.images z)
          × MeetsConstraints witness (read y.nodes y.images z))
          × IsGoodState witness (read y.nodes y.images z))
      property_premises =
          says_both y.nodes _ (good_claims witness y.images) _ _
          (says_both y.nodes (constraint_claims model x.images) (constraint_claims witness y.images)
          _ _ (constraints_say model is_model y.nodes x.images copy_x)
          (constraints_say witness is_witness y.nodes y.images frame_y.copy))
          (good_says witness is_witness y.nodes y.images frame_y.copy)

      pub property_conclusions : Says y.nodes (good_claims model x.images)
          (λ z. IsGoodState model (read y.nodes x.images z))
      property_conclusions = good_says model is_model y.nodes x.images copy_x

      pub property_decided : AsksWhether (PropertyHolds shared model witness)
          (make_property model witness x y)
      property_decided =
          asks_whether y.nodes frame_y.grows.sound _ _ _ _ property_premises
          property_conclusions _ (
            λ holds z p. holds (read y.nodes x.images z) (read y.nodes y.images z) (agrees z) p.0.0
                p.0.1 p.1,
            λ never s t same of_model of_witness good.
                let m = met s t same in
                let s' = read y.nodes x.images m.at in
                let t' = read y.nodes y.images m.at in
                let to_t = turned witness t' t m.of_witness in
                good_same model is_model s' s m.of_model
                (never m.at (
                  (
                    constraints_same model is_model s s' (turned model s' s m.of_model) of_model,
                    constraints_same witness is_witness t t' to_t of_witness,
                  ),
                  good_same witness is_witness t t' to_t good,
                )),
          )

      -- ---- and the states after a step

      module _ (next : Frame) (is_next : next ≡ moved model x.images y.nodes) where
        pub frame_next : IsFrame model model.latchs x.images [] [] y.nodes next
        frame_next =
            subst (IsFrame model model.latchs x.images [] [] y.nodes) (sym is_next)
            (moved_frame model is_model x.images y.nodes frame_y.grows.sound copy_x)

        pub copy_y : IsCopy witness.nodes next.nodes y.images
        copy_y =
            copy_stays witness.nodes y.nodes next.nodes y.images is_witness.nodes frame_next.grows
            frame_y.copy

        module _ (z : Frame)
            (is_z : z ≡ moved_beside (model_leaf shared) witness y.images next) where
          pub frame_z : IsFrame witness witness.latchs y.images shared next.images next.nodes z
          frame_z =
              subst (IsFrame witness witness.latchs y.images shared next.images next.nodes)
              (sym is_z)
              (moved_beside_frame shared model witness can next frame_next.copy is_witness
              frame_next.grows.sound y.images copy_y)

          pub grown : Grows y.nodes z.nodes
          grown = Grows-then y.nodes next.nodes z.nodes frame_next.grows frame_z.grows

          pub last_x : IsCopy model.nodes z.nodes x.images
          last_x = copy_stays model.nodes y.nodes z.nodes x.images is_model.nodes grown copy_x

          pub last_y : IsCopy witness.nodes z.nodes y.images
          last_y =
              copy_stays witness.nodes y.nodes z.nodes y.images is_witness.nodes grown
              frame_y.copy

          pub last_next : IsCopy model.nodes z.nodes next.images
          last_next =
              copy_stays model.nodes next.nodes z.nodes next.images is_model.nodes frame_z.grows
              frame_next.copy

          -- all such states are read off some values
          record MetNext (s u t v : ℕ → Bool) : Type 0 where
            at : ℕ → Bool
            of_x : Same model (read z.nodes x.images at) s
            of_next : Same model (read z.nodes next.images at) u
            of_y : Same witness (read z.nodes y.images at) t
            of_z : Same witness (read z.nodes z.images at) v

          module _ (s u t v : ℕ → Bool) (m : Met s t) (a : ℕ → Bool)
              (stays : (n : ℕ) → n < length y.nodes → a n ≡ m.at n)
              (of_next : Same model (read next.nodes next.images a) u) where
            far : Same witness (read next.nodes y.images a) t
            far n leaf =
                carried witness y.nodes next.nodes y.images frame_y.grows.sound frame_next.grows
                frame_y.copy m.at a stays n leaf
                ∙ m.of_witness n leaf

            met_last : (b : ℕ → Bool) → ((n : ℕ) → n < length next.nodes → b n ≡ a n)
                → Same witness (read z.nodes z.images b) v → MetNext s u t v
            met_last b goes_on of_z = record {
              at = b;
              of_x = λ n leaf.
                  carried model y.nodes z.nodes x.images frame_y.grows.sound grown copy_x m.at
                  b first n
                  leaf
                  ∙ m.of_model n leaf;
              of_next = λ n leaf.
                  carried model next.nodes z.nodes next.images frame_next.grows.sound frame_z.grows
                  frame_next.copy a b goes_on n leaf
                  ∙ of_next n leaf;
              of_y = λ n leaf.
                  carried witness y.nodes z.nodes y.images frame_y.grows.sound grown frame_y.copy
                  m.at b
                  first n leaf
                  ∙ m.of_witness n leaf;
              of_z = of_z;
            }
              where
                first : (n : ℕ) → n < length y.nodes → b n ≡ m.at n
                first n h = goes_on n (omega (arith, h, frame_next.grows.longer)) ∙ stays n h

          met_next : (s u t v : ℕ → Bool) → Agrees shared s t → Agrees shared u v → IsMove model s u
              → AllOwn shared (TakesNext witness t v) witness.latchs → MetNext s u t v
          met_next s u t v same same_next moves own =
              let m = met s t same in
              let a = frame_next.each m.at u (All-nil _)
              (λ k d h none.
              next_read model is_model y.nodes x.images copy_x m.at s u m.of_model
              (get_or model.latchs k d) (is_model.latchs k d h) (moves k d h)) in
              let b = frame_z.each a.0 v
              (λ k d h. a.2 (get_or shared k d).0 (can.model_leaves k d h) ∙ same_next k d h)
              (λ k d h owned.
              next_read witness is_witness next.nodes y.images copy_y a.0 t v
              (far s u t v m a.0 a.1 a.2) (get_or witness.latchs k d) (is_witness.latchs k d h)
              (own k d h owned)) in
              met_last s u t v m a.0 a.1 a.2 b.0 b.1 b.2

          pub transition_premises : Says z.nodes
              (constraint_claims model x.images ++ constraint_claims model next.images
              ++ constraint_claims witness y.images)
              (λ w. (MeetsConstraints model (read z.nodes x.images w)
              × MeetsConstraints model (read z.nodes next.images w))
              × MeetsConstraints witness (read z.nodes y.images w))
          transition_premises =
              says_both z.nodes _ (constraint_claims witness y.images) _ _
              (says_both z.nodes (constraint_claims model x.images)
              (constraint_claims model next.images)
              _ _ (constraints_say model is_model z.nodes x.images last_x)
              (constraints_say model is_model z.nodes next.images last_next))
              (constraints_say witness is_witness z.nodes y.images last_y)

          pub transition_conclusions : Says z.nodes
              (move_claims witness y.images z.images ++ constraint_claims witness z.images)
              (λ w. IsMove witness (read z.nodes y.images w) (read z.nodes z.images w)
              × MeetsConstraints witness (read z.nodes z.images w))
          transition_conclusions =
              says_both z.nodes (move_claims witness y.images z.images)
              (constraint_claims witness z.images) _ _
              (moves_say witness is_witness z.nodes y.images z.images last_y frame_z.copy)
              (constraints_say witness is_witness z.nodes z.images frame_z.copy)

          pub transition_decided : AsksWhether (TransitionHolds shared model witness)
              (make_transition model witness x y next z)
          transition_decided =
              asks_whether z.nodes frame_z.grows.sound _ _ _ _ transition_premises
              transition_conclusions _ (
                λ holds w p. holds (read z.nodes x.images w) (read z.nodes next.images w)
                    (read z.nodes y.images w) (read z.nodes z.images w)
                    (λ k d h. ap (edge_value z.nodes w) (sym (frame_y.shares k d h)))
                    (λ k d h. ap (edge_value z.nodes w) (sym (frame_z.shares k d h)))
                    (next_moves w) p.0.0 p.0.1 p.1
                    (frame_moves witness is_witness shared y.images next.images next.nodes z frame_z
                    last_y w),
                λ never s u t v same same_next moves of_x of_next of_y own.
                    let m = met_next s u t v same same_next moves own in
                    let t' = read z.nodes y.images m.at in
                    let v' = read z.nodes z.images m.at in
                    let shown = never m.at (
                      (
                        constraints_same model is_model s _ (turned model _ s m.of_x) of_x,
                        constraints_same model is_model u _ (turned model _ u m.of_next) of_next,
                      ),
                      constraints_same witness is_witness t t' (turned witness t' t m.of_y) of_y,
                    ) in (
                      moves_same witness is_witness t' t v' v m.of_y m.of_z shown.0,
                      constraints_same witness is_witness v' v m.of_z shown.1,
                    ),
              )
            where
              next_moves : (w : ℕ → Bool)
                  → IsMove model (read z.nodes x.images w) (read z.nodes next.images w)
              next_moves w k d h =
                  ap (edge_value z.nodes w)
                  (frame_next.moves k d h (λ has. absurd (omega (arith, has.1))))
                  ∙ last_x.value w (get_or model.latchs k d).next (is_model.latchs k d h).next

-- ---- the witness circuit alone

module _ (c : Circuit) (is : IsCircuit c) (old : List AigNode) (are : AreNodes old) (y : Frame)
    (is_y : y ≡ copy_after old c no_leaf) where
  pub frame_alone : IsFrame c [] [] [] [] old y
  frame_alone = first_frame c is old are y is_y

  pub base_premises : Says y.nodes (start_claims c.latchs y.images ++ constraint_claims c y.images)
      (λ z. IsInitial c (read y.nodes y.images z) × MeetsConstraints c (read y.nodes y.images z))
  base_premises =
      says_both y.nodes (start_claims c.latchs y.images) (constraint_claims c y.images) _ _
      (starts_say c is y.nodes y.images frame_alone.copy c.latchs is.latchs)
      (constraints_say c is y.nodes y.images frame_alone.copy)

  pub base_conclusions : Says y.nodes (good_claims c y.images)
      (λ z. IsGoodState c (read y.nodes y.images z))
  base_conclusions = good_says c is y.nodes y.images frame_alone.copy

  pub base_decided : AsksWhether (BaseHolds c) (make_base c y)
  base_decided =
      asks_whether y.nodes frame_alone.grows.sound _ _ _ _ base_premises base_conclusions _ (
        λ holds z p. holds (read y.nodes y.images z) p.0 p.1,
        λ never s initial constraints.
            let w = first_met c old y frame_alone s in
            let s' = read y.nodes y.images w.0 in
            let back = turned c s' s w.1 in
            good_same c is s' s w.1
            (never w.0 (
              all_start_same c is s s' back c.latchs is.latchs initial,
              constraints_same c is s s' back constraints,
            )),
      )

  module _ (z : Frame) (is_z : z ≡ moved c y.images y.nodes) where
    pub frame_moved : IsFrame c c.latchs y.images [] [] y.nodes z
    frame_moved =
        subst (IsFrame c c.latchs y.images [] [] y.nodes) (sym is_z)
        (moved_frame c is y.images y.nodes frame_alone.grows.sound frame_alone.copy)

    pub copy_alone : IsCopy c.nodes z.nodes y.images
    copy_alone =
        copy_stays c.nodes y.nodes z.nodes y.images is.nodes frame_moved.grows frame_alone.copy

    pub step_premises : Says z.nodes
        (good_claims c y.images ++ constraint_claims c y.images ++ constraint_claims c z.images)
        (λ w. (IsGoodState c (read z.nodes y.images w) × MeetsConstraints c (read z.nodes y.images
        w)) × MeetsConstraints c (read z.nodes z.images w))
    step_premises =
        says_both z.nodes _ (constraint_claims c z.images) _ _
        (says_both z.nodes (good_claims c y.images) (constraint_claims c y.images) _ _
        (good_says c is z.nodes y.images copy_alone)
        (constraints_say c is z.nodes y.images copy_alone))
        (constraints_say c is z.nodes z.images frame_moved.copy)

    pub step_conclusions : Says z.nodes (good_claims c z.images)
        (λ w. IsGoodState c (read z.nodes z.images w))
    step_conclusions = good_says c is z.nodes z.images frame_moved.copy

    kept : (t v w : ℕ → Bool) → Same c (read y.nodes y.images v) t
        → ((n : ℕ) → n < length y.nodes → w n ≡ v n) → Same c t (read z.nodes y.images w)
    kept t v w first stays n leaf =
        sym (carried c y.nodes z.nodes y.images frame_alone.grows.sound frame_moved.grows
        frame_alone.copy v w stays n leaf
        ∙ first n leaf)

    pub step_decided : AsksWhether (StepHolds c) (make_step c y z)
    step_decided =
        asks_whether z.nodes frame_moved.grows.sound _ _ _ _ step_premises step_conclusions _ (
          λ holds w p. holds (read z.nodes y.images w) (read z.nodes z.images w) p.0.0
              (all_move c is y.images y.nodes z frame_moved copy_alone w) p.0.1 p.1,
          λ never t v good moves of_t of_v.
              let a = first_met c old y frame_alone t in
              let b = frame_moved.each a.0 v (All-nil _)
              (λ k d h own.
              next_read c is y.nodes y.images frame_alone.copy a.0 t v a.1 (get_or c.latchs k d)
              (is.latchs k d h) (moves k d h)) in
              let t' = read z.nodes y.images b.0 in
              let v' = read z.nodes z.images b.0 in
              let same = kept t a.0 b.0 a.1 b.1 in
              good_same c is v' v b.2
              (never b.0 (
                (good_same c is t t' same good, constraints_same c is t t' same of_t),
                constraints_same c is v v' (turned c v' v b.2) of_v,
              )),
        )

-- ---- each condition's question

pub decided : (condition : Condition) (shared : Sharing) (model witness : Circuit)
    → AreCircuits condition model witness → CanShareLeaves shared model witness
    → (old : List AigNode) → AreNodes old
    → AsksWhether (Holds condition shared model witness)
    (asked_of condition old (model_leaf shared) model witness)
decided Reset shared model witness are can old sound =
    reset_decided shared model witness are.0 are.1 can old sound _ refl _ refl
    (own_latches (model_leaf shared) witness.latchs) (sym (own_is shared witness.latchs))
decided Transition shared model witness are can old sound =
    transition_decided shared model witness are.0 are.1 can old sound _ refl _ refl _ refl _ refl
decided Property shared model witness are can old sound =
    property_decided shared model witness are.0 are.1 can old sound _ refl _ refl
decided Base shared model witness is can old sound = base_decided witness is old sound _ refl
decided Step shared model witness is can old sound =
    step_decided witness is old sound _ refl _ refl
