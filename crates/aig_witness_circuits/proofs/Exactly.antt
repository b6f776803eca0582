-- Which gates, edges and copies are made, one for one.
use Rattle.aig_witness_circuits.proofs.Words.{AigEdge, AigLatch, AigNode, AigNodeType, And, Bool, Circuit, Claim, Condition, False, FoldsOrAdds, FoldsOrAddsAll, FoldsOrAddsEq, Frame, JoinsFromLeft, List, Listed, Made, Option, Sharing, Some, [], add-one, and_of, ap, ap₂, asked_base, asked_of, asked_property, asked_reset, asked_step, asked_transition, beside, constraint_claims, copy_after, edge_to, filter, frame_in, frame_to, fun_ext, get_or, good_claims, image_in, inl, inr, inverse, inverse_twice, kind_at, length, listed_in, made_by, made_in, make_all, make_and, make_ands, make_base, make_claim, make_equal, make_property, make_refuting, make_reset, make_step, make_transition, model_leaf, move_claims, moved, moved_beside, no_leaf, own_among, own_latches, question_of, refl, start_claims, subst, sym, take, take_more, true, with_bad, with_claims, with_copy, with_made, with_node, ℕ, ◌++◌, ◌+◌, ◌<◌, ◌∙◌, ◌∷◌, ◌≡◌}
use Rattle.aig_unroll.proofs.Framed.{folded-Folds, folded-none, with_folded-rule}
use Rattle.aig_witness_circuits.proofs.First.{stands_where_shared}
use Rattle.aig_witness_circuits.proofs.Owned.{is_own}

-- ---- gates

-- the and of two edges by the builders' rule
pub and_made : (old new : List AigNode) (a b e : AigEdge) → FoldsOrAdds old new a b e
    → made_in new e ≡ make_and old a b
and_made old new a b e (inl p) =
    ap (λ ns. made_in ns e) p.1
    ∙ sym (ap (λ o. made_by o (and_of a b) old) (folded-Folds a b e p.0))
and_made old new a b e (inr p) =
    ap₂ made_in p.1.gate p.1.edge
    ∙ sym (ap (λ o. made_by o (and_of a b) old) (folded-none a b p.0))

-- and a gate's image
pub image_made : (mid new : List AigNode) (images : List AigEdge) (state : Option AigEdge)
    (a b e : AigEdge) → FoldsOrAdds mid new (image_in images a) (image_in images b) e
    → frame_in new (images ++ e ∷ [])
    ≡ with_copy state (Some (And a b)) (frame_in mid images)
image_made mid new images state a b e rule =
    sym (with_folded-rule mid new images (image_in images a) (image_in images b) e rule)

-- that two are equal
pub equal_made : (old new : List AigNode) (a b e : AigEdge)
    → FoldsOrAddsEq old new a b e → made_in new e ≡ make_equal old a b
equal_made old new a b e rule =
    subst After_both (and_made old rule.one a b rule.both rule.is_both)
    (subst After_neither
    (and_made rule.one rule.two (inverse a) (inverse b) rule.neither rule.is_neither)
    (ap (made_in new) (sym (inverse_twice e))
    ∙ ap (λ (m : Made). made_in m.nodes (inverse m.edge))
    (and_made rule.two new (inverse rule.both) (inverse rule.neither) (inverse e)
    rule.is_either)))
  where
    After_both : Made → Type 0
    After_both both =
        made_in new e
        ≡ (let neither = make_and both.nodes (inverse a) (inverse b) in
        let differ = make_and neither.nodes (inverse both.edge) (inverse neither.edge) in
        made_in differ.nodes (inverse differ.edge))

    After_neither : Made → Type 0
    After_neither neither =
        made_in new e
        ≡ (let differ = make_and neither.nodes (inverse rule.both) (inverse neither.edge) in
        made_in differ.nodes (inverse differ.edge))

-- the and of all
ands_made : (old : List AigNode) (all : AigEdge) (es : List AigEdge) (new : List AigNode)
    (e : AigEdge) → JoinsFromLeft FoldsOrAdds old all es new e
    → made_in new e ≡ make_ands (made_in old all) es
ands_made old all [] new e rule = ap₂ made_in rule.0 rule.1
ands_made old all (f ∷ fs) new e rule =
    ands_made rule.0 rule.1 fs new e rule.3
    ∙ ap (λ m. make_ands m fs) (and_made old rule.0 all f rule.1 rule.2)

pub all_made : (old new : List AigNode) (es : List AigEdge) (e : AigEdge)
    → FoldsOrAddsAll old es new e → made_in new e ≡ make_all old es
all_made old new es e rule = ands_made old (edge_to 0 true) es new e rule

-- all premises, and not all conclusions
pub refuting_is : (old one two three four new : List AigNode) (premises conclusions : List Claim)
    (given wanted : List AigEdge) (asked shown turned e : AigEdge)
    → listed_in one given ≡ with_claims (listed_in old []) premises
    → listed_in two wanted ≡ with_claims (listed_in one []) conclusions
    → FoldsOrAddsAll two given three asked → FoldsOrAddsAll three wanted four shown
    → turned ≡ inverse shown → FoldsOrAdds four new asked turned e
    → made_in new e ≡ make_refuting old premises conclusions
refuting_is old one two three four new premises conclusions given wanted asked shown turned e
    is_given is_wanted is_asked is_shown is_turned rule =
    and_made four new asked turned e rule
    ∙ ap (make_and four asked) is_turned
    ∙ ap (λ (m : Made). make_and m.nodes asked (inverse m.edge))
    (all_made three four wanted shown is_shown)
    ∙ ap (λ (m : Made). let last = make_all m.nodes wanted in
    make_and last.nodes m.edge (inverse last.edge)) (all_made two three given asked is_asked)
    ∙ ap (after given) is_wanted
    ∙ ap (λ (l : Listed). after l.edges (with_claims (listed_in l.nodes []) conclusions)) is_given
  where
    after : List AigEdge → Listed → Made
    after es l =
        let first = make_all l.nodes es in
        let last = make_all first.nodes l.edges in
        make_and last.nodes first.edge (inverse last.edge)

-- one claim more
pub claims_more : (l : Listed) (claims : List Claim) (c : Claim)
    → with_claims l (claims ++ c ∷ [])
    ≡ (let made = with_claims l claims in with_made made.edges (make_claim made.nodes c))
claims_more l [] c = refl
claims_more l (d ∷ claims) c =
    claims_more (with_made l.edges (make_claim l.nodes d)) claims c

pub listed_more : (base mid new : List AigNode) (claims : List Claim) (i : ℕ) (d : Claim)
    (edges : List AigEdge) (e : AigEdge) → i < length claims
    → listed_in mid edges ≡ with_claims (listed_in base []) (take i claims)
    → made_in new e ≡ make_claim mid (get_or claims i d)
    → listed_in new (edges ++ e ∷ []) ≡ with_claims (listed_in base []) (take (i + 1) claims)
listed_more base mid new claims i d edges e within so_far made =
    ap (with_made edges) made
    ∙ ap (λ (l : Listed). with_made l.edges (make_claim l.nodes (get_or claims i d))) so_far
    ∙ sym (claims_more (listed_in base []) (take i claims) (get_or claims i d))
    ∙ ap (with_claims (listed_in base [])) (sym (take_more claims i d within))

-- ---- copies

-- one node more
pub frame_more : (source : List AigNode) (given : ℕ → Option AigEdge) (old mid new : List AigNode)
    (images : List AigEdge) (i : ℕ) (e : AigEdge) (kind : AigNodeType)
    → kind_at source i ≡ Some kind → frame_in mid images ≡ frame_to source given old i
    → frame_in new (images ++ e ∷ []) ≡ with_copy (given i) (Some kind) (frame_in mid images)
    → frame_in new (images ++ e ∷ []) ≡ frame_to source given old (i + 1)
frame_more source given old mid new images i e kind at so_far here =
    here
    ∙ ap (with_copy (given i) (Some kind)) so_far
    ∙ ap (λ k. with_copy (given i) k (frame_to source given old i)) (sym at)
    ∙ sym (ap (frame_to source given old) (add-one i))

-- the latches whose leaves stand for none
pub own_is : (shared : Sharing) (latchs : List AigLatch)
    → own_among shared latchs ≡ own_latches (model_leaf shared) latchs
own_is shared latchs =
    ap (λ (test : AigLatch → Bool). filter test latchs)
    (fun_ext (λ (latch : AigLatch). sym (stands_where_shared shared latch.input)))

-- ---- questions

module _ (leaf : ℕ → Option ℕ) (model witness : Circuit) (old : List AigNode) (made : Made)
    (premises conclusions : List Claim) (x y : Frame) (is_x : x ≡ copy_after old model no_leaf)
    (is_y : y ≡ beside leaf witness x) where
  pub reset_asked : (own : List AigLatch) → own ≡ own_latches leaf witness.latchs
      → made ≡ make_refuting y.nodes premises conclusions
      → premises
      ≡ start_claims model.latchs x.images ++ constraint_claims model x.images
      ++ start_claims own y.images
      → conclusions ≡ start_claims witness.latchs y.images ++ constraint_claims witness y.images
      → made ≡ asked_reset old leaf model witness
  reset_asked own is_own is first second =
      let passed = own_latches leaf witness.latchs in
      is
      ∙ ap₂ (make_refuting y.nodes) first second
      ∙ ap (λ l. make_reset l model witness x y) is_own
      ∙ ap (make_reset passed model witness x) is_y
      ∙ ap (λ f. make_reset passed model witness f (beside leaf witness f)) is_x

  pub property_asked : made ≡ make_refuting y.nodes premises conclusions
      → premises
      ≡ constraint_claims model x.images ++ constraint_claims witness y.images
      ++ good_claims witness y.images
      → conclusions ≡ good_claims model x.images
      → made ≡ asked_property old leaf model witness
  property_asked is first second =
      is
      ∙ ap₂ (make_refuting y.nodes) first second
      ∙ ap (make_property model witness x) is_y
      ∙ ap (λ f. make_property model witness f (beside leaf witness f)) is_x

  pub transition_asked : (next z : Frame) → next ≡ moved model x.images y.nodes
      → z ≡ moved_beside leaf witness y.images next
      → made ≡ make_refuting z.nodes premises conclusions
      → premises
      ≡ constraint_claims model x.images ++ constraint_claims model next.images
      ++ constraint_claims witness y.images
      → conclusions
      ≡ move_claims witness y.images z.images ++ constraint_claims witness z.images
      → made ≡ asked_transition old leaf model witness
  transition_asked next z is_next is_z is first second =
      is
      ∙ ap₂ (make_refuting z.nodes) first second
      ∙ ap (make_transition model witness x y next) is_z
      ∙ ap (λ f. make_transition model witness x y f (moved_beside leaf witness y.images f)) is_next
      ∙ ap (λ g. let f = moved model x.images g.nodes in
      make_transition model witness x g f (moved_beside leaf witness g.images f)) is_y
      ∙ ap (λ h. let g = beside leaf witness h in
      let f = moved model h.images g.nodes in
      make_transition model witness h g f (moved_beside leaf witness g.images f)) is_x

module _ (witness : Circuit) (old : List AigNode) (made : Made)
    (premises conclusions : List Claim) (y : Frame) (is_y : y ≡ copy_after old witness no_leaf)
  where
    pub base_asked : made ≡ make_refuting y.nodes premises conclusions
        → premises ≡ start_claims witness.latchs y.images ++ constraint_claims witness y.images
        → conclusions ≡ good_claims witness y.images → made ≡ asked_base old witness
    base_asked is first second =
        is ∙ ap₂ (make_refuting y.nodes) first second ∙ ap (make_base witness) is_y

    pub step_asked : (z : Frame) → z ≡ moved witness y.images y.nodes
        → made ≡ make_refuting z.nodes premises conclusions
        → premises
        ≡ good_claims witness y.images ++ constraint_claims witness y.images
        ++ constraint_claims witness z.images
        → conclusions ≡ good_claims witness z.images → made ≡ asked_step old witness
    step_asked z is_z is first second =
        is
        ∙ ap₂ (make_refuting z.nodes) first second
        ∙ ap (make_step witness y) is_z
        ∙ ap (λ f. make_step witness f (moved witness f.images f.nodes)) is_y

-- the circuit of a question's nodes is the question
pub question_is : (condition : Condition) (leaf : ℕ → Option ℕ) (model witness q : Circuit)
    (first : List AigNode) (made : Made) → q ≡ with_bad made
    → made ≡ asked_of condition first leaf model witness → first ≡ with_node [] False
    → q ≡ question_of condition leaf model witness
question_is condition leaf model witness q first made is asked begins =
    is
    ∙ ap with_bad
    (asked ∙ ap (λ nodes. asked_of condition nodes leaf model witness) begins)
