-- States that are read off copies, and what claims say of them.
use Rattle.aig_witness_circuits.proofs.Words.{AigEdge, AigLatch, AigNode, All, All-append, All-first, All-from_map, All-map, All-second, AllPass-from_list_all, AreNodes, Bool, Circuit, Claim, Edge, Equal, IfSome, IsCircuit, IsClaimIn, IsGoodState, IsInRange, IsLatch, IsLeaf, IsMove, IsTrue, Leaf, List, Made, MeetsConstraints, None, Option, Some, Starts, TakesNext, ap, beq, booleans_Decides, constraint_claims, edge_value, edge_value-inverse, edge_value_by_leaves, false, false≢true, get_or, good_claims, image_at, image_in, inverse, kind_at-within, list_all, list_all-from_AllPass, make_refuting, map, move_claim, move_claims, not, refl, start_claim, start_claims, start_image, subst, sym, true, ℕ, ◌&&◌, ◌++◌, ◌↔◌, ◌∙◌, ◌≡◌}
use Rattle.aig_witness_circuits.proofs.Framed.{IsCopy, read}
use Rattle.aig_witness_circuits.proofs.Gates.{Gives, claim_value, refuting_gives}

-- ---- leaves decide

module _ (c : Circuit) (is : IsCircuit c) (x y : ℕ → Bool)
    (same : (n : ℕ) → IsLeaf c.nodes n → x n ≡ y n) where
  pub value_same : (e : AigEdge) → edge_value c.nodes x e ≡ edge_value c.nodes y e
  value_same e = edge_value_by_leaves c.nodes is.nodes.ordered x y same e

  pub constraints_same : MeetsConstraints c x → MeetsConstraints c y
  constraints_same all k d h = sym (value_same (get_or c.properties.constraints k d)) ∙ all k d h

  pub good_same : IsGoodState c x → IsGoodState c y
  good_same all k d h = sym (value_same (get_or c.properties.bads k d)) ∙ all k d h

  pub starts_same : (latch : AigLatch) → IsLatch c.nodes latch → Starts c x latch
      → Starts c y latch
  starts_same latch is_latch starts = by latch.init starts
    where
      by : (init : Option AigEdge) → IfSome init (λ e. edge_value c.nodes x e ≡ x latch.input)
          → IfSome init (λ e. edge_value c.nodes y e ≡ y latch.input)
      by (Some e) starts = sym (value_same e) ∙ starts ∙ same latch.input is_latch.leaf
      by None starts = tt

  pub all_start_same : (latchs : List AigLatch) → All (IsLatch c.nodes) latchs
      → All (Starts c x) latchs → All (Starts c y) latchs
  all_start_same latchs are all k d h = starts_same (get_or latchs k d) (are k d h) (all k d h)

-- moves between two states
pub moves_same : (c : Circuit) (is : IsCircuit c) (x y x' y' : ℕ → Bool)
    → ((n : ℕ) → IsLeaf c.nodes n → x n ≡ y n) → ((n : ℕ) → IsLeaf c.nodes n → x' n ≡ y' n)
    → IsMove c x x' → IsMove c y y'
moves_same c is x y x' y' same same' all k d h =
    let latch = get_or c.latchs k d in
    sym (same' latch.input (is.latchs k d h).leaf) ∙ all k d h ∙ value_same c is x y same latch.next

-- ---- what claims say

-- the claims' edges are there, and they hold exactly where P does
pub record Says (base : List AigNode) (claims : List Claim) (P : (ℕ → Bool) → Type 0) : Type 0
  where
    pub there : All (IsClaimIn base) claims
    pub holds : (z : ℕ → Bool) → All (λ c. IsTrue (claim_value base z c)) claims ↔ P z

pub says_both : (base : List AigNode) (xs ys : List Claim) (P Q : (ℕ → Bool) → Type 0)
    → Says base xs P → Says base ys Q → Says base (xs ++ ys) (λ z. P z × Q z)
says_both base xs ys P Q first second = record {
  there = All-append (IsClaimIn base) xs ys first.there second.there;
  holds = λ z.
      let T : Claim → Type 0 = λ c. IsTrue (claim_value base z c) in (
        λ all. (
          (first.holds z).0 (All-first T xs ys all),
          (second.holds z).0 (All-second T xs ys all),
        ),
        λ p. All-append T xs ys ((first.holds z).1 p.0) ((second.holds z).1 p.1),
      );
}

says_map : {X : Type 0} (base : List AigNode) (f : X → Claim) (xs : List X)
    (Q : (ℕ → Bool) → X → Type 0)
    → All (λ x. IsClaimIn base (f x)
    × ((z : ℕ → Bool) → IsTrue (claim_value base z (f x)) ↔ Q z x)) xs
    → Says base (map f xs) (λ z. All (Q z) xs)
says_map base f xs Q all = record {
  there = All-map (IsClaimIn base) f xs (λ k d h. (all k d h).0);
  holds = λ z.
      let T : Claim → Type 0 = λ c. IsTrue (claim_value base z c) in (
        λ hold k d h. ((all k d h).1 z).0 (All-from_map f T xs hold k d h),
        λ hold. All-map T f xs (λ k d h. ((all k d h).1 z).1 (hold k d h)),
      );
}

module _ (c : Circuit) (is : IsCircuit c) (base : List AigNode) (images : List AigEdge)
    (copy : IsCopy c.nodes base images) where
  pub constraints_say : Says base (constraint_claims c images)
      (λ z. MeetsConstraints c (read base images z))
  constraints_say =
      says_map base (λ (e : AigEdge). Edge (image_in images e)) c.properties.constraints
      (λ z e. IsTrue (edge_value c.nodes (read base images z) e))
      (λ k d h.
      let within = is.properties.constraints k d h in (
        copy.there _ within,
        λ z. (λ true. sym (copy.value z _ within) ∙ true, λ true. copy.value z _ within ∙ true),
      ))

  pub good_says : Says base (good_claims c images) (λ z. IsGoodState c (read base images z))
  good_says =
      says_map base (λ (e : AigEdge). Edge (inverse (image_in images e))) c.properties.bads
      (λ z e. edge_value c.nodes (read base images z) e ≡ false)
      (λ k d h.
      let within = is.properties.bads k d h in (
        copy.there _ within,
        λ z.
            let turned = edge_value-inverse base z (image_in images (get_or c.properties.bads k d))
            in (
              λ true. sym (copy.value z _ within) ∙ was_false _ (sym turned ∙ true),
              λ false. turned ∙ ap not (copy.value z _ within ∙ false),
            ),
      ))
    where
      was_false : (b : Bool) → not b ≡ true → b ≡ false
      was_false true h = sym h
      was_false false h = refl

  pub starts_say : (latchs : List AigLatch) → All (IsLatch c.nodes) latchs
      → Says base (start_claims latchs images)
      (λ z. All (Starts c (read base images z)) latchs)
  starts_say latchs are =
      says_map base (start_claim images) latchs (λ z. Starts c (read base images z))
      (λ k d h. at (get_or latchs k d) (are k d h))
    where
      at : (latch : AigLatch) → IsLatch c.nodes latch
          → IsClaimIn base (start_claim images latch)
          × ((z : ℕ → Bool) → IsTrue (claim_value base z (start_claim images latch))
          ↔ Starts c (read base images z) latch)
      at latch is_latch =
          by latch.init is_latch.init
          (copy.there latch.input (kind_at-within c.nodes latch.input Leaf is_latch.leaf))
        where
          leaf : AigEdge
          leaf = image_at images latch.input

          by : (init : Option AigEdge) → IfSome init (IsInRange c.nodes) → IsInRange base leaf
              → IsClaimIn base (Equal (start_image images leaf init) leaf)
              × ((z : ℕ → Bool)
              → IsTrue (beq (edge_value base z (start_image images leaf init))
              (edge_value base z leaf))
              ↔ IfSome init (λ e. edge_value c.nodes (read base images z) e
              ≡ read base images z latch.input))
          by (Some e) within there = (
            (copy.there e.node_id within, there),
            λ z.
                subst (λ v. IsTrue (beq (edge_value base z (image_in images e))
                (edge_value base z leaf)) ↔ (v ≡ edge_value base z leaf)) (copy.value z e within)
                (booleans_Decides _ _),
          )
          by None within there = (
            (there, there),
            λ z. (λ h. tt, λ u. (booleans_Decides _ _).1 refl),
          )

-- the circuit moves from one copy to another
pub moves_say : (c : Circuit) → IsCircuit c → (base : List AigNode) (before after : List AigEdge)
    → IsCopy c.nodes base before → IsCopy c.nodes base after
    → Says base (move_claims c before after)
    (λ z. IsMove c (read base before z) (read base after z))
moves_say c is base before after first second =
    says_map base (move_claim before after) c.latchs
    (λ z. TakesNext c (read base before z) (read base after z))
    (λ k d h.
    let latch = get_or c.latchs k d in
    let is_latch = is.latchs k d h in (
      (
        second.there latch.input (kind_at-within c.nodes latch.input Leaf is_latch.leaf),
        first.there latch.next.node_id is_latch.next,
      ),
      λ z.
          let leaf = edge_value base z (image_at after latch.input) in
          subst (λ v. IsTrue (beq leaf (edge_value base z (image_in before latch.next)))
          ↔ (leaf ≡ v)) (first.value z latch.next is_latch.next) (booleans_Decides _ _),
    ))

-- ---- the edge of a question

-- the edge is never true exactly where the claim holds
pub record AsksWhether (claim : Type 0) (made : Made) : Type 0 where
  pub sound : AreNodes made.nodes
  pub there : IsInRange made.nodes made.edge
  pub asks : claim ↔ ((z : ℕ → Bool) → edge_value made.nodes z made.edge ≡ false)

-- that of all premises, and not all conclusions
pub asks_whether : (base : List AigNode) → AreNodes base → (premises conclusions : List Claim)
    (P Q : (ℕ → Bool) → Type 0) → Says base premises P → Says base conclusions Q
    → (claim : Type 0) → claim ↔ ((z : ℕ → Bool) → P z → Q z)
    → AsksWhether claim (make_refuting base premises conclusions)
asks_whether base are premises conclusions P Q first second claim same = record {
  sound = made.grows.sound;
  there = made.gives.there;
  asks = (
    λ holds z.
        made.gives.value z
        ∙ (not_both (all z premises) (all z conclusions)).1
        (λ h. list_all-from_AllPass _ conclusions
        ((second.holds z).1 (same.0 holds z
        ((first.holds z).0 (AllPass-from_list_all _ premises h))))),
    λ never. same.1 (λ z p. (second.holds z).0
        (AllPass-from_list_all _ conclusions
        ((not_both (all z premises) (all z conclusions)).0 (sym (made.gives.value z) ∙ never z)
        (list_all-from_AllPass _ premises ((first.holds z).1 p))))),
  );
}
  where
    made : Gives base (make_refuting base premises conclusions)
        (λ z. list_all (claim_value base z) premises
        && not (list_all (claim_value base z) conclusions))
    made = refuting_gives base are premises conclusions first.there second.there

    all : (ℕ → Bool) → List Claim → Bool
    all z = list_all (claim_value base z)

    not_both : (a b : Bool) → ((a && not b) ≡ false) ↔ (IsTrue a → IsTrue b)
    not_both true true = (λ e h. refl, λ f. refl)
    not_both true false = (λ e h. sym e, λ f. sym (f refl))
    not_both false b = (λ e h. absurd (false≢true h), λ f. refl)
