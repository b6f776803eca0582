-- Registers of two machines, and one more of each that can't start with either value: the others
-- start as before.
use Rattle.aig_base.proofs.Words.{◌≡◌, ◌↔◌, ℕ, Bool, true, false, cond, ◌&&◌, Option, Some, None, List, [], ◌∷◌, ◌++◌, length, map, drop, refl, sym, ap, subst, ◌∙◌, arith, AllZip, IfSome, append-nil, map-append, slice_get}
use Rattle.std.specs.Option.{option_or}
use Rattle.aig_change.proofs.Lists.{AllZip-append}
use Rattle.aig_join.specs.Constraints.{StartSo}
use Rattle.aig_join.specs.Names.{is_called}
use Rattle.aig_join.specs.Starts.{Register, in_turn, named_place, open_places, partners}
use Rattle.aig_join.specs.declared.starts.Matching.{Matching}
use Rattle.aig_join.specs.declared.starts.Matching.TheVariants.{ByName, ByOrder}
use Rattle.aig_join.specs.declared.starts.Starts.{Starts}
use Rattle.aig_join.specs.declared.starts.Starts.TheVariants.{Alike, Apart}
use Rattle.aig_join.proofs.Partners.{named_place-push, open_places-push, or-none, partners-count}

-- ---- lists

-- entries of the first of two lists, where these are as many
AllZip-front : {X Y : Type 0} (R : X → Y → Type 0) (xs more : List X) (ys others : List Y)
    → length xs ≡ length ys → AllZip R (xs ++ more) (ys ++ others) → AllZip R xs ys
AllZip-front R [] more [] others count zip = tt
AllZip-front R [] more (y ∷ ys) others count zip = absurd (omega (arith, count))
AllZip-front R (x ∷ xs) more [] others count zip = absurd (omega (arith, count))
AllZip-front R (x ∷ xs) more (y ∷ ys) others count zip =
    (zip.0, AllZip-front R xs more ys others (omega (arith, count)) zip.1)

-- what follows one of two lists
cond-append : {X : Type 0} (b : Bool) (xs ys more : List X)
    → cond b (xs ++ more) (ys ++ more) ≡ cond b xs ys ++ more
cond-append true xs ys more = refl
cond-append false xs ys more = refl

-- ---- partners

-- the second register has no partner
in_turn-closed : (places : List ℕ) (rs : List Register) (s : Register) → s.is_open ≡ false
    → in_turn places (rs ++ s ∷ []) ≡ in_turn places rs ++ None ∷ []
in_turn-closed places [] s closed =
    ap (λ b. cond b (slice_get places 0 ∷ []) (None ∷ [])) closed
in_turn-closed places (r ∷ rs) s closed =
    (λ i. cond r.is_open
    (slice_get places 0 ∷ in_turn-closed (drop 1 places) rs s closed i)
    (None ∷ in_turn-closed places rs s closed i))
    ∙ cond-append r.is_open (slice_get places 0 ∷ in_turn (drop 1 places) rs)
    (None ∷ in_turn places rs) (None ∷ [])

-- the first register is no place in turn
open_places-closed : (rs : List Register) (r : Register) → r.is_open ≡ false
    → open_places (rs ++ r ∷ []) ≡ open_places rs
open_places-closed rs r closed =
    open_places-push rs r
    ∙ ap (λ b. open_places rs ++ cond b (r.place ∷ []) []) closed
    ∙ append-nil (open_places rs)

-- nor is it found by its name
named_place-closed : (rs : List Register) (r : Register) → r.is_open ≡ false
    → (o : Option (List ℕ)) → named_place (rs ++ r ∷ []) o ≡ named_place rs o
named_place-closed rs r closed (Some text) =
    named_place-push rs r text
    ∙ ap (λ b. option_or (named_place rs (Some text))
    (cond (b && is_called text r.name) (Some r.place) None)) closed
    ∙ or-none (named_place rs (Some text))
named_place-closed rs r closed None = refl

-- the others have the partners that they had
partners-closed : (matching : Matching) (ours theirs : List Register) (r s : Register)
    → r.is_open ≡ false → s.is_open ≡ false
    → partners matching (ours ++ r ∷ []) (theirs ++ s ∷ [])
    ≡ partners matching ours theirs ++ None ∷ []
partners-closed ByOrder ours theirs r s first second =
    ap (λ places. in_turn places (theirs ++ s ∷ [])) (open_places-closed ours r first)
    ∙ in_turn-closed (open_places ours) theirs s second
partners-closed ByName ours theirs r s first second =
    let place : Register → Option ℕ = λ q. cond q.is_open (named_place ours q.name) None in
    (λ i. map (λ (q : Register). cond q.is_open (named_place-closed ours r first q.name i) None)
    (theirs ++ s ∷ []))
    ∙ map-append place theirs (s ∷ [])
    ∙ ap (λ b. map place theirs ++ cond b (named_place ours s.name) None ∷ []) second

-- ---- starts

-- registers start so exactly where they did without the two
pub start-closed : (starts : Starts) (ours theirs : List Register) (r s : Register)
    → r.is_open ≡ false → s.is_open ≡ false → (x y : ℕ → Bool)
    → StartSo starts (ours ++ r ∷ []) (theirs ++ s ∷ []) x y ↔ StartSo starts ours theirs x y
start-closed Apart ours theirs r s first second x y = (λ h. h, λ h. h)
start-closed (Alike matching) ours theirs r s first second x y =
    let Like : Option ℕ → Register → Type 0 = λ p q. IfSome p (λ n. x n ≡ y q.place) in
    let same = partners-closed matching ours theirs r s first second in
    let all = theirs ++ s ∷ [] in (
      λ alike. AllZip-front Like (partners matching ours theirs) (None ∷ []) theirs (s ∷ [])
          (partners-count matching ours theirs)
          (subst (λ (ps : List (Option ℕ)). AllZip Like ps all) same alike),
      λ alike. subst (λ (ps : List (Option ℕ)). AllZip Like ps all) (sym same)
          (AllZip-append Like (partners matching ours theirs) theirs (None ∷ []) (s ∷ []) alike
          (tt, tt)),
    )
