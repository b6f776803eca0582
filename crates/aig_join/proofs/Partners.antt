-- The partners of registers, as loops find them.
use Rattle.aig_base.proofs.Words.{◌≡◌, ℕ, zero, suc, ◌+◌, ◌<◌, Bool, true, false, cond, not, ◌&&◌, Option, Some, None, List, [], ◌∷◌, ◌++◌, length, map, take, drop, get_or, refl, sym, ap, ◌∙◌, append_assoc, drop-drop, drop_more, map-append, All, All-cons, All-drop, All-filter, All-head, All-map, All-nil, All-tail, IfSome, filter, filter-append, find, get, is_some, map_more, option_map, slice_get, bytes_eq, false≢true, length-map, ltb, ltb-false, ltb-true, same_text, slice_get-get_or, slice_get_past}
use Rattle.std.proofs.Math.Bool.{not-not}
use Rattle.std.proofs.lemmas.List.Folds.{find-append}
use Rattle.std.proofs.Common.{Bor}
use Rattle.std.specs.Option.{is_none, option_and_then, option_copied, option_or}
use Rattle.aig_circuit.specs.declared.node.AigLatch.{AigLatch}
use Rattle.aig_circuit.specs.Edge.{edge_to}
use Rattle.aig_join.specs.declared.starts.Matching.{Matching}
use Rattle.aig_join.specs.declared.starts.Matching.TheVariants.{ByName, ByOrder}
use Rattle.aig_join.specs.Names.{is_called}
use Rattle.aig_join.specs.Starts.{Register, in_turn, named_place, open_places, partners}
use Rattle.aig_join.proofs.Naming.{Names}

-- the register of a latch, under these names
abbrev pub register : Names → AigLatch → Register
register names l =
    record { place = l.input; is_open = is_none l.init; name = get names l.input }

-- what stands past the end of a list of latches
abbrev pub no_latch : AigLatch
no_latch = record { input = 0; next = edge_to 0 false; init = None }

-- what a test for some says of none
pub none-is : {X : Type 0} (o : Option X) (b : Bool) → is_some o ≡ not b → is_none o ≡ b
none-is o b some = ap not some ∙ not-not b

-- ---- open places

-- one register more
pub open_places-push : (rs : List Register) (r : Register)
    → open_places (rs ++ r ∷ []) ≡ open_places rs ++ cond r.is_open (r.place ∷ []) []
open_places-push rs r =
    let place : Register → ℕ = λ r. r.place in
    ap (map place) (filter-append (λ (r : Register). r.is_open) rs (r ∷ []))
    ∙ map-append place (filter (λ (r : Register). r.is_open) rs) (cond r.is_open (r ∷ []) [])
    ∙ ap (λ ns. open_places rs ++ ns) (one r.is_open)
  where
    one : (b : Bool) → map (λ (r : Register). r.place) (cond b (r ∷ []) [])
        ≡ cond b (r.place ∷ []) []
    one true = refl
    one false = refl

-- one latch more, whose leaf is pushed where it is open
pub open-more : (names : Names) (latchs : List AigLatch) (i : ℕ) (d : AigLatch)
    (before after : List ℕ) (b : Bool) → i < length latchs
    → before ≡ open_places (map (register names) (take i latchs))
    → is_none (get_or latchs i d).init ≡ b
    → after ≡ before ++ cond b ((get_or latchs i d).input ∷ []) []
    → after ≡ open_places (map (register names) (take (i + 1) latchs))
open-more names latchs i d before after b h so_far is pushed =
    let latch = get_or latchs i d in
    let rs = map (register names) (take i latchs) in
    pushed ∙ ap (λ ns. ns ++ cond b (latch.input ∷ []) []) so_far
    ∙ ap (λ c. open_places rs ++ cond c (latch.input ∷ []) []) (sym is)
    ∙ sym (open_places-push rs (register names latch))
    ∙ ap open_places (sym (map_more (register names) latchs i d h))

-- ---- by order

-- what `get` and `copied` give
pub get-copied : (ns : List ℕ) (i : ℕ) (o : Option (Bor ℕ)) → is_some o ≡ ltb i (length ns)
    → IfSome o (λ n. n.now ≡ get_or ns i n.now) → option_copied o ≡ slice_get ns i
get-copied ns i None none is = sym (slice_get_past ns i (ltb-false i (length ns) (sym none)))
get-copied ns i (Some n) some is = ap Some is
    ∙ sym (slice_get-get_or ns i n.now (ltb-true i (length ns) (sym some)))

slice_get-drop : (ns : List ℕ) (n : ℕ) → slice_get (drop n ns) 0 ≡ slice_get ns n
slice_get-drop ns zero = refl
slice_get-drop [] (suc n) = refl
slice_get-drop (m ∷ ns) (suc n) = slice_get-drop ns n

-- what a latch gets after so many places that are used, and how many are used then
abbrev pub next_place : Bool → List ℕ → ℕ → Option ℕ
next_place b places used = cond b (slice_get places used) None

abbrev pub used_after : Bool → ℕ → ℕ
used_after b used = cond b (used + 1) used

in_turn-cons : (places : List ℕ) (used : ℕ) (r : Register) (rs : List Register) (b : Bool)
    → r.is_open ≡ b
    → in_turn (drop used places) (r ∷ rs)
    ≡ next_place b places used ∷ in_turn (drop (used_after b used) places) rs
in_turn-cons places used r rs b is =
    ap (λ c. cond c (slice_get (drop used places) 0 ∷ in_turn (drop 1 (drop used places)) rs)
    (None ∷ in_turn (drop used places) rs)) is ∙ by b
  where
    by : (b : Bool)
        → cond b (slice_get (drop used places) 0 ∷ in_turn (drop 1 (drop used places)) rs)
        (None ∷ in_turn (drop used places) rs)
        ≡ next_place b places used ∷ in_turn (drop (used_after b used) places) rs
    by true =
        ap (λ o. o ∷ in_turn (drop 1 (drop used places)) rs) (slice_get-drop places used)
        ∙ ap (λ ns. slice_get places used ∷ in_turn ns rs) (drop-drop 1 used places)
    by false = refl

-- one latch more, which gets its place
pub in_turn-more : (names : Names) (latchs : List AigLatch) (i : ℕ) (d : AigLatch)
    (places : List ℕ) (used : ℕ) (before after all : List (Option ℕ)) (b : Bool)
    → i < length latchs
    → before ++ in_turn (drop used places) (map (register names) (drop i latchs)) ≡ all
    → is_none (get_or latchs i d).init ≡ b
    → after ≡ before ++ next_place b places used ∷ []
    → after
    ++ in_turn (drop (used_after b used) places) (map (register names) (drop (i + 1) latchs))
    ≡ all
in_turn-more names latchs i d places used before after all b h so_far is pushed =
    let latch = get_or latchs i d in
    let rest = map (register names) (drop (i + 1) latchs) in
    let tail = in_turn (drop (used_after b used) places) rest in
    ap (λ os. os ++ tail) pushed
    ∙ append_assoc before (next_place b places used ∷ []) tail
    ∙ ap (λ os. before ++ os) (sym (in_turn-cons places used (register names latch) rest b is))
    ∙ ap (λ ls. before ++ in_turn (drop used places) (map (register names) ls))
    (sym (drop_more latchs i d h))
    ∙ so_far

-- ---- by name

option_map-or : (o p : Option Register)
    → option_map (λ (r : Register). r.place) (option_or o p)
    ≡ option_or (option_map (λ (r : Register). r.place) o)
    (option_map (λ (r : Register). r.place) p)
option_map-or None p = refl
option_map-or (Some r) p = refl

pub or-none : {X : Type 0} (o : Option X) → option_or o None ≡ o
or-none None = refl
or-none (Some x) = refl

-- one register more: its place counts where no other has the name
pub named_place-push : (rs : List Register) (r : Register) (text : List ℕ)
    → named_place (rs ++ r ∷ []) (Some text)
    ≡ option_or (named_place rs (Some text))
    (cond (r.is_open && is_called text r.name) (Some r.place) None)
named_place-push rs r text =
    let test : Register → Bool = λ r. r.is_open && is_called text r.name in
    let place : Register → ℕ = λ r. r.place in
    ap (option_map place) (find-append test rs (r ∷ []))
    ∙ option_map-or (find test rs) (find test (r ∷ []))
    ∙ ap (option_or (named_place rs (Some text))) (one (test r))
  where
    one : (b : Bool) → option_map (λ (r : Register). r.place) (cond b (Some r) None)
        ≡ cond b (Some r.place) None
    one true = refl
    one false = refl

-- whether an open latch has this name
called-open : (text : List ℕ) (b : Bool) (o p : Option (List ℕ)) → p ≡ cond b o None
    → (b && is_called text o) ≡ is_called text p
called-open text true o p is = sym (ap (is_called text) is)
called-open text false o p is = sym (ap (is_called text) is)

-- one latch more, under the name that it has if it is open
pub named-more : (names : Names) (latchs : List AigLatch) (i : ℕ) (d : AigLatch)
    (name : Option (List ℕ)) (before after : List ℕ → Option ℕ) → i < length latchs
    → ((text : List ℕ)
    → before text ≡ named_place (map (register names) (take i latchs)) (Some text))
    → name ≡ cond (is_none (get_or latchs i d).init) (get names (get_or latchs i d).input) None
    → ((text : List ℕ) → after text
    ≡ option_or (before text) (cond (is_called text name) (Some (get_or latchs i d).input) None))
    → (text : List ℕ)
    → after text ≡ named_place (map (register names) (take (i + 1) latchs)) (Some text)
named-more names latchs i d name before after h so_far is more text =
    let latch = get_or latchs i d in
    let rs = map (register names) (take i latchs) in
    more text
    ∙ ap (λ o. option_or o (cond (is_called text name) (Some latch.input) None)) (so_far text)
    ∙ ap (λ b. option_or (named_place rs (Some text)) (cond b (Some latch.input) None))
    (sym (called-open text (is_none latch.init) (get names latch.input) name is))
    ∙ sym (named_place-push rs (register names latch) text)
    ∙ ap (λ l. named_place l (Some text)) (sym (map_more (register names) latchs i d h))

-- the place under a name, if there is one
pub named-found : (rs : List Register) (found : List ℕ → Option ℕ)
    → ((text : List ℕ) → found text ≡ named_place rs (Some text)) → (b : Bool)
    (name : Option (List ℕ))
    → cond b (option_and_then found name) None ≡ cond b (named_place rs name) None
named-found rs found all b (Some text) = ap (λ o. cond b o None) (all text)
named-found rs found all b None = refl

-- one latch more, which gets the place under its name
pub partners-more : (ours : List Register) (names : Names) (latchs : List AigLatch) (i : ℕ)
    (d : AigLatch) (place : Option ℕ) (before after : List (Option ℕ)) → i < length latchs
    → before ≡ partners ByName ours (map (register names) (take i latchs))
    → place
    ≡ cond (is_none (get_or latchs i d).init)
    (named_place ours (get names (get_or latchs i d).input)) None
    → after ≡ before ++ place ∷ []
    → after ≡ partners ByName ours (map (register names) (take (i + 1) latchs))
partners-more ours names latchs i d place before after h so_far is pushed =
    let latch = get_or latchs i d in
    let rs = map (register names) (take i latchs) in
    pushed ∙ ap (λ os. os ++ place ∷ []) so_far
    ∙ ap (λ o. partners ByName ours rs ++ o ∷ []) is
    ∙ sym (map-append (λ (r : Register). cond r.is_open (named_place ours r.name) None) rs
    (register names latch ∷ []))
    ∙ ap (partners ByName ours) (sym (map_more (register names) latchs i d h))

first-of : (o : Option ℕ) (leaf : ℕ) → is_some o ≡ false → Some leaf ≡ option_or o (Some leaf)
first-of None leaf none = refl
first-of (Some n) leaf none = absurd (false≢true (sym none))

-- a leaf that is put under a name that had none
pub first-put : (old new : List ℕ → Option ℕ) (name : List ℕ) (leaf : ℕ)
    → is_some (old name) ≡ false
    → ((text : List ℕ) → new text ≡ cond (bytes_eq name text) (Some leaf) (old text))
    → (text : List ℕ)
    → new text ≡ option_or (old text) (cond (bytes_eq name text) (Some leaf) None)
first-put old new name leaf none updates text = updates text ∙ by (bytes_eq name text) refl
  where
    by : (b : Bool) → bytes_eq name text ≡ b
        → cond b (Some leaf) (old text) ≡ option_or (old text) (cond b (Some leaf) None)
    by true same =
        first-of (old text) leaf
        (ap (λ t. is_some (old t)) (sym (same_text name text (sym same))) ∙ none)
    by false apart = sym (or-none (old text))

-- ---- of all partners

turn-count : (b : Bool) (o : Option ℕ) (one two : List (Option ℕ)) (n : ℕ) → length one ≡ n
    → length two ≡ n → length (cond b (o ∷ one) (None ∷ two)) ≡ suc n
turn-count true o one two n h k = ap suc h
turn-count false o one two n h k = ap suc k

turns-count : (places : List ℕ) (rs : List Register) → length (in_turn places rs) ≡ length rs
turns-count places [] = refl
turns-count places (r ∷ rs) =
    turn-count r.is_open (slice_get places 0) (in_turn (drop 1 places) rs) (in_turn places rs)
    (length rs) (turns-count (drop 1 places) rs) (turns-count places rs)

-- there are as many as registers of the second
pub partners-count : (matching : Matching) (ours theirs : List Register)
    → length (partners matching ours theirs) ≡ length theirs
partners-count ByOrder ours theirs = turns-count (open_places ours) theirs
partners-count ByName ours theirs =
    length-map theirs
    (λ (r : Register). cond r.is_open (named_place ours r.name) None)

-- what holds of the places of the first holds of the partners
module _ (P : ℕ → Type 0) where
  abbrev Has : Option ℕ → Type 0
  Has o = IfSome o P

  first-has : (places : List ℕ) → All P places → Has (slice_get places 0)
  first-has [] all = tt
  first-has (n ∷ places) all = All-head P n places all

  turn-has : (b : Bool) (o : Option ℕ) (one two : List (Option ℕ)) → Has o → All Has one
      → All Has two → All Has (cond b (o ∷ one) (None ∷ two))
  turn-has true o one two h all others = All-cons Has o one h all
  turn-has false o one two h all others = All-cons Has None two tt others

  turns-have : (places : List ℕ) (rs : List Register) → All P places
      → All Has (in_turn places rs)
  turns-have places [] all = All-nil Has
  turns-have places (r ∷ rs) all =
      turn-has r.is_open (slice_get places 0) (in_turn (drop 1 places) rs) (in_turn places rs)
      (first-has places all) (turns-have (drop 1 places) rs (All-drop P 1 places all))
      (turns-have places rs all)

  one-has : (b : Bool) (r : Register) (o : Option Register) → P r.place
      → Has (option_map (λ (r : Register). r.place) o)
      → Has (option_map (λ (r : Register). r.place) (cond b (Some r) o))
  one-has true r o h other = h
  one-has false r o h other = other

  found-has : (test : Register → Bool) (rs : List Register) → All (λ r. P r.place) rs
      → Has (option_map (λ (r : Register). r.place) (find test rs))
  found-has test [] all = tt
  found-has test (r ∷ rs) all =
      one-has (test r) r (find test rs) (All-head (λ (r : Register). P r.place) r rs all)
      (found-has test rs (All-tail (λ (r : Register). P r.place) r rs all))

  named-has : (rs : List Register) → All (λ r. P r.place) rs → (b : Bool)
      (name : Option (List ℕ)) → Has (cond b (named_place rs name) None)
  named-has rs all true (Some text) =
      found-has (λ r. r.is_open && is_called text r.name) rs all
  named-has rs all true None = tt
  named-has rs all false name = tt

  pub partners-have : (matching : Matching) (ours theirs : List Register)
      → All (λ r. P r.place) ours → All Has (partners matching ours theirs)
  partners-have ByOrder ours theirs all =
      turns-have (open_places ours) theirs
      (All-map P (λ (r : Register). r.place) (filter (λ (r : Register). r.is_open) ours)
      (All-filter (λ (r : Register). r.is_open) (λ r. P r.place) ours all))
  partners-have ByName ours theirs all =
      All-map Has (λ (r : Register). cond r.is_open (named_place ours r.name) None) theirs
      (λ k d h. named-has ours all (get_or theirs k d).is_open (get_or theirs k d).name)
