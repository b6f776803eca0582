-- Names of nodes in a row.
use Rattle.std.specs.Prelude.{codes, decimal}
use Rattle.aig_base.proofs.Words.{◌≡◌, ◌≢◌, ℕ, zero, suc, ◌+◌, ◌<◌, ◌≤◌, Option, Some, None, List, [], ◌∷◌, ◌++◌, length, get_or, refl, sym, ap, subst, ◌∙◌, arith, take, All, IfSome, get, get_or-map, insert, length-map, length-take, take_more}
use Rattle.aig_circuit.specs.declared.node.AigLatch.{AigLatch}
use Rattle.aig_circuit.proofs.Words.{Circuit, IsCircuit}
use Rattle.aig_join.specs.Names.{with_name}
use Rattle.aig_join.proofs.Naming.{Names, get-with_name, get-with_name_other, unnamed}
use Rattle.aig_live.specs.Names.{copy_name, copy_names, live_names, numbered, with_row}

-- ---- one name more

pub with_row-both : (names : Names) (n : ℕ) (os ps : List (Option (List ℕ)))
    → with_row names n (os ++ ps) ≡ with_row (with_row names n os) (n + length os) ps
with_row-both names n [] ps =
    let same : n ≡ n + 0 = omega arith in ap (λ m. with_row names m ps) same
with_row-both names n (o ∷ os) ps =
    let same : n + 1 + length os ≡ n + suc (length os) = omega arith in
    with_row-both (with_name names n o) (n + 1) os ps
    ∙ ap (λ m. with_row (with_row (with_name names n o) (n + 1) os) m ps) same

pub numbered-long : (word : List ℕ) (i count : ℕ) → length (numbered word i count) ≡ count
numbered-long word i zero = refl
numbered-long word i (suc count) = ap suc (numbered-long word (i + 1) count)

pub numbered-at : (word : List ℕ) (i count k : ℕ) (d : Option (List ℕ)) → k < count
    → get_or (numbered word i count) k d ≡ Some (word ++ decimal (i + k))
numbered-at word i zero k d h = absurd (omega (arith, h))
numbered-at word i (suc count) zero d h =
    let same : i ≡ i + 0 = omega arith in ap (λ m. Some (word ++ decimal m)) same
numbered-at word i (suc count) (suc k) d h =
    let same : i + 1 + k ≡ i + suc k = omega arith in
    numbered-at word (i + 1) count k d (omega (arith, h)) ∙ ap (λ m. Some (word ++ decimal m)) same

-- what holds of the name of each number holds of all
pub numbered-have : (P : List ℕ → Type 0) (word : List ℕ) (i count : ℕ)
    → ((k : ℕ) → k < i + count → P (word ++ decimal k))
    → All (λ o. IfSome o P) (numbered word i count)
numbered-have P word i count each k d h =
    let low : k < count = omega (arith, h, numbered-long word i count) in
    subst (λ o. IfSome o P) (sym (numbered-at word i count k d low))
    (each (i + k) (omega (arith, low)))

-- one name more
pub row-more : (start names : Names) (n : ℕ) (os : List (Option (List ℕ))) (i : ℕ)
    (d : Option (List ℕ)) → i < length os → names ≡ with_row start n (take i os)
    → with_name names (n + i) (get_or os i d) ≡ with_row start n (take (i + 1) os)
row-more start names n os i d h so_far =
    let front = take i os in
    let long : length front ≡ i = length-take i os ∙ omega (arith, h) in
    ap (λ m. with_name m (n + i) (get_or os i d)) so_far
    ∙ ap (λ k. with_name (with_row start n front) (n + k) (get_or os i d)) (sym long)
    ∙ sym (with_row-both start n front (get_or os i d ∷ []))
    ∙ ap (with_row start n) (sym (take_more os i d h))

pub copies-long : (c : Circuit) → length (copy_names c) ≡ length c.latchs
copies-long c = length-map c.latchs
    (λ (latch : AigLatch). copy_name (get c.names latch.input))

-- one copy more
pub copies-more : (c : Circuit) (start names : Names) (n : ℕ) (latchs : List AigLatch)
    → latchs ≡ c.latchs → (i leaf : ℕ) (d : AigLatch) → i < length latchs
    → leaf ≡ (get_or latchs i d).input → names ≡ with_row start n (take i (copy_names c))
    → with_name names (n + i) (copy_name (get c.names leaf))
    ≡ with_row start n (take (i + 1) (copy_names c))
copies-more c start names n latchs same i leaf d h at so_far =
    let low : i < length c.latchs = omega (arith, h, ap length same) in
    ap (λ m. with_name names (n + i) (copy_name (get c.names m))) at
    ∙ ap (λ (ls : List AigLatch). with_name names (n + i)
    (copy_name (get c.names (get_or ls i d).input))) same
    ∙ ap (λ (o : Option (List ℕ)). with_name names (n + i) o)
    (sym (get_or-map (λ (latch : AigLatch). copy_name (get c.names latch.input)) c.latchs i d None
    low))
    ∙ row-more start names n (copy_names c) i None (omega (arith, low, copies-long c)) so_far

-- the names of a live circuit, one list after another
pub live_row : (c : Circuit) (n edges : ℕ) (start one two three four : Names)
    → one ≡ insert start n (codes "save") → two ≡ insert one (n + 1) (codes "saved")
    → three ≡ with_row two (n + 2) (copy_names c)
    → four ≡ with_row three (n + 2 + length c.latchs) (numbered (codes "seen ") 0 edges)
    → four ≡ with_row start n (live_names c edges)
live_row c n edges start one two three four first second copies seen =
    let last = numbered (codes "seen ") 0 edges in
    let place : n + 2 ≡ n + 1 + 1 = omega arith in
    seen
    ∙ ap (λ m. with_row m (n + 2 + length c.latchs) last) copies
    ∙ ap (λ m. with_row (with_row m (n + 2) (copy_names c)) (n + 2 + length c.latchs) last)
    (second ∙ ap (λ m. insert m (n + 1) (codes "saved")) first)
    ∙ ap (λ k. with_row (with_row (insert (insert start n (codes "save")) (n + 1) (codes "saved"))
    (n + 2) (copy_names c)) (n + 2 + k) last) (sym (copies-long c))
    ∙ sym (with_row-both (insert (insert start n (codes "save")) (n + 1) (codes "saved")) (n + 2)
    (copy_names c) last)
    ∙ ap (λ k. with_row (insert (insert start n (codes "save")) (n + 1) (codes "saved")) k
    (copy_names c ++ last)) place

-- ---- what they are

-- a node that isn't among them keeps its name
pub get-with_row_other : (names : Names) (n : ℕ) (os : List (Option (List ℕ))) (q : ℕ)
    → ((k : ℕ) → k < length os → n + k ≢ q) → get (with_row names n os) q ≡ get names q
get-with_row_other names n [] q apart = refl
get-with_row_other names n (o ∷ os) q apart =
    get-with_row_other (with_name names n o) (n + 1) os q
    (λ k h e. apart (suc k) (omega (arith, h)) (omega (arith, e)))
    ∙ get-with_name_other names n o q (λ e. apart 0 (omega arith) (omega (arith, e)))

-- and one among them has its own
pub get-with_row : (names : Names) (n : ℕ) (os : List (Option (List ℕ)))
    → ((m : ℕ) → n ≤ m → get names m ≡ None) → (k : ℕ) (d : Option (List ℕ)) → k < length os
    → get (with_row names n os) (n + k) ≡ get_or os k d
get-with_row names n [] none k d h = absurd (omega (arith, h))
get-with_row names n (o ∷ os) none zero d h =
    let same : n + 0 ≡ n = omega arith in
    ap (get (with_row (with_name names n o) (n + 1) os)) same
    ∙ get-with_row_other (with_name names n o) (n + 1) os n (λ k low e. omega (arith, e))
    ∙ get-with_name names n o (none n (omega arith))
get-with_row names n (o ∷ os) none (suc k) d h =
    let same : n + suc k ≡ n + 1 + k = omega arith in
    ap (get (with_row (with_name names n o) (n + 1) os)) same
    ∙ get-with_row (with_name names n o) (n + 1) os
    (λ m past. get-with_name_other names n o m (λ e. omega (arith, past, e))
    ∙ none m (omega (arith, past))) k d (omega (arith, h))

-- no node past those of a circuit has a name
pub none_past : (c : Circuit) → IsCircuit c → (m : ℕ) → length c.nodes ≤ m → get c.names m ≡ None
none_past c is m high = unnamed c.names m
    (λ has. let low = is.named m has in omega (arith, high, low))
