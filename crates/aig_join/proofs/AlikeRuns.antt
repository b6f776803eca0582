-- A miter of circuits whose matched registers start alike: its runs, and what its safety says.
use Rattle.aig_base.proofs.Words.{◌≡◌, ◌↔◌, FinMap, nat_cmp, ℕ, ◌+◌, Bool, true, false, cond, ◌&&◌, ◌||◌, Option, Some, None, List, [], ◌∷◌, ◌++◌, length, map, take, drop, get_or, refl, sym, ap, ap₂, subst, ◌∙◌, arith, IsTrue, All, IfSome, option_map, list_any, slice_get, filter, find, get, zip, AllZip, AllZip-long, All-append, All-cons, All-drop, All-filter, All-head, All-map, All-nil, All-tail, length-map, false≢true, take-append_seam}
use Rattle.std.specs.Prelude.{is_none}
use Rattle.std.proofs.Math.Seq.{drop-append_seam}
use Rattle.aig_circuit.specs.declared.edge.AigEdge.{AigEdge}
use Rattle.aig_circuit.specs.declared.node.AigLatch.{AigLatch}
use Rattle.aig_circuit.specs.declared.node.AigNode.{AigNode}
use Rattle.aig_circuit.specs.declared.node.AigNodeType.TheVariants.{Leaf}
use Rattle.aig_circuit.proofs.Words.{Circuit, IsCircuit, IsLeaf, edge_to, renumbered_edge, renumbered_latch, IsRun, IsInitial, edge_value}
use Rattle.aig_circuit.proofs.Lists.{All-first, All-second}
use Rattle.aig_circuit.proofs.Trees.{kind_at-within, node_value-leaf}
use Rattle.aig_change.specs.Changes.{ConstrainsInits}
use Rattle.aig_change.specs.Runs.{IsAllowedRun}
use Rattle.aig_runs.specs.CircuitQueries.{HasCircuitWitness, IsCircuitWitness}
use Rattle.aig_runs.specs.Safety.{IsCircuitSafeAt}
use Rattle.aig_join.specs.Alike.{AreEqualAlikeAt, IsAlikeMiter, started, started_miter}
use Rattle.aig_join.specs.Joined.{number_in_joint}
use Rattle.aig_join.specs.Miter.{HaveSameCounts, IsMiter}
use Rattle.aig_join.specs.Names.{is_called}
use Rattle.aig_join.specs.Starts.{AreAlike, Register, circuit_registers, in_turn, named_place, open_places, partners}
use Rattle.aig_join.specs.declared.starts.Matching.{Matching}
use Rattle.aig_join.specs.declared.starts.Matching.TheVariants.{ByName, ByOrder}
use Rattle.aig_join.proofs.Grown.{value-agrees}
use Rattle.aig_join.proofs.Miters.{ComparesRuns-miter, IsCircuit-miter, equal-unless, first-same, paired, second-same, value-first, witness-differs}

-- ---- partners

-- a register that has a partner may start with either value, and the partner is a leaf
abbrev IsPartner : List AigNode → Option ℕ → Register → Type 0
IsPartner nodes p r = IfSome p (λ n. (r.is_open ≡ true) × IsLeaf nodes n)

-- the next place in turn is the partner of a register that is open
in_turn-step : (nodes : List AigNode) (places : List ℕ) (r : Register) (rs : List Register)
    (b : Bool) → r.is_open ≡ b → All (IsLeaf nodes) places
    → AllZip (IsPartner nodes) (in_turn (drop 1 places) rs) rs
    → AllZip (IsPartner nodes) (in_turn places rs) rs
    → AllZip (IsPartner nodes) (cond b (slice_get places 0 ∷ in_turn (drop 1 places) rs)
    (None ∷ in_turn places rs)) (r ∷ rs)
in_turn-step nodes [] r rs true is all next rest = (tt, next)
in_turn-step nodes (n ∷ ns) r rs true is all next rest = (
  (is, All-head (IsLeaf nodes) n ns all),
  next,
)
in_turn-step nodes places r rs false is all next rest = (tt, rest)

-- registers that take leaves in turn have them as partners
in_turn-partners : (nodes : List AigNode) (places : List ℕ) (rs : List Register)
    → All (IsLeaf nodes) places → AllZip (IsPartner nodes) (in_turn places rs) rs
in_turn-partners nodes places [] all = tt
in_turn-partners nodes places (r ∷ rs) all = in_turn-step nodes places r rs r.is_open refl all
    (in_turn-partners nodes (drop 1 places) rs (All-drop (IsLeaf nodes) 1 places all))
    (in_turn-partners nodes places rs all)

-- what holds of an entry, and of one that is found past it, holds of one that is found
found-step : {X : Type 0} (P : X → Type 0) (b : Bool) (x : X) (o : Option X) → P x → IfSome o P
    → IfSome (cond b (Some x) o) P
found-step P true x o here rest = here
found-step P false x o here rest = rest

-- what holds of all entries holds of one that is found
found-holds : {X : Type 0} (P : X → Type 0) (test : X → Bool) (xs : List X) → All P xs
    → IfSome (find test xs) P
found-holds P test [] all = tt
found-holds P test (x ∷ xs) all = found-step P (test x) x (find test xs) (All-head P x xs all)
    (found-holds P test xs (All-tail P x xs all))

-- what holds of what a value is mapped to, if there is one
IfSome-map : {X Y : Type 0} (f : X → Y) (P : Y → Type 0) (o : Option X) → IfSome o (λ x. P (f x))
    → IfSome (option_map f o) P
IfSome-map f P (Some x) h = h
IfSome-map f P None h = tt

-- the place of a register that is found by its name is a leaf
named-leaf : (nodes : List AigNode) (rs : List Register) → All (λ r. IsLeaf nodes r.place) rs
    → (o : Option (List ℕ)) → IfSome (named_place rs o) (IsLeaf nodes)
named-leaf nodes rs all (Some text) =
    let test : Register → Bool = λ r. r.is_open && is_called text r.name in
    IfSome-map (λ r. r.place) (IsLeaf nodes) (find test rs)
    (found-holds (λ r. IsLeaf nodes r.place) test rs all)
named-leaf nodes rs all None = tt

-- a leaf is a partner of an open register, if there is one
open-partner : (nodes : List AigNode) (r : Register) (o : Option ℕ) → r.is_open ≡ true
    → IfSome o (IsLeaf nodes) → IsPartner nodes o r
open-partner nodes r (Some n) is leaf = (is, leaf)
open-partner nodes r None is leaf = tt

-- and where the register isn't open, it has no partner
named-step : (nodes : List AigNode) (r : Register) (o : Option ℕ) (b : Bool) → r.is_open ≡ b
    → IfSome o (IsLeaf nodes) → IsPartner nodes (cond b o None) r
named-step nodes r o true is leaf = open-partner nodes r o is leaf
named-step nodes r o false is leaf = tt

-- registers that find leaves by their names have them as partners
named-partners : (nodes : List AigNode) (ours rs : List Register)
    → All (λ r. IsLeaf nodes r.place) ours
    → AllZip (IsPartner nodes) (partners ByName ours rs) rs
named-partners nodes ours [] all = tt
named-partners nodes ours (r ∷ rs) all = (
  named-step nodes r (named_place ours r.name) r.is_open refl (named-leaf nodes ours all r.name),
  named-partners nodes ours rs all,
)

-- partners are leaves of the first circuit, and registers that have them are open
pub partners-are : (matching : Matching) (nodes : List AigNode) (ours rs : List Register)
    → All (λ r. IsLeaf nodes r.place) ours
    → AllZip (IsPartner nodes) (partners matching ours rs) rs
partners-are ByOrder nodes ours rs all = in_turn-partners nodes (open_places ours) rs
    (All-map (IsLeaf nodes) (λ r. r.place) (filter (λ r. r.is_open) ours)
    (All-filter (λ r. r.is_open) (λ r. IsLeaf nodes r.place) ours all))
partners-are ByName nodes ours rs all = named-partners nodes ours rs all

-- the register of a latch, with the name that its leaf has
abbrev register : FinMap nat_cmp (List ℕ) → AigLatch → Register
register names l = record {
  place = l.input;
  is_open = is_none l.init;
  name = get names l.input;
}

-- registers of a circuit have leaves
pub registers-leaves : (c : Circuit) → IsCircuit c → All (λ r. IsLeaf c.nodes r.place)
    (circuit_registers c)
registers-leaves c is = All-map (λ r. IsLeaf c.nodes r.place) (register c.names) c.latchs
    (λ k d h. (is.latchs k d h).leaf)

-- ---- values of partners

-- a register that has a partner has its value
abbrev StartsLike : (ℕ → Bool) → (ℕ → Bool) → Option ℕ → Register → Type 0
StartsLike x y p r = IfSome p (λ n. x n ≡ y r.place)

-- a register that has its partner's value has it under other values of the same leaves
StartsLike-agrees : (nodes : List AigNode) (x y v w : ℕ → Bool)
    → ((n : ℕ) → IsLeaf nodes n → x n ≡ v n) → (p : Option ℕ) (r : Register)
    → y r.place ≡ w r.place → IsPartner nodes p r → StartsLike x y p r → StartsLike v w p r
StartsLike-agrees nodes x y v w same (Some n) r here fits like = sym (same n fits.1)
    ∙ like ∙ here
StartsLike-agrees nodes x y v w same None r here fits like = tt

-- registers that are alike are so of other values of the same leaves
pub alike-agrees : (nodes : List AigNode) (x y v w : ℕ → Bool)
    → ((n : ℕ) → IsLeaf nodes n → x n ≡ v n) → (ps : List (Option ℕ)) (rs : List Register)
    → All (λ r. y r.place ≡ w r.place) rs → AllZip (IsPartner nodes) ps rs
    → AllZip (StartsLike x y) ps rs → AllZip (StartsLike v w) ps rs
alike-agrees nodes x y v w same [] [] theirs fits like = tt
alike-agrees nodes x y v w same [] (r ∷ rs) theirs fits like = absurd fits
alike-agrees nodes x y v w same (p ∷ ps) [] theirs fits like = absurd fits
alike-agrees nodes x y v w same (p ∷ ps) (r ∷ rs) theirs fits like = (
  StartsLike-agrees nodes x y v w same p r (All-head (λ r. y r.place ≡ w r.place) r rs theirs)
      fits.0 like.0,
  alike-agrees nodes x y v w same ps rs (All-tail (λ r. y r.place ≡ w r.place) r rs theirs)
      fits.1 like.1,
)

-- ---- latches with initial edges to partners

-- the latches with initial edges to these leaves
abbrev all_started : List (Option ℕ) → List AigLatch → List AigLatch
all_started ps ls = map (λ pair. started pair.0 pair.1) (zip ps ls)

-- what doesn't speak of the initial edge holds of all of them as before
module _ (P : AigLatch → Type 0) (same : (p : Option ℕ) (l : AigLatch) → P (started p l) ↔ P l)
  where
    started-forth : (ps : List (Option ℕ)) (ls : List AigLatch) → length ps ≡ length ls
        → All P (all_started ps ls) → All P ls
    started-forth [] [] count all = All-nil P
    started-forth [] (l ∷ ls) count all = absurd (omega (arith, count))
    started-forth (p ∷ ps) [] count all = absurd (omega (arith, count))
    started-forth (p ∷ ps) (l ∷ ls) count all = All-cons P l ls
        ((same p l).0 (All-head P (started p l) (all_started ps ls) all))
        (started-forth ps ls (omega (arith, count))
        (All-tail P (started p l) (all_started ps ls) all))

    started-back : (ps : List (Option ℕ)) (ls : List AigLatch) → length ps ≡ length ls → All P ls
        → All P (all_started ps ls)
    started-back [] [] count all = All-nil P
    started-back [] (l ∷ ls) count all = absurd (omega (arith, count))
    started-back (p ∷ ps) [] count all = absurd (omega (arith, count))
    started-back (p ∷ ps) (l ∷ ls) count all = All-cons P (started p l) (all_started ps ls)
        ((same p l).1 (All-head P l ls all))
        (started-back ps ls (omega (arith, count)) (All-tail P l ls all))

-- the initial edge of a latch, if it has one, has its value
abbrev Begins : List AigNode → (ℕ → Bool) → AigLatch → Type 0
Begins nodes z latch = IfSome latch.init (λ e. edge_value nodes z e ≡ z latch.input)

-- an initial edge that there is none of asks for nothing
none-moved : (number : ℕ → ℕ) (P : AigEdge → Type 0) (o : Option AigEdge) → is_none o ≡ true
    → IfSome (option_map (renumbered_edge number) o) P
none-moved number P (Some e) is = absurd (false≢true is)
none-moved number P None is = tt

-- in latches that are started, initial edges say what they said, and that registers start alike
module _ (own nodes : List AigNode) (z : ℕ → Bool) (number : ℕ → ℕ)
    (names : FinMap nat_cmp (List ℕ))
    (value : (n : ℕ) → IsLeaf own n → edge_value nodes z (edge_to n false) ≡ z n) where
  abbrev moved : AigLatch → AigLatch
  moved l = renumbered_latch number l

  abbrev Like : Option ℕ → Register → Type 0
  Like p r = StartsLike z (λ n. z (number n)) p r

  -- one latch's initial edge says what it said, and that its register has its partner's value
  begin-forth : (p : Option ℕ) (l : AigLatch) → IsPartner own p (register names l)
      → Begins nodes z (started p (moved l))
      → Begins nodes z (moved l) × Like p (register names l)
  begin-forth (Some n) l fits begins = (
    none-moved number (λ e. edge_value nodes z e ≡ z (number l.input)) l.init fits.0,
    sym (value n fits.1) ∙ begins,
  )
  begin-forth None l fits begins = (begins, tt)

  begin-back : (p : Option ℕ) (l : AigLatch) → IsPartner own p (register names l)
      → Begins nodes z (moved l) → Like p (register names l)
      → Begins nodes z (started p (moved l))
  begin-back (Some n) l fits begins like = value n fits.1 ∙ like
  begin-back None l fits begins like = begins

  -- and so do those of all
  begins-forth : (ps : List (Option ℕ)) (ls : List AigLatch)
      → AllZip (IsPartner own) ps (map (register names) ls)
      → All (Begins nodes z) (all_started ps (map moved ls))
      → All (Begins nodes z) (map moved ls) × AllZip Like ps (map (register names) ls)
  begins-forth [] [] fits all = (All-nil (Begins nodes z), tt)
  begins-forth [] (l ∷ ls) fits all = absurd fits
  begins-forth (p ∷ ps) [] fits all = absurd fits
  begins-forth (p ∷ ps) (l ∷ ls) fits all =
      let first = started p (moved l) in
      let others = all_started ps (map moved ls) in
      let one = begin-forth p l fits.0 (All-head (Begins nodes z) first others all) in
      let rest = begins-forth ps ls fits.1 (All-tail (Begins nodes z) first others all) in
      (All-cons (Begins nodes z) (moved l) (map moved ls) one.0 rest.0, (one.1, rest.1))

  begins-back : (ps : List (Option ℕ)) (ls : List AigLatch)
      → AllZip (IsPartner own) ps (map (register names) ls)
      → All (Begins nodes z) (map moved ls) → AllZip Like ps (map (register names) ls)
      → All (Begins nodes z) (all_started ps (map moved ls))
  begins-back [] [] fits all like = All-nil (Begins nodes z)
  begins-back [] (l ∷ ls) fits all like = absurd fits
  begins-back (p ∷ ps) [] fits all like = absurd fits
  begins-back (p ∷ ps) (l ∷ ls) fits all like = All-cons (Begins nodes z) (started p (moved l))
      (all_started ps (map moved ls))
      (begin-back p l fits.0 (All-head (Begins nodes z) (moved l) (map moved ls) all) like.0)
      (begins-back ps ls fits.1 (All-tail (Begins nodes z) (moved l) (map moved ls) all) like.1)

-- some bad edge that holds holds under values that agree on the edges
any-agrees : (f g : AigEdge → Bool) (es : List AigEdge) → All (λ e. f e ≡ g e) es
    → list_any f es ≡ list_any g es
any-agrees f g [] same = refl
any-agrees f g (e ∷ es) same = ap₂ (λ b c. b || c) (All-head (λ e. f e ≡ g e) e es same)
    (any-agrees f g es (All-tail (λ e. f e ≡ g e) e es same))

-- ---- the miter

module _ (matching : Matching) (a b plain : Circuit) (is_a : IsCircuit a) (is_b : IsCircuit b)
    (counts : HaveSameCounts a b) (miters : IsMiter a b plain) where
  abbrev number : ℕ → ℕ
  number = number_in_joint 0 a b

  -- the miter whose latches have initial edges to their partners
  abbrev starting : Circuit
  starting = started_miter matching a b plain

  abbrev own : ℕ
  own = length a.latchs

  abbrev places : List (Option ℕ)
  places = partners matching (circuit_registers a) (circuit_registers b)

  abbrev further : List AigLatch
  further = map (renumbered_latch number) b.latchs

  -- the registers of the two start alike
  abbrev Alike : (ℕ → Bool) → (ℕ → Bool) → Type 0
  Alike x y = AreAlike matching (circuit_registers a) (circuit_registers b) x y

  -- partners are leaves of the first circuit
  fits : AllZip (IsPartner a.nodes) places (circuit_registers b)
  fits = partners-are matching a.nodes (circuit_registers a) (circuit_registers b)
      (registers-leaves a is_a)

  count : length places ≡ length further
  count = sym (AllZip-long (IsPartner a.nodes) places (circuit_registers b) fits)
      ∙ length-map b.latchs (register b.names)
      ∙ sym (length-map b.latchs (renumbered_latch number))

  -- the latches of the miter, and of the one whose latches start so
  latchs-plain : plain.latchs ≡ a.latchs ++ further
  latchs-plain = ap (λ c. c.latchs) miters.rest

  latchs-started : starting.latchs ≡ a.latchs ++ all_started places further
  latchs-started = ap (λ ls. take own ls ++ all_started places (drop own ls)) latchs-plain
      ∙ ap (λ ls. ls ++ all_started places (drop own (a.latchs ++ further)))
      (take-append_seam a.latchs further)
      ∙ ap (λ ls. a.latchs ++ all_started places ls) (drop-append_seam a.latchs further)

  -- ---- runs

  -- at a step of z the latch has the value that its next edge had
  abbrev Follows : (ℕ → ℕ → Bool) → ℕ → AigLatch → Type 0
  Follows z t latch = z (t + 1) latch.input ≡ edge_value plain.nodes (z t) latch.next

  follows-same : (z : ℕ → ℕ → Bool) (t : ℕ) (p : Option ℕ) (l : AigLatch)
      → Follows z t (started p l) ↔ Follows z t l
  follows-same z t (Some n) l = (λ h. h, λ h. h)
  follows-same z t None l = (λ h. h, λ h. h)

  -- the runs are the same
  run-forth : (last : ℕ) (z : ℕ → ℕ → Bool) → IsRun starting last z → IsRun plain last z
  run-forth last z run t h =
      let all = subst (All (Follows z t)) latchs-started (run t h) in
      subst (All (Follows z t)) (sym latchs-plain) (All-append (Follows z t) a.latchs further
      (All-first (Follows z t) a.latchs (all_started places further) all)
      (started-forth (Follows z t) (follows-same z t) places further count
      (All-second (Follows z t) a.latchs (all_started places further) all)))

  run-back : (last : ℕ) (z : ℕ → ℕ → Bool) → IsRun plain last z → IsRun starting last z
  run-back last z run t h =
      let all = subst (All (Follows z t)) latchs-plain (run t h) in
      subst (All (Follows z t)) (sym latchs-started) (All-append (Follows z t) a.latchs
      (all_started places further) (All-first (Follows z t) a.latchs further all)
      (started-back (Follows z t) (follows-same z t) places further count
      (All-second (Follows z t) a.latchs further all)))

  -- ---- starts

  -- an edge to a leaf of the first circuit has the leaf's value
  partner-value : (z : ℕ → Bool) (n : ℕ) → IsLeaf a.nodes n
      → edge_value plain.nodes z (edge_to n false) ≡ z n
  partner-value z n leaf = value-first a b plain is_a is_b counts miters z (edge_to n false)
      (kind_at-within a.nodes n Leaf leaf) ∙ node_value-leaf a.nodes z n leaf

  -- initial states are those of the miter in which registers start alike
  start-forth : (z : ℕ → Bool) → IsInitial starting z
      → IsInitial plain z × Alike z (λ n. z (number n))
  start-forth z start =
      let all = subst (All (Begins plain.nodes z)) latchs-started start in
      let rest = begins-forth a.nodes plain.nodes z number b.names (partner-value z) places b.latchs
      fits (All-second (Begins plain.nodes z) a.latchs (all_started places further) all) in (
        subst (All (Begins plain.nodes z)) (sym latchs-plain) (All-append (Begins plain.nodes z)
            a.latchs further
            (All-first (Begins plain.nodes z) a.latchs (all_started places further) all) rest.0),
        rest.1,
      )

  start-back : (z : ℕ → Bool) → IsInitial plain z → Alike z (λ n. z (number n))
      → IsInitial starting z
  start-back z start alike =
      let all = subst (All (Begins plain.nodes z)) latchs-plain start in
      subst (All (Begins plain.nodes z)) (sym latchs-started) (All-append (Begins plain.nodes z)
      a.latchs (all_started places further)
      (All-first (Begins plain.nodes z) a.latchs further all)
      (begins-back a.nodes plain.nodes z number b.names (partner-value z) places b.latchs fits
      (All-second (Begins plain.nodes z) a.latchs further all) alike))

  -- ---- witnesses

  module _ (m : Circuit) (constrains : ConstrainsInits starting m) (k : ℕ) where
    is_plain : IsCircuit plain
    is_plain = IsCircuit-miter a b plain is_a is_b counts miters

    bads-same : m.properties.bads ≡ plain.properties.bads
    bads-same = ap (λ c. c.properties.bads) constrains.rest

    -- some bad edge of the one holds where some bad edge of the other does
    bad-same : (x z : ℕ → Bool) → ((n : ℕ) → IsLeaf plain.nodes n → z n ≡ x n)
        → list_any (edge_value m.nodes z) m.properties.bads
        ≡ list_any (edge_value plain.nodes x) plain.properties.bads
    bad-same x z same = ap (λ es. list_any (edge_value m.nodes z) es) bads-same
        ∙ any-agrees (edge_value m.nodes z) (edge_value plain.nodes x) plain.properties.bads
        (λ i d h.
        let e = get_or plain.properties.bads i d in
        constrains.nodes.values z e (is_plain.properties.bads i d h)
        ∙ value-agrees plain is_plain z x same e)

    -- a witness of the constrained miter is one of the miter, whose registers start alike
    witness-forth : (z : ℕ → ℕ → Bool) → IsCircuitWitness m k z
        → IsCircuitWitness plain k z × Alike (z 0) (λ n. z 0 (number n))
    witness-forth z w =
        let run : IsAllowedRun starting k z = constrains.runs.cut k z (record {
          from_start = record { run = w.is_run; start = w.start };
          allowed = w.constraints;
        }) in
        let start = start-forth (z 0) run.from_start.start in (
          record {
            is_run = run-forth k z run.from_start.run;
            start = start.0;
            constraints = run.allowed;
            bad = subst IsTrue (bad-same (z k) (z k) (λ n leaf. refl)) w.bad;
          },
          start.1,
        )

    -- and where those of a witness of the miter do, the constrained one has a witness
    witness-back : (x : ℕ → ℕ → Bool) → IsCircuitWitness plain k x
        → Alike (x 0) (λ n. x 0 (number n)) → HasCircuitWitness m k
    witness-back x w alike =
        let run : IsAllowedRun starting k x = record {
          from_start = record {
            run = run-back k x w.is_run;
            start = start-back (x 0) w.start alike;
          };
          allowed = w.constraints;
        } in
        let more = constrains.runs.extended k x run in (
          more.0,
          record {
            is_run = more.1.from_start.run;
            start = more.1.from_start.start;
            constraints = more.1.allowed;
            bad = subst IsTrue (sym (bad-same (x k) (more.0 k)
                (λ n leaf. more.2 k n (omega arith) leaf))) w.bad;
          },
        )

    -- ---- safety

    safe-alike : IsCircuitSafeAt m k → AreEqualAlikeAt matching a b k
    safe-alike safe x y first second alike inputs =
        let z = paired a b plain is_a is_b counts miters k x y inputs in
        let same = alike-agrees a.nodes (x 0) (y 0) (z 0) (λ n. z 0 (number n))
        (λ n leaf. first-same a b plain is_a is_b counts miters k x y inputs 0 n (omega arith) leaf)
        places (circuit_registers b)
        (λ i d h. second-same a b plain is_a is_b counts miters k x y inputs 0
        (get_or (circuit_registers b) i d).place (omega arith) (registers-leaves b is_b i d h))
        fits alike in
        equal-unless a b plain is_a is_b counts miters k x y inputs first second
        (λ w. safe (witness-back z w same))

    alike-safe : AreEqualAlikeAt matching a b k → IsCircuitSafeAt m k
    alike-safe equal (z, w) =
        let old = witness-forth z w in
        let apart = witness-differs a b plain is_a is_b counts miters k z old.0 in
        let law = ComparesRuns-miter a b plain is_a is_b counts miters in
        apart.2 (equal z (λ t n. z t (number n)) apart.0 apart.1 old.1 (λ t h. law.inputs (z t)))

-- the miter is safe exactly where the outputs are equal on runs whose registers start alike
pub safe-is_equal_alike : (matching : Matching) (a b m : Circuit) (k : ℕ) → IsCircuit a
    → IsCircuit b → HaveSameCounts a b → IsAlikeMiter matching a b m
    → IsCircuitSafeAt m k ↔ AreEqualAlikeAt matching a b k
safe-is_equal_alike matching a b m k is_a is_b counts alike = (
  safe-alike matching a b alike.plain is_a is_b counts alike.miter m alike.constrains k,
  alike-safe matching a b alike.plain is_a is_b counts alike.miter m alike.constrains k,
)
