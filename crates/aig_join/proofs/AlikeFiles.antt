-- What the circuits of files with registers that start alike say of the machines.
use Rattle.aig_base.proofs.Words.{◌≡◌, ◌↔◌, ◌&&◌, ℕ, ◌/◌, Bool, true, false, cond, Option, Some, None, List, [], ◌∷◌, drop, map, filter, find, get, slice_get, refl, sym, ap, ap₂, subst, ◌∙◌, arith, zero, suc, nat_lt, nat_tests, ne_eqb, unwrap_or, ◌==◌, AllByRecursion, AllZip, All-from_recursion, IfSome, option_map}
use Rattle.std.specs.Prelude.{is_none}
use Rattle.aig_circuit.specs.declared.node.AigLatch.{AigLatch}
use Rattle.aig_circuit.proofs.Words.{edge_to}
use Rattle.aig_format.proofs.Words.{circuit_of, initial_of, latch_of, File, LatchLine, Fits, node_of_variable, IsKnown}
use Rattle.aig_format.proofs.Entries.{rec_both, rec_map, rec_weaker}
use Rattle.aig_format.specs.Machine.{initial_value_of}
use Rattle.aig_format_laws.specs.Nodes.{HasNodeValues, values_over}
use Rattle.aig_format_laws.proofs.Joining.{back_run, forth_run, forth_values, latch_values, latches_known, leaves_of}
use Rattle.aig_join.specs.Alike.{AreEqualAlikeAt, AreEqualMachinesFrom}
use Rattle.aig_join.specs.Names.{is_called}
use Rattle.aig_join.specs.Starts.{AreAlike, Register, circuit_registers, file_registers, in_turn, named_place, open_places, partners}
use Rattle.aig_join.specs.declared.starts.Matching.{Matching}
use Rattle.aig_join.specs.declared.starts.Matching.TheVariants.{ByName, ByOrder}
use Rattle.aig_join.specs.declared.starts.Starts.TheVariants.{Alike}
use Rattle.aig_join.proofs.Files.{allowed-back, allowed-forth, compared-back, compared-forth, inputs-back, inputs-forth, zip-back, zip-forth}

-- ---- registers at other places

-- where the register is
abbrev place_of : Register → ℕ
place_of r = r.place

-- it may start with either value
abbrev opens : Register → Bool
opens r = r.is_open

-- it may, and has this name
abbrev is_named : List ℕ → Register → Bool
is_named text r = r.is_open && is_called text r.name

-- the register's place under new numbers
abbrev moved : (ℕ → ℕ) → Register → Register
moved number r = record r { place = number r.place }

module _ (number : ℕ → ℕ) where
  -- the places of open registers are at the new numbers
  open_places-moved : (rs : List Register)
      → open_places (map (moved number) rs) ≡ map number (open_places rs)
  open_places-moved [] = refl
  open_places-moved (r ∷ rs) = by_test r.is_open (open_places-moved rs)
    where
      by_test : (b : Bool) → open_places (map (moved number) rs) ≡ map number (open_places rs)
          → map place_of (cond b (moved number r ∷ filter opens (map (moved number) rs))
          (filter opens (map (moved number) rs)))
          ≡ map number (map place_of (cond b (r ∷ filter opens rs) (filter opens rs)))
      by_test true e = ap (λ ns. number r.place ∷ ns) e
      by_test false e = e

  -- and so are the first of the places
  first-moved : (ns : List ℕ) → slice_get (map number ns) 0 ≡ option_map number (slice_get ns 0)
  first-moved [] = refl
  first-moved (n ∷ ns) = refl

  -- and the others
  rest-moved : (ns : List ℕ) → drop 1 (map number ns) ≡ map number (drop 1 ns)
  rest-moved [] = refl
  rest-moved (n ∷ ns) = refl

  -- and the place of a register that is found by its name
  named-moved : (text : List ℕ) (rs : List Register)
      → option_map place_of (find (is_named text) (map (moved number) rs))
      ≡ option_map number (option_map place_of (find (is_named text) rs))
  named-moved text [] = refl
  named-moved text (r ∷ rs) = by_test (is_named text r) (named-moved text rs)
    where
      by_test : (b : Bool) → option_map place_of (find (is_named text) (map (moved number) rs))
          ≡ option_map number (option_map place_of (find (is_named text) rs))
          → option_map place_of
          (cond b (Some (moved number r)) (find (is_named text) (map (moved number) rs)))
          ≡ option_map number (option_map place_of (cond b (Some r) (find (is_named text) rs)))
      by_test true e = refl
      by_test false e = e

  -- if there is a name
  named_place-moved : (rs : List Register) (name : Option (List ℕ))
      → named_place (map (moved number) rs) name ≡ option_map number (named_place rs name)
  named_place-moved rs (Some text) = named-moved text rs
  named_place-moved rs None = refl

module _ (number other_number : ℕ → ℕ) where
  -- what registers get in turn of places at new numbers
  in_turn-moved : (places : List ℕ) (rs : List Register)
      → in_turn (map number places) (map (moved other_number) rs)
      ≡ map (option_map number) (in_turn places rs)
  in_turn-moved places [] = refl
  in_turn-moved places (r ∷ rs) =
      by_test r.is_open (in_turn-moved (drop 1 places) rs) (in_turn-moved places rs)
    where
      by_test : (b : Bool) → in_turn (map number (drop 1 places)) (map (moved other_number) rs)
          ≡ map (option_map number) (in_turn (drop 1 places) rs)
          → in_turn (map number places) (map (moved other_number) rs)
          ≡ map (option_map number) (in_turn places rs)
          → cond b (slice_get (map number places) 0 ∷ in_turn (drop 1 (map number places))
          (map (moved other_number) rs))
          (None ∷ in_turn (map number places) (map (moved other_number) rs))
          ≡ map (option_map number)
          (cond b (slice_get places 0 ∷ in_turn (drop 1 places) rs) (None ∷ in_turn places rs))
      by_test true e f = ap₂ (λ p ps. p ∷ ps) (first-moved number places)
          (ap (λ ns. in_turn ns (map (moved other_number) rs)) (rest-moved number places) ∙ e)
      by_test false e f = ap (λ ps. None ∷ ps) f

  -- what they find by their names
  by_name-moved : (ours theirs : List Register)
      → partners ByName (map (moved number) ours) (map (moved other_number) theirs)
      ≡ map (option_map number) (partners ByName ours theirs)
  by_name-moved ours [] = refl
  by_name-moved ours (r ∷ rs) = ap₂ (λ p ps. p ∷ ps) (by_test r.is_open) (by_name-moved ours rs)
    where
      by_test : (b : Bool) → cond b (named_place (map (moved number) ours) r.name) None
          ≡ option_map number (cond b (named_place ours r.name) None)
      by_test true = named_place-moved number ours r.name
      by_test false = refl

  -- partners of registers at other places are at the other places
  partners-moved : (matching : Matching) (ours theirs : List Register)
      → partners matching (map (moved number) ours) (map (moved other_number) theirs)
      ≡ map (option_map number) (partners matching ours theirs)
  partners-moved ByOrder ours theirs =
      ap (λ ns. in_turn ns (map (moved other_number) theirs)) (open_places-moved number ours)
      ∙ in_turn-moved (open_places ours) theirs
  partners-moved ByName ours theirs = by_name-moved ours theirs

-- ---- what the places have

module _ (P : ℕ → Type 0) where
  -- what the place, if there is one, has
  abbrev HasIfSome : Option ℕ → Type 0
  HasIfSome p = IfSome p P

  -- the register's place has it
  abbrev AtPlace : Register → Type 0
  AtPlace r = P r.place

  -- what all registers' places have, those of open registers have
  open_places-have : (rs : List Register) → AllByRecursion AtPlace rs
      → AllByRecursion P (open_places rs)
  open_places-have [] all = tt
  open_places-have (r ∷ rs) all = by_test r.is_open (open_places-have rs all.1)
    where
      by_test : (b : Bool) → AllByRecursion P (open_places rs)
          → AllByRecursion P (map place_of (cond b (r ∷ filter opens rs) (filter opens rs)))
      by_test true rest = (all.0, rest)
      by_test false rest = rest

  -- the first place has it
  first-has : (ns : List ℕ) → AllByRecursion P ns → HasIfSome (slice_get ns 0)
  first-has [] all = tt
  first-has (n ∷ ns) all = all.0

  -- and the others have
  rest-have : (ns : List ℕ) → AllByRecursion P ns → AllByRecursion P (drop 1 ns)
  rest-have [] all = tt
  rest-have (n ∷ ns) all = all.1

  -- and so have the places that registers get in turn
  in_turn-have : (places : List ℕ) (rs : List Register) → AllByRecursion P places
      → AllByRecursion HasIfSome (in_turn places rs)
  in_turn-have places [] all = tt
  in_turn-have places (r ∷ rs) all = by_test r.is_open
      (in_turn-have (drop 1 places) rs (rest-have places all)) (in_turn-have places rs all)
    where
      by_test : (b : Bool) → AllByRecursion HasIfSome (in_turn (drop 1 places) rs)
          → AllByRecursion HasIfSome (in_turn places rs)
          → AllByRecursion HasIfSome
          (cond b (slice_get places 0 ∷ in_turn (drop 1 places) rs) (None ∷ in_turn places rs))
      by_test true after same = (first-has places all, after)
      by_test false after same = (tt, same)

  -- and the place of a register that is found by its name
  named-has : (text : List ℕ) (rs : List Register) → AllByRecursion AtPlace rs
      → HasIfSome (option_map place_of (find (is_named text) rs))
  named-has text [] all = tt
  named-has text (r ∷ rs) all = by_test (is_named text r) (named-has text rs all.1)
    where
      by_test : (b : Bool) → HasIfSome (option_map place_of (find (is_named text) rs))
          → HasIfSome (option_map place_of (cond b (Some r) (find (is_named text) rs)))
      by_test true rest = all.0
      by_test false rest = rest

  -- if there is a name
  named_place-has : (rs : List Register) (name : Option (List ℕ)) → AllByRecursion AtPlace rs
      → HasIfSome (named_place rs name)
  named_place-has rs (Some text) all = named-has text rs all
  named_place-has rs None all = tt

  -- and what registers find by their names
  by_name-have : (ours theirs : List Register) → AllByRecursion AtPlace ours
      → AllByRecursion HasIfSome (partners ByName ours theirs)
  by_name-have ours [] all = tt
  by_name-have ours (r ∷ rs) all = (by_test r.is_open, by_name-have ours rs all)
    where
      by_test : (b : Bool) → HasIfSome (cond b (named_place ours r.name) None)
      by_test true = named_place-has ours r.name all
      by_test false = tt

  -- what the places of all registers have, those of partners have
  partners-have : (matching : Matching) (ours theirs : List Register)
      → AllByRecursion AtPlace ours → AllByRecursion HasIfSome (partners matching ours theirs)
  partners-have ByOrder ours theirs all =
      in_turn-have (open_places ours) theirs (open_places-have ours all)
  partners-have ByName ours theirs all = by_name-have ours theirs all

-- ---- the values

module _ (number other_number : ℕ → ℕ) (x y run other : ℕ → Bool) where
  -- the place has at its new number the same value
  abbrev IsOurs : ℕ → Type 0
  IsOurs v = x (number v) ≡ run v

  -- and so has the register's place
  abbrev IsTheirs : Register → Type 0
  IsTheirs r = y (other_number r.place) ≡ other r.place

  -- the partner, if there is one, has the register's value
  abbrev StartsSo : (ℕ → Bool) → (ℕ → Bool) → Option ℕ → Register → Type 0
  StartsSo ours theirs p r = IfSome p (λ n. ours n ≡ theirs r.place)

  -- a register starts as its partner where it does at its new place
  starts-forth : (p : Option ℕ) (r : Register) → IfSome p IsOurs → IsTheirs r
      → StartsSo x y (option_map number p) (moved other_number r) → StartsSo run other p r
  starts-forth (Some n) r ours theirs s = sym ours ∙ s ∙ theirs
  starts-forth None r ours theirs s = tt

  -- and the other way round
  starts-back : (p : Option ℕ) (r : Register) → IfSome p IsOurs → IsTheirs r
      → StartsSo run other p r → StartsSo x y (option_map number p) (moved other_number r)
  starts-back (Some n) r ours theirs s = ours ∙ s ∙ sym theirs
  starts-back None r ours theirs s = tt

  -- registers at other places are alike where these are
  alike-moved : (matching : Matching) (ours theirs : List Register)
      → AllByRecursion (λ r. IsOurs r.place) ours → AllByRecursion IsTheirs theirs
      → AreAlike matching (map (moved number) ours) (map (moved other_number) theirs) x y
      ↔ AreAlike matching ours theirs run other
  alike-moved matching ours theirs first second =
      let there = map (moved other_number) theirs in
      let ps = partners matching ours theirs in
      let same = partners-moved number other_number matching ours theirs in
      let all = All-from_recursion (λ p. IfSome p IsOurs) ps
      (partners-have IsOurs matching ours theirs first) in
      let also = All-from_recursion IsTheirs theirs second in (
        λ alike. zip-forth (StartsSo x y) (StartsSo run other) (option_map number)
            (moved other_number) (λ p. IfSome p IsOurs) IsTheirs starts-forth ps theirs all also
            (subst (λ os. AllZip (StartsSo x y) os there) same alike),
        λ alike. subst (λ os. AllZip (StartsSo x y) os there) (sym same)
            (zip-back (StartsSo x y) (StartsSo run other) (option_map number)
            (moved other_number) (λ p. IfSome p IsOurs) IsTheirs starts-back ps theirs all also
            alike),
      )

-- ---- the registers of a file

-- a reset past 1 gives neither an initial edge nor an initial value
none_same : (a b d i : Bool) → a ≡ false → b ≡ false → d ≡ false
    → is_none (cond d (Some (edge_to 0 i)) None)
    ≡ is_none (cond a (Some false) (cond b (Some true) None))
none_same false false false i e1 e2 e3 = refl
none_same false false true i e1 e2 e3 = cc
none_same false true d i e1 e2 e3 = cc
none_same true b d i e1 e2 e3 = cc

-- a reset gives an initial edge where it gives an initial value
by_reset : (r : ℕ) → is_none (cond (nat_lt r 2) (Some (edge_to 0 (r == 1))) None)
    ≡ is_none (cond (r == 0) (Some false) (cond (r == 1) (Some true) None))
by_reset zero = refl
by_reset (suc zero) = refl
by_reset (suc (suc r)) =
    let large : nat_lt (suc (suc r)) 2 ≡ false = grind (arith, nat_tests) in
    none_same (suc (suc r) == 0) (suc (suc r) == 1) (nat_lt (suc (suc r)) 2) (suc (suc r) == 1)
    (ne_eqb (suc (suc r)) 0 (λ e. absurd (omega arith)))
    (ne_eqb (suc (suc r)) 1 (λ e. absurd (omega arith))) large

-- a latch has no initial edge where its line has no initial value
is_open-same : (l : LatchLine) → is_none (initial_of l) ≡ is_none (initial_value_of l)
is_open-same l = by_reset (unwrap_or l.reset 0)

-- the register of a line, open or not
abbrev register_at : File → (ℕ → ℕ) → Bool → LatchLine → Register
register_at f place free l = record {
  place = place (l.literal / 2);
  is_open = free;
  name = get (circuit_of f).names (node_of_variable f (l.literal / 2));
}

-- that of the file
abbrev file_register : File → LatchLine → Register
file_register f l = register_at f (λ v. v) (is_none (initial_value_of l)) l

-- those of the file's circuit are those of the file, at the nodes of their variables
registers-moved : (f : File)
    → circuit_registers (circuit_of f) ≡ map (moved (node_of_variable f)) (file_registers f)
registers-moved f = each f.latches
  where
    each : (ls : List LatchLine)
        → map (λ (l : AigLatch). record {
          place = l.input;
          is_open = is_none l.init;
          name = get (circuit_of f).names l.input;
        }) (map (latch_of f) ls)
        ≡ map (moved (node_of_variable f)) (map (file_register f) ls)
    each [] = refl
    each (l ∷ ls) = ap₂ (λ r rs. r ∷ rs)
        (ap (λ b. register_at f (node_of_variable f) b l) (is_open-same l)) (each ls)

-- the leaves of latches have at first the values of their variables
registers-are : (f : File) (limit k : ℕ) → Fits f limit → (x run : ℕ → ℕ → Bool)
    → HasNodeValues f k x run
    → AllByRecursion (λ (r : Register). x 0 (node_of_variable f r.place) ≡ run 0 r.place)
    (file_registers f)
registers-are f limit k fits x run values =
    let Is = λ (r : Register). x 0 (node_of_variable f r.place) ≡ run 0 r.place in
    let Has = λ (l : LatchLine). values_over f x 0 (l.literal / 2)
    ≡ x 0 (node_of_variable f (l.literal / 2)) in
    let Known = λ (l : LatchLine). IsKnown f l.literal in
    let Same = λ (l : LatchLine). x 0 (node_of_variable f (l.literal / 2)) ≡ run 0 (l.literal / 2) in
    (rec_map Is (file_register f) f.latches).1 (rec_weaker (λ l. Has l × Known l) Same
    (λ l p. sym p.0 ∙ values 0 (l.literal / 2) (omega arith) p.1) f.latches
    (rec_both Has Known f.latches (latch_values f limit fits (x 0)) (latches_known f)))

module _ (matching : Matching) (f g : File) (limit bound k : ℕ) (fits : Fits f limit)
    (also : Fits g bound) where
  -- the circuits' registers are alike where the machines' are
  pub registers-alike : (x run y other : ℕ → ℕ → Bool) → HasNodeValues f k x run
      → HasNodeValues g k y other
      → AreAlike matching (circuit_registers (circuit_of f)) (circuit_registers (circuit_of g))
      (x 0) (y 0) ↔ AreAlike matching (file_registers f) (file_registers g) (run 0) (other 0)
  registers-alike x run y other vx vy =
      let number = node_of_variable f in
      let other_number = node_of_variable g in
      subst (λ rs. AreAlike matching rs (circuit_registers (circuit_of g)) (x 0) (y 0)
      ↔ AreAlike matching (file_registers f) (file_registers g) (run 0) (other 0))
      (sym (registers-moved f))
      (subst (λ rs. AreAlike matching (map (moved number) (file_registers f)) rs (x 0) (y 0)
      ↔ AreAlike matching (file_registers f) (file_registers g) (run 0) (other 0))
      (sym (registers-moved g))
      (alike-moved number other_number (x 0) (y 0) (run 0) (other 0) matching (file_registers f)
      (file_registers g) (registers-are f limit k fits x run vx)
      (registers-are g bound k also y other vy)))

  -- from the circuits to the machines
  alike-forth : AreEqualAlikeAt matching (circuit_of f) (circuit_of g) k
      → AreEqualMachinesFrom (Alike matching) f g k
  alike-forth equal run other first second alike inputs =
      let x = leaves_of f run in
      let y = leaves_of g other in
      let vx = forth_values f limit k run fits first.is_run in
      let vy = forth_values g bound k other also second.is_run in
      compared-forth f g limit bound k fits also x run vx y other vy (equal x y
      (allowed-forth f limit k fits x run vx (forth_run f limit k run fits first.is_run) first)
      (allowed-forth g bound k also y other vy (forth_run g bound k other also second.is_run)
      second) ((registers-alike x run y other vx vy).1 alike)
      (λ t h. inputs-forth f g limit bound k fits also x run vx y other vy t h (inputs t h)))

  -- and back
  alike-back : AreEqualMachinesFrom (Alike matching) f g k
      → AreEqualAlikeAt matching (circuit_of f) (circuit_of g) k
  alike-back equal x y first second alike inputs =
      let run = values_over f x in
      let other = values_over g y in
      let vx : HasNodeValues f k x run = λ t v h known. refl in
      let vy : HasNodeValues g k y other = λ t v h known. refl in
      compared-back f g limit bound k fits also x run vx y other vy (equal run other
      (allowed-back f limit k fits x run vx (back_run f limit k x fits first.from_start.run) first)
      (allowed-back g bound k also y other vy (back_run g bound k y also second.from_start.run)
      second) ((registers-alike x run y other vx vy).0 alike)
      (λ t h. inputs-back f g limit bound k fits also x run vx y other vy t h (inputs t h)))

  -- the files' circuits are equal, with registers that start alike, exactly where the machines are
  pub equal-alike_machines : AreEqualAlikeAt matching (circuit_of f) (circuit_of g) k
      ↔ AreEqualMachinesFrom (Alike matching) f g k
  equal-alike_machines = (alike-forth, alike-back)
