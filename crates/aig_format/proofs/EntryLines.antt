-- Inputs, latches and gates of both kinds of file are read from the front exactly, each beside the literals that are defined before it.
use Rattle.aig_base.proofs.Words.{◌≡◌, ℕ, ◌+◌, ◌-◌, ◌*◌, ◌≤◌, ◌&&◌, cond, eqb, List, [], ◌∷◌, ◌++◌, length, map, Option, Some, None, refl, sym, ap, subst, ◌∙◌, append_assoc, arith, inl, inr, and_parts, and_from, eqb-true, leb-true, le-leb, same_Some}
use Rattle.std.specs.Prelude.{IsTrue, nat_le, option_to_list}
use Rattle.aig_format.proofs.Words.{◌then◌, Just, IsDigit, Ended, IsLine, IsDelta, LatchLine, GateLine, Latch, Gate}
use Rattle.aig_format.specs.declared.FileKind.{FileKind}
use Rattle.aig_format.specs.declared.FileKind.TheVariants.{Text, Binary}
use Rattle.aig_format.specs.Parse.{◌>>=◌, LineTests, parse_number, parse_ended, parse_both, parse_if, parse_map, parse_delta, parse_next_and_reset, parse_own, parse_input, latch_line_from, parse_latch, fits_gate, parse_operands, gate_line_from, parse_gate}
use Rattle.aig_format.proofs.Entries.{chosen}
use Rattle.aig_format.proofs.NumberReaders.{bind_some, number_sound}
use Rattle.aig_format.proofs.Joined.{Begins, Reads, With, Reads-ended, Reads-both, Reads-same, Reads-if, Reads-tested, Reads-mapped, Reads-seen}
use Rattle.aig_format.proofs.Lines.{cond_then, taken_front, number_again, not_10, not_32}
use Rattle.aig_format.proofs.Sections.{Reads-line_end}
use Rattle.aig_format.proofs.Binary.{Reads-delta}

abbrev pub latch_key : LatchLine → ℕ
latch_key l = l.literal

abbrev pub gate_key : GateLine → ℕ
gate_key g = g.lhs

-- ---- a next literal, and a reset after it

abbrev pub IsNext : ℕ × Option ℕ → List ℕ → Type 0
IsNext x = IsLine (x.0 ∷ option_to_list x.1)

-- what follows the first number
abbrev following : (ℕ × ℕ) × List ℕ → Option ((ℕ × Option ℕ) × List ℕ)
following n = cond (eqb n.0.1 10) (Some ((n.0.0, None), n.1)) (cond (eqb n.0.1 32) (parse_ended 10 n.1 >>= λ r. Some ((n.0.0, Some r.0), r.1)) None)

next_sound : (bytes : List ℕ) (x : (ℕ × Option ℕ) × List ℕ) → parse_next_and_reset bytes ≡ Some x → Begins IsNext bytes x
unfolding parse_next_and_reset
next_sound bytes x h =
    let b = bind_some (parse_number bytes) following x h in
    let n = b.0.0.0 in
    let end = b.0.0.1 in
    let rest = b.0.1 in
    let t = number_sound bytes n end rest b.1 in
    let more_at : Option ((ℕ × Option ℕ) × List ℕ) = parse_ended 10 rest >>= λ r. Some ((n, Some r.0), r.1) in
    elim (chosen (eqb end 10) (Some ((n, None), rest)) (cond (eqb end 32) more_at None) (Some x) b.2) [
      | inl last ↦
          let f = taken_front bytes n end 10 rest (eqb-true _ _ last.0) t in
          subst (Begins IsNext bytes) (same_Some _ _ last.1) (f.0, f.1, f.2)
      | inr more ↦
          let g = cond_then (eqb end 32) more_at x more.1 in
          let c = bind_some (parse_ended 10 rest) (λ r. Some ((n, Some r.0), r.1)) x g.1 in
          let f = taken_front bytes n end 32 rest (eqb-true _ _ g.0) t in
          let r = Reads-line_end.sound rest c.0 c.1 in
          let whole : bytes ≡ (f.0 ++ r.0) ++ c.0.1 = f.1 ∙ ap (λ (xs : List ℕ). f.0 ++ xs) r.1 ∙ sym (append_assoc f.0 r.0 c.0.1) in
          subst (Begins IsNext bytes) (same_Some _ _ c.2) (f.0 ++ r.0, whole, (f.0, r.0, refl, f.2, r.2))
    ]

next_complete : (next : ℕ) (reset : Option ℕ) (front rest : List ℕ) → IsNext (next, reset) front → parse_next_and_reset (front ++ rest) ≡ Some ((next, reset), rest)
unfolding parse_next_and_reset
next_complete next None front rest h = rw (number_again 10 next front rest not_10 h) refl
next_complete next (Some r) front rest h =
    let same : front ++ rest ≡ h.0 ++ (h.1 ++ rest) = ap (λ (xs : List ℕ). xs ++ rest) h.2 ∙ append_assoc h.0 h.1 rest in
    rw (same, number_again 32 next h.0 (h.1 ++ rest) not_32 h.3, Reads-line_end.complete r h.1 rest h.4) refl

pub Reads-next : Reads IsNext parse_next_and_reset
Reads-next = record { sound = next_sound; complete = λ x front rest h. next_complete x.0 x.1 front rest h }

-- ---- the literal that an entry defines

-- in a binary file it is that of the next variable
abbrev pub IsPlaced : FileKind → List ℕ → ℕ → Type 0
IsPlaced Text before e = Unit {0}
IsPlaced Binary before e = e ≡ 2 * (length before + 1)

-- in a text file it is written
abbrev pub Own : FileKind → ℕ → ℕ → List ℕ → Type 0
Own Text end e = Ended end e
Own Binary end e = Just []

Reads-own : (kind : FileKind) (end : ℕ) → (IsDigit end → ⊥) → (before : List ℕ) → Reads (With (IsPlaced kind before) (Own kind end)) (parse_own kind end before)
Reads-own Text end ends before = Reads-same (Ended end) (With (IsPlaced Text before) (Ended end)) (parse_ended end) (Reads-ended end ends) (λ x bytes h. (tt, h)) (λ x bytes h. h.1)
Reads-own Binary end ends before = record {
  sound = λ bytes x h. subst (Begins (With (IsPlaced Binary before) (Own Binary end)) bytes) (same_Some _ _ h) ([], refl, (refl, refl));
  complete = λ e front rest h. rw (h.1, h.0) refl;
}

-- what follows a literal that isn't written
following_none : (P : List ℕ → Type 0) (bytes first rest : List ℕ) → bytes ≡ first ++ rest → first ≡ [] → P rest → P bytes
following_none P bytes first rest whole none h = subst P (sym (whole ∙ ap (λ (xs : List ℕ). xs ++ rest) none)) h

-- ---- inputs

-- an input is in its place, and passes its test
abbrev pub InputPasses : LineTests → FileKind → List ℕ → ℕ → Type 0
InputPasses tests kind before e = IsPlaced kind before e × IsTrue (tests.defined before e)

pub Reads-input : (tests : LineTests) (kind : FileKind) (before : List ℕ) → Reads (With (InputPasses tests kind before) (Own kind 10)) (parse_input tests kind before)
Reads-input tests kind before = Reads-if (IsPlaced kind before) (Own kind 10) (parse_own kind 10 before) (tests.defined before) (Reads-own kind 10 not_10 before)

-- ---- latches

Reads-latch_line : (kind : FileKind) (before : List ℕ)
    → Reads (With (λ l. IsPlaced kind before l.literal) (Latch kind)) (parse_map (λ x. latch_line_from x.0 x.1) (parse_both (parse_own kind 32 before) (λ _. parse_next_and_reset)))
Reads-latch_line kind before =
    Reads-mapped (λ x. With (IsPlaced kind before) (Own kind 32) x.0 then IsNext x.1) (With (λ l. IsPlaced kind before l.literal) (Latch kind)) (parse_both (parse_own kind 32 before) (λ _. parse_next_and_reset)) (λ x. latch_line_from x.0 x.1) (λ l. (l.literal, (l.next, l.reset)))
    (Reads-both (With (IsPlaced kind before) (Own kind 32)) (λ _. IsNext) (parse_own kind 32 before) (λ _. parse_next_and_reset) (Reads-own kind 32 not_32 before) (λ _. Reads-next))
    (λ x bytes h. to kind (latch_line_from x.0 x.1) bytes h) (λ l bytes h. back kind l bytes h) (λ l. refl)
  where
    Parts : FileKind → LatchLine → List ℕ → Type 0
    Parts k l = With (IsPlaced k before) (Own k 32) l.literal then IsNext (l.next, l.reset)

    to : (k : FileKind) (l : LatchLine) (bytes : List ℕ) → Parts k l bytes → With (λ l. IsPlaced k before l.literal) (Latch k) l bytes
    to Text l bytes h = (tt, (h.0, h.1, h.2, h.3.1, h.4))
    to Binary l bytes h = (h.3.0, following_none (IsNext (l.next, l.reset)) bytes h.0 h.1 h.2 h.3.1 h.4)

    back : (k : FileKind) (l : LatchLine) (bytes : List ℕ) → With (λ l. IsPlaced k before l.literal) (Latch k) l bytes → Parts k l bytes
    back Text l bytes h = let t = h.1 in (t.0, t.1, t.2, (tt, t.3), t.4)
    back Binary l bytes h = ([], bytes, refl, (h.0, refl), h.1)

-- a latch is in its place, and passes its tests
abbrev pub LatchPasses : LineTests → FileKind → List ℕ → List LatchLine → LatchLine → Type 0
LatchPasses tests kind inputs before l =
    let literals = inputs ++ map latch_key before in
    IsPlaced kind literals l.literal × IsTrue (tests.defined literals l.literal && tests.latch l)

pub Reads-latch : (tests : LineTests) (kind : FileKind) (inputs : List ℕ) (before : List LatchLine) → Reads (With (LatchPasses tests kind inputs before) (Latch kind)) (parse_latch tests kind inputs before)
Reads-latch tests kind inputs before =
    let literals = inputs ++ map latch_key before in
    Reads-if (λ l. IsPlaced kind literals l.literal) (Latch kind) (parse_map (λ x. latch_line_from x.0 x.1) (parse_both (parse_own kind 32 literals) (λ _. parse_next_and_reset)))
    (λ l. tests.defined literals l.literal && tests.latch l) (Reads-latch_line kind literals)

-- ---- gates

-- the operands of a gate of this literal
abbrev Operands : FileKind → ℕ → ℕ × ℕ → List ℕ → Type 0
Operands Text lhs x bytes = IsLine (x.0 ∷ x.1 ∷ []) bytes
Operands Binary lhs x bytes = (d0 d1 : ℕ) × (lhs ≡ x.0 + d0) × (x.0 ≡ x.1 + d1) × (IsDelta d0 then IsDelta d1) bytes

-- neither difference passes the number that it is taken from
abbrev FitsGate : ℕ → ℕ × ℕ → Type 0
FitsGate lhs d = (d.0 ≤ lhs) × (d.1 ≤ lhs - d.0)

same_pair : (a b x y : ℕ) → a ≡ x → b ≡ y → ◌≡◌ {A = ℕ × ℕ} (a, b) (x, y)
same_pair a b x y p q = rw (p, q) refl

Reads-operands : (kind : FileKind) (lhs : ℕ) → Reads (Operands kind lhs) (parse_operands kind lhs)
Reads-operands Text lhs = Reads-both (Ended 32) (λ _. Ended 10) (parse_ended 32) (λ _. parse_ended 10) (Reads-ended 32 not_32) (λ _. Reads-line_end)
Reads-operands Binary lhs =
    Reads-seen (λ d bytes. FitsGate lhs d × (IsDelta d.0 then IsDelta d.1) bytes) (Operands Binary lhs) (parse_if (parse_both parse_delta (λ _. parse_delta)) (fits_gate lhs)) (λ d. (lhs - d.0, lhs - d.0 - d.1))
    (Reads-tested (λ d. IsDelta d.0 then IsDelta d.1) (FitsGate lhs) (parse_both parse_delta (λ _. parse_delta)) (fits_gate lhs)
    (Reads-both IsDelta (λ _. IsDelta) parse_delta (λ _. parse_delta) Reads-delta (λ _. Reads-delta))
    (λ d h. let t = and_parts (nat_le d.0 lhs) (nat_le d.1 (lhs - d.0)) h in (leb-true d.0 lhs t.0, leb-true d.1 (lhs - d.0) t.1))
    (λ d h. and_from (nat_le d.0 lhs) (nat_le d.1 (lhs - d.0)) (le-leb d.0 lhs h.0) (le-leb d.1 (lhs - d.0) h.1)))
    (λ d bytes h. let a = h.0.0 in let b = h.0.1 in (d.0, d.1, omega arith, omega arith, h.1))
    (λ x bytes h. let e = h.2 in let f = h.3 in ((h.0, h.1), ((omega arith, omega arith), h.4), same_pair (lhs - h.0) (lhs - h.0 - h.1) x.0 x.1 (omega arith) (omega arith)))

Reads-gate_line : (kind : FileKind) (before : List ℕ) → Reads (With (λ g. IsPlaced kind before g.lhs) (Gate kind)) (parse_map gate_line_from (parse_both (parse_own kind 32 before) (parse_operands kind)))
Reads-gate_line kind before =
    Reads-mapped (λ x. With (IsPlaced kind before) (Own kind 32) x.0 then Operands kind x.0 x.1) (With (λ g. IsPlaced kind before g.lhs) (Gate kind)) (parse_both (parse_own kind 32 before) (parse_operands kind)) gate_line_from (λ g. (g.lhs, (g.rhs0, g.rhs1)))
    (Reads-both (With (IsPlaced kind before) (Own kind 32)) (Operands kind) (parse_own kind 32 before) (parse_operands kind) (Reads-own kind 32 not_32 before) (Reads-operands kind))
    (λ x bytes h. to kind (gate_line_from x) bytes h) (λ g bytes h. back kind g bytes h) (λ g. refl)
  where
    Parts : FileKind → GateLine → List ℕ → Type 0
    Parts k g = With (IsPlaced k before) (Own k 32) g.lhs then Operands k g.lhs (g.rhs0, g.rhs1)

    to : (k : FileKind) (g : GateLine) (bytes : List ℕ) → Parts k g bytes → With (λ g. IsPlaced k before g.lhs) (Gate k) g bytes
    to Text g bytes h = (tt, (h.0, h.1, h.2, h.3.1, h.4))
    to Binary g bytes h = (h.3.0, following_none (Gate Binary g) bytes h.0 h.1 h.2 h.3.1 h.4)

    back : (k : FileKind) (g : GateLine) (bytes : List ℕ) → With (λ g. IsPlaced k before g.lhs) (Gate k) g bytes → Parts k g bytes
    back Text g bytes h = let t = h.1 in (t.0, t.1, t.2, (tt, t.3), t.4)
    back Binary g bytes h = ([], bytes, refl, (h.0, refl), h.1)

-- a gate is in its place, and passes its tests
abbrev pub GatePasses : LineTests → FileKind → List ℕ → List GateLine → GateLine → Type 0
GatePasses tests kind leaves before g =
    let literals = leaves ++ map gate_key before in
    IsPlaced kind literals g.lhs × IsTrue (tests.defined literals g.lhs && tests.gate g)

pub Reads-gate : (tests : LineTests) (kind : FileKind) (leaves : List ℕ) (before : List GateLine) → Reads (With (GatePasses tests kind leaves before) (Gate kind)) (parse_gate tests kind leaves before)
Reads-gate tests kind leaves before =
    let literals = leaves ++ map gate_key before in
    Reads-if (λ g. IsPlaced kind literals g.lhs) (Gate kind) (parse_map gate_line_from (parse_both (parse_own kind 32 literals) (parse_operands kind)))
    (λ g. tests.defined literals g.lhs && tests.gate g) (Reads-gate_line kind literals)
