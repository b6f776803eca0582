-- The names of a map, and their lines.
use Rattle.aig_base.proofs.Words.{◌≡◌, ℕ, ◌+◌, ◌-◌, ◌<◌, ◌≤◌, length, take, drop, get_or, zero-add, sym, arith, Option, Some, None, List, [], ◌∷◌, ◌++◌, refl, ap, ◌∙◌, append_assoc, option_map, option_to_list, decimal, slice_set, enumerate_from, flat_map, get, flat_map-append}
use Rattle.std.proofs.lemmas.List.FromFn.{get_or-enumerate_from}
use Rattle.std.proofs.lemmas.List.{drop-set, length-map, take-take}
use Rattle.std.proofs.Math.Seq.{take-append-add}
use Rattle.aig_circuit.proofs.Circuits.{leaf-read}
use Rattle.aig_circuit.specs.declared.node.AigLatch.{AigLatch}
use Rattle.aig_circuit.specs.Circuit.{Circuit, latch_leaves}
use Rattle.aig_format.specs.declared.FileKind.TheVariants.{Text}
use Rattle.aig_format.proofs.Words.{NameLine, name_text, file_of, name_lines}
use Rattle.aig_writer.specs.TextParts.{text_of_name}

-- ---- the lines of names

pub name_pieces : (letter position : ℕ) (name : List ℕ) → name_text (record { letter = letter; position = position; name = name }) ≡ (letter ∷ (decimal position ++ 32 ∷ [])) ++ name ++ (10 ∷ [])
name_pieces letter position name = simp append_assoc

-- the letter, put before the digits
pub name_head : (text digits rest : List ℕ) (place letter : ℕ) → place + length digits ≡ 21 → 0 < place → place ≤ length text → drop place text ≡ digits ++ 32 ∷ rest
    → take (22 - (place - 1)) (take (54 - (place - 1)) (drop (place - 1) (slice_set text (place - 1) letter))) ≡ letter ∷ (digits ++ 32 ∷ [])
name_head text digits rest place letter end some within written =
    let start = place - 1 in
    let next : start + 1 ≡ place = omega arith in
    let many : 22 - start ≡ length (letter ∷ digits) + 1 = omega arith in
    take-take (22 - start) (54 - start) (drop start (slice_set text start letter)) (omega arith)
    ∙ ap (take (22 - start)) (drop-set text start letter (omega arith) ∙ ap (λ k. letter ∷ drop k text) next ∙ ap (λ l. letter ∷ l) written)
    ∙ ap (λ k. take k ((letter ∷ digits) ++ 32 ∷ rest)) many ∙ take-append-add (letter ∷ digits) (32 ∷ rest) 1

-- the text of a place and its node
pub name_entry : ℕ → (ℕ → Option (List ℕ)) → ℕ × ℕ → List ℕ
name_entry letter name place = text_of_name letter place.0 (name place.1)

name_entry-at : (letter : ℕ) (name : ℕ → Option (List ℕ)) (ns : List ℕ) (i : ℕ) → i < length ns
    → name_entry letter name (get_or (enumerate_from 0 ns) i (0, 0)) ≡ text_of_name letter i (name (get_or ns i 0))
unfolding name_entry
name_entry-at letter name ns i h = ap (name_entry letter name) (get_or-enumerate_from 0 ns i (0, 0) h) ∙ ap (λ position. text_of_name letter position (name (get_or ns i 0))) (zero-add i)

-- the lines of names, as a text for each place
name_lines-places : (letter position : ℕ) (ns : List ℕ) (name : ℕ → Option (List ℕ))
    → flat_map name_text (name_lines letter position ns name)
    ≡ flat_map (name_entry letter name) (enumerate_from position ns)
unfolding name_entry
name_lines-places letter position [] name = refl
name_lines-places letter position (n ∷ ns) name =
    by_option (name n) (name_lines letter (position + 1) ns name) ∙ ap (λ l. text_of_name letter position (name n) ++ l) (name_lines-places letter (position + 1) ns name)
  where
    by_option : (o : Option (List ℕ)) (rest : List NameLine)
        → flat_map name_text (option_to_list (option_map (λ bytes. record { letter = letter; position = position; name = bytes }) o) ++ rest) ≡ text_of_name letter position o ++ flat_map name_text rest
    by_option None rest = refl
    by_option (Some bytes) rest = refl

pub length-leaves : (latchs : List AigLatch) → length (latch_leaves latchs) ≡ length latchs
length-leaves latchs = length-map latchs (λ (latch : AigLatch). latch.input)

abbrev pub input_entries : Circuit → List ℕ
input_entries c = flat_map (name_entry 105 (get c.names)) (enumerate_from 0 c.inputs)

abbrev pub latch_entries : Circuit → List ℕ
latch_entries c = flat_map (name_entry 108 (get c.names)) (enumerate_from 0 (latch_leaves c.latchs))

pub name_lines-both : (c : Circuit)
    → flat_map name_text (file_of Text c).names ≡ input_entries c ++ latch_entries c
name_lines-both c =
    flat_map-append name_text (name_lines 105 0 c.inputs (get c.names)) (name_lines 108 0 (latch_leaves c.latchs) (get c.names))
    ∙ ap (λ l. l ++ flat_map name_text (name_lines 108 0 (latch_leaves c.latchs) (get c.names))) (name_lines-places 105 0 c.inputs (get c.names))
    ∙ ap (λ l. input_entries c ++ l) (name_lines-places 108 0 (latch_leaves c.latchs) (get c.names))

-- the names that are read
pub input_entry-at : (c : Circuit) (ns : List ℕ) (i : ℕ) → ns ≡ c.inputs → i < length ns
    → name_entry 105 (get c.names) (get_or (enumerate_from 0 c.inputs) i (0, 0))
    ≡ text_of_name 105 i (get c.names (get_or ns i 0))
input_entry-at c ns i same h = name_entry-at 105 (get c.names) c.inputs i (omega (arith, ap length same)) ∙ ap (λ (l : List ℕ). text_of_name 105 i (get c.names (get_or l i 0))) (sym same)

pub latch_entry-at : (c : Circuit) (latchs : List AigLatch) (i n : ℕ) (d : AigLatch) → latchs ≡ c.latchs → i < length latchs → n ≡ (get_or latchs i d).input
    → name_entry 108 (get c.names) (get_or (enumerate_from 0 (latch_leaves c.latchs)) i (0, 0)) ≡ text_of_name 108 i (get c.names n)
latch_entry-at c latchs i n d same h own =
    let read = ap (λ (ls : List AigLatch). get_or (latch_leaves ls) i 0) (sym same) ∙ leaf-read latchs i d h ∙ sym own in
    name_entry-at 108 (get c.names) (latch_leaves c.latchs) i (omega (arith, length-leaves c.latchs, ap length same)) ∙ ap (λ m. text_of_name 108 i (get c.names m)) read
