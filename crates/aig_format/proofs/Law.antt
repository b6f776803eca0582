-- The written form of a file spells it.
use Rattle.aig_base.proofs.Words.{◌≡◌, ℕ, suc, ◌-◌, List, [], ◌∷◌, ◌++◌, length, map, replicate, refl, sym, ap, subst, ◌∙◌, append_assoc, append-nil, arith, inl, inr, All, option_to_list, ◌==◌, decimal, AllByRecursion, flat_map, eqb-true}
use Rattle.aig_circuit.specs.Properties.{Properties, AllProperties}
use Rattle.aig_format.proofs.Words.{IsLine, Lines, LatchLine, GateLine, NameLine, File, HeaderNumbers, header_of}
use Rattle.aig_format.specs.declared.FileKind.{FileKind}
use Rattle.aig_format.specs.declared.FileKind.TheVariants.{Text, Binary}
use Rattle.aig_format.specs.Spells.{magic, numbers_in, IsHeader, Inputs, Latch, Gate, Name, next_and_reset, PropertyLines, Spells}
use Rattle.aig_format.specs.Written.{line_text, lines_text, in_front, shortened, header_line_of, inputs_text, latch_text, gate_text, name_text, delta_of, properties_text, file_text}
use Rattle.aig_format.specs.WritableFile.{IsFileNumber, LatchSmall, GateSmall, NameSmall, CanWrite}
use Rattle.aig_format.proofs.Entries.{chosen, rec_all, rec_all_sets}
use Rattle.aig_format.proofs.Printed.{number_written, line_written, delta_written, each_written}

front_is : (n : ℕ) (xs ys : List ℕ) (k : ℕ) → ys ≡ xs ++ replicate k 0 → (j : ℕ) × (n ∷ ys ≡ in_front n xs ++ replicate j 0)
front_is n [] ys k h =
    elim (chosen (n == 0) [] (n ∷ []) (in_front n []) refl) [
      | inl zeros ↦ (suc k, let e : n ≡ 0 = eqb-true n 0 zeros.0 in rw (e, h) refl)
      | inr some ↦ (k, ap (λ (zs : List ℕ). n ∷ zs) h ∙ ap (λ (zs : List ℕ). zs ++ replicate k 0) some.1)
    ]
front_is n (x ∷ xs) ys k h = (k, ap (λ (zs : List ℕ). n ∷ zs) h)

shortened_is : (ns : List ℕ) → (k : ℕ) × (ns ≡ shortened ns ++ replicate k 0)
shortened_is [] = (0, refl)
shortened_is (n ∷ ns) = let r = shortened_is ns in front_is n (shortened ns) ns r.0 r.1

in_front_small : (n : ℕ) (xs : List ℕ) → IsFileNumber n → AllByRecursion IsFileNumber xs → AllByRecursion IsFileNumber (in_front n xs)
in_front_small n [] h all =
    elim (chosen (n == 0) [] (n ∷ []) (in_front n []) refl) [
      | inl zeros ↦ subst (AllByRecursion IsFileNumber) zeros.1 tt
      | inr some ↦ subst (AllByRecursion IsFileNumber) some.1 (h, tt)
    ]
in_front_small n (x ∷ xs) h all = (h, all)

shortened_small : (ns : List ℕ) → AllByRecursion IsFileNumber ns → AllByRecursion IsFileNumber (shortened ns)
shortened_small [] all = tt
shortened_small (n ∷ ns) all = in_front_small n (shortened ns) all.0 (shortened_small ns all.1)

-- the written line of the header
header_written : (kind : FileKind) (n : HeaderNumbers) → AllByRecursion IsFileNumber (numbers_in n)
    → IsHeader kind n (magic kind ++ line_text (n.greatest ∷ n.inputs ∷ n.latches ∷ n.outputs ∷ n.gates ∷ shortened (n.bads ∷ n.constraints ∷ n.justice ∷ n.fairness ∷ [])))
header_written kind n h =
    let four = n.bads ∷ n.constraints ∷ n.justice ∷ n.fairness ∷ [] in
    let following = n.inputs ∷ n.latches ∷ n.outputs ∷ n.gates ∷ shortened four in
    let s = shortened_is four in
    let t = h.1.1.1.1 in (
      n.greatest ∷ following,
      s.0,
      ap (λ (zs : List ℕ). n.greatest ∷ n.inputs ∷ n.latches ∷ n.outputs ∷ n.gates ∷ zs) s.1,
      omega arith,
      (magic kind, line_text (n.greatest ∷ following), refl, refl, line_written n.greatest following h.0 (h.1.0, (h.1.1.0, (h.1.1.1.0, (t.0, shortened_small four t.1))))),
    )

lines_written : (ns : List ℕ) → AllByRecursion IsFileNumber ns → Lines ns (lines_text ns)
lines_written ns all = each_written (λ n. IsLine (n ∷ [])) IsFileNumber (λ n. line_text (n ∷ [])) (λ n h. line_written n [] h tt) ns all

latch_written : (kind : FileKind) (l : LatchLine) → LatchSmall l → Latch kind l (latch_text kind l)
latch_written Text l h = line_written l.literal (next_and_reset l) h.0 (h.1, h.2)
latch_written Binary l h = line_written l.next (option_to_list l.reset) h.1 h.2

gate_written : (kind : FileKind) (g : GateLine) → GateSmall g → Gate kind g (gate_text kind g)
gate_written Text g h = line_written g.lhs (g.rhs0 ∷ g.rhs1 ∷ []) h.0 (omega (arith, h.0, h.1), (omega (arith, h.0, h.1, h.2), tt))
gate_written Binary g h =
    let a = h.0 in let b = h.1 in let c = h.2 in
    (g.lhs - g.rhs0, g.rhs0 - g.rhs1, omega arith, omega arith, (delta_of (g.lhs - g.rhs0), delta_of (g.rhs0 - g.rhs1), refl, delta_written (g.lhs - g.rhs0) (omega arith), delta_written (g.rhs0 - g.rhs1) (omega arith)))

inputs_written : (kind : FileKind) (ns : List ℕ) → AllByRecursion IsFileNumber ns → Inputs kind ns (inputs_text kind ns)
inputs_written Text ns all = lines_written ns all
inputs_written Binary ns all = refl

name_written : (n : NameLine) → NameSmall n → Name n (name_text n)
name_written n h =
    let d = decimal n.position in
    let same : (d ++ 32 ∷ n.name) ++ 10 ∷ [] ≡ (d ++ 32 ∷ []) ++ (n.name ++ 10 ∷ []) = simp append_assoc in (
      h.0,
      h.2,
      (
        n.letter ∷ [],
        (d ++ 32 ∷ []) ++ (n.name ++ 10 ∷ []),
        ap (λ (xs : List ℕ). n.letter ∷ xs) same,
        refl,
        (d ++ 32 ∷ [], n.name ++ 10 ∷ [], refl, (d, 32 ∷ [], refl, number_written n.position h.1, refl), refl),
      ),
    )

properties_written : (p : Properties ℕ) → AllProperties IsFileNumber p → AllByRecursion IsFileNumber (map length p.justice) → PropertyLines p (properties_text p)
properties_written p w small =
    let lines = λ (ns : List ℕ) (all : All IsFileNumber ns). lines_written ns ((rec_all IsFileNumber ns).1 all) in
    let o = lines_text p.outputs in let b = lines_text p.bads in let c = lines_text p.constraints in
    let n = lines_text (map length p.justice) in let s = flat_map lines_text p.justice in let f = lines_text p.fairness in
    let sets = each_written Lines (AllByRecursion IsFileNumber) lines_text lines_written p.justice ((rec_all_sets IsFileNumber p.justice).1 w.justice) in (
      o,
      b ++ (c ++ ((n ++ s) ++ f)),
      simp append_assoc,
      lines p.outputs w.outputs,
      (
        b,
        c ++ ((n ++ s) ++ f),
        refl,
        lines p.bads w.bads,
        (c, (n ++ s) ++ f, refl, lines p.constraints w.constraints, (n ++ s, f, refl, (n, s, refl, lines_written (map length p.justice) small, sets), lines p.fairness w.fairness)),
      ),
    )

regrouped : (a b c d e f : List ℕ) → a ++ b ++ c ++ d ++ e ++ f ≡ (a ++ (b ++ (c ++ (d ++ e)))) ++ f
regrouped a b c d e f = simp append_assoc

pub spelling_spells : (f : File) → CanWrite f → Spells f (file_text f)
unfolding file_text
spelling_spells f w =
    let a = header_line_of f in let b = inputs_text f.kind f.inputs in let c = flat_map (latch_text f.kind) f.latches in let d = properties_text f.properties in
    let k = flat_map (gate_text f.kind) f.gates in let l = flat_map name_text f.names in
    record {
      sections = (
        a ++ (b ++ (c ++ (d ++ k))),
        l,
        regrouped a b c d k l,
        (
          a,
          b ++ (c ++ (d ++ k)),
          refl,
          header_written f.kind (header_of f) w.header,
          (
            b,
            c ++ (d ++ k),
            refl,
            inputs_written f.kind f.inputs w.inputs,
            (
              c,
              d ++ k,
              refl,
              each_written (Latch f.kind) LatchSmall (latch_text f.kind) (latch_written f.kind) f.latches w.latches,
              (d, k, refl, properties_written f.properties w.properties w.sizes, each_written (Gate f.kind) GateSmall (gate_text f.kind) (gate_written f.kind) f.gates w.gates),
            ),
          ),
        ),
        (l, [], sym (append-nil l), each_written Name NameSmall name_text name_written f.names w.names, tt),
      );
      placed = w.placed;
    }
