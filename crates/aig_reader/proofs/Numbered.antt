-- What the numbering of variables answers, and the tests of sections, joined.
use Rattle.aig_base.proofs.Words.{◌≡◌, ℕ, ◌/◌, Bool, true, false, ◌&&◌, List, [], ◌∷◌, ◌++◌, map, Result, Ok, Err, refl, sym, ap, subst, ◌∙◌, flat_map, and_right, list_all-append}
use Rattle.aig_circuit.specs.Properties.{Properties, entries_of}
use Rattle.aig_format.proofs.Words.{LatchLine, GateLine, File, is_known, uses_known}
use Rattle.aig_lexer.specs.declared.error.LineError.{LineError}
use Rattle.aig_lexer.specs.declared.error.LineError.TheVariants as line
use Rattle.aig_lexer.specs.Faults.{Tested}
use Rattle.aig_lexer.proofs.Faults.{tells-weaker}
use Rattle.aig_ordering.specs.Tables.{order_cause}
use Rattle.aig_reader.specs.declared.error.ReadError.{ReadError}
use Rattle.aig_reader.specs.declared.error.Section.TheVariants.{Gates}
use Rattle.aig_reader.specs.Faults.{error_in, result_by, section_cause}
use Rattle.aig_reader.specs.Numbered.{have_operands, knows, knows_lists, knows_properties}

-- ---- answers

-- what the gates' order answers, as an answer of the file
pub in_gates : {X : Type 0} (test : Bool) (P : X → Type 0) (lines : Result X LineError)
    (result : Result X ReadError) → result ≡ result_by (error_in Gates) lines
    → Tested order_cause test P lines → Tested section_cause test P result
in_gates {X} test P lines result is h = subst (Tested section_cause test P) (sym is) (go lines h)
  where
    go : (lines : Result X LineError) → Tested order_cause test P lines
        → Tested section_cause test P (result_by (error_in Gates) lines)
    go (Ok x) h = h
    go (Err line.Memory) h = tt
    go (Err line.Stream) h = absurd h
    go (Err line.Syntax) h = absurd h
    go (Err line.Literal) h = h

-- an answer judged by the same test, and by what it then says
pub rejudged : {X : Type 0} (s t : Bool) (P Q : X → Type 0) → s ≡ t
    → ((x : X) → t ≡ true → P x → Q x) → (result : Result X LineError)
    → Tested order_cause s P result → Tested order_cause t Q result
rejudged s t P Q same says (Ok x) h = let passed : t ≡ true = sym same ∙ h.0 in (passed, says x passed h.1)
rejudged s t P Q same says (Err e) h = tells-weaker (order_cause e) _ _ false (λ (no : s ≡ false). sym same ∙ no) h

-- ---- tests of sections

module _ (f : File) where
  abbrev knows_one : ℕ → Bool
  knows_one e = is_known f (e / 2)

  abbrev p : Properties ℕ
  p = f.properties

  abbrev sets : List ℕ
  sets = flat_map (λ s. s) p.justice

  joined : (xs ys : List ℕ) → knows f (xs ++ ys) ≡ knows f xs && knows f ys
  joined xs ys = list_all-append knows_one xs ys

  pub knows_properties-is : knows_properties f ≡ knows f p.outputs && knows f p.bads
      && knows f p.constraints && knows f sets && knows f p.fairness
  knows_properties-is =
      joined (p.outputs ++ p.bads ++ p.constraints ++ sets) p.fairness
      ∙ ap (λ b. b && knows f p.fairness) (joined (p.outputs ++ p.bads ++ p.constraints) sets ∙ ap (λ b. b && knows f sets) (joined (p.outputs ++ p.bads) p.constraints ∙ ap (λ b. b && knows f p.constraints) (joined p.outputs p.bads)))

  uses_known-is : uses_known f ≡ knows_lists f && have_operands f
  uses_known-is =
      let nexts = map (λ (l : LatchLine). l.next) f.latches in
      let operands = flat_map (λ (g : GateLine). g.rhs0 ∷ g.rhs1 ∷ []) f.gates in
      joined (nexts ++ entries_of p) operands ∙ ap (λ b. b && knows f operands) (joined nexts (entries_of p))

  -- the test of a well-founded file, from those of lists and operands
  pub well_founded-is : (levels l o : Bool) → knows_lists f ≡ l → have_operands f ≡ o
      → (uses_known f && levels) ≡ (l && o) && levels
  well_founded-is levels l o hl ho = ap (λ b. b && levels) (uses_known-is ∙ ap (λ b. b && have_operands f) hl ∙ ap (λ b. l && b) ho)

-- a test of levels and operands that fails
pub no_nodes : (levels a o : Bool) → (levels && o) ≡ false → ((a && o) && levels) ≡ false
no_nodes true true o h = ap (λ b. b && true) h
no_nodes true false o h = refl
no_nodes false a o h = and_right (a && o) false refl

-- a test of lists and resets that fails
pub no_lists : (l o levels r : Bool) → (l && r) ≡ false → (((l && o) && levels) && r) ≡ false
no_lists true o levels r h = and_right (o && levels) r h
no_lists false o levels r h = refl
