-- A text that goes to a formatter.
use Rattle.aig_base.proofs.Words.{List, ℕ, Result, Ok, Err, sym, subst, OnOk, false≢true}
use Rattle.std.specs.Fmt.{HasWrittenStyled, IsDefaultSpec, IsFlush, WritesInCalls, WritesOnOk, WritesStyledOnOk}
use Rattle.std.specs.declared.fmt.Error.{Error}
use Rattle.std.specs.declared.fmt.Formatter.{Formatter}
use Rattle.std.proofs.Output.{has_written_styled_append, has_written_styled_nil}
use Rattle.aig_output.proofs.Writing.{WritingLaws, all_written}

-- if the formatter indents nothing, the text was written, whatever its options
abbrev pub Prints : {W : Type 0} → (W → List ℕ → W → Type 0) → Formatter W → List ℕ → Formatter W → Type 0
Prints took f text g = IsFlush f → HasWrittenStyled took f text g

printing_laws : {W : Type 0} (took : W → List ℕ → W → Type 0) → WritingLaws (Prints took) (λ (f : Formatter W) (text : List ℕ) (g : Formatter W). Unit {0})
printing_laws took = record {
  none = has_written_styled_nil took;
  join = λ f g h s t first second flush. let one = first flush in has_written_styled_append took f s g t h one (second one.flush);
  stop = λ f g h s t first second. tt;
  before = λ f g s t h. tt;
}

-- a text whose pieces are printed is written whatever the options are
pub WritesStyledOnOk-from_pieces : {W : Type 0} {took : W → List ℕ → W → Type 0} {f g : Formatter W} (r : Result (Unit {0}) Error) {text : List ℕ} → OnOk r (WritesInCalls (Prints took) f text g) → WritesStyledOnOk took f r text g
WritesStyledOnOk-from_pieces {took = took} (Ok x) printed flush ok = all_written (printing_laws took) printed flush
WritesStyledOnOk-from_pieces (Err e) printed flush none = absurd (false≢true none)

-- what is written whatever the options are is written by a plain formatter, which stays plain
pub WritesOnOk-from_styled : {W : Type 0} (took : W → List ℕ → W → Type 0) (f g : Formatter W) (r : Result (Unit {0}) Error) (text : List ℕ) → WritesStyledOnOk took f r text g → WritesOnOk took f r text g
WritesOnOk-from_styled took f g r text styled plain ok =
    let one = styled plain.flush ok in
    record { wrote = one.wrote; plain = record { bare = subst IsDefaultSpec (sym one.spec) plain.bare; flush = one.flush } }
