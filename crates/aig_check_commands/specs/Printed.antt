-- Part of what is promised.
-- How a command ends by what it makes of its files: by a text, which it writes, or by an error.
use Rattle.std.specs.Prelude.{◌≡◌, ℕ, Bool, false, List, Option, Result, Ok, Err}
use Rattle.std.specs.Io.KnownBytes.{Appends}
use Rattle.aig_output.specs.Sinks.{Stops}
use Rattle.aig_check_commands.specs.declared.error.CheckError.{CheckError}
use Rattle.aig_check_commands.specs.declared.error.CheckError.TheVariants as errors

-- the text is written, and the writer has not failed, or a beginning of it is, and the writer has;
-- an error leaves the writer as it was
abbrev pub EndsWith : {W : Type 0} → (W → Option (List ℕ)) → (W → Bool)
    → Result (List ℕ) CheckError → W → Result Unit CheckError → W → Type 0
EndsWith held failed (Ok text) w (Ok done) made =
    Appends (held w) (held made) text × (failed made ≡ false)
EndsWith held failed (Ok text) w (Err e) made =
    (e ≡ errors.Write) × Stops (held w) (held made) (failed made) text
EndsWith held failed (Err e) w result made = (result ≡ Err e) × (made ≡ w)

-- it ends by an answer of which this holds: a text or an error
pub record Printed {W : Type 0} (held : W → Option (List ℕ)) (failed : W → Bool)
    (Holds : Result (List ℕ) CheckError → Type 0) (w : W) (result : Result Unit CheckError)
    (made : W) : Type 0 where
  pub answer : Result (List ℕ) CheckError
  pub holds : Holds answer
  pub ends : EndsWith held failed answer w result made
