-- Part of what is promised.
-- How a program ends: its status, and what it tells.
use Rattle.std.specs.Prelude.{◌≡◌, ℕ, Bool, List, Option, Some, Result, Ok, Err, IfErr, IsTrue, OnOk, codes}
use Rattle.std.specs.Fmt.{◌++?◌}
use Rattle.aig_output.specs.Sinks.{WritesOrStops}
use Rattle.aig_command_line.specs.declared.status.Ending.{Ending}
use Rattle.aig_command_line.specs.declared.status.Ending.TheVariants.{Done, NoCommand, Refused}

-- how a command that was run ends the program
abbrev pub ended : {E : Type 0} → Result (Unit {0}) E → Ending E
ended (Ok done) = Done
ended (Err e) = Refused e

-- the same ending, and of a refusal what is made of its error
abbrev pub IsMapped : {E D : Type 0} → (E → D → Type 0) → Ending E → Ending D → Type 0
IsMapped Makes Done made = made ≡ Done
IsMapped {D} Makes (Refused e) made = (d : D) × (made ≡ Refused d) × Makes e d
IsMapped Makes NoCommand made = made ≡ NoCommand

-- a text is written and flushed, or a beginning of it is written, and the writer has failed
pub record WritesLine {W E : Type 0} (held : W → Option (List ℕ)) (write_failed flushed : W → Bool)
    (cause : E) (text : List ℕ) (w : W) (result : Result Unit E) (made : W) : Type 0 where
  pub writes : WritesOrStops held write_failed w result text made
  pub done : OnOk result (IsTrue (flushed made))
  pub fault : IfErr result (λ e. e ≡ cause)

-- the status of the process
abbrev pub status_of : {E : Type 0} → Ending E → ℕ
status_of Done = 0
status_of (Refused e) = 1
status_of NoCommand = 2

-- Nothing is told where the program is done, and else one line: its name and what it refused for,
-- or how it is used.
abbrev pub IsEnd : {T E : Type 0} → (T → Option (List ℕ) → T → Type 0)
    → (E → Option (List ℕ)) → List ℕ → List ℕ → Ending E → T → T → Type 0
IsEnd tells text_of program usage Done old new = new ≡ old
IsEnd tells text_of program usage (Refused e) old new =
    tells old (Some program ++? Some (codes ": ") ++? text_of e) new
IsEnd tells text_of program usage NoCommand old new = tells old (Some usage) new
