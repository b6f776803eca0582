-- Part of what is promised.
-- What a refusal is about, and how it is told.
use Rattle.std.specs.Prelude.{◌≡◌, ℕ, List, ◌++◌, Option, Some, None, codes, decimal}
use Rattle.std.specs.Fmt.{◌++?◌}
use Rattle.aig_command_line.specs.declared.fault.Fault.{Fault}
use Rattle.aig_command_line.specs.declared.fault.Fault.TheVariants.{Alone, In}
use Rattle.aig_command_line.specs.Shown.{shown_path}
use Rattle.aig_command_line.specs.declared.tally.Place.{Place}
use Rattle.aig_command_line.specs.declared.tally.Place.TheVariants as places

-- why something is refused
abbrev pub error_of : {E : Type 0} → Fault E → E
error_of (Alone e) = e
error_of (In path place e) = e

-- the path of the file that it is about
abbrev pub path_of : {E : Type 0} → Fault E → Option (List ℕ)
path_of (Alone e) = None
path_of (In path place e) = Some path.now

-- where in that file reading stopped
abbrev pub place_in : {E : Type 0} → Fault E → Place
place_in (Alone e) = places.Whole
place_in (In path place e) = place

-- it is about no file
abbrev pub IsAlone : {E : Type 0} → E → Fault E → Type 0
IsAlone e fault = fault ≡ Alone e

-- the text of a place, after that of the path
abbrev pub place_text : Place → List ℕ
place_text places.Whole = codes ": "
place_text (places.Line n) = codes ": line " ++ (decimal n ++ codes ": ")
place_text (places.Byte n) = codes ": byte " ++ (decimal n ++ codes ": ")

-- what is told: the path, with what isn't printable spelled out, the place and why
abbrev pub fault_text : {E : Type 0} → (E → Option (List ℕ)) → Fault E → Option (List ℕ)
fault_text text_of (Alone e) = text_of e
fault_text text_of (In path place e) =
    Some (shown_path path.now) ++? Some (place_text place) ++? text_of e
