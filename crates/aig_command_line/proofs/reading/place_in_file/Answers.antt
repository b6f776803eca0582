use Rattle.std.proofs.Common.{inl, inr}
use Rattle.aig_command_line.proofs.reading.place_in_file.Goals as goal

pub returns-in-Some-Ok : goal.returns-in-Some-Ok
returns-in-Some-Ok g c =
    elim c.place_by_bytes.ensures [
      | inl whole ↦ inl whole
      | inr refused ↦ inr record {
        source = c.in-Some-Ok.file;
        opened = rw c.in-Some-Ok.field-0-is
            at c.in-Some-Ok.ensures;
        refused = refused;
      }
    ]
