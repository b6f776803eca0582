use Rattle.std.proofs.Common.{◌≡◌, ◌-◌, ◌*◌, ◌++◌, length, map}
use Rattle.std.specs.Prelude.{All}
use Rattle.aig_handles.specs.Simulating.{rows_of, values_of}
use Rattle.aig_handles.proofs.simulations.rows.Given as goal

abbrev pub invariant-loop-step : goal.invariant-loop-step
invariant-loop-step l =
    let left = l.steps - l.step in
    record {
      rows : map (λ row. row.items) l.rows.items ++ rows_of l.count left (values_of l.rest)
          ≡ rows_of l.count l.steps (values_of l.values);
      rest : length l.rest ≡ left * l.count;
      counts : All (λ row. length row.items ≡ l.count) l.rows.items;
    }
