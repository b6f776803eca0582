use Rattle.std.specs.Prelude.{option_map, string_bytes}
use Rattle.aig_base.proofs.Words.{Some, sym, ap, ◌∙◌, inl}
use Rattle.aig_handles.proofs.names.get_symbol.Goals as goal

pub returns-in-Ok-Some : goal.returns-in-Ok-Some
returns-in-Ok-Some c =
    inl (record {
      items = c.as_bytes.result.now;
      are = sym c.in-Ok-Some.ensures ∙ ap (option_map string_bytes) c.in-Ok-Some.field-0-is
          ∙ ap Some (sym c.as_bytes.ensures.value);
      given = c.give.ensures;
    })
