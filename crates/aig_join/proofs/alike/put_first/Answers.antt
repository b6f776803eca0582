use Rattle.aig_base.proofs.Words.{◌∙◌, Some, ap, bytes_eq, cond, is_some, string_bytes, sym}
use Rattle.std.proofs.lemmas.Map.Text.{hash_map_updates_text}
use Rattle.std.specs.HashMap.{get_by_text}
use Rattle.aig_join.proofs.Partners.{first-put}
use Rattle.aig_join.proofs.alike.put_first.Goals as goal

pub returns-in_ok-_older : goal.returns-in_ok-_older
returns-in_ok-_older c =
    let old = c.args.leaves.now in
    let new = c.insert.new.self in
    first-put (get_by_text old) (get_by_text new) (string_bytes c.args.name.now) c.args.leaf
    (sym (c.contains_key.ensures
    ∙ ap (λ bytes. is_some (get_by_text old bytes)) c.as_str.ensures.value)
    ∙ c.if-not-contains_key.true)
    (λ text. hash_map_updates_text (string_bytes c.in_ok-clone.field-0) old new _
    c.in_ok-_older.ensures.updates text
    ∙ ap (λ bytes. cond (bytes_eq bytes text) (Some c.args.leaf) (get_by_text old text))
    c.in_ok-clone.ensures.cases)
