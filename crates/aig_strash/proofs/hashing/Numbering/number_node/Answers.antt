use Rattle.std.proofs.Common.{◌+◌, arith, subst, sym, ◌∙◌}
use Rattle.aig_strash.specs.Numbering.{HasGates}
use Rattle.aig_strash.specs.Tables.{number_table}
use Rattle.aig_strash.proofs.Numbered.{count-more, count-same, image-before, images-more, kept_before-few}
use Rattle.aig_strash.proofs.hashing.Numbering.number_node.Goals as goal

pub push-requires : goal.push-requires
push-requires c =
    let nodes = c.args.nodes.now in
    let below = image-before nodes c.requires.nodes c.args.n (c.args.n + 1) (omega arith) (omega arith) in
    let few = kept_before-few nodes c.requires.nodes (c.args.n + 1) (omega arith) in
    omega (arith, c.in_ok-number.ensures.number, c.in_ok-number.ensures.limit, c.requires.so_far.limit)

pub overflow_add-self : goal.overflow_add-self
overflow_add-self c =
    let few = kept_before-few c.args.nodes.now c.requires.nodes c.args.n (omega arith) in
    omega (arith, c.in_ok-number.ensures.count, c.requires.so_far.count)

pub returns-then-number-self : goal.returns-then-number-self
returns-then-number-self c =
    let nodes = c.args.nodes.now in
    let n = c.args.n in
    let are = c.requires.nodes in
    let made = c.in_ok-number.ensures in
    let pushed = c.in_ok-push.ensures in
    record {
      numbers = images-more nodes are n c.requires.there (number_table c.new_number.new.self.tables) (number_table c.push.new.self) c.in_ok-number.number (made.numbers ∙ c.requires.so_far.numbers) made.number pushed.numbers;
      count = omega (arith, made.count, c.requires.so_far.count, count-more nodes are n c.requires.there (omega (arith, made.number, made.count, c.requires.so_far.count)));
      gates = subst (HasGates nodes (n + 1)) (sym pushed.gates) made.gates;
      limit = omega (arith, pushed.limit, made.limit, c.requires.so_far.limit);
    }

pub returns-else-number-self : goal.returns-else-number-self
returns-else-number-self c =
    let nodes = c.args.nodes.now in
    let n = c.args.n in
    let are = c.requires.nodes in
    let made = c.in_ok-number.ensures in
    let pushed = c.in_ok-push.ensures in
    record {
      numbers = images-more nodes are n c.requires.there (number_table c.new_number.new.self.tables) (number_table c.push.new.self) c.in_ok-number.number (made.numbers ∙ c.requires.so_far.numbers) made.number pushed.numbers;
      count = omega (arith, made.count, c.requires.so_far.count, count-same nodes are n c.requires.there (λ e. c.if-number-self.false (omega (arith, e, made.number, made.count, c.requires.so_far.count))));
      gates = subst (HasGates nodes (n + 1)) (sym pushed.gates) made.gates;
      limit = omega (arith, pushed.limit, made.limit, c.requires.so_far.limit);
    }
