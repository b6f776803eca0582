use Rattle.std.proofs.Common.{◌≡◌, ◌++◌, [], length, take, drop, refl, sym, ap, slice_index, rules, arith, ◌∙◌}
use Rattle.aig_base.proofs.Words.{false≢true, length-replicate, take-append-le, take_all}
use Rattle.aig_writer.proofs.Tables.{first_of_zeros, own_numbers}
use Rattle.aig_writer.proofs.numbering.binary_numbers.Goals as goal

pub returns-then-is_in_order-clause-numbers : goal.returns-then-is_in_order-clause-numbers
returns-then-is_in_order-clause-numbers c =
    let own = own_numbers c.args.circuit.now c.is_in_order.ensures.circuit c.requires (c.is_in_order.ensures.order.0 c.if-is_in_order.true) in
    let none : c.new.result.items ≡ [] = search rules in
    rw none own

pub returns-in_err-numbers-clause-no_memory : goal.returns-in_err-numbers-clause-no_memory
returns-in_err-numbers-clause-no_memory c = λ placed. absurd
    (false≢true (sym c.if-is_in_order.false ∙ c.is_in_order.ensures.order.1 placed))

pub fill_table-requires : goal.fill_table-requires
fill_table-requires c =
    let count = length c.nodes.result.now in
    let zeros = c.deref_mut.ensures.value ∙ c.in_ok-numbers.ensures.items_if_clones_equal
    (λ y same. same) in
    record {
      closed = c.requires;
      count = ap length zeros ∙ length-replicate count 0 ∙ ap length c.nodes.ensures.value;
      zero = ap (λ ns. slice_index ns 0) zeros ∙ first_of_zeros count;
    }

pub returns-clause-no_memory : goal.returns-clause-no_memory
returns-clause-no_memory c = λ placed. refl

pub returns-clause-numbers : goal.returns-clause-numbers
returns-clause-numbers c =
    let made = c.fill_table.new.numbers in
    let len = c.in_ok-numbers.numbers.len in
    let count : length made ≡ len = omega arith in
    let whole : take len (made ++ drop (length made) c.in_ok-numbers.numbers.items) ≡ made =
    take-append-le len made _ (omega arith) ∙ take_all len made (omega arith) in
    rw whole c.fill_table.ensures
