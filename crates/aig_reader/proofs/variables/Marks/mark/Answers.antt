use Rattle.aig_base.proofs.Words.{◌+◌, ◌/◌, ◌∙◌, ◌||◌, ℕ, Bool, List, refl, sym, ap, arith, ◌==◌, with_items_is, err_from_is_err_and}
use Rattle.aig_ordering.specs.Bits.{bit_is_set}
use Rattle.aig_reader.proofs.Defined.{marked_again, marked_more}
use Rattle.aig_reader.proofs.variables.Marks.mark.Goals as goal

pub returns-clause-within : goal.returns-clause-within
returns-clause-within c = λ h. c.cover.ensures.within (c.args.self.now.greatest / 64 + 1) (omega arith) h

pub returns-then-has_bit-clause-within : goal.returns-then-has_bit-clause-within
returns-then-has_bit-clause-within c = λ h. c.cover.ensures.within (c.args.self.now.greatest / 64 + 1) (omega arith) h

pub returns-in_err-cover-clause-within : goal.returns-in_err-cover-clause-within
returns-in_err-cover-clause-within c = λ h. c.cover.ensures.within (c.args.self.now.greatest / 64 + 1) (omega arith) h

pub returns-then-has_bit-clause-exact : goal.returns-then-has_bit-clause-exact
returns-then-has_bit-clause-exact c = λ greatest before h.
    let marked = c.deref.ensures.value in
    let set = sym (c.in_ok-cover.ensures.same (c.args.literal / 2)) ∙ sym (ap (λ (words : List ℕ). bit_is_set words (c.args.literal / 2)) marked) ∙ sym c.has_bit.ensures ∙ c.if-has_bit.true in
    marked_again greatest before c.args.literal c.args.self.now h (omega (arith, c.if-literal-ne0.false)) (omega (arith, c.if-variable-eq0.false)) (omega (arith, c.if-variable-self.false)) set

pub returns-clause-exact : goal.returns-clause-exact
returns-clause-exact c = λ greatest before h.
    let marked = c.deref.ensures.value in
    let same = c.in_ok-cover.ensures.same in
    let clear = sym (same (c.args.literal / 2)) ∙ sym (ap (λ (words : List ℕ). bit_is_set words (c.args.literal / 2)) marked) ∙ sym c.has_bit.ensures ∙ c.if-has_bit.false in
    let marks = c.cover.new.marked in
    let all = with_items_is marks c.set_bit.new.words (omega (arith, c.set_bit.auto.words, c.deref_mut.ensures.len)) in
    let sets = λ (v : ℕ). ap (λ (words : List ℕ). bit_is_set words v) all ∙ c.set_bit.ensures v ∙ ap (λ (words : List ℕ). bit_is_set words v || v == c.args.literal / 2) c.deref_mut.ensures.value ∙ ap (λ (b : Bool). b || v == c.args.literal / 2) (same v) in
    marked_more greatest before c.args.literal c.args.self.now h (omega (arith, c.if-literal-ne0.false)) (omega (arith, c.if-variable-eq0.false)) (omega (arith, c.if-variable-self.false)) _ refl clear sets

pub returns-in_err-cover-clause-exact : goal.returns-in_err-cover-clause-exact
returns-in_err-cover-clause-exact c = λ greatest before h.
    let p = err_from_is_err_and c.from_residual.result c.from_residual.ensures.1 in
    rw (p.1, p.2) tt
