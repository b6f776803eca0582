use Rattle.aig_base.proofs.Words.{ap, ◌∙◌, take}
use Rattle.std.proofs.lemmas.List.{take_min}
use Rattle.aig_refutation.specs.Binary.{groups_in}
use Rattle.aig_refutation.specs.Forms.{Letter, are_steps}
use Rattle.aig_refutation.proofs.form.has_steps.Goals as goal

pub returns : goal.returns
returns c =
    c.are_steps.ensures
    ∙ ap (λ bytes. are_steps c.args.numbered Letter (groups_in bytes))
    (ap (λ n. take n c.args.front.now) c.min.ensures ∙ take_min 1024 c.args.front.now)
