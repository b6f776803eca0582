use Rattle.aig_base.proofs.Words.{[], ◌∷◌, rules, codes}
use Rattle.aig_output.proofs.Putting.{Buffers-trans, failed_among, failed_first, then_call}
use Rattle.aig_edits.specs.Info.{count_line}
use Rattle.aig_edits.proofs.info.write_lines.Goals as goal

pub returns-in_err-write_count : goal.returns-in_err-write_count
returns-in_err-write_count g c =
    let counts = c.args.counts.now in
    failed_first (count_line (codes "latches ") counts.latches ∷ count_line (codes "outputs ")
    counts.outputs ∷ count_line (codes "gates ") counts.gates ∷ count_line (codes "bads ")
    counts.bads ∷ count_line (codes "constraints ") counts.constraints ∷ count_line (codes
    "justice ") counts.justice ∷ count_line (codes "fairness ") counts.fairness ∷ count_line
    (codes "levels ") counts.levels ∷ []) c.in_err-write_count.ensures (search rules)

pub returns-in_err-write_count-2 : goal.returns-in_err-write_count-2
returns-in_err-write_count-2 g c =
    let counts = c.args.counts.now in
    failed_among (count_line (codes "outputs ") counts.outputs ∷ count_line (codes "gates ")
    counts.gates ∷ count_line (codes "bads ") counts.bads ∷ count_line (codes "constraints ")
    counts.constraints ∷ count_line (codes "justice ") counts.justice ∷ count_line (codes
    "fairness ") counts.fairness ∷ count_line (codes "levels ") counts.levels ∷ [])
    c.in_ok-write_count.ensures.ok c.in_err-write_count-2.ensures (search rules)

pub returns-in_err-write_count-3 : goal.returns-in_err-write_count-3
returns-in_err-write_count-3 g c =
    let counts = c.args.counts.now in
    failed_among (count_line (codes "gates ") counts.gates ∷ count_line (codes "bads ") counts.bads
    ∷ count_line (codes "constraints ") counts.constraints ∷ count_line (codes "justice ")
    counts.justice ∷ count_line (codes "fairness ") counts.fairness ∷ count_line (codes
    "levels ") counts.levels ∷ []) (Buffers-trans c.in_ok-write_count.ensures.ok
    c.in_ok-write_count-2.ensures.ok) c.in_err-write_count-3.ensures (search rules)

pub returns-in_err-write_count-4 : goal.returns-in_err-write_count-4
returns-in_err-write_count-4 g c =
    let counts = c.args.counts.now in
    failed_among (count_line (codes "bads ") counts.bads ∷ count_line (codes "constraints ")
    counts.constraints ∷ count_line (codes "justice ") counts.justice ∷ count_line (codes
    "fairness ") counts.fairness ∷ count_line (codes "levels ") counts.levels ∷ [])
    (Buffers-trans (Buffers-trans c.in_ok-write_count.ensures.ok
    c.in_ok-write_count-2.ensures.ok) c.in_ok-write_count-3.ensures.ok)
    c.in_err-write_count-4.ensures (search rules)

pub returns-in_err-write_count-5 : goal.returns-in_err-write_count-5
returns-in_err-write_count-5 g c =
    let counts = c.args.counts.now in
    failed_among (count_line (codes "constraints ") counts.constraints ∷ count_line (codes
    "justice ") counts.justice ∷ count_line (codes "fairness ") counts.fairness ∷ count_line
    (codes "levels ") counts.levels ∷ []) (Buffers-trans (Buffers-trans (Buffers-trans
    c.in_ok-write_count.ensures.ok c.in_ok-write_count-2.ensures.ok)
    c.in_ok-write_count-3.ensures.ok) c.in_ok-write_count-4.ensures.ok)
    c.in_err-write_count-5.ensures (search rules)

pub returns-in_err-write_count-6 : goal.returns-in_err-write_count-6
returns-in_err-write_count-6 g c =
    let counts = c.args.counts.now in
    failed_among (count_line (codes "justice ") counts.justice ∷ count_line (codes "fairness ")
    counts.fairness ∷ count_line (codes "levels ") counts.levels ∷ []) (Buffers-trans
    (Buffers-trans (Buffers-trans (Buffers-trans c.in_ok-write_count.ensures.ok
    c.in_ok-write_count-2.ensures.ok) c.in_ok-write_count-3.ensures.ok)
    c.in_ok-write_count-4.ensures.ok) c.in_ok-write_count-5.ensures.ok)
    c.in_err-write_count-6.ensures (search rules)

pub returns-in_err-write_count-7 : goal.returns-in_err-write_count-7
returns-in_err-write_count-7 g c =
    let counts = c.args.counts.now in
    failed_among (count_line (codes "fairness ") counts.fairness ∷ count_line (codes "levels ")
    counts.levels ∷ []) (Buffers-trans (Buffers-trans (Buffers-trans (Buffers-trans
    (Buffers-trans c.in_ok-write_count.ensures.ok c.in_ok-write_count-2.ensures.ok)
    c.in_ok-write_count-3.ensures.ok) c.in_ok-write_count-4.ensures.ok)
    c.in_ok-write_count-5.ensures.ok) c.in_ok-write_count-6.ensures.ok)
    c.in_err-write_count-7.ensures (search rules)

pub returns-in_err-write_count-8 : goal.returns-in_err-write_count-8
returns-in_err-write_count-8 g c =
    let counts = c.args.counts.now in
    failed_among (count_line (codes "levels ") counts.levels ∷ []) (Buffers-trans (Buffers-trans
    (Buffers-trans (Buffers-trans (Buffers-trans (Buffers-trans c.in_ok-write_count.ensures.ok
    c.in_ok-write_count-2.ensures.ok) c.in_ok-write_count-3.ensures.ok)
    c.in_ok-write_count-4.ensures.ok) c.in_ok-write_count-5.ensures.ok)
    c.in_ok-write_count-6.ensures.ok) c.in_ok-write_count-7.ensures.ok)
    c.in_err-write_count-8.ensures (search rules)

pub returns : goal.returns
returns g c = then_call (Buffers-trans (Buffers-trans (Buffers-trans (Buffers-trans (Buffers-trans
    (Buffers-trans (Buffers-trans c.in_ok-write_count.ensures.ok c.in_ok-write_count-2.ensures.ok)
    c.in_ok-write_count-3.ensures.ok) c.in_ok-write_count-4.ensures.ok)
    c.in_ok-write_count-5.ensures.ok) c.in_ok-write_count-6.ensures.ok)
    c.in_ok-write_count-7.ensures.ok) c.in_ok-write_count-8.ensures.ok) c.write_count-9.ensures
