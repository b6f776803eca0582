use Rattle.aig_witness.proofs.fair.laws.shown_lassos_are_fair.Goals as goal

pub returns : goal.returns
returns c = λ f w l shows.
    let run = shows.there in
    (shows.asked.0, shows.asked.1, (l, run.0, shows.each run.0 run.1 run.2))
