use Rattle.aig_witness.proofs.showing.witnesses_are_unsafe.Goals as goal

pub returns : goal.returns
returns c = λ f w shows safe. let run = shows.there in safe (run.0, (shows.each run.0 run.1 run.2).0)
