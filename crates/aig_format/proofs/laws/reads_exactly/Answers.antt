use Rattle.aig_base.proofs.Words.{sym, ◌∙◌, same_Some}
use Rattle.aig_format.specs.Parse.{no_tests}
use Rattle.aig_format.proofs.Files.{file_sound}
use Rattle.aig_format.proofs.AnyFile.{any_complete}
use Rattle.aig_format.proofs.laws.reads_exactly.Goals as goal

pub returns-clause-sound : goal.returns-clause-sound
returns-clause-sound c = λ bytes f h. (file_sound no_tests bytes f h).0

pub returns-clause-complete : goal.returns-clause-complete
returns-clause-complete c = any_complete

pub returns-clause-one : goal.returns-clause-one
returns-clause-one c = λ f g bytes p q. same_Some _ _ (sym (any_complete f bytes p) ∙ any_complete g bytes q)
