use Rattle.som_code_cache.proofs.Consequences.{body_own, each_naming, each_signed, each_sound, main_own}
use Rattle.som_code_cache.proofs.laws.codes_law.Goals as goal

pub returns-clause-naming : goal.returns-clause-naming
returns-clause-naming c k others main cs n x is loads a e = each_naming k others main is loads cs a n x e

pub returns-clause-signed : goal.returns-clause-signed
returns-clause-signed c k others main cs n x is loads a e = each_signed k others main is loads cs a n x e

pub returns-clause-own : goal.returns-clause-own
returns-clause-own c k others main cs n b code is loads a e = body_own k others main is loads cs a n b code e

pub returns-clause-main : goal.returns-clause-main
returns-clause-main c k others main cs n code is loads a e = main_own k others main is loads cs a n code e

pub returns-clause-sound : goal.returns-clause-sound
returns-clause-sound c k main cs n x a e = each_sound k main cs n x a e
