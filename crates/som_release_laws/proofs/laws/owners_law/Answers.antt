use Rattle.std.proofs.Common.{[], sym, subst}
use Rattle.std.proofs.lemmas.List.{append-nil}
use Rattle.som_model.specs.Loads.{FacesLoad}
use Rattle.som_release_laws.proofs.KeptOwners.{once_kept}
use Rattle.som_release_laws.proofs.laws.owners_law.Goals as goal

pub returns : goal.returns
returns c = λ olds news fa fn keep once. once_kept olds news [] (subst FacesLoad (sym (append-nil olds)) fa) fn keep (λ c d m n e. n) once
