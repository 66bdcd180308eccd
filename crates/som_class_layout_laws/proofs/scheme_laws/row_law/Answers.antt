use Rattle.som_class_layout_laws.proofs.Rows.{cell_answers, has_token}
use Rattle.som_class_layout_laws.specs.Schemes.{numbered, scheme_of}
use Rattle.som_class_layout_laws.proofs.Scheme.{is_scheme}
use Rattle.som_class_layout_laws.proofs.scheme_laws.row_law.Goals as goal

pub returns-clause-token : goal.returns-clause-token
returns-clause-token c = λ cs ks ok b rows laid n t has is d. has_token (scheme_of (numbered cs ks)) (is_scheme cs ks ok) b rows laid n t has is d

pub returns-clause-body : goal.returns-clause-body
returns-clause-body c = λ cs ks ok b rows laid n t has is d x e. cell_answers (scheme_of (numbered cs ks)) (is_scheme cs ks ok) b rows laid n t has is d x e
