-- Signatures that are compared.
use Rattle.std.proofs.Common.{◌≡◌, sym, subst, true}
use Rattle.som_model.specs.declared.class.Sig.{Sig}
use Rattle.som_model.specs.Same.{same_sig}
use Rattle.som_model.proofs.SameLaws.{exact_sigs}
use Rattle.som_model_laws.proofs.Members.{both_or_none}

turned : (a b : Sig) → same_sig a b ≡ true → same_sig b a ≡ true
turned a b e = subst (λ z. same_sig b z ≡ true) (sym (exact_sigs.two a b e)) (exact_sigs.one b)

pub sig_sym : (a b : Sig) → same_sig a b ≡ same_sig b a
sig_sym a b = both_or_none (same_sig a b) (same_sig b a) (turned a b) (turned b a)
