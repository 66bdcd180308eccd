-- How many classes are asked for a name, as a linked kernel counts them and as a runner asks.
use Rattle.std.proofs.Common.{◌≡◌, suc, Bool, if◌then◌else◌, List, [], ◌∷◌, refl, ap}
use Rattle.som_model.specs.declared.key.ClassKey.{ClassKey}
use Rattle.som_class_loaded.specs.Added.{count_to}
use Rattle.som_interp_state.specs.Asked.{asked_for}

pub asked_same : (f : ClassKey → Bool) (ks : List ClassKey) → count_to f ks ≡ asked_for f ks
asked_same f [] = refl
asked_same f (k ∷ ks) = ap (λ n. if f k then 1 else suc n) (asked_same f ks)
