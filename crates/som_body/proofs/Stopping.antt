-- Why reading stopped, where that is known.
use Rattle.std.proofs.Common.{◌≡◌, ◌≢◌, List, Err, sym, ◌∙◌, subst}
use Rattle.som_parse.specs.Readers.{Outcome}
use Rattle.som_parse.specs.declared.cursor.Stop.{Stop}
use Rattle.som_parse.specs.declared.cursor.Stop.TheVariants.{Memory}
use Rattle.som_parse.specs.declared.token.Token.{Token}

pub stops_as : {A : Type 0} {o : Outcome A} {z : List Token} (f g : Stop) → f ≡ g → g ≢ Memory → (f ≢ Memory → o ≡ Err (f, z)) → o ≡ Err (g, z)
stops_as {o = o} {z = z} f g e n h = subst (λ x. o ≡ Err (x, z)) e (h (λ m. n (sym e ∙ m)))
