-- Modifiers that say how a method is called.
use Rattle.std.proofs.Common.{◌≡◌, ℕ, Bool, true, false, not, ◌&&◌, if◌then◌else◌, List, Result, Ok, Err, refl, sym, subst}
use Rattle.std.specs.Prelude.{IfOk}
use Rattle.som_model.specs.declared.memory.NoMemory.{NoMemory}

pub may_call : (r : Result Bool NoMemory) (own called : Bool) → own ≡ true → IfOk r (λ b. b ≡ not called) → IfOk r (λ b. b ≡ (own && not called))
may_call r own called e h = subst (λ (o : Bool). IfOk r (λ b. b ≡ (o && not called))) (sym e) h

pub may_not : (own called : Bool) → own ≡ false → false ≡ (own && not called)
may_not true called e = absurd (cc)
may_not false called e = refl

pub called_more : (r : Result Bool NoMemory) (seen more called : List (List ℕ)) → IfOk r (λ b. seen ≡ (if b then more else called)) → IfOk r (λ b. b ≡ true → seen ≡ more)
called_more (Ok true) seen more called h = λ e. h
called_more (Ok false) seen more called h = λ e. absurd (cc)
called_more (Err x) seen more called h = h
