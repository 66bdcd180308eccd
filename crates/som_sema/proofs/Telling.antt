-- What rules tell one after the other.
use Rattle.std.proofs.Common.{◌≡◌, Option, None, Result, Err, sym, ap, subst, ◌∙◌}
use Rattle.som_model.specs.Lists.{or_else}
use Rattle.som_model.specs.Rules.{RuleBreach}
use Rattle.som_verify_classes.specs.declared.types.VerifyFault.{VerifyFault}
use Rattle.som_verify_classes.specs.declared.types.VerifyFault.TheVariants as faults
use Rattle.som_verify_classes.specs.Told.{Tells}

-- the first rules are kept, and a later one is told
pub later : (a b : Option RuleBreach) (e : VerifyFault) → a ≡ None → Tells {A = Unit {0}} b (Err e) → Tells {A = Unit {0}} (or_else a b) (Err e)
later a b (faults.Rule x) n t = ap (λ z. or_else z b) n ∙ t
later a b faults.NoMemory n t = tt

-- the first rule is told
pub here : (a b : Option RuleBreach) (e : VerifyFault) → Tells {A = Unit {0}} a (Err e) → Tells {A = Unit {0}} (or_else a b) (Err e)
here a b (faults.Rule x) t = ap (λ z. or_else z b) t
here a b faults.NoMemory t = tt

-- what is told of one breach is told of the other, if they are one
pub told_as : (a b : Option RuleBreach) (e : VerifyFault) → a ≡ b → Tells {A = Unit {0}} a (Err e) → Tells {A = Unit {0}} b (Err e)
told_as a b (faults.Rule x) same t = sym same ∙ t
told_as a b faults.NoMemory same t = tt

-- the first rules are kept, and what is told of the later ones is told of all
pub after_none : {A : Type 0} (a b : Option RuleBreach) (r : Result A VerifyFault) → a ≡ None → Tells b r → Tells (or_else a b) r
after_none a b r n t = subst (λ (o : Option RuleBreach). Tells o r) (sym (ap (λ (z : Option RuleBreach). or_else z b) n)) t
