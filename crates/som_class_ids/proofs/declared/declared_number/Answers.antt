use Rattle.std.proofs.Common.{◌≡◌, ◌<◌, ◌∙◌, ap, sym, subst, length, ℕ}
use Rattle.std.specs.Option.{IfNone, IfSome}
use Rattle.som_model.specs.declared.key.ClassKey.{ClassKey, out-ClassKey}
use Rattle.som_model.specs.declared.key.ClassKey.TheOpen.{ClassKey-F}
use Rattle.som_model.specs.declared.key.ClassKey.TheVariants as keys
use Rattle.som_model.specs.Lists.{Mem}
use Rattle.som_model.specs.Loads.{keys_of}
use Rattle.som_class_ids.specs.Classes.{classes_of}
use Rattle.som_class_ids.specs.Numbers.{at}
use Rattle.som_class_ids.proofs.Declaring.{found_none, found_some, not_declared}
use Rattle.som_class_ids.proofs.Adding.{out_derived, out_proxy}
use Rattle.som_class_ids.proofs.declared.declared_number.Goals as goal

pub returns-in-Named-clause-some : goal.returns-in-Named-clause-some
returns-in-Named-clause-some c =
    subst (λ (z : ClassKey). IfSome c.find_named.result (λ (n : ℕ). (n < length c.args.classes.now) × (at (keys_of (classes_of c.args.classes.now)) n ≡ z))) (sym c.in-Named.is)
    (found_some c.args.classes.now (keys.Named c.in-Named.home c.in-Named.name) c.find_named.result c.find_named.ensures.some)

pub returns-in-Named-clause-none : goal.returns-in-Named-clause-none
returns-in-Named-clause-none c =
    subst (λ (z : ClassKey). IfNone c.find_named.result (Mem z (keys_of (classes_of c.args.classes.now)) → ⊥)) (sym c.in-Named.is)
    (found_none c.args.classes.now c.requires.declared c.in-Named.home c.in-Named.name c.find_named.result c.find_named.ensures.none)

pub returns-in-Derived-clause-none : goal.returns-in-Derived-clause-none
returns-in-Derived-clause-none c = not_declared c.args.classes.now c.requires.declared c.args.key.now (ClassKey-F.Derived c.in-Derived.parents) (ap out-ClassKey c.in-Derived.is ∙ out_derived c.in-Derived.parents) (λ m x e. cc)

pub returns-in-Proxy-clause-none : goal.returns-in-Proxy-clause-none
returns-in-Proxy-clause-none c = not_declared c.args.classes.now c.requires.declared c.args.key.now (ClassKey-F.Proxy c.in-Proxy.of) (ap out-ClassKey c.in-Proxy.is ∙ out_proxy c.in-Proxy.of) (λ m x e. cc)
