-- The kernel's methods that a run calls by itself are entries of the kernel's classes, none of them moved.
use Rattle.std.proofs.Common.{◌≡◌, ℕ, inl, inr, List, ◌++◌, None, IsSome, refl, sym, ap, ◌∙◌, subst}
use Rattle.som_model.specs.declared.key.Module.TheVariants as modules
use Rattle.som_model.specs.declared.key.MethodRef.{MethodRef}
use Rattle.som_model.specs.Lists.{Mem}
use Rattle.som_model.specs.Class.{Class, bare, class_in, entry_of, introduced_sig}
use Rattle.som_model.specs.Classes.{hierarchy}
use Rattle.som_model.specs.Kernel.{kernel, before_after_face, class_face, object_face, som_init, som_uninit, som_free, som_dispatch_name, som_new, before_method, after_method}
use Rattle.som_model.specs.Loads.{IsOrdered}
use Rattle.som_model.specs.Owner.{owner, sig_of}
use Rattle.som_model_laws.proofs.Members.{mem_left}
use Rattle.som_model_laws.proofs.Owners.{entry_is, moved_to, stays}
use Rattle.som_model_laws.proofs.Standing.{found}
use Rattle.som_machine_laws.specs.Naming.{HasEntry, kernel_calls}

abbrev pub object_class : Class
object_class = class_in modules.Kernel (bare object_face)

abbrev class_class : Class
class_class = class_in modules.Kernel (bare class_face)

abbrev hook_class : Class
hook_class = class_in modules.Kernel (bare before_after_face)

module _ (cs : List Class) (o : IsOrdered cs) where
  abbrev all : List Class
  all = kernel ++ cs

  pub record IsOwn (r : MethodRef) : Type 0 where
    pub entry : HasEntry all r
    pub owner : owner all r ≡ r
    pub sig : IsSome (sig_of all r)

  own : (c : Class) (name : List ℕ) → Mem c kernel → IsSome (entry_of c.decl.face.entries name) → moved_to (entry_of c.decl.face.entries name) ≡ None → IsSome (introduced_sig (entry_of c.decl.face.entries name)) → IsOwn (record { class = c.key; name = name })
  own c name m e f g =
      let r : MethodRef = record { class = c.key; name = name } in
      let is = entry_is all c.key name c (found cs o c c.key (mem_left c kernel cs m) refl) in
      record {
        entry = subst (λ z. IsSome z) (sym is) e;
        owner = stays all ((hierarchy all).height c.key) r (ap moved_to is ∙ f);
        sig = subst (λ z. IsSome (introduced_sig z)) (sym is) g;
      }

  pub kernel_own : (r : MethodRef) → Mem r kernel_calls → IsOwn r
  kernel_own r (inl e) = subst IsOwn (sym e) (own class_class som_new.name (inr (inl refl)) refl refl refl)
  kernel_own r (inr (inl e)) = subst IsOwn (sym e) (own object_class som_init.name (inl refl) refl refl refl)
  kernel_own r (inr (inr (inl e))) = subst IsOwn (sym e) (own object_class som_uninit.name (inl refl) refl refl refl)
  kernel_own r (inr (inr (inr (inl e)))) = subst IsOwn (sym e) (own object_class som_free.name (inl refl) refl refl refl)
  kernel_own r (inr (inr (inr (inr (inl e))))) = subst IsOwn (sym e) (own object_class som_dispatch_name.name (inl refl) refl refl refl)
  kernel_own r (inr (inr (inr (inr (inr (inl e)))))) = subst IsOwn (sym e) (own hook_class before_method.name (inr (inr (inr (inl refl)))) refl refl refl)
  kernel_own r (inr (inr (inr (inr (inr (inr (inl e))))))) = subst IsOwn (sym e) (own hook_class after_method.name (inr (inr (inr (inl refl)))) refl refl refl)
  kernel_own r (inr (inr (inr (inr (inr (inr (inr m))))))) = absurd m
