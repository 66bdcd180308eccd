-- A signature has few parameters, since each entry of the interface and of the kernel has.
use Rattle.std.proofs.Common.{◌≡◌, ℕ, ◌<◌, ◌^◌, nat_lt, inl, inr, Bool, true, List, length, Option, Some, None, refl, ap, subst, arith}
use Rattle.std.proofs.lemmas.Grind.{common_steps}
use Rattle.som_model.specs.declared.key.Module.TheVariants as modules
use Rattle.som_model.specs.declared.key.MethodRef.{MethodRef}
use Rattle.som_model.specs.declared.class.Sig.{Sig}
use Rattle.som_model.specs.declared.class.Way.{Way}
use Rattle.som_model.specs.declared.class.Entry.{Entry}
use Rattle.som_model.specs.declared.class.Entry.TheVariants as entries
use Rattle.som_model.specs.declared.class.ClassFace.{ClassFace}
use Rattle.som_model.specs.declared.program.Interface.{Interface}
use Rattle.som_model.specs.Lists.{Mem, every}
use Rattle.som_model.specs.Class.{Class, bare, class_in, introduced_sig}
use Rattle.som_model.specs.Classes.{interface_classes}
use Rattle.som_model.specs.Kernel.{kernel}
use Rattle.som_model.specs.Owner.{entry_at, owner, sig_of}
use Rattle.som_model.specs.Conforming.{faces_breach}
use Rattle.som_model.specs.Compatible.{release_of}
use Rattle.som_model_laws.proofs.Lists.{every_mem, map_mem}
use Rattle.som_model_laws.proofs.Members.{mem_split}
use Rattle.som_model_laws.proofs.Owners.{entry_class, entry_mem}
use Rattle.som_model_laws.proofs.Standing.{found_is}
use Rattle.som_breach_laws.proofs.Moving.{Stands, interface_stands}
use Rattle.som_witness_texts.specs.Files.{FewParameters, IntroducesFew}

abbrev is_short : Entry → Bool
is_short (entries.Introduced name sig way) = nat_lt (length sig.params) 8
is_short (entries.Moved name to) = true

kernel_short : every (λ (c : Class). every is_short c.decl.face.entries) kernel ≡ true
kernel_short = refl

lt_from : (m n : ℕ) → nat_lt m n ≡ true → m < n
lt_from m n e = grind (arith, common_steps)

one_sig : (a b : Sig) (o : Option Sig) → o ≡ Some a → o ≡ Some b → a ≡ b
one_sig a b o g h = cc

no_sig : (a : Sig) (o : Option Sig) → o ≡ None → o ≡ Some a → ⊥
no_sig a o g h = cc

module _ (i : Interface) (st : Stands i) (few : IntroducesFew i) where
  abbrev cs : List Class
  cs = interface_classes i

  abbrev R : List Class
  R = release_of i

  entry_few : (c : Class) (name : List ℕ) (sig : Sig) (way : Way) → Mem c R → Mem (entries.Introduced name sig way) c.decl.face.entries → length sig.params < 2 ^ 64
  entry_few c name sig way m n = elim (mem_split c kernel cs m) [
    | inl a ↦ (
        let short = every_mem is_short (entries.Introduced name sig way) c.decl.face.entries (every_mem (λ (c : Class). every is_short c.decl.face.entries) c kernel kernel_short a) n in
        let lt = lt_from (length sig.params) 8 short in
        omega (arith, lt))
    | inr b ↦ (
        let f = map_mem (λ (f : ClassFace). class_in modules.Library (bare f)) c i.classes b in
        few f.0 name sig way f.1 (subst (λ (z : Class). Mem (entries.Introduced name sig way) z.decl.face.entries) f.2 n))
  ]

  sig_few : (r : MethodRef) (s : Sig) (o : Option Entry) → entry_at R r.class r.name ≡ o → sig_of R r ≡ Some s → length s.params < 2 ^ 64
  sig_few r s None e f = absurd (no_sig s (sig_of R r) (ap introduced_sig e) f)
  sig_few r s (Some (entries.Introduced name sig way)) e f =
      let c = entry_class R r.class r.name (entries.Introduced name sig way) e in
      let here = found_is cs st.load.ordered r.class c.0 c.1 in
      let m = entry_mem c.0.decl.face.entries r.name (entries.Introduced name sig way) c.2 in
      subst (λ (z : Sig). length z.params < 2 ^ 64) (one_sig sig s (sig_of R r) (ap introduced_sig e) f) (entry_few c.0 name sig way here.0 m.0)
  sig_few r s (Some (entries.Moved name to)) e f = absurd (no_sig s (sig_of R r) (ap introduced_sig e) f)

-- the told method has few parameters
pub few_parameters : (old : Interface) (m : MethodRef) → faces_breach (interface_classes old) ≡ None → IntroducesFew old → FewParameters old m
few_parameters old m eo few s e =
    let o = owner (release_of old) (record { class = m.class; name = m.name }) in
    sig_few old (interface_stands old eo) few o s (entry_at (release_of old) o.class o.name) refl e
