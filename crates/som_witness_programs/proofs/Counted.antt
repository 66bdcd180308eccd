-- Interfaces that may be compared: how many parameters a signature has at most.
use Rattle.std.proofs.Common.{◌≡◌, ℕ, zero, suc, ◌≤◌, inl, inr, Bool, true, List, [], ◌∷◌, ◌++◌, length, Option, Some, None, refl, ap, ◌∙◌, subst, arith}
use Rattle.std.specs.Prelude.{All, nat_le}
use Rattle.som_model.specs.declared.limits.TheConstants.{MAX_PARAMETERS}
use Rattle.som_model.specs.declared.key.ClassKey.{ClassKey}
use Rattle.som_model.specs.declared.key.MethodRef.{MethodRef}
use Rattle.som_model.specs.declared.key.Module.TheVariants as modules
use Rattle.som_model.specs.declared.class.Sig.{Sig}
use Rattle.som_model.specs.declared.class.Way.{Way}
use Rattle.som_model.specs.declared.class.ClassFace.{ClassFace}
use Rattle.som_model.specs.declared.class.Entry.{Entry}
use Rattle.som_model.specs.declared.class.Entry.TheVariants as entries
use Rattle.som_model.specs.declared.program.Interface.{Interface}
use Rattle.som_model.specs.Class.{Class, bare, class_in, introduced_sig}
use Rattle.som_model.specs.Classes.{interface_classes}
use Rattle.som_model.specs.Compatible.{release_of, signature}
use Rattle.som_model.specs.Counts.{FaceCounted}
use Rattle.som_model.specs.Keys.{same_key}
use Rattle.som_model.specs.Kernel.{kernel}
use Rattle.som_model.specs.Lists.{Mem, every}
use Rattle.som_model.specs.Owner.{entry_at, owner, sig_of}
use Rattle.som_model_laws.proofs.Lists.{every_mem, find_mem, map_mem}
use Rattle.som_model_laws.proofs.Members.{mem_split}
use Rattle.som_model_laws.proofs.Owners.{entry_class, entry_mem}
use Rattle.som_compat.specs.Conditions.{Conforms, IsCounted}
use Rattle.som_witness_programs.specs.Conditions.{AreFew, MayBeCompared}

-- ---- conditions of compatibility

face_counted : (f : ClassFace) → FaceCounted f → IsCounted f
face_counted f c = record { some = c.some_parent; parents = c.parents; entries = c.order }

all_counted : (fs : List ClassFace) → ((f : ClassFace) → Mem f fs → FaceCounted f) → All IsCounted fs
all_counted [] c k d lt = absurd (omega arith)
all_counted (f ∷ fs) c zero d lt = face_counted f (c f (inl refl))
all_counted (f ∷ fs) c (suc k) d lt = all_counted fs (λ g m. c g (inr m)) k d (omega arith)

pub conforms : (i : Interface) → MayBeCompared i → Conforms i
conforms i m = record { rules = m.rules; classes = m.classes; counts = all_counted i.classes m.counts }

-- ---- parameters

abbrev few_in : Entry → Bool
few_in (entries.Introduced name sig way) = nat_le (length sig.params) MAX_PARAMETERS
few_in (entries.Moved name to) = true

-- no method of the kernel has more
kernel_few : every (λ (c : Class). every few_in c.decl.face.entries) kernel ≡ true
kernel_few = refl

le_by : (n : ℕ) → nat_le n MAX_PARAMETERS ≡ true → n ≤ MAX_PARAMETERS
le_by n e = grind arith

module _ (i : Interface) (m : MayBeCompared i) where
  abbrev R : List Class
  R = release_of i

  own_few : (c : Class) (name : List ℕ) (s : Sig) (way : Way) → Mem c (interface_classes i) → Mem (entries.Introduced name s way) c.decl.face.entries → length s.params ≤ MAX_PARAMETERS
  own_few c name s way n e =
      let f = map_mem (λ (f : ClassFace). class_in modules.Library (bare f)) c i.classes n in
      (m.counts f.0 f.1).params name s way (subst (λ (z : Class). Mem (entries.Introduced name s way) z.decl.face.entries) f.2 e)

  entry_few : (c : Class) (name : List ℕ) (s : Sig) (way : Way) → Mem c R → Mem (entries.Introduced name s way) c.decl.face.entries → length s.params ≤ MAX_PARAMETERS
  entry_few c name s way n e = elim (mem_split c kernel (interface_classes i) n) [
    | inl a ↦ le_by (length s.params) (every_mem few_in (entries.Introduced name s way) c.decl.face.entries (every_mem (λ (d : Class). every few_in d.decl.face.entries) c kernel kernel_few a) e)
    | inr b ↦ own_few c name s way b e
  ]

  one_sig : (a b : Sig) (o : Option Sig) → o ≡ Some a → o ≡ Some b → a ≡ b
  one_sig a b o g h = cc

  no_sig : (a : Sig) (o : Option Sig) → o ≡ None → o ≡ Some a → ⊥
  no_sig a o g h = cc

  few_by : (r : MethodRef) (s : Sig) (o : Option Entry) → entry_at R r.class r.name ≡ o → sig_of R r ≡ Some s → length s.params ≤ MAX_PARAMETERS
  few_by r s None e f = absurd (no_sig s (sig_of R r) (ap introduced_sig e) f)
  few_by r s (Some (entries.Introduced name sig way)) e f =
      let c = entry_class R r.class r.name (entries.Introduced name sig way) e in
      let here = find_mem (λ (z : Class). same_key z.key r.class) R c.0 c.1 in
      let n = entry_mem c.0.decl.face.entries r.name (entries.Introduced name sig way) c.2 in
      subst (λ z. length z.params ≤ MAX_PARAMETERS) (one_sig sig s (sig_of R r) (ap introduced_sig e) f) (entry_few c.0 name sig way here.0 n.0)
  few_by r s (Some (entries.Moved name to)) e f = absurd (no_sig s (sig_of R r) (ap introduced_sig e) f)

  pub few : AreFew R
  few = record { by = λ k name s e. (let o = owner R (record { class = k; name = name }) in few_by o s (entry_at R o.class o.name) refl e) }
