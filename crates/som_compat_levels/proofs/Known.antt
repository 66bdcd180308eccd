-- What is known of classes that can stand, by their places.
use Rattle.std.proofs.Common.{◌≡◌, ℕ, suc, ◌<◌, inl, inr, List, ◌++◌, map, length, Some, IsSome, slice_get, refl, sym, ap, ◌∙◌, subst, arith}
use Rattle.std.specs.Str.{bytes_eq}
use Rattle.som_model.specs.declared.key.ClassKey.{ClassKey}
use Rattle.som_model.specs.declared.class.Entry.TheVariants as entries
use Rattle.som_model.specs.Lists.{Mem, first}
use Rattle.som_model.specs.Hierarchy.{Falls, Tells}
use Rattle.som_model.specs.Class.{Class, entry_name, entry_of}
use Rattle.som_model.specs.Classes.{class_at, hierarchy}
use Rattle.som_model.specs.Kernel.{kernel}
use Rattle.som_model.specs.Loads.{FacesLoad, IsOrdered}
use Rattle.som_model.specs.Rules.{s6}
use Rattle.som_model.proofs.KeyLaws.{exact_bytes}
use Rattle.som_model_laws.proofs.Lists.{get_mem}
use Rattle.som_model_laws.proofs.Members.{mem_split}
use Rattle.som_model_laws.proofs.Metas.{kernel_none}
use Rattle.som_model_laws.proofs.Owners.{entry_is, kernel_unmoved, past_kernel}
use Rattle.som_model_laws.proofs.Standing.{earlier_at, falls, found, height_at, lower, parents_known, tells}
use Rattle.som_release_laws.proofs.Lists.{flat_all}
use Rattle.som_verify_classes.specs.Places.{class_of_place, face_at, key_at, nobody}
use Rattle.som_verify_classes.specs.Plainly.{Differ, EntriesDiffer}
use Rattle.som_verify_classes.proofs.PlainLists.{apart_by, apart_differ}
use Rattle.som_verify_classes.proofs.PlainMembers.{entries_say}
use Rattle.som_compat_levels.specs.Standing.{AreStanding}
use Rattle.som_compat_levels.proofs.Lists.{at_get, get_at}

pub record AreKnown (cs : List Class) : Type 0 where
  pub falls : Falls (hierarchy cs)
  pub tells : Tells (hierarchy cs)
  pub once : (p q : ℕ) → p < length cs → q < length cs → key_at cs p ≡ key_at cs q → p ≡ q
  pub found : (p : ℕ) → p < length cs → class_at cs (key_at cs p) ≡ Some (class_of_place cs p)
  pub height : (p : ℕ) → p < length cs → (hierarchy cs).height (key_at cs p) ≡ suc p
  pub parents : (p : ℕ) → p < length cs → (hierarchy cs).parents (key_at cs p) ≡ (face_at cs p).parents
  pub stand : (p : ℕ) (k : ClassKey) → p < length cs → Mem k (face_at cs p).parents → (q : ℕ) × (q < p) × (key_at cs q ≡ k)
  pub metaclass : (p : ℕ) (k : ClassKey) → p < length cs → (face_at cs p).metaclass ≡ Some k → (q : ℕ) × (q < p) × (key_at cs q ≡ k)
  pub moved : (p : ℕ) (name : List ℕ) (to : ClassKey) → p < length cs → Mem (entries.Moved name to) (face_at cs p).entries → (q : ℕ) × (q < p) × (key_at cs q ≡ to) × IsSome (entry_of (face_at cs q).entries name)
  pub differ : (p : ℕ) → p < length cs → Differ entry_name (face_at cs p).entries

-- the names of a class's entries differ
kernel_differ : (c : Class) → Mem c kernel → Differ entry_name c.decl.face.entries
kernel_differ c (inl e) = subst (λ (z : Class). Differ entry_name z.decl.face.entries) (sym e) (apart_differ entry_name (face_at kernel 0).entries (apart_by bytes_eq exact_bytes (map entry_name (face_at kernel 0).entries) refl))
kernel_differ c (inr (inl e)) = subst (λ (z : Class). Differ entry_name z.decl.face.entries) (sym e) (apart_differ entry_name (face_at kernel 1).entries (apart_by bytes_eq exact_bytes (map entry_name (face_at kernel 1).entries) refl))
kernel_differ c (inr (inr (inl e))) = subst (λ (z : Class). Differ entry_name z.decl.face.entries) (sym e) (apart_differ entry_name (face_at kernel 2).entries (apart_by bytes_eq exact_bytes (map entry_name (face_at kernel 2).entries) refl))
kernel_differ c (inr (inr (inr (inl e)))) = subst (λ (z : Class). Differ entry_name z.decl.face.entries) (sym e) (apart_differ entry_name (face_at kernel 3).entries (apart_by bytes_eq exact_bytes (map entry_name (face_at kernel 3).entries) refl))
kernel_differ c (inr (inr (inr (inr m)))) = absurd m

module _ (own : List Class) (f : FacesLoad own) where
  abbrev all : List Class
  all = kernel ++ own

  o : IsOrdered own
  o = f.ordered

  here : (p : ℕ) → p < length all → slice_get all p ≡ Some (class_of_place all p)
  here p lt = get_at all p nobody lt

  there : (p : ℕ) → p < length all → Mem (class_of_place all p) all
  there p lt = get_mem all p (class_of_place all p) (here p lt)

  high : (p : ℕ) → p < length all → (hierarchy all).height (key_at all p) ≡ suc p
  high p lt = height_at own o p (class_of_place all p) (key_at all p) (here p lt) refl

  class_there : (p : ℕ) → p < length all → class_at all (key_at all p) ≡ Some (class_of_place all p)
  class_there p lt = found own o (class_of_place all p) (key_at all p) (there p lt) refl

  stands : (p : ℕ) (k : ClassKey) → p < length all → Mem k (face_at all p).parents → (q : ℕ) × (q < p) × (key_at all q ≡ k)
  stands p k lt m =
      let r = lower own o p (class_of_place all p) k (here p lt) m in
      (r.0, r.2, ap (λ (c : Class). c.key) (at_get all r.0 r.1 nobody r.3).1 ∙ r.4)

  earlier : (i p : ℕ) (k : ClassKey) → p ≡ suc (suc (suc (suc i))) → (q : ℕ) × (d : Class) × (q < suc (suc (suc (suc i)))) × (slice_get all q ≡ Some d) × (d.key ≡ k) → (q : ℕ) × (q < p) × (key_at all q ≡ k)
  earlier i p k e r = let less = r.2 in (r.0, omega (arith, e, less), ap (λ (c : Class). c.key) (at_get all r.0 r.1 nobody r.3).1 ∙ r.4)

  metaclass_there : (p : ℕ) (k : ClassKey) → p < length all → (face_at all p).metaclass ≡ Some k → (q : ℕ) × (q < p) × (key_at all q ≡ k)
  metaclass_there p k lt e =
      let c = class_of_place all p in
      let r = past_kernel own o c p (here p lt) (λ n. kernel_none c k n e) in
      earlier r.0 p k r.1 (earlier_at own o r.0 k (o.metaclasses r.0 c k r.2 e))

  moved_there : (p : ℕ) (name : List ℕ) (to : ClassKey) → p < length all → Mem (entries.Moved name to) (face_at all p).entries → (q : ℕ) × (q < p) × (key_at all q ≡ to) × IsSome (entry_of (face_at all q).entries name)
  moved_there p name to lt m =
      let c = class_of_place all p in
      let r = past_kernel own o c p (here p lt) (λ n. kernel_unmoved c name to n m) in
      let s = earlier r.0 p to r.1 (earlier_at own o r.0 to (o.targets r.0 c name to r.2 m)) in
      let low = s.1 in
      let at = class_there s.0 (omega (arith, low, lt)) in
      (s.0, s.1, s.2, subst (λ z. IsSome z) (entry_is all to name (class_of_place all s.0) (ap (class_at all) (sym s.2) ∙ at)) (f.there c name to (get_mem own r.0 c r.2) m))

  own_differ : EntriesDiffer own
  own_differ = entries_say own (ap first (flat_all s6 own f.names))

  all_known : AreKnown all
  all_known = record {
    falls = falls own o;
    tells = tells own o;
    once = λ p q lp lq e. (let a = high p lp in let b = high q lq in let same = ap (hierarchy all).height e in omega (arith, a, b, same));
    found = class_there;
    height = high;
    parents = λ p lt. parents_known own o (key_at all p) (class_of_place all p) (class_there p lt);
    stand = stands;
    metaclass = metaclass_there;
    moved = moved_there;
    differ = λ p lt. elim (mem_split (class_of_place all p) kernel own (there p lt)) [
      | inl k ↦ kernel_differ (class_of_place all p) k
      | inr k ↦ own_differ.by (class_of_place all p) k
    ];
  }

pub known : (cs : List Class) → AreStanding cs → AreKnown cs
known cs s = subst AreKnown (sym s.are) (all_known s.own s.load)
