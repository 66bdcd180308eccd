-- Levels keep what they promise whatever stands above them.
use Rattle.std.proofs.Common.{◌≡◌, ℕ, ◌+◌, inl, inr, List, ◌++◌, length, Option, Some, IsSome, refl, sym, ap, ◌∙◌, subst, arith}
use Rattle.som_model.specs.declared.key.ClassKey.{ClassKey}
use Rattle.som_model.specs.declared.key.MethodRef.{MethodRef}
use Rattle.som_model.specs.declared.program.Interface.{Interface}
use Rattle.som_model.specs.Lists.{Mem}
use Rattle.som_model.specs.Ancestors.{Descends}
use Rattle.som_model.specs.Class.{Class}
use Rattle.som_model.specs.Classes.{class_at, hierarchy}
use Rattle.som_model.specs.Kernel.{kernel, som_class}
use Rattle.som_model.specs.Metaclass.{meta}
use Rattle.som_model.specs.Compatible.{order_of}
use Rattle.som_model.specs.Loads.{FacesLoad, IsOrdered, keys_of}
use Rattle.som_model.specs.Owner.{entry_at, owner}
use Rattle.som_model_laws.specs.Keeping.{ClassesKeep, IsPair}
use Rattle.som_model_laws.specs.Metaclasses.{Declares, StandsLow}
use Rattle.som_model_laws.proofs.Keeping.{kernel_descends, known_declared}
use Rattle.som_model_laws.proofs.Lists.{map_mem, mem_map}
use Rattle.som_model_laws.proofs.Members.{mem_left, mem_right, mem_split}
use Rattle.som_model_laws.proofs.Metas.{kernel_low, low_kernel, meta_law}
use Rattle.som_model_laws.proofs.Owners.{entry_is, metaclass_known, owner_owns}
use Rattle.som_model_laws.proofs.Standing.{found, found_is, known_above}
use Rattle.som_release_laws.specs.Releasing.{AreKept, HaveOtherKeys}
use Rattle.som_release_laws.proofs.Lists.{named_entry}
use Rattle.som_release_laws.proofs.Prefix.{descends_less, descends_more, known_more, ordered, owner_same, signature_same}
use Rattle.som_level_laws.specs.Levels.{CompatibleLevels, level_classes, levels_from}
use Rattle.som_level_laws.proofs.Levels.{levels_joined, others_above}

module _ (olds above news others : List Class) (fa : FacesLoad (olds ++ above)) (ob : IsOrdered (news ++ others)) (k : AreKept (olds ++ above) (news ++ others)) (apart : HaveOtherKeys olds others) where
  abbrev A : List Class
  A = kernel ++ (olds ++ above)

  abbrev B : List Class
  B = kernel ++ (news ++ others)

  abbrev O : List Class
  O = kernel ++ olds

  abbrev N : List Class
  N = kernel ++ news

  abbrev ref : ClassKey → List ℕ → MethodRef
  ref key name = record { class = key; name = name }

  oo : IsOrdered olds
  oo = ordered olds above fa.ordered

  on : IsOrdered news
  on = ordered news others ob

  -- the class of its key is in the new, and not above it
  paired : (c : Class) → Mem c olds → (n : Class) × Mem n news × (n.key ≡ c.key)
  paired c m =
      let r = map_mem (λ (z : Class). z.key) c.key (news ++ others) (k.0.classes c (mem_left c olds above m)) in
      elim (mem_split r.0 news others r.1) [ inl h ↦ (r.0, h, sym r.2) | inr h ↦ absurd (apart c r.0 m h r.2) ]

  here : (c : Class) → (m : Mem c olds) → class_at N c.key ≡ Some (paired c m).0
  here c m = let n = paired c m in found news on n.0 c.key (mem_right n.0 kernel news n.1) n.2

  before : (c : Class) → Mem c olds → class_at O c.key ≡ Some c
  before c m = found olds oo c c.key (mem_right c kernel olds m) refl

  pair_more : (c n : Class) → IsPair olds news c n → IsPair (olds ++ above) (news ++ others) c n
  pair_more c n p = record { old_one = mem_left c olds above p.old_one; new_one = mem_left n news others p.new_one; same = p.same }

  -- what a class of the old descends from in all, it does in the new
  lower_descends : (c : Class) (a : ClassKey) → Mem c olds → Descends (hierarchy B) c.key a → Descends (hierarchy N) c.key a
  lower_descends c a m d = descends_less news others ob c.key a (paired c m).0 (here c m) d

  stands_low : (c : Class) → Mem c olds → StandsLow B c.key → StandsLow N c.key
  stands_low c m s =
      let l = known_above (news ++ others) ob c.key s.class (paired c m).0 (known_more news others ob c.key (paired c m).0 (here c m)) s.above in
      let low = low_kernel (news ++ others) ob s.class l.0 l.1 s.low in
      record { class = s.class; low = kernel_low news on l.0 s.class low (found_is (news ++ others) ob s.class l.0 l.1).1; above = lower_descends c s.class m s.above }

  declares : (c : Class) (d : ClassKey) → Mem c olds → Declares B c.key d → Declares N c.key d
  declares c d m e =
      let up = lower_descends c e.class.key m e.above in
      let q = known_above news on c.key e.class.key (paired c m).0 (here c m) up in
      let same : q.0 ≡ e.class = one q.0 e.class (class_at B e.class.key) (known_more news others ob e.class.key q.0 q.1) (found (news ++ others) ob e.class e.class.key e.there refl) in
      let at : class_at N e.class.key ≡ Some e.class = q.1 ∙ ap (λ z. Some z) same in
      let w = metaclass_known news on e.class.key e.class e.metaclass at e.declared in
      record {
        class = e.class;
        there = (found_is news on e.class.key e.class at).0;
        above = up;
        metaclass = e.metaclass;
        declared = e.declared;
        below = descends_less news others ob e.metaclass d w.0 w.1 e.below;
      }
    where
      one : (a b : Class) (o : Option Class) → o ≡ Some a → o ≡ Some b → a ≡ b
      one a b o x y = cc

  metaclass : (c : Class) (d : ClassKey) → Mem c olds → c.decl.face.metaclass ≡ Some d → Descends (hierarchy N) (meta N c.key) d
  metaclass c d m is =
      let known = metaclass_known olds oo c.key c d (before c m) is in
      let dec = known_declared olds oo d known.0 known.1 in
      elim ((meta_law (news ++ others) ob c.key d dec).0 (k.0.metaclasses c d (mem_left c olds above m) is)) [
        | inl (r, s) ↦ (meta_law news on c.key d dec).1 (inl (kernel_descends (news ++ others) news ob on som_class d _ (inr (inl refl)) refl r, stands_low c m s))
        | inr e ↦ (meta_law news on c.key d dec).1 (inr (declares c d m e))
      ]

  classes_below : ClassesKeep olds news
  classes_below = record {
    classes = λ c m. (let n = paired c m in subst (λ z. Mem z (keys_of news)) n.2 (mem_map (λ (z : Class). z.key) n.0 news n.1));
    major = λ c n p. k.0.major c n (pair_more c n p);
    minor = λ c n p. k.0.minor c n (pair_more c n p);
    ancestors = λ c a m d. lower_descends c a m (k.0.ancestors c a (mem_left c olds above m) (descends_more olds above fa.ordered c.key a d));
    places = λ c n place name p at. k.0.places c n place name (pair_more c n p) at;
    signatures = λ c name m n. sym (signature_same olds above fa.ordered c.key name c (before c m)) ∙ k.0.signatures c name (mem_left c olds above m) n ∙ signature_same news others ob c.key name (paired c m).0 (here c m);
    metaclasses = metaclass;
  }

  owner_below : (c : Class) (name : List ℕ) → Mem c olds → Mem name (order_of c) → owner N (ref c.key name) ≡ owner N (owner O (ref c.key name))
  owner_below c name m n =
      let r = ref c.key name in
      let s = owner A r in
      let in_all = mem_left c olds above m in
      let at = found (olds ++ above) fa.ordered c c.key (mem_right c kernel (olds ++ above) in_all) refl in
      let some : IsSome (entry_at A c.key name) = subst (λ z. IsSome z) (sym (entry_is A c.key name c at)) (named_entry c.decl.face.entries name n) in
      let up = lower_descends c s.class m (k.0.ancestors c s.class in_all (owner_owns (olds ++ above) fa r some).above) in
      let d = known_above news on c.key s.class (paired c m).0 (here c m) up in
      sym (owner_same news others ob c.key name (paired c m).0 (here c m))
      ∙ k.1 c name in_all n
      ∙ owner_same news others ob s.class s.name d.0 d.1
      ∙ ap (owner N) (owner_same olds above fa.ordered c.key name c (before c m))

  pub all_below : AreKept olds news
  all_below = (classes_below, owner_below)

-- the lower levels of both
pub levels_below : (olds above news others : List Interface) → length olds ≡ length news → FacesLoad (level_classes (olds ++ above)) → IsOrdered (level_classes (news ++ others)) → CompatibleLevels (olds ++ above) (news ++ others) → CompatibleLevels olds news
levels_below olds above news others e fa ob k =
    let n = length olds in
    let old_sum : length olds + 0 ≡ n = omega arith in
    let new_sum : length news + 0 ≡ n = omega (arith, e) in
    let old_parts = levels_joined 0 n olds above old_sum in
    let new_parts = levels_joined 0 n news others new_sum in
    let old_high = levels_from n above in
    let new_high = levels_from n others in
    let kept = subst (λ (z : List Class). AreKept (level_classes olds ++ old_high) z) new_parts (subst (λ (z : List Class). AreKept z (level_classes (news ++ others))) old_parts k) in
    all_below (level_classes olds) old_high (level_classes news) new_high (subst FacesLoad old_parts fa) (subst IsOrdered new_parts ob) kept (others_above n olds others refl)
