-- The signature of a moved entry is that of the class to which it was moved, in both interfaces: so no first breach is of one.
use Rattle.std.proofs.Common.{◌≡◌, ℕ, zero, suc, ◌<◌, inl, inr, Bool, true, false, if◌then◌else◌, List, [], ◌∷◌, ◌++◌, map, flat_map, take, Option, Some, None, IsSome, slice_get, refl, sym, ap, ◌∙◌, subst, arith, true≢false}
use Rattle.std.specs.Str.{bytes_eq}
use Rattle.som_model.specs.declared.key.ClassKey.{ClassKey}
use Rattle.som_model.specs.declared.key.MethodRef.{MethodRef}
use Rattle.som_model.specs.declared.class.Entry.{Entry}
use Rattle.som_model.specs.declared.class.Entry.TheVariants as entries
use Rattle.som_model.specs.declared.program.Interface.{Interface}
use Rattle.som_model.specs.Lists.{Mem, first, or_else}
use Rattle.som_model.specs.Ancestors.{Descends}
use Rattle.som_model.specs.Class.{Class, entry_name, entry_of}
use Rattle.som_model.specs.Classes.{ancestors, class_at, hierarchy, interface_classes}
use Rattle.som_model.specs.Kernel.{kernel}
use Rattle.som_model.specs.Loads.{FacesLoad, keys_of}
use Rattle.som_model.specs.Owner.{entry_at, introduces, owner, sig_of}
use Rattle.som_model.specs.Rules.{breach, s5, s6}
use Rattle.som_model.specs.Conforming.{faces_breach, first_of_members, first_of_names}
use Rattle.som_model.specs.Compatible.{CompatBreach, declared_name, incompatible, order_of, release_of, signature}
use Rattle.som_model.proofs.KeyLaws.{exact_bytes}
use Rattle.som_model_laws.proofs.Laws.{ancestors as ancestors_are, descends_through}
use Rattle.som_model_laws.proofs.Lists.{doubles_apart, get_mem, map_mem, mem_get, mem_map, take_get}
use Rattle.som_model_laws.proofs.Members.{Apart, mem_right, mem_split, not_true}
use Rattle.som_model_laws.proofs.Owners.{entry_is, entry_mem, moved, owner_moved, owner_owns}
use Rattle.som_model_laws.proofs.Standing.{falls, found, tells}
use Rattle.som_release_laws.specs.Releasing.{Once}
use Rattle.som_release_laws.proofs.Lists.{flat_at, named_entry}
use Rattle.som_release_laws.proofs.OneOwner.{ref_one}
use Rattle.som_release_laws.proofs.Prefix.{entry_same, ordered as front_ordered, signature_same}
use Rattle.som_release_laws.proofs.Ruled.{face_own, faces_load, nothing, once_all}
use Rattle.som_breach_laws.specs.Firsts.{IsFirstAt}
use Rattle.som_breach_laws.specs.Breaking.{Breaks, IntroducesAt, IsFirstBreach, IsNew, KeepsAll, KeepsBelow, KeepsSignature, lost, older, loses_ancestor, moves_slot, changes_signature, loses_metaclass}
use Rattle.som_breach_laws.proofs.Lists.{map_none, or_none, some_one}
use Rattle.som_breach_laws.proofs.Pairs.{at_new, new_key}

-- an interface that breaks no rule can stand, and no two ancestors of one of its classes introduce one name
pub record Stands (i : Interface) : Type 0 where
  pub load : FacesLoad (interface_classes i)
  pub once : Once (release_of i) (interface_classes i)

pub interface_stands : (i : Interface) → faces_breach (interface_classes i) ≡ None → Stands i
interface_stands i e =
    let cs = interface_classes i in
    let a = or_none (first_of_names kernel cs) (or_else (first (flat_map (s5 (kernel ++ cs)) cs)) (first_of_members kernel cs)) e in
    let b = or_none (first (flat_map (s5 (kernel ++ cs)) cs)) (first_of_members kernel cs) a.1 in
    let own = face_own i.classes in
    record {
      load = faces_load cs own a.0 b.1 (λ c m. flat_at (s5 (kernel ++ cs)) cs c (nothing (flat_map (s5 (kernel ++ cs)) cs) b.0) m);
      once = once_all cs own a.0 b.1;
    }

-- an entry is found by its name, where names differ
entry_found : (es : List Entry) → Apart (map entry_name es) → (i : ℕ) (e : Entry) → slice_get es i ≡ Some e → entry_of es (entry_name e) ≡ Some e
entry_found [] o i e is = absurd (cc)
entry_found (x ∷ es) o zero e is =
    let same : x ≡ e = cc in
    let t : bytes_eq (entry_name x) (entry_name e) ≡ true = ap (λ z. bytes_eq (entry_name z) (entry_name e)) same ∙ exact_bytes.one (entry_name e) in
    rw t (ap (λ z. Some z) same)
entry_found (x ∷ es) o (suc i) e is =
    let other : bytes_eq (entry_name x) (entry_name e) ≡ false = not_true (bytes_eq (entry_name x) (entry_name e)) (λ t.
    o.0 (subst (λ z. Mem z (map entry_name es)) (sym (exact_bytes.two (entry_name x) (entry_name e) t)) (mem_map entry_name e es (get_mem es i e is)))) in
    rw other (entry_found es o.1 i e is)

entry_there : (es : List Entry) (i : ℕ) (name : List ℕ) → slice_get (map entry_name es) i ≡ Some name → (e : Entry) × (slice_get es i ≡ Some e) × (entry_name e ≡ name)
entry_there [] i name e = absurd (cc)
entry_there (x ∷ es) zero name e = (x, refl, some_one (entry_name x) name e)
entry_there (x ∷ es) (suc i) name e = entry_there es i name e

-- an entry that is found has a place in the release order
in_order : (c : Class) (name : List ℕ) → IsSome (entry_of c.decl.face.entries name) → Mem name (order_of c)
in_order c name some = by (entry_of c.decl.face.entries name) refl some
  where
    by : (o : Option Entry) → entry_of c.decl.face.entries name ≡ o → IsSome o → Mem name (order_of c)
    by None e s = absurd (true≢false (sym s))
    by (Some x) e s =
        let m = entry_mem c.decl.face.entries name x e in
        subst (λ z. Mem z (order_of c)) m.1 (mem_map entry_name x c.decl.face.entries m.0)

rule_is : (b : CompatBreach) (rule : ℕ) (c : Class) (name : Option (List ℕ)) (place : ℕ) → b ≡ incompatible rule c name place → rule ≡ b.rule
rule_is b rule c name place same = ap (λ (z : CompatBreach). z.rule) (sym same)

module _ (old new : Interface) (so : Stands old) (sn : Stands new) where
  abbrev olds : List Class
  olds = interface_classes old

  abbrev news : List Class
  news = interface_classes new

  abbrev O : List Class
  O = release_of old

  abbrev N : List Class
  N = release_of new

  abbrev ref : ClassKey → List ℕ → MethodRef
  ref x name = record { class = x; name = name }

  -- what the class to which an entry was moved has in both
  record Above (to : ClassKey) (name : List ℕ) : Type 0 where
    pub entry : IsSome (entry_at N to name)
    pub same : signature O to name ≡ signature N to name

  -- a class of the kernel is the same in both
  of_kernel : (z : Class) (name : List ℕ) → Mem z kernel → IsSome (entry_at O z.key name) → Above z.key name
  of_kernel z name m some =
      let here = found [] (front_ordered [] olds so.load.ordered) z z.key m refl in
      record {
        entry = subst (λ e. IsSome e) (entry_same [] olds so.load.ordered z.key name z here ∙ sym (entry_same [] news sn.load.ordered z.key name z here)) some;
        same = signature_same [] olds so.load.ordered z.key name z here ∙ sym (signature_same [] news sn.load.ordered z.key name z here);
      }

  -- a class of the old that keeps all
  of_old : (z : Class) (name : List ℕ) → Mem z olds → KeepsAll old new z → IsSome (entry_at O z.key name) → Above z.key name
  of_old z name m k some =
      let here = found olds so.load.ordered z z.key (mem_right z kernel olds m) refl in
      let order = in_order z name (subst (λ e. IsSome e) (entry_is O z.key name z here) some) in
      let p = mem_get (order_of z) name order in
      let n = k.counterpart in
      let there = at_new old new sn.load.ordered z n m k.is_new in
      let slot = k.rules.places (omega arith) p.0 name p.1 in
      record {
        entry = subst (λ e. IsSome e) (sym (entry_is N z.key name n there)) (named_entry n.decl.face.entries name (get_mem (order_of n) p.0 name slot));
        same = k.rules.signatures (omega arith) p.0 name p.1;
      }

  -- a class before this one, and an entry of it
  of_earlier : (i : ℕ) (to : ClassKey) (name : List ℕ) → ((j : ℕ) (z : Class) → j < i → slice_get olds j ≡ Some z → KeepsAll old new z) → Mem to (keys_of (kernel ++ take i olds)) → IsSome (entry_at O to name) → Above to name
  of_earlier i to name before m some =
      let z = map_mem (λ (c : Class). c.key) to (kernel ++ take i olds) m in
      let there = subst (λ k. IsSome (entry_at O k name)) z.2 some in
      subst (λ k. Above k name) (sym z.2) (elim (mem_split z.0 kernel (take i olds) z.1) [
        | inl a ↦ of_kernel z.0 name a there
        | inr a ↦ (
            let p = mem_get (take i olds) z.0 a in
            let q = take_get i olds p.0 z.0 p.1 in
            of_old z.0 name (get_mem olds p.0 z.0 q.1) (before p.0 z.0 q.0 q.1) there)
      ])

  -- two methods of one name whose classes a class descends from have one owner
  one_owner : (c n : Class) (name : List ℕ) (to : ClassKey) → Mem c olds → IsNew new c n → Descends (hierarchy N) c.key to → IsSome (entry_at N c.key name) → IsSome (entry_at N to name)
      → owner N (ref c.key name) ≡ owner N (ref to name)
  one_owner c n name to m is kept r_there s_there =
      let own_r = owner_owns news sn.load (ref c.key name) r_there in
      let own_s = owner_owns news sn.load (ref to name) s_there in
      let names = own_r.name ∙ sym own_s.name in
      let key = sym (new_key old new c n m is) in
      ref_one (owner N (ref c.key name)) (owner N (ref to name))
      (sn.once n (owner N (ref c.key name)).class (owner N (ref to name)).class (owner N (ref c.key name)).name is.there
      (subst (λ z. Descends (hierarchy N) z (owner N (ref c.key name)).class) key own_r.above)
      (subst (λ z. Descends (hierarchy N) z (owner N (ref to name)).class) key (descends_through (hierarchy N) c.key to (owner N (ref to name)).class kept own_s.above))
      own_r.introduced (subst (λ z. introduces N z (owner N (ref to name)).class ≡ true) (sym names) own_s.introduced))
      names

  -- a moved entry of a class that keeps K1 to K4, behind classes that keep all
  moved_same : (i : ℕ) (c n : Class) (place : ℕ) (name : List ℕ) (to : ClassKey) → slice_get olds i ≡ Some c → IsNew new c n → KeepsBelow old new c n 5
      → ((j : ℕ) (z : Class) → j < i → slice_get olds j ≡ Some z → KeepsAll old new z) → slice_get (order_of c) place ≡ Some name → slice_get c.decl.face.entries place ≡ Some (entries.Moved name to)
      → signature O c.key name ≡ signature N c.key name
  moved_same i c n place name to at is k before named entry =
      let m = get_mem olds i c at in
      let in_entries = get_mem c.decl.face.entries place (entries.Moved name to) entry in
      let differ = doubles_apart bytes_eq exact_bytes (order_of c) (map_none (breach 6 c) _ (so.load.names c m)) in
      let here = entry_is O c.key name c (found olds so.load.ordered c c.key (mem_right c kernel olds m) refl) ∙ entry_found c.decl.face.entries differ place (entries.Moved name to) entry in
      let up = moved olds so.load c.key name name to here in
      let above = of_earlier i to name before (so.load.ordered.targets i c name to at in_entries) up.1 in
      let q = mem_get (ancestors O c.key) to ((ancestors_are (hierarchy O) (tells olds so.load.ordered) (falls olds so.load.ordered) c.key to).1 up.0) in
      let kept = k.descent (omega arith) q.0 to q.1 in
      let new_one = at_new old new sn.load.ordered c n m is in
      let slot = k.places (omega arith) place name named in
      let r_there = subst (λ e. IsSome e) (sym (entry_is N c.key name n new_one)) (named_entry n.decl.face.entries name (get_mem (order_of n) place name slot)) in
      ap (sig_of O) (owner_moved olds so.load.ordered c.key name name to here) ∙ above.same ∙ sym (ap (sig_of N) (one_owner c n name to m is kept r_there above.entry))

  by_entry : (i : ℕ) (c n : Class) (place : ℕ) (name : List ℕ) (e : Entry) → slice_get olds i ≡ Some c → IsNew new c n → KeepsBelow old new c n 5
      → ((j : ℕ) (z : Class) → j < i → slice_get olds j ≡ Some z → KeepsAll old new z) → IsFirstAt (KeepsSignature old new c) (order_of c) place name → slice_get c.decl.face.entries place ≡ Some e → entry_name e ≡ name
      → IntroducesAt c place name
  by_entry i c n place name (entries.Introduced x sig way) at is k before f entry same =
      record { sig = sig; way = way; entry = entry ∙ ap (λ z. Some (entries.Introduced z sig way)) same }
  by_entry i c n place name (entries.Moved x to) at is k before f entry same =
      absurd (f.fails (moved_same i c n place name to at is k before f.there (entry ∙ ap (λ z. Some (entries.Moved z to)) same)))

  of_breaks : (b : CompatBreach) (name : List ℕ) (i : ℕ) (c : Class) → slice_get olds i ≡ Some c → ((j : ℕ) (z : Class) → j < i → slice_get olds j ≡ Some z → KeepsAll old new z) → Breaks old new c b → b.rule ≡ 5 → b.name ≡ Some name
      → IntroducesAt c b.place name
  of_breaks b name i c at before (lost same f) five is = let e : 1 ≡ 5 = rule_is b 1 c None 0 same ∙ five in absurd (omega (arith, e))
  of_breaks b name i c at before (older n new_one k same f) five is = let e : 2 ≡ 5 = rule_is b 2 c None 0 same ∙ five in absurd (omega (arith, e))
  of_breaks b name i c at before (loses_ancestor n new_one k place a same f) five is = let e : 3 ≡ 5 = rule_is b 3 c (declared_name a) place same ∙ five in absurd (omega (arith, e))
  of_breaks b name i c at before (moves_slot n new_one k place x same f) five is = let e : 4 ≡ 5 = rule_is b 4 c (Some x) place same ∙ five in absurd (omega (arith, e))
  of_breaks b name i c at before (loses_metaclass n new_one k w same has f) five is = let e : 6 ≡ 5 = rule_is b 6 c (declared_name w) 0 same ∙ five in absurd (omega (arith, e))
  of_breaks b name i c at before (changes_signature n new_one k place x same f) five is =
      let there = entry_there c.decl.face.entries place x f.there in
      let r = by_entry i c n place x there.0 at new_one k before f there.1 there.2 in
      let name_is : x ≡ name = some_one x name (ap (λ (z : CompatBreach). z.name) (sym same) ∙ is) in
      subst (λ z. IntroducesAt c b.place z) name_is (subst (λ q. IntroducesAt c q x) (ap (λ (z : CompatBreach). z.place) (sym same)) r)

  pub introduced_there : (b : CompatBreach) (name : List ℕ) (f : IsFirstBreach old new b) → b.rule ≡ 5 → b.name ≡ Some name → IntroducesAt f.class b.place name
  introduced_there b name f = of_breaks b name f.number f.class f.there f.before f.breaks
