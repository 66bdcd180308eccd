-- What the faces of classes keep, the classes keep.
use Rattle.std.proofs.Common.{◌≡◌, ℕ, zero, suc, List, [], ◌∷◌, ◌++◌, map, Option, Some, None, refl, sym, ap, ◌∙◌, subst}
use Rattle.som_model.specs.declared.key.ClassKey.{ClassKey}
use Rattle.som_model.specs.declared.key.MethodRef.{MethodRef}
use Rattle.som_model.specs.Lists.{Mem}
use Rattle.som_model.specs.Hierarchy.{Hierarchy}
use Rattle.som_model.specs.Ancestors.{Descends}
use Rattle.som_model.specs.Class.{Class}
use Rattle.som_model.specs.Classes.{hierarchy}
use Rattle.som_model.specs.Kernel.{kernel}
use Rattle.som_model.specs.Metaclass.{meta}
use Rattle.som_model.specs.Owner.{entry_at, owner, owner_within}
use Rattle.som_model_laws.specs.Keeping.{ClassesKeep, IsPair}
use Rattle.som_model_laws.proofs.Lists.{mem_map}
use Rattle.som_model_laws.proofs.Owners.{moved_to, moves, stays}
use Rattle.som_release_laws.specs.Releasing.{AreKept, OwnersAreKept}
use Rattle.som_release_laws.proofs.FacesAlone.{entry_faces, meta_faces, signature_faces}
use Rattle.som_rekey_laws.proofs.Lists.{map_twice}
use Rattle.som_verify_classes.proofs.FacesOnly.{face_only}
use Rattle.som_verify_classes.proofs.Outlines.{outline, same_hierarchy}

outlines_same : (cs : List Class) → map outline (map face_only cs) ≡ map outline cs
outlines_same [] = refl
outlines_same (c ∷ cs) = ap (λ z. outline c ∷ z) (outlines_same cs)

hierarchy_same : (cs : List Class) → hierarchy (map face_only cs) ≡ hierarchy cs
hierarchy_same cs = same_hierarchy (map face_only cs) cs (outlines_same cs)

owner_by : (cs : List Class) (n : ℕ) (r : MethodRef) (q : Option ClassKey) → moved_to (entry_at cs r.class r.name) ≡ q
    → ((to : ClassKey) → owner_within (map face_only cs) n (record { class = to; name = r.name }) ≡ owner_within cs n (record { class = to; name = r.name }))
    → owner_within (map face_only cs) (suc n) r ≡ owner_within cs (suc n) r
owner_by cs n r None e f = stays (map face_only cs) (suc n) r (ap moved_to (entry_faces cs r.class r.name) ∙ e) ∙ sym (stays cs (suc n) r e)
owner_by cs n r (Some to) e f = moves (map face_only cs) n r to (ap moved_to (entry_faces cs r.class r.name) ∙ e) ∙ f to ∙ sym (moves cs n r to e)

owners_within : (cs : List Class) (n : ℕ) (r : MethodRef) → owner_within (map face_only cs) n r ≡ owner_within cs n r
owners_within cs zero r = refl
owners_within cs (suc n) r = owner_by cs n r (moved_to (entry_at cs r.class r.name)) refl (λ to. owners_within cs n (record { class = to; name = r.name }))

owner_faces : (cs : List Class) (r : MethodRef) → owner (map face_only cs) r ≡ owner cs r
owner_faces cs r =
    ap (λ (h : Hierarchy ClassKey). owner_within (map face_only cs) (h.height r.class) r) (hierarchy_same cs)
    ∙ owners_within cs ((hierarchy cs).height r.class) r

module _ (olds news : List Class) where
  abbrev N : List Class
  N = kernel ++ news

  face_pair : (c n : Class) → IsPair olds news c n → IsPair olds (map face_only news) c (face_only n)
  face_pair c n p = record { old_one = p.old_one; new_one = mem_map face_only n news p.new_one; same = p.same }

  descends_still : (x a : ClassKey) → Descends (hierarchy (map face_only N)) x a → Descends (hierarchy N) x a
  descends_still x a d = subst (λ (h : Hierarchy ClassKey). Descends h x a) (hierarchy_same N) d

  classes_keep : ClassesKeep olds (map face_only news) → ClassesKeep olds news
  classes_keep k = record {
    classes = λ c m. subst (λ l. Mem c.key l) (map_twice (λ (z : Class). z.key) face_only news) (k.classes c m);
    major = λ c n p. k.major c (face_only n) (face_pair c n p);
    minor = λ c n p. k.minor c (face_only n) (face_pair c n p);
    ancestors = λ c a m d. descends_still c.key a (k.ancestors c a m d);
    places = λ c n place name p at. k.places c (face_only n) place name (face_pair c n p) at;
    signatures = λ c name m i. k.signatures c name m i ∙ signature_faces N c.key name;
    metaclasses = λ c m i is. descends_still (meta N c.key) m (subst (λ z. Descends (hierarchy (map face_only N)) z m) (meta_faces N c.key) (k.metaclasses c m i is));
  }

  owners_keep : OwnersAreKept olds (map face_only news) → OwnersAreKept olds news
  owners_keep k c name m i =
      let r : MethodRef = record { class = c.key; name = name } in
      sym (owner_faces N r) ∙ k c name m i ∙ owner_faces N (owner (kernel ++ olds) r)

  pub kept_by_faces : AreKept olds (map face_only news) → AreKept olds news
  kept_by_faces k = (classes_keep k.0, owners_keep k.1)
