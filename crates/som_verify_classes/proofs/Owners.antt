-- Owners, where each moved entry names a class that introduces its name.
use Rattle.std.proofs.Common.{◌≡◌, ℕ, zero, suc, ◌<◌, inl, inr, Bool, true, false, List, [], ◌∷◌, ◌++◌, length, flat_map, Option, Some, None, is_some, refl, sym, ap, ◌∙◌, subst, true≢false}
use Rattle.std.specs.Str.{bytes_eq}
use Rattle.som_model.specs.Lists.{Mem, first, every}
use Rattle.som_model.specs.Class.{Class, entry_name, entry_of, introduced_sig}
use Rattle.som_model.specs.Classes.{class_at, hierarchy}
use Rattle.som_model.specs.Kernel.{kernel}
use Rattle.som_model.specs.Owner.{entry_at, owner, owner_within, introduces}
use Rattle.som_model.specs.Rules.{demand_of, s9}
use Rattle.som_model.specs.declared.key.ClassKey.{ClassKey}
use Rattle.som_model.specs.declared.key.MethodRef.{MethodRef}
use Rattle.som_model.specs.declared.class.Entry.{Entry}
use Rattle.som_model.specs.declared.class.Entry.TheVariants as entries
use Rattle.som_model.proofs.KeyLaws.{exact_bytes, both}
use Rattle.som_model_laws.proofs.Members.{mem_right, mem_split, find_first}
use Rattle.som_model_laws.proofs.Lists.{every_mem}
use Rattle.som_verify_classes.specs.Places.{with_kernel, class_of_place, key_at, face_at, IsTable, Finds}
use Rattle.som_verify_classes.specs.Inherited.{inherits, moved_entry, moved_to}
use Rattle.som_verify_classes.proofs.Finding.{known_at_all, mem_place}
use Rattle.som_verify_classes.proofs.KeyLists.{class_there, height_there}
use Rattle.som_verify_classes.proofs.Before.{none_both}

pub flat_none : {A B : Type 0} (f : A → List B) (xs : List A) (x : A) → first (flat_map f xs) ≡ None → Mem x xs → first (f x) ≡ None
flat_none f [] x e m = absurd m
flat_none f (y ∷ ys) x e (inl is) = subst (λ z. first (f z) ≡ None) (sym is) (none_both (f y) (flat_map f ys) e).0
flat_none f (y ∷ ys) x e (inr m) = flat_none f ys x (none_both (f y) (flat_map f ys) e).1 m

pub demanded_of : (n : ℕ) (c : Class) (member : List ℕ) (b : Bool) → first (demand_of n c member b) ≡ None → b ≡ true
demanded_of n c member true e = refl
demanded_of n c member false e = cc

abbrev stays_there : Entry → Bool
stays_there (entries.Introduced name sig way) = true
stays_there (entries.Moved name to) = false

kernel_stays : every (λ (c : Class). every stays_there c.decl.face.entries) kernel ≡ true
kernel_stays = refl

-- no class of the kernel has a moved entry
kernel_unmoved : (c : Class) (x : List ℕ) (to : ClassKey) → Mem c kernel → Mem (entries.Moved x to) c.decl.face.entries → ⊥
kernel_unmoved c x to m n =
    true≢false (sym (every_mem stays_there (entries.Moved x to) c.decl.face.entries (every_mem (λ (c : Class). every stays_there c.decl.face.entries) c kernel kernel_stays m) n))

moved_is : (o : Option Entry) (to : ClassKey) → moved_to o ≡ Some to → (x : List ℕ) × (o ≡ Some (entries.Moved x to))
moved_is None to e = absurd (cc)
moved_is (Some (entries.Introduced x sig way)) to e = absurd (cc)
moved_is (Some (entries.Moved x k)) to e = let same : k ≡ to = cc in (x, ap (λ z. Some (entries.Moved x z)) same)

pub mem_middle : {A : Type 0} (xs before after : List A) (a : A) → xs ≡ before ++ a ∷ after → Mem a xs
mem_middle xs before after a e = subst (λ z. Mem a z) (sym e) (mem_right a before (a ∷ after) (inl refl))

introduced_stays : (o : Option Entry) → is_some (introduced_sig o) ≡ true → moved_to o ≡ None
introduced_stays None e = refl
introduced_stays (Some (entries.Introduced x sig way)) e = refl
introduced_stays (Some (entries.Moved x to)) e = absurd (true≢false (sym e))

stays : (cs : List Class) (n : ℕ) (r : MethodRef) → moved_to (entry_at cs r.class r.name) ≡ None → owner_within cs n r ≡ r
stays cs zero r e = refl
stays cs (suc n) r e = rw e refl

moves : (cs : List Class) (n : ℕ) (r : MethodRef) (to : ClassKey) → moved_to (entry_at cs r.class r.name) ≡ Some to
    → owner_within cs (suc n) r ≡ owner_within cs n (record { class = to; name = r.name })
moves cs n r to e = rw e refl

nothing_there : {A : Type 0} (o : Option A) → false ≡ is_some o → o ≡ None
nothing_there None e = refl
nothing_there (Some x) e = absurd (true≢false (sym e))

pub entry_unknown : (cs : List Class) (k : ClassKey) (name : List ℕ) → class_at cs k ≡ None → entry_at cs k name ≡ None
entry_unknown cs k name e = rw e refl

-- a class that isn't known has no entry that was moved
pub owner_unknown : (cs : List Class) (r : MethodRef) (limit : ℕ) → limit ≡ length cs → Finds limit cs r.class None → owner cs r ≡ r
owner_unknown cs r limit e f =
    stays cs ((hierarchy cs).height r.class) r (ap moved_to (entry_unknown cs r.class r.name (nothing_there (class_at cs r.class) (known_at_all cs r.class limit None e f))))

module _ (cs : List Class) (names : List (List ℕ)) (t : IsTable cs names) where
  pub entry_there : (p : ℕ) (name : List ℕ) → p < length (with_kernel cs) → entry_at (with_kernel cs) (key_at (with_kernel cs) p) name ≡ entry_of (face_at (with_kernel cs) p).entries name
  entry_there p name lt = let e = class_there cs names t p lt in rw e refl

  -- the entry of a known class that wasn't moved
  pub owner_here : (p : ℕ) (r : MethodRef) → p < length (with_kernel cs) → key_at (with_kernel cs) p ≡ r.class
      → moved_to (entry_of (face_at (with_kernel cs) p).entries r.name) ≡ None → owner (with_kernel cs) r ≡ r
  owner_here p r lt is e =
      stays (with_kernel cs) ((hierarchy (with_kernel cs)).height r.class) r
      (ap (λ k. moved_to (entry_at (with_kernel cs) k r.name)) (sym is) ∙ ap moved_to (entry_there p r.name lt) ∙ e)

  module _ (s9_holds : first (flat_map (s9 (with_kernel cs)) cs) ≡ None) where
    entry_by : (c : Class) (x name : List ℕ) (to : ClassKey) → Mem c (with_kernel cs) → Mem (entries.Moved x to) c.decl.face.entries → introduces (with_kernel cs) x to ≡ true
    entry_by c x name to m n = elim (mem_split c kernel cs m) [
      | inl k ↦ absurd (kernel_unmoved c x to k n)
      | inr k ↦ (let e = flat_none (moved_entry (with_kernel cs) c.key c) c.decl.face.entries (entries.Moved x to) (flat_none (s9 (with_kernel cs)) cs c s9_holds k) n in
          (both _ _ (demanded_of 9 c x (inherits (with_kernel cs) c.key to x) e)).1)
    ]

    -- a moved entry leads to where its name is introduced
    moved_introduced : (p : ℕ) (name : List ℕ) (to : ClassKey) → p < length (with_kernel cs) → moved_to (entry_of (face_at (with_kernel cs) p).entries name) ≡ Some to
        → introduces (with_kernel cs) name to ≡ true
    moved_introduced p name to lt e =
        let r = moved_is (entry_of (face_at (with_kernel cs) p).entries name) to e in
        let first_one = find_first (λ e. bytes_eq (entry_name e) name) (face_at (with_kernel cs) p).entries (entries.Moved r.0 to) r.1 in
        let there = mem_middle (face_at (with_kernel cs) p).entries first_one.before first_one.after (entries.Moved r.0 to) first_one.parts in
        subst (λ z. introduces (with_kernel cs) z to ≡ true) (exact_bytes.two r.0 name first_one.passes)
        (entry_by (class_of_place (with_kernel cs) p) r.0 name to (mem_place (with_kernel cs) p lt) there)

    -- the entry of a known class that was moved
    pub owner_moved : (p : ℕ) (r : MethodRef) (to : ClassKey) → p < length (with_kernel cs) → key_at (with_kernel cs) p ≡ r.class
        → moved_to (entry_of (face_at (with_kernel cs) p).entries r.name) ≡ Some to → owner (with_kernel cs) r ≡ record { class = to; name = r.name }
    owner_moved p r to lt is e =
        let high : (hierarchy (with_kernel cs)).height r.class ≡ suc p = ap (hierarchy (with_kernel cs)).height (sym is) ∙ sym (height_there cs names t p lt) in
        ap (λ n. owner_within (with_kernel cs) n r) high
        ∙ moves (with_kernel cs) p r to (ap (λ k. moved_to (entry_at (with_kernel cs) k r.name)) (sym is) ∙ ap moved_to (entry_there p r.name lt) ∙ e)
        ∙ stays (with_kernel cs) p (record { class = to; name = r.name }) (introduced_stays (entry_at (with_kernel cs) to r.name) (moved_introduced p r.name to lt e))
