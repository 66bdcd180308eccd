-- References with one owner among the old have one owner among the new.
use Rattle.std.proofs.Common.{◌≡◌, ℕ, zero, suc, ◌≤◌, inl, inr, true, List, ◌++◌, Some, IsSome, refl, sym, ap, ◌∙◌, subst, arith}
use Rattle.std.specs.Prelude.{is_some}
use Rattle.som_model.specs.declared.key.ClassKey.{ClassKey}
use Rattle.som_model.specs.declared.key.MethodRef.{MethodRef}
use Rattle.som_model.specs.declared.class.Entry.{Entry}
use Rattle.som_model.specs.declared.class.Entry.TheVariants as entries
use Rattle.som_model.specs.Lists.{Mem}
use Rattle.som_model.specs.Ancestors.{Descends}
use Rattle.som_model.specs.Class.{Class}
use Rattle.som_model.specs.Classes.{class_at, hierarchy}
use Rattle.som_model.specs.Kernel.{kernel}
use Rattle.som_model.specs.Owner.{entry_at, introduces, owner}
use Rattle.som_model.specs.Loads.{FacesLoad, IsOrdered}
use Rattle.som_model_laws.specs.Keeping.{ClassesKeep}
use Rattle.som_model_laws.proofs.Standing.{found_is, known_above}
use Rattle.som_model_laws.proofs.Owners.{entry_class, entry_is, moved, moved_lower, moved_to, owner_moved, owner_owns, owner_stays}
use Rattle.som_release_laws.specs.Releasing.{OwnersAreKept}
use Rattle.som_release_laws.proofs.Exchange.{kinds, new_alone, new_ordered, old_alone, old_order, pair}
use Rattle.som_release_laws.proofs.Facts.{introduced_entry}
use Rattle.som_release_laws.proofs.Prefix.{descends_less, owner_same, some_entry}

pub ref_one : (a b : MethodRef) → a.class ≡ b.class → a.name ≡ b.name → a ≡ b
ref_one a b e f =
    ap (λ (k : ClassKey). record { class = k; name = a.name }) e
    ∙ ap (λ (n : List ℕ). record { class = b.class; name = n }) f

-- an owner owns itself
pub owner_again : (cs : List Class) → IsOrdered cs → (s : MethodRef) → introduces (kernel ++ cs) s.name s.class ≡ true → owner (kernel ++ cs) s ≡ s
owner_again cs o s i = let e = introduced_entry (kernel ++ cs) s.name s.class i in owner_stays cs o s.class s.name (ap moved_to e.1 ∙ e.2)

-- the owner of an entry owns itself
pub owner_itself : (cs : List Class) → FacesLoad cs → (r : MethodRef) → IsSome (entry_at (kernel ++ cs) r.class r.name) → owner (kernel ++ cs) r ≡ owner (kernel ++ cs) (owner (kernel ++ cs) r)
owner_itself cs f r some = sym (owner_again cs f.ordered (owner (kernel ++ cs) r) (owner_owns cs f r some).introduced)

-- classes before others
module _ (xs ys : List Class) (fl : FacesLoad (xs ++ ys)) (fs : FacesLoad xs) where
  pub prefix_owner : (r : MethodRef) → IsSome (entry_at (kernel ++ xs) r.class r.name) → owner (kernel ++ (xs ++ ys)) r ≡ owner (kernel ++ (xs ++ ys)) (owner (kernel ++ xs) r)
  prefix_owner r some =
      let S = kernel ++ xs in
      let e = some_entry (entry_at S r.class r.name) some in
      let c = entry_class S r.class r.name e.0 e.1 in
      let s = owner S r in
      let own = owner_owns xs fs r some in
      let i = introduced_entry S s.name s.class own.introduced in
      let d = entry_class S s.class s.name i.0 i.1 in
      owner_same xs ys fl.ordered r.class r.name c.0 c.1
      ∙ sym (owner_same xs ys fl.ordered s.class s.name d.0 d.1 ∙ owner_again xs fs.ordered s own.introduced)

-- a release that is exchanged, and keeps the owners
module _ (olds news own : List Class) (fa : FacesLoad (olds ++ own)) (fn : FacesLoad news) (keep : ClassesKeep olds news)
    (apart : (c d : Class) → Mem c news → Mem d own → c.key ≡ d.key → ⊥) (kept : OwnersAreKept olds news) where
  abbrev A : List Class
  A = kernel ++ (olds ++ own)

  abbrev B : List Class
  B = kernel ++ (news ++ own)

  abbrev O : List Class
  O = kernel ++ olds

  abbrev N : List Class
  N = kernel ++ news

  abbrev ob : IsOrdered (news ++ own)
  ob = new_ordered olds news own fa.ordered fn.ordered keep apart

  abbrev ref : ClassKey → List ℕ → MethodRef
  ref k name = record { class = k; name = name }

  -- a class of the old
  old_owner : (c : Class) (k : ClassKey) (name : List ℕ) (e : Entry) → Mem c olds → class_at A k ≡ Some c → entry_at A k name ≡ Some e → owner B (ref k name) ≡ owner B (owner A (ref k name))
  old_owner c k name e m g f =
      let key = (found_is (olds ++ own) fa.ordered k c g).1 in
      let n = pair olds news own fa.ordered fn.ordered keep apart c m in
      let here = new_alone olds news own fa.ordered fn.ordered keep apart n.0 k n.1 (n.2 ∙ key) in
      let there = old_alone olds news own fa.ordered fn.ordered keep apart c k m key in
      let s = owner A (ref k name) in
      let own_a = owner_owns (olds ++ own) fa (ref k name) (ap is_some f) in
      let small = descends_less olds own fa.ordered k s.class c there own_a.above in
      let up : Descends (hierarchy N) k s.class = subst (λ z. Descends (hierarchy N) z s.class) key (keep.ancestors c s.class m (subst (λ z. Descends (hierarchy O) z s.class) (sym key) small)) in
      let d = known_above news fn.ordered k s.class n.0 here up in
      let at_k : owner N (ref k name) ≡ owner N (owner O (ref k name)) =
      subst (λ z. owner N (ref z name) ≡ owner N (owner O (ref z name))) key (kept c name m (old_order olds news own fa.ordered fn.ordered keep apart c k name e g f)) in
      owner_same news own ob k name n.0 here ∙ at_k ∙ ap (owner N) (sym (owner_same olds own fa.ordered k name c there)) ∙ sym (owner_same news own ob s.class s.name d.0 d.1)

  -- a class that is the same in both
  same_owner : (c : Class) (k : ClassKey) (name : List ℕ) (e : Entry) → class_at B k ≡ Some c → class_at A k ≡ Some c → entry_at A k name ≡ Some e
      → ((x : List ℕ) (to : ClassKey) → e ≡ entries.Moved x to → owner B (ref to name) ≡ owner B (owner A (ref to name))) → owner B (ref k name) ≡ owner B (owner A (ref k name))
  same_owner c k name (entries.Introduced x sig way) g f h rest = ap (owner B) (sym (owner_stays (olds ++ own) fa.ordered k name (ap moved_to h)))
  same_owner c k name (entries.Moved x to) g f h rest =
      let i : entry_at B k name ≡ Some (entries.Moved x to) = entry_is B k name c g ∙ sym (entry_is A k name c f) ∙ h in
      owner_moved (news ++ own) ob k name x to i ∙ rest x to refl ∙ ap (owner B) (sym (owner_moved (olds ++ own) fa.ordered k name x to h))

  owner_by : (k : ClassKey) (name : List ℕ) (e : Entry) → entry_at A k name ≡ Some e
      → ((x : List ℕ) (to : ClassKey) → e ≡ entries.Moved x to → owner B (ref to name) ≡ owner B (owner A (ref to name))) → owner B (ref k name) ≡ owner B (owner A (ref k name))
  owner_by k name e f rest =
      let c = entry_class A k name e f in
      elim (kinds olds news own fa.ordered fn.ordered keep apart k c.0 c.1) [
        | inl g ↦ same_owner c.0 k name e g c.1 f rest
        | inr m ↦ old_owner c.0 k name e m c.1 f
      ]

  owner_within : (n : ℕ) (k : ClassKey) (name : List ℕ) (e : Entry) → (hierarchy A).height k ≤ n → entry_at A k name ≡ Some e → owner B (ref k name) ≡ owner B (owner A (ref k name))
  owner_within zero k name e le f = owner_by k name e f (λ x to is.
      absurd (let r = (moved_lower (olds ++ own) fa.ordered k name x to (f ∙ ap (λ z. Some z) is)).2 in omega (arith, r, le)))
  owner_within (suc n) k name e le f = owner_by k name e f (λ x to is.
      let at = f ∙ ap (λ z. Some z) is in
      let r = (moved_lower (olds ++ own) fa.ordered k name x to at).2 in
      let there = some_entry (entry_at A to name) (moved (olds ++ own) fa k name x to at).1 in
      let le2 : (hierarchy A).height to ≤ n = omega (arith, r, le) in
      owner_within n to name there.0 le2 there.1)

  pub exchange_owner : (r : MethodRef) → IsSome (entry_at A r.class r.name) → owner B r ≡ owner B (owner A r)
  exchange_owner r some =
      let e = some_entry (entry_at A r.class r.name) some in
      owner_within ((hierarchy A).height r.class) r.class r.name e.0 (omega arith) e.1
