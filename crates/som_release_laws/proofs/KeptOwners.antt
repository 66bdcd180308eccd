-- Where no two ancestors of a newer class introduce one name, the owners of what the old had are kept.
use Rattle.std.proofs.Common.{◌≡◌, ℕ, true, List, ◌++◌, Some, IsSome, refl, sym, ap, ◌∙◌, subst}
use Rattle.std.specs.Prelude.{is_some}
use Rattle.som_model.specs.declared.key.ClassKey.{ClassKey}
use Rattle.som_model.specs.declared.key.MethodRef.{MethodRef}
use Rattle.som_model.specs.declared.class.Entry.{Entry}
use Rattle.som_model.specs.Lists.{Mem}
use Rattle.som_model.specs.Ancestors.{Descends}
use Rattle.som_model.specs.Class.{Class}
use Rattle.som_model.specs.Classes.{class_at, hierarchy}
use Rattle.som_model.specs.Kernel.{kernel}
use Rattle.som_model.specs.Owner.{entry_at, introduces, owner}
use Rattle.som_model.specs.Loads.{FacesLoad, IsOrdered}
use Rattle.som_model_laws.proofs.Laws.{descends_through}
use Rattle.som_model_laws.specs.Keeping.{ClassesKeep}
use Rattle.som_model_laws.proofs.Standing.{known_above}
use Rattle.som_model_laws.proofs.Owners.{entry_is, owner_owns}
use Rattle.som_release_laws.specs.Releasing.{Once, OwnersAreKept}
use Rattle.som_release_laws.proofs.Exchange.{entry_new, new_alone, new_ordered, old_alone, pair}
use Rattle.som_release_laws.proofs.Facts.{introduced_entry}
use Rattle.som_release_laws.proofs.Lists.{named_entry}
use Rattle.som_release_laws.proofs.OneOwner.{ref_one}
use Rattle.som_release_laws.proofs.Prefix.{descends_less, entry_same, owner_same, some_entry}

module _ (olds news own : List Class) (fa : FacesLoad (olds ++ own)) (fn : FacesLoad news) (keep : ClassesKeep olds news)
    (apart : (c d : Class) → Mem c news → Mem d own → c.key ≡ d.key → ⊥) (once : Once (kernel ++ news) news) where
  abbrev A : List Class
  A = kernel ++ (olds ++ own)

  abbrev B : List Class
  B = kernel ++ (news ++ own)

  abbrev O : List Class
  O = kernel ++ olds

  abbrev N : List Class
  N = kernel ++ news

  abbrev ob : IsOrdered (news ++ own)
  ob = new_ordered olds news own fa.ordered fn.ordered keep apart

  abbrev ref : ClassKey → List ℕ → MethodRef
  ref k name = record { class = k; name = name }

  -- an entry of a class of the new is one of it alone
  alone_entry : (k : ClassKey) (name : List ℕ) (n : Class) → class_at N k ≡ Some n → IsSome (entry_at B k name) → IsSome (entry_at N k name)
  alone_entry k name n e s = subst (λ z. IsSome z) (entry_same news own ob k name n e) s

  kept_owner : (c : Class) (k : ClassKey) (name : List ℕ) (e : Entry) → Mem c olds → c.key ≡ k → entry_at A k name ≡ Some e → owner N (ref k name) ≡ owner N (owner A (ref k name))
  kept_owner c k name e m key f =
      let n = pair olds news own fa.ordered fn.ordered keep apart c m in
      let here = new_alone olds news own fa.ordered fn.ordered keep apart n.0 k n.1 (n.2 ∙ key) in
      let s = owner A (ref k name) in
      let own_a = owner_owns (olds ++ own) fa (ref k name) (ap is_some f) in
      let small = descends_less olds own fa.ordered k s.class c (old_alone olds news own fa.ordered fn.ordered keep apart c k m key) own_a.above in
      let up : Descends (hierarchy N) k s.class = subst (λ z. Descends (hierarchy N) z s.class) key (keep.ancestors c s.class m (subst (λ z. Descends (hierarchy O) z s.class) (sym key) small)) in
      let d = known_above news fn.ordered k s.class n.0 here up in
      let i = introduced_entry A s.name s.class own_a.introduced in
      let s_there = alone_entry s.class s.name d.0 d.1 (entry_new olds news own fa.ordered fn.ordered keep apart s.class s.name i.0 i.1) in
      let r_there = alone_entry k name n.0 here (entry_new olds news own fa.ordered fn.ordered keep apart k name e f) in
      let own_s = owner_owns news fn s s_there in
      let own_r = owner_owns news fn (ref k name) r_there in
      let names = own_r.name ∙ sym (own_s.name ∙ own_a.name) in
      let at_n : k ≡ n.0.key = sym (n.2 ∙ key) in
      let classes = once n.0 (owner N (ref k name)).class (owner N s).class (owner N (ref k name)).name n.1
      (subst (λ z. Descends (hierarchy N) z (owner N (ref k name)).class) at_n own_r.above)
      (subst (λ z. Descends (hierarchy N) z (owner N s).class) at_n (descends_through (hierarchy N) k s.class (owner N s).class up own_s.above))
      own_r.introduced (subst (λ z. introduces N z (owner N s).class ≡ true) (sym names) own_s.introduced) in
      ref_one (owner N (ref k name)) (owner N s) classes names

  pub once_kept : OwnersAreKept olds news
  once_kept c name m has =
      let there = old_alone olds news own fa.ordered fn.ordered keep apart c c.key m refl in
      let here = named_entry c.decl.face.entries name has in
      let e = some_entry (entry_at A c.key name) (subst (λ z. IsSome z) (sym (entry_same olds own fa.ordered c.key name c there ∙ entry_is O c.key name c there)) here) in
      kept_owner c c.key name e.0 m refl e.1 ∙ ap (owner N) (owner_same olds own fa.ordered c.key name c there)
