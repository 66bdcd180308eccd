-- What classes say whose moved entries name the classes of their owners: what they descend from, know and introduce is as it was.
use Rattle.std.proofs.Common.{◌≡◌, ℕ, true, false, List, [], ◌∷◌, ◌++◌, map, Option, Some, None, refl, sym, ap, ◌∙◌, subst, true≢false}
use Rattle.std.specs.Prelude.{is_some}
use Rattle.std.specs.Option.{option_map}
use Rattle.std.specs.Str.{bytes_eq}
use Rattle.som_model.specs.declared.key.ClassKey.{ClassKey}
use Rattle.som_model.specs.declared.key.MethodRef.{MethodRef}
use Rattle.som_model.specs.declared.class.Entry.{Entry}
use Rattle.som_model.specs.declared.class.Entry.TheVariants as entries
use Rattle.som_model.specs.Lists.{Mem, doubles}
use Rattle.som_model.specs.Keys.{same_key}
use Rattle.som_model.specs.Class.{Class, entry_name, entry_of, introduced_sig}
use Rattle.som_model.specs.Classes.{class_at, hierarchy, is_a}
use Rattle.som_model.specs.Kernel.{kernel}
use Rattle.som_model.specs.Owner.{entry_at, introduces, owner, sig_of}
use Rattle.som_model.specs.Rules.{breach, s6}
use Rattle.som_model.specs.Loads.{FacesLoad}
use Rattle.som_model.proofs.KeyLaws.{exact_bytes}
use Rattle.som_model_laws.specs.Owning.{Owns}
use Rattle.som_model_laws.proofs.Lists.{doubles_apart}
use Rattle.som_model_laws.proofs.Members.{Apart, mem_right}
use Rattle.som_model_laws.proofs.Owners.{entry_is, entry_unknown, owner_owns}
use Rattle.som_model_laws.proofs.Standing.{found}
use Rattle.som_verify_classes.proofs.Outlines.{outline, same_descent, same_hierarchy, same_known}
use Rattle.som_rekey_laws.proofs.Lists.{find_map}
use Rattle.som_flat_laws.specs.Flat.{class_by_owners, entry_by_owner}
use Rattle.som_flat_laws.proofs.Lists.{found_by_name}

map_nothing : {A B : Type 0} (f : A → B) (xs : List A) → map f xs ≡ [] → xs ≡ []
map_nothing f [] e = refl
map_nothing f (x ∷ xs) e = absurd (cc)

module _ (all : List Class) where
  abbrev S : Class → Class
  S = class_by_owners all

  pub outlines : (xs : List Class) → map outline (map S xs) ≡ map outline xs
  outlines [] = refl
  outlines (x ∷ xs) = ap (λ l. outline x ∷ l) (outlines xs)

  -- a class by its key
  pub class_at_by_owners : (xs : List Class) (k : ClassKey) → class_at (map S xs) k ≡ option_map S (class_at xs k)
  class_at_by_owners xs k = find_map (λ (c : Class). same_key c.key k) (λ (c : Class). same_key c.key k) S xs (λ c m. refl)

  name_by_owners : (k : ClassKey) (e : Entry) → entry_name (entry_by_owner all k e) ≡ entry_name e
  name_by_owners k (entries.Introduced name sig way) = refl
  name_by_owners k (entries.Moved name to) = refl

  pub names_by_owners : (k : ClassKey) (es : List Entry) → map entry_name (map (entry_by_owner all k) es) ≡ map entry_name es
  names_by_owners k [] = refl
  names_by_owners k (e ∷ es) = ap (λ n. n ∷ map entry_name (map (entry_by_owner all k) es)) (name_by_owners k e) ∙ ap (λ l. entry_name e ∷ l) (names_by_owners k es)

  entry_list : (k : ClassKey) (es : List Entry) (name : List ℕ) → entry_of (map (entry_by_owner all k) es) name ≡ option_map (entry_by_owner all k) (entry_of es name)
  entry_list k es name = find_map (λ e. bytes_eq (entry_name e) name) (λ e. bytes_eq (entry_name e) name) (entry_by_owner all k) es (λ e m. ap (λ x. bytes_eq x name) (name_by_owners k e))

  -- the entry that a class has for a name
  pub entry_at_by_owners : (xs : List Class) (k : ClassKey) (name : List ℕ) (c : Class) → class_at xs k ≡ Some c → entry_at (map S xs) k name ≡ option_map (entry_by_owner all c.key) (entry_at xs k name)
  entry_at_by_owners xs k name c e =
      entry_is (map S xs) k name (S c) (class_at_by_owners xs k ∙ ap (option_map S) e)
      ∙ entry_list c.key c.decl.face.entries name
      ∙ ap (option_map (entry_by_owner all c.key)) (sym (entry_is xs k name c e))

  sig_by_owners : (k : ClassKey) (o : Option Entry) → introduced_sig (option_map (entry_by_owner all k) o) ≡ introduced_sig o
  sig_by_owners k None = refl
  sig_by_owners k (Some (entries.Introduced name sig way)) = refl
  sig_by_owners k (Some (entries.Moved name to)) = refl

  -- the signature that a class introduces for a name
  pub signature_by_owners : (xs : List Class) (r : MethodRef) → sig_of (map S xs) r ≡ sig_of xs r
  signature_by_owners xs r = by (class_at xs r.class) refl
    where
      by : (o : Option Class) → class_at xs r.class ≡ o → sig_of (map S xs) r ≡ sig_of xs r
      by None e = ap introduced_sig (entry_unknown (map S xs) r.class r.name (class_at_by_owners xs r.class ∙ ap (option_map S) e) ∙ sym (entry_unknown xs r.class r.name e))
      by (Some c) e = ap introduced_sig (entry_at_by_owners xs r.class r.name c e) ∙ sig_by_owners c.key (entry_at xs r.class r.name)

  pub introduces_by_owners : (xs : List Class) (name : List ℕ) (k : ClassKey) → introduces (map S xs) name k ≡ introduces xs name k
  introduces_by_owners xs name k = ap is_some (signature_by_owners xs (record { class = k; name = name }))

  pub hierarchy_by_owners : (xs : List Class) → hierarchy (map S xs) ≡ hierarchy xs
  hierarchy_by_owners xs = same_hierarchy (map S xs) xs (outlines xs)

  pub descent_by_owners : (xs : List Class) (k a : ClassKey) → is_a (map S xs) k a ≡ is_a xs k a
  descent_by_owners xs = same_descent (map S xs) xs (outlines xs)

  pub known_by_owners : (xs : List Class) (k : ClassKey) → is_some (class_at (map S xs) k) ≡ is_some (class_at xs k)
  known_by_owners xs = same_known (map S xs) xs (outlines xs)

-- the kernel's classes have no moved entries
pub kernel_by_owners : (cs : List Class) → map (class_by_owners (kernel ++ cs)) (kernel ++ cs) ≡ kernel ++ map (class_by_owners (kernel ++ cs)) cs
kernel_by_owners cs = refl

-- the names of a class's entries differ
pub entries_apart : (c : Class) → s6 c ≡ [] → Apart (map entry_name c.decl.face.entries)
entries_apart c e = doubles_apart bytes_eq exact_bytes (map entry_name c.decl.face.entries) (map_nothing (breach 6 c) (doubles bytes_eq [] (map entry_name c.decl.face.entries)) e)

module _ (cs : List Class) (f : FacesLoad cs) where
  abbrev all : List Class
  all = kernel ++ cs

  abbrev pub ref : ClassKey → List ℕ → MethodRef
  ref k name = record { class = k; name = name }

  pub here : (c : Class) → Mem c cs → class_at all c.key ≡ Some c
  here c m = found cs f.ordered c c.key (mem_right c kernel cs m) refl

  -- an entry is found by its name
  pub entry_here : (c : Class) (e : Entry) → Mem c cs → Mem e c.decl.face.entries → entry_at all c.key (entry_name e) ≡ Some e
  entry_here c e m n = entry_is all c.key (entry_name e) c (here c m) ∙ found_by_name entry_name c.decl.face.entries e (entries_apart c (f.names c m)) n

  -- the owner of an entry that was moved introduces its name, and is an ancestor
  pub owned : (c : Class) (name : List ℕ) (to : ClassKey) → Mem c cs → Mem (entries.Moved name to) c.decl.face.entries → Owns all (owner all (ref c.key name)) (ref c.key name)
  owned c name to m n = owner_owns cs f (ref c.key name) (ap is_some (entry_here c (entries.Moved name to) m n))

  pub owner_introduces : (c : Class) (name : List ℕ) (to : ClassKey) → Mem c cs → Mem (entries.Moved name to) c.decl.face.entries → introduces all name (owner all (ref c.key name)).class ≡ true
  owner_introduces c name to m n =
      let o = owned c name to m n in
      subst (λ z. introduces all z (owner all (ref c.key name)).class ≡ true) o.name o.introduced

  -- and isn't the class itself
  pub owner_other : (c : Class) (name : List ℕ) (to : ClassKey) → Mem c cs → Mem (entries.Moved name to) c.decl.face.entries → (owner all (ref c.key name)).class ≡ c.key → ⊥
  owner_other c name to m n same =
      let i : introduces all name c.key ≡ true = subst (λ z. introduces all name z ≡ true) same (owner_introduces c name to m n) in
      let e : introduces all name c.key ≡ false = ap (λ o. is_some (introduced_sig o)) (entry_here c (entries.Moved name to) m n) in
      true≢false (sym i ∙ e)
