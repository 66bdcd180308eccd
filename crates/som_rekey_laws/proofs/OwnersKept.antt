-- Entries, owners and signatures under new keys.
use Rattle.std.proofs.Common.{◌≡◌, ℕ, zero, suc, true, false, List, [], ◌∷◌, map, Option, Some, None, is_some, unwrap_or, refl, sym, ap, ◌∙◌, true≢false}
use Rattle.std.specs.Str.{bytes_eq}
use Rattle.std.specs.Option.{option_map}
use Rattle.som_model.specs.declared.key.ClassKey.{ClassKey}
use Rattle.som_model.specs.declared.key.MethodRef.{MethodRef}
use Rattle.som_model.specs.declared.class.Sig.{Sig}
use Rattle.som_model.specs.declared.class.Entry.{Entry}
use Rattle.som_model.specs.declared.class.Entry.TheVariants as entries
use Rattle.som_model.specs.Keys.{same_key}
use Rattle.som_model.specs.Resolution.{byname}
use Rattle.som_model.specs.Class.{Class, entry_name, entry_of, introduced, introduced_sig}
use Rattle.som_model.specs.Classes.{class_at, hierarchy}
use Rattle.som_model.specs.Owner.{entry_at, owner, owner_within, sig_of, introduces, introduced_in, introduced_by}
use Rattle.som_model_laws.proofs.Owners.{moved_to, stays, moves, entry_class, entry_mem}
use Rattle.som_rekey_laws.specs.Rekeying.{ModuleChange, rekey, rekey_method, rekey_sig, rekey_entry, rekey_class, rekey_classes}
use Rattle.som_rekey_laws.specs.Apart.{Names, is_named, IsApart, AreNamed, AreTargetsNamed}
use Rattle.som_rekey_laws.proofs.Lists.{find_map}
use Rattle.som_rekey_laws.proofs.Renaming.{names_alike}
use Rattle.som_rekey_laws.proofs.Places.{found_mem, class_kept, hierarchy_kept}

pub name_kept : (f : ModuleChange) (e : Entry) → entry_name (rekey_entry f e) ≡ entry_name e
name_kept f (entries.Introduced name sig way) = refl
name_kept f (entries.Moved name to) = refl

pub entry_list : (f : ModuleChange) (es : List Entry) (name : List ℕ) → entry_of (map (rekey_entry f) es) name ≡ option_map (rekey_entry f) (entry_of es name)
entry_list f es name = find_map (λ e. bytes_eq (entry_name e) name) (λ e. bytes_eq (entry_name e) name) (rekey_entry f) es (λ e m. ap (λ x. bytes_eq x name) (name_kept f e))

-- the entry of a class that may be there
abbrev entry_of_class : Option Class → List ℕ → Option Entry
entry_of_class None name = None
entry_of_class (Some c) name = entry_of c.decl.face.entries name

class_entry : (f : ModuleChange) (o : Option Class) (name : List ℕ) → entry_of_class (option_map (rekey_class f) o) name ≡ option_map (rekey_entry f) (entry_of_class o name)
class_entry f None name = refl
class_entry f (Some c) name = entry_list f c.decl.face.entries name

moved_kept : (f : ModuleChange) (o : Option Entry) → moved_to (option_map (rekey_entry f) o) ≡ option_map (rekey f) (moved_to o)
moved_kept f None = refl
moved_kept f (Some (entries.Introduced name sig way)) = refl
moved_kept f (Some (entries.Moved name to)) = refl

sig_kept : (f : ModuleChange) (o : Option Entry) → introduced_sig (option_map (rekey_entry f) o) ≡ option_map (rekey_sig f) (introduced_sig o)
sig_kept f None = refl
sig_kept f (Some (entries.Introduced name sig way)) = refl
sig_kept f (Some (entries.Moved name to)) = refl

there_kept : (f : ModuleChange) (o : Option Sig) → is_some (option_map (rekey_sig f) o) ≡ is_some o
there_kept f None = refl
there_kept f (Some s) = refl

pub list_introduced : (f : ModuleChange) (es : List Entry) → introduced (map (rekey_entry f) es) ≡ introduced es
list_introduced f [] = refl
list_introduced f (entries.Introduced name sig way ∷ es) = ap (λ l. name ∷ l) (list_introduced f es)
list_introduced f (entries.Moved name to ∷ es) = list_introduced f es

class_introduced : (f : ModuleChange) (o : Option Class) → introduced_in (option_map (rekey_class f) o) ≡ introduced_in o
class_introduced f None = refl
class_introduced f (Some c) = list_introduced f c.decl.face.entries

module _ (f : ModuleChange) (names : Names) (cs : List Class) (is : IsApart f names) (are : AreNamed names cs) where
  pub entry_kept : (k : ClassKey) (name : List ℕ) → is_named names k ≡ true → entry_at (rekey_classes f cs) (rekey f k) name ≡ option_map (rekey_entry f) (entry_at cs k name)
  entry_kept k name n = ap (λ o. entry_of_class o name) (class_kept f names cs is are k n) ∙ class_entry f (class_at cs k) name

  pub signature_kept : (r : MethodRef) → is_named names r.class ≡ true → sig_of (rekey_classes f cs) (rekey_method f r) ≡ option_map (rekey_sig f) (sig_of cs r)
  signature_kept r n = ap introduced_sig (entry_kept r.class r.name n) ∙ sig_kept f (entry_at cs r.class r.name)

  pub introduces_kept : (name : List ℕ) (k : ClassKey) → is_named names k ≡ true → introduces (rekey_classes f cs) name (rekey f k) ≡ introduces cs name k
  introduces_kept name k n = ap is_some (signature_kept (record { class = k; name = name }) n) ∙ there_kept f (sig_of cs (record { class = k; name = name }))

  pub introduced_kept : (k : ClassKey) → is_named names k ≡ true → introduced_by (rekey_classes f cs) (rekey f k) ≡ introduced_by cs k
  introduced_kept k n = ap introduced_in (class_kept f names cs is are k n) ∙ class_introduced f (class_at cs k)

  pub byname_kept : (name : List ℕ) (k : ClassKey) → is_named names k ≡ true → byname (hierarchy (rekey_classes f cs)) (introduces (rekey_classes f cs) name) (rekey f k) ≡ option_map (rekey f) (byname (hierarchy cs) (introduces cs name) k)
  byname_kept name k n = names_alike (hierarchy cs) (hierarchy (rekey_classes f cs)) (rekey f) (is_named names) (hierarchy_kept f names cs is are) (introduces cs name) (introduces (rekey_classes f cs) name) (introduces_kept name) k n

  module _ (targets : AreTargetsNamed names cs) where
    target_named : (k to : ClassKey) (name : List ℕ) (o : Option Entry) → entry_at cs k name ≡ o → moved_to o ≡ Some to → is_named names to ≡ true
    target_named k to name None e m = absurd (true≢false (ap is_some (sym m)))
    target_named k to name (Some (entries.Introduced x sig way)) e m = absurd (true≢false (ap is_some (sym m)))
    target_named k to name (Some (entries.Moved x t)) e m =
        let d = entry_class cs k name (entries.Moved x t) e in
        let same : t ≡ to = ap (λ o. unwrap_or o to) m in
        ap (is_named names) (sym same)
        ∙ targets d.0 x t (found_mem (λ (c : Class). same_key c.key k) cs d.0 d.1) (entry_mem d.0.decl.face.entries name (entries.Moved x t) d.2).0

    abbrev IsOwnerKept : ℕ → MethodRef → Type 0
    IsOwnerKept n r = (owner_within (rekey_classes f cs) n (rekey_method f r) ≡ rekey_method f (owner_within cs n r)) × (is_named names (owner_within cs n r).class ≡ true)

    owner_step : (n : ℕ) (r : MethodRef) (q : Option ClassKey) → is_named names r.class ≡ true → moved_to (entry_at cs r.class r.name) ≡ q
        → ((s : MethodRef) → is_named names s.class ≡ true → IsOwnerKept n s) → IsOwnerKept (suc n) r
    owner_step n r None k e go =
        let there : moved_to (entry_at (rekey_classes f cs) (rekey f r.class) r.name) ≡ None =
        ap moved_to (entry_kept r.class r.name k) ∙ moved_kept f (entry_at cs r.class r.name) ∙ ap (option_map (rekey f)) e in
        let here = stays cs (suc n) r e in
        (stays (rekey_classes f cs) (suc n) (rekey_method f r) there ∙ ap (rekey_method f) (sym here), ap (λ (s : MethodRef). is_named names s.class) here ∙ k)
    owner_step n r (Some to) k e go =
        let there : moved_to (entry_at (rekey_classes f cs) (rekey f r.class) r.name) ≡ Some (rekey f to) =
        ap moved_to (entry_kept r.class r.name k) ∙ moved_kept f (entry_at cs r.class r.name) ∙ ap (option_map (rekey f)) e in
        let here = moves cs n r to e in
        let further = go (record { class = to; name = r.name }) (target_named r.class to r.name (entry_at cs r.class r.name) refl e) in
        (moves (rekey_classes f cs) n (rekey_method f r) (rekey f to) there ∙ further.0 ∙ ap (rekey_method f) (sym here), ap (λ (s : MethodRef). is_named names s.class) here ∙ further.1)

    owner_by : (n : ℕ) (r : MethodRef) → is_named names r.class ≡ true → IsOwnerKept n r
    owner_by zero r k = (refl, k)
    owner_by (suc n) r k = owner_step n r (moved_to (entry_at cs r.class r.name)) k refl (owner_by n)

    pub owner_kept : (r : MethodRef) → is_named names r.class ≡ true → owner (rekey_classes f cs) (rekey_method f r) ≡ rekey_method f (owner cs r)
    owner_kept r k =
        ap (λ n. owner_within (rekey_classes f cs) n (rekey_method f r)) ((hierarchy_kept f names cs is are).height r.class k)
        ∙ (owner_by ((hierarchy cs).height r.class) r k).0

    pub owner_named : (r : MethodRef) → is_named names r.class ≡ true → is_named names (owner cs r).class ≡ true
    owner_named r k = (owner_by ((hierarchy cs).height r.class) r k).1

    pub owner_signature_kept : (r : MethodRef) → is_named names r.class ≡ true
        → sig_of (rekey_classes f cs) (owner (rekey_classes f cs) (rekey_method f r)) ≡ option_map (rekey_sig f) (sig_of cs (owner cs r))
    owner_signature_kept r k = ap (sig_of (rekey_classes f cs)) (owner_kept r k) ∙ signature_kept (owner cs r) (owner_named r k)
