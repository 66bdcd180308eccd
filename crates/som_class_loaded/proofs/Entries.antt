-- A class introduces a name exactly where it is among the names that its entries introduce, since no two entries have one name.
use Rattle.std.proofs.Common.{◌≡◌, ℕ, inl, inr, Bool, true, false, if◌then◌else◌, List, [], ◌∷◌, map, Option, Some, None, is_some, refl, sym, subst, true≢false}
use Rattle.std.specs.Str.{bytes_eq}
use Rattle.som_model.specs.declared.class.Entry.{Entry}
use Rattle.som_model.specs.declared.class.Entry.TheVariants as entries
use Rattle.som_model.specs.declared.key.ClassKey.{ClassKey}
use Rattle.som_model.specs.Lists.{Mem, doubles}
use Rattle.som_model.specs.Class.{Class, entry_name, entry_of, introduced, introduced_sig}
use Rattle.som_model.specs.Classes.{class_at}
use Rattle.som_model.specs.Keys.{same_key}
use Rattle.som_model.specs.Owner.{introduced_by, introduces}
use Rattle.som_model.specs.Rules.{breach}
use Rattle.som_model.proofs.KeyLaws.{exact_bytes}
use Rattle.som_model_laws.proofs.Members.{Apart, not_true}
use Rattle.som_model_laws.proofs.Lists.{doubles_apart}
use Rattle.som_class_loaded.specs.Added.{HaveDistinctEntries}

-- whether a name is among others
abbrev pub among : List ℕ → List (List ℕ) → Bool
among name [] = false
among name (x ∷ xs) = if bytes_eq x name then true else among name xs

no_map : {A B : Type 0} (f : A → B) (xs : List A) → map f xs ≡ [] → xs ≡ []
no_map f [] e = refl
no_map f (x ∷ xs) e = absurd (cc)

name_in : (es : List Entry) (name : List ℕ) → among name (introduced es) ≡ true → Mem name (map entry_name es)
name_in [] name t = absurd (true≢false (sym t))
name_in (entries.Moved x to ∷ es) name t = inr (name_in es name t)
name_in (entries.Introduced x sig way ∷ es) name t = by (bytes_eq x name) refl (λ u. name_in es name u) t
  where
    by : (b : Bool) → bytes_eq x name ≡ b → (among name (introduced es) ≡ true → Mem name (map entry_name es))
        → (if b then true else among name (introduced es)) ≡ true → Mem name (x ∷ map entry_name es)
    by true is later u = inl (sym (exact_bytes.two x name is))
    by false is later u = inr (later u)

-- what is moved isn't introduced as well
introduced_is : (es : List Entry) (name : List ℕ) → Apart (map entry_name es) → is_some (introduced_sig (entry_of es name)) ≡ among name (introduced es)
introduced_is [] name apart = refl
introduced_is (entries.Introduced x sig way ∷ es) name apart = by (bytes_eq x name) (introduced_is es name apart.1)
  where
    by : (b : Bool) → is_some (introduced_sig (entry_of es name)) ≡ among name (introduced es)
        → is_some (introduced_sig (if b then Some (entries.Introduced x sig way) else entry_of es name)) ≡ (if b then true else among name (introduced es))
    by true h = refl
    by false h = h
introduced_is (entries.Moved x to ∷ es) name apart = by (bytes_eq x name) refl (introduced_is es name apart.1)
  where
    by : (b : Bool) → bytes_eq x name ≡ b → is_some (introduced_sig (entry_of es name)) ≡ among name (introduced es)
        → is_some (introduced_sig (if b then Some (entries.Moved x to) else entry_of es name)) ≡ among name (introduced es)
    by true is h = sym (not_true (among name (introduced es)) (λ t. apart.0 (subst (λ (z : List ℕ). Mem z (map entry_name es)) (sym (exact_bytes.two x name is)) (name_in es name t))))
    by false is h = h

class_in_list : (cs : List Class) (k : ClassKey) (c : Class) → class_at cs k ≡ Some c → Mem c cs
class_in_list [] k c e = absurd (cc)
class_in_list (x ∷ cs) k c e = by (same_key x.key k) (λ f. class_in_list cs k c f) e
  where
    by : (b : Bool) → (class_at cs k ≡ Some c → Mem c cs) → (if b then Some x else class_at cs k) ≡ Some c → Mem c (x ∷ cs)
    by true later f = inl (cc)
    by false later f = inr (later f)

pub introduces_is : (cs : List Class) (name : List ℕ) (k : ClassKey) → HaveDistinctEntries cs → introduces cs name k ≡ among name (introduced_by cs k)
introduces_is cs name k distinct = by (class_at cs k) refl
  where
    by : (o : Option Class) → class_at cs k ≡ o → introduces cs name k ≡ among name (introduced_by cs k)
    by None e = rw e refl
    by (Some c) e = rw e (introduced_is c.decl.face.entries name (doubles_apart bytes_eq exact_bytes (map entry_name c.decl.face.entries) (no_map (breach 6 c) (doubles bytes_eq [] (map entry_name c.decl.face.entries)) (distinct c (class_in_list cs k c e)))))
