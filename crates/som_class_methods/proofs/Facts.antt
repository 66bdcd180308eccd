-- What declared classes keep of entries and owners.
use Rattle.std.proofs.Common.{◌≡◌, ℕ, zero, suc, ◌<◌, inl, inr, true, false, List, [], ◌∷◌, ◌++◌, map, Some, None, IsSome, slice_get, refl, sym, ap, ◌∙◌, subst, arith}
use Rattle.std.specs.Str.{bytes_eq}
use Rattle.som_model.specs.declared.key.ClassKey.{ClassKey}
use Rattle.som_model.specs.declared.class.Entry.{Entry}
use Rattle.som_model.specs.declared.class.Entry.TheVariants as entries
use Rattle.som_model.specs.Lists.{Mem, doubles}
use Rattle.som_model.specs.Class.{Class, entry_name, entry_of}
use Rattle.som_model.specs.Classes.{class_at}
use Rattle.som_model.specs.Kernel.{kernel}
use Rattle.som_model.specs.Loads.{FacesLoad, keys_of}
use Rattle.som_model.specs.Owner.{entry_at, owner}
use Rattle.som_model.specs.Rules.{breach}
use Rattle.som_model.proofs.KeyLaws.{exact_bytes}
use Rattle.som_model_laws.proofs.Members.{Apart, mem_split, not_true}
use Rattle.som_model_laws.proofs.Lists.{doubles_apart, get_mem, mem_map}
use Rattle.som_model_laws.proofs.Standing.{apart as keys_apart, earlier_at, found}
use Rattle.som_model_laws.proofs.Owners.{kernel_unmoved, moved_to, owner_moved, owner_stays, past_kernel}
use Rattle.som_class_ids.specs.Classes.{AreDeclared}
use Rattle.som_class_methods.specs.Owners.{AreFaces, ref}

pub record Facts (all : List Class) : Type 0 where
  pub apart : Apart (keys_of all)
  pub found_at : (c : Class) → Mem c all → class_at all c.key ≡ Some c
  pub names : (c : Class) → Mem c all → Apart (map entry_name c.decl.face.entries)
  pub stays : (k : ClassKey) (name : List ℕ) → moved_to (entry_at all k name) ≡ None → owner all (ref k name) ≡ ref k name
  pub moves : (k : ClassKey) (name x : List ℕ) (to : ClassKey) → entry_at all k name ≡ Some (entries.Moved x to) → owner all (ref k name) ≡ owner all (ref to name)
  -- the class to which an entry was moved stands earlier, and has an entry of that name
  pub target : (n : ℕ) (c : Class) (name : List ℕ) (to : ClassKey) → slice_get all n ≡ Some c → Mem (entries.Moved name to) c.decl.face.entries
      → (j : ℕ) × (d : Class) × (j < n) × (slice_get all j ≡ Some d) × (d.key ≡ to) × IsSome (entry_at all to name)

map_none : {A B : Type 0} (f : A → B) (xs : List A) → map f xs ≡ [] → xs ≡ []
map_none f [] e = refl
map_none f (x ∷ xs) e = absurd (cc)

kernel_names : (c : Class) → Mem c kernel → doubles bytes_eq [] (map entry_name c.decl.face.entries) ≡ []
kernel_names c (inl e) = subst (λ (z : Class). doubles bytes_eq [] (map entry_name z.decl.face.entries) ≡ []) (sym e) refl
kernel_names c (inr (inl e)) = subst (λ (z : Class). doubles bytes_eq [] (map entry_name z.decl.face.entries) ≡ []) (sym e) refl
kernel_names c (inr (inr (inl e))) = subst (λ (z : Class). doubles bytes_eq [] (map entry_name z.decl.face.entries) ≡ []) (sym e) refl
kernel_names c (inr (inr (inr (inl e)))) = subst (λ (z : Class). doubles bytes_eq [] (map entry_name z.decl.face.entries) ≡ []) (sym e) refl
kernel_names c (inr (inr (inr (inr m)))) = absurd m

facts_of : (cs : List Class) → FacesLoad cs → Facts (kernel ++ cs)
facts_of cs f = record {
  apart = keys_apart cs f.ordered;
  found_at = λ c m. found cs f.ordered c c.key m refl;
  names = λ c m. doubles_apart bytes_eq exact_bytes (map entry_name c.decl.face.entries) (elim (mem_split c kernel cs m) [
    | inl k ↦ kernel_names c k
    | inr k ↦ map_none (breach 6 c) (doubles bytes_eq [] (map entry_name c.decl.face.entries)) (f.names c k)
  ]);
  stays = owner_stays cs f.ordered;
  moves = owner_moved cs f.ordered;
  target = λ n c name to e m.
      let p = past_kernel cs f.ordered c n e (λ k. kernel_unmoved c name to k m) in
      let mem = get_mem cs p.0 c p.2 in
      let r = earlier_at cs f.ordered p.0 to (f.ordered.targets p.0 c name to p.2 m) in
      let less = r.2 in
      let at = p.1 in
      (r.0, r.1, omega (arith, less, at), r.3, r.4, f.there c name to mem m);
}

pub facts : (all : List Class) → AreFaces all → Facts all
facts all d = subst Facts (sym d.is) (facts_of d.others d.load)

pub declared : (all : List Class) → AreFaces all → AreDeclared all
declared all d = record { others = d.others; is = d.is; ordered = d.load.ordered }

-- an entry is found by its name, where names differ
pub entry_found : (es : List Entry) → Apart (map entry_name es) → (i : ℕ) (e : Entry) → slice_get es i ≡ Some e → entry_of es (entry_name e) ≡ Some e
entry_found [] o i e is = absurd (cc)
entry_found (x ∷ es) o zero e is =
    let same : x ≡ e = cc in
    let t : bytes_eq (entry_name x) (entry_name e) ≡ true = ap (λ z. bytes_eq (entry_name z) (entry_name e)) same ∙ exact_bytes.one (entry_name e) in
    rw t (ap (λ z. Some z) same)
entry_found (x ∷ es) o (suc i) e is =
    let other : bytes_eq (entry_name x) (entry_name e) ≡ false = not_true (bytes_eq (entry_name x) (entry_name e)) (λ t.
    o.0 (subst (λ z. Mem z (map entry_name es)) (sym (exact_bytes.two (entry_name x) (entry_name e) t)) (mem_map entry_name e es (get_mem es i e is)))) in
    rw other (entry_found es o.1 i e is)

pub entry_at_found : (all : List Class) → Facts all → (c : Class) → Mem c all → (i : ℕ) (e : Entry) → slice_get c.decl.face.entries i ≡ Some e → entry_at all c.key (entry_name e) ≡ Some e
entry_at_found all f c m i e is = let at = f.found_at c m in rw at (entry_found c.decl.face.entries (f.names c m) i e is)
