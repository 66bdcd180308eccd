-- A class that is known and a method that has a signature are in a directory that tells these classes.
use Rattle.std.proofs.Common.{◌≡◌, ℕ, zero, suc, inl, inr, Bool, true, false, if◌then◌else◌, true≢false, List, [], ◌∷◌, map, Option, Some, None, is_some, refl, sym, ap, subst, ◌∙◌}
use Rattle.std.specs.Prelude.{unwrap_or}
use Rattle.std.specs.Str.{bytes_eq}
use Rattle.som_model.specs.declared.key.ClassKey.{ClassKey}
use Rattle.som_model.specs.declared.key.MethodRef.{MethodRef}
use Rattle.som_model.specs.declared.class.Sig.{Sig}
use Rattle.som_model.specs.declared.class.Entry.{Entry}
use Rattle.som_model.specs.Lists.{Mem, place_from}
use Rattle.som_model.specs.Keys.{same_key}
use Rattle.som_model.specs.Class.{Class, entry_name, entry_of}
use Rattle.som_model.specs.Classes.{class_at, hierarchy}
use Rattle.som_model.specs.Owner.{entry_at, introduces, owner, owner_within}
use Rattle.som_model.specs.Typing.{class_facts}
use Rattle.som_model.proofs.KeyLaws.{exact_bytes, exact_keys}
use Rattle.som_image_decode.specs.declared.directory.Directory.{Directory}
use Rattle.som_image_decode.specs.Naming.{Tells, entry_names}
use Rattle.som_image_encode.specs.Numbering.{MethodKnown}
use Rattle.som_image_decode.proofs.Places.{place_of_map}
use Rattle.som_image_decode.proofs.Numbers.{Known, known}
use Rattle.som_image_encode.proofs.Numbering.{first_place}
use Rattle.som_image_encode.proofs.TypedBlocks.{Covers}

abbrev pub keys_of : List Class → List ClassKey
keys_of cs = map (λ (c : Class). c.key) cs

pub known_mem : (cs : List Class) (k : ClassKey) → is_some (class_at cs k) ≡ true → Mem k (keys_of cs)
known_mem [] k h = absurd (true≢false (sym h))
known_mem (c ∷ cs) k h = by (same_key c.key k) refl (known_mem cs k) h
  where
    by : (b : Bool) → same_key c.key k ≡ b → (is_some (class_at cs k) ≡ true → Mem k (keys_of cs)) → is_some (if b then Some c else class_at cs k) ≡ true → Mem k (keys_of (c ∷ cs))
    by true e f g = inl (sym (exact_keys.two c.key k e))
    by false e f g = inr (f g)

pub some_known : (cs : List Class) (k : ClassKey) (c : Class) → class_at cs k ≡ Some c → is_some (class_at cs k) ≡ true
some_known cs k c e = rw e refl

module _ (cs : List Class) where
  stays : (n : ℕ) (r : MethodRef) → entry_at cs r.class r.name ≡ None → owner_within cs n r ≡ r
  stays zero r e = refl
  stays (suc n) r e = rw e refl

  -- a method whose owner introduces it is an entry of the class that it names
  pub has_entry : (r : MethodRef) (o : Option Entry) → entry_at cs r.class r.name ≡ o → introduces cs (owner cs r).name (owner cs r).class ≡ true → is_some (entry_at cs r.class r.name) ≡ true
  has_entry r (Some e) is h = rw is refl
  has_entry r None is h =
      let own : owner cs r ≡ r = stays ((hierarchy cs).height r.class) r is in
      let here : introduces cs r.name r.class ≡ true = subst (λ (m : MethodRef). introduces cs m.name m.class ≡ true) own h in
      let none : introduces cs r.name r.class ≡ false = rw is refl in
      absurd (true≢false (sym here ∙ none))

  has_class : (r : MethodRef) (o : Option Class) → class_at cs r.class ≡ o → is_some (entry_at cs r.class r.name) ≡ true → (c : Class) × (class_at cs r.class ≡ Some c) × (is_some (entry_of c.decl.face.entries r.name) ≡ true)
  has_class r (Some c) is h = (c, is, rw is at h)
  has_class r None is h = let none : is_some (entry_at cs r.class r.name) ≡ false = rw is refl in absurd (true≢false (sym h ∙ none))

  entry_mem : (es : List Entry) (name : List ℕ) → is_some (entry_of es name) ≡ true → Mem name (map entry_name es)
  entry_mem [] name h = absurd (true≢false (sym h))
  entry_mem (e ∷ es) name h = by (bytes_eq (entry_name e) name) refl (entry_mem es name) h
    where
      by : (b : Bool) → bytes_eq (entry_name e) name ≡ b → (is_some (entry_of es name) ≡ true → Mem name (map entry_name es)) → is_some (if b then Some e else entry_of es name) ≡ true → Mem name (map entry_name (e ∷ es))
      by true is f g = inl (sym (exact_bytes.two (entry_name e) name is))
      by false is f g = inr (f g)

  module _ (d : Directory) (tells : Tells d cs) where
    -- the number of a class that is there
    numbered_at : (k : ClassKey) (o : Option ℕ) → place_from 0 (λ x. same_key x k) d.keys ≡ o → is_some o ≡ true → Known d cs k (unwrap_or o 0)
    numbered_at k None e h = absurd (true≢false (sym h))
    numbered_at k (Some n) e h =
        known d cs tells k n (place_of_map (λ (c : Class). c.key) (λ x. same_key x k) 0 cs ∙ ap (λ (l : List ClassKey). place_from 0 (λ x. same_key x k) l) tells.keys ∙ e)

    pub class_mem : (k : ClassKey) → is_some (class_at cs k) ≡ true → Mem k d.keys
    class_mem k h = subst (Mem k) tells.keys (known_mem cs k h)

    pub method_known : (r : MethodRef) → is_some (entry_at cs r.class r.name) ≡ true → MethodKnown d r
    method_known r h =
        let c = has_class r (class_at cs r.class) refl h in
        let mem : Mem r.class d.keys = class_mem r.class (some_known cs r.class c.0 c.1) in
        let k = numbered_at r.class (place_from 0 (λ x. same_key x r.class) d.keys) refl (first_place same_key exact_keys r.class d.keys 0 mem) in
        let same : k.class ≡ c.0 = one_class k.class c.0 (sym k.is ∙ c.1) in
        record {
          class = mem;
          name = subst (Mem r.name) (sym (k.slots ∙ ap entry_names same)) (entry_mem c.0.decl.face.entries r.name c.2);
        }
      where
        one_class : (a b : Class) → Some a ≡ Some b → a ≡ b
        one_class a b e = cc

    -- what a call names, as typing asks for it
    pub covers : Covers (class_facts cs) d
    unfolding class_facts
    covers = record {
      class = class_mem;
      method = λ r sig e. method_known r (has_entry r (entry_at cs r.class r.name) refl (ap (λ (o : Option Sig). is_some o) e));
    }
