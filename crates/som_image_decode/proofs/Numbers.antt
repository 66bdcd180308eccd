-- Numbers and the classes that they stand for, slots and the names that they stand for.
use Rattle.std.proofs.Common.{◌≡◌, ℕ, ◌<◌, Bool, List, [], ◌++◌, length, get_or, Option, Some, None, refl, sym, ap, subst, ◌∙◌, arith}
use Rattle.std.specs.List.{IsDistinct}
use Rattle.std.specs.Str.{bytes_eq}
use Rattle.std.specs.Int.{w16, to_be_bytes}
use Rattle.std.proofs.Math.ListN.{get_or-map as get_or_mapped}
use Rattle.std.proofs.lemmas.List.{length-map, get_or-map}
use Rattle.som_model.specs.declared.key.ClassKey.{ClassKey}
use Rattle.som_model.specs.declared.key.MethodRef.{MethodRef}
use Rattle.som_model.specs.Lists.{place_from}
use Rattle.som_model.specs.Keys.{same_key}
use Rattle.som_model.specs.Class.{Class, entry_name}
use Rattle.som_model.specs.Kernel.{som_object}
use Rattle.som_model.specs.Classes.{class_at}
use Rattle.som_model.specs.Images as images
use Rattle.som_model.specs.Images.{Spelled, ◌then◌, numbered, slot_in}
use Rattle.som_model.proofs.KeyLaws.{exact_keys, exact_bytes}
use Rattle.som_image_fields.specs.declared.method.WireMethod.{WireMethod}
use Rattle.som_image_fields.specs.Spelling as wire
use Rattle.som_image_fields.specs.Spelling.{FitsMethod}
use Rattle.som_image_decode.specs.declared.directory.Directory.{Directory}
use Rattle.som_image_decode.specs.Naming.{key_at, method_named, ranges_in, entry_names, Tells, NoDoubles}
use Rattle.som_image_decode.proofs.Places.{place_of_map, place_found, own_place, all_at}
use Rattle.som_image_decode.proofs.Spelled.{bytes_are, none_some, split, Forth, Back}

abbrev some_number : ℕ → Option ℕ
some_number n = Some n

abbrev has_key : ClassKey → Class → Bool
has_key k c = same_key c.key k

-- what a directory says of a class that was found
pub record Known (d : Directory) (cs : List Class) (k : ClassKey) (n : ℕ) : Type 0 where
  pub class : Class
  pub is : class_at cs k ≡ Some class
  pub below : n < length d.keys
  pub key : key_at d.keys n ≡ k
  pub slots : get_or d.slots n [] ≡ entry_names class

abbrev method_ref : ClassKey → List ℕ → MethodRef
method_ref k name = record { class = k; name = name }

numbered_is : (o : Option ℕ) (bytes : List ℕ) → numbered o ≡ Some bytes → (n : ℕ) × (o ≡ Some n) × (to_be_bytes w16 n ≡ bytes)
numbered_is (Some n) bytes e = (n, refl, bytes_are (to_be_bytes w16 n) bytes e)
numbered_is None bytes e = none_some bytes e

-- the slot of a name goes by the names of the entries
slot_is : (c : Class) (name : List ℕ) → slot_in (Some c) name ≡ place_from 0 (λ x. bytes_eq x name) (entry_names c)
slot_is c name = place_of_map entry_name (λ x. bytes_eq x name) 0 c.decl.face.entries

module _ (d : Directory) (cs : List Class) (tells : Tells d cs) where
  pub known : (k : ClassKey) (n : ℕ) → place_from 0 (has_key k) cs ≡ Some n → Known d cs k n
  known k n e =
      let f = place_found (has_key k) cs 0 n e in
      let at : f.at ≡ n = omega (arith, f.is_at) in
      let key : key_at d.keys f.at ≡ f.what.key =
      ap (λ (ks : List ClassKey). key_at ks f.at) (sym tells.keys) ∙ get_or-map (λ (c : Class). c.key) cs f.at f.what som_object f.within ∙ ap (λ (c : Class). c.key) (f.there f.what) in
      let names : get_or d.slots f.at [] ≡ entry_names f.what =
      ap (λ (ss : List (List (List ℕ))). get_or ss f.at []) (sym tells.slots) ∙ get_or-map entry_names cs f.at f.what [] f.within ∙ ap entry_names (f.there f.what) in
      let as_many : length d.keys ≡ length cs = sym (ap (length {A = ClassKey}) tells.keys) ∙ length-map cs (λ (c : Class). c.key) in
      subst (λ (m : ℕ). Known d cs k m) at (record { class = f.what; is = f.found; below = omega (arith, as_many, f.within); key = key ∙ exact_keys.two f.what.key k f.passes; slots = names })

  slots_as_keys : length d.slots ≡ length d.keys
  slots_as_keys =
      sym (ap (length {A = List (List ℕ)}) tells.slots) ∙ length-map cs entry_names ∙ sym (length-map cs (λ (c : Class). c.key)) ∙ ap (length {A = ClassKey}) tells.keys

  -- ---- from numbers to classes

  place_forth : NoDoubles d → (n : ℕ) → n < length d.keys → place_from 0 (has_key (key_at d.keys n)) cs ≡ Some n
  place_forth single n lt =
      place_of_map (λ (c : Class). c.key) (λ x. same_key x (key_at d.keys n)) 0 cs
      ∙ ap (λ (ks : List ClassKey). place_from 0 (λ x. same_key x (key_at d.keys n)) ks) tells.keys
      ∙ own_place same_key exact_keys d.keys single.keys 0 n som_object lt
      ∙ ap some_number (omega arith)

  pub class_forth : NoDoubles d → (n : ℕ) → n < length d.keys → Forth (images.class cs) (wire.number w16) (key_at d.keys) n
  class_forth single n lt = ap numbered (place_forth single n lt)

  pub method_forth : NoDoubles d → (m : WireMethod) → FitsMethod (ranges_in d) m → Forth (images.method cs) wire.method (method_named d) m
  method_forth single m fits =
      let k : ClassKey = key_at d.keys m.class in
      let names : List (List ℕ) = get_or d.slots m.class [] in
      let name : List ℕ = get_or names m.slot [] in
      let c = known k m.class (place_forth single m.class fits.class) in
      let lt : m.slot < length names = omega (arith, fits.slot, get_or_mapped (λ (ns : List (List ℕ)). length ns) d.slots m.class []) in
      let distinct : IsDistinct bytes_eq names = all_at (IsDistinct bytes_eq) d.slots m.class [] (omega (arith, slots_as_keys, fits.class)) single.slots in
      let slot : slot_in (class_at cs k) name ≡ Some m.slot =
      ap (λ (o : Option Class). slot_in o name) c.is ∙ slot_is c.class name
      ∙ ap (λ (ns : List (List ℕ)). place_from 0 (λ x. bytes_eq x name) ns) (sym c.slots)
      ∙ own_place bytes_eq exact_bytes names distinct 0 m.slot [] lt ∙ ap some_number (omega arith) in
      ap (λ (s : Spelled). s then numbered (slot_in (class_at cs k) name)) (class_forth single m.class fits.class)
      ∙ ap (λ (o : Option ℕ). Some (wire.number w16 m.class) then numbered o) slot

  -- ---- and back

  pub class_back : (k : ClassKey) → Back (images.class cs) (wire.number w16) (λ n. n < length d.keys) (key_at d.keys) k
  class_back k bytes e =
      let n = numbered_is (place_from 0 (has_key k) cs) bytes e in
      let c = known k n.0 n.1 in
      record { it = n.0; spelled = n.2; fits = c.below; names = c.key }

  pub method_back : (r : MethodRef) → Back (images.method cs) wire.method (FitsMethod (ranges_in d)) (method_named d) r
  method_back r bytes e =
      let s = split (images.class cs r.class) (numbered (slot_in (class_at cs r.class) r.name)) bytes e in
      let n = numbered_is (place_from 0 (has_key r.class) cs) s.front s.first in
      let c = known r.class n.0 n.1 in
      let m = numbered_is (slot_in (class_at cs r.class) r.name) s.back s.second in
      let names : List (List ℕ) = get_or d.slots n.0 [] in
      let place : place_from 0 (λ x. bytes_eq x r.name) names ≡ Some m.0 =
      ap (λ (ns : List (List ℕ)). place_from 0 (λ x. bytes_eq x r.name) ns) c.slots ∙ sym (slot_is c.class r.name) ∙ sym (ap (λ (o : Option Class). slot_in o r.name) c.is) ∙ m.1 in
      let f = place_found (λ x. bytes_eq x r.name) names 0 m.0 place in
      let at : f.at ≡ m.0 = omega (arith, f.is_at) in
      let name : get_or names m.0 [] ≡ r.name = ap (λ (i : ℕ). get_or names i []) (sym at) ∙ f.there [] ∙ exact_bytes.two f.what r.name f.passes in
      let lt : m.0 < length names = omega (arith, at, f.within) in
      record {
        it = record { class = n.0; slot = m.0 };
        spelled = ap (λ (x : List ℕ). x ++ wire.number w16 m.0) n.2 ∙ ap (λ (y : List ℕ). s.front ++ y) m.2 ∙ s.whole;
        fits = record { class = c.below; slot = omega (arith, lt, get_or_mapped (λ (ns : List (List ℕ)). length ns) d.slots n.0 []) };
        names = ap (λ (k : ClassKey). method_ref k (get_or names m.0 [])) c.key ∙ ap (λ (x : List ℕ). method_ref r.class x) name;
      }
