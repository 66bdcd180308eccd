-- Numbers and slots are named back to what they were made of, and they fit: classes, methods and types.
use Rattle.std.proofs.Common.{◌≡◌, ℕ, ◌<◌, ◌≤◌, true, false, List, [], ◌∷◌, length, map, get_or, refl, ap, ◌∙◌, arith}
use Rattle.std.specs.Prelude.{All}
use Rattle.std.specs.List.{AllByRecursion}
use Rattle.std.specs.Str.{bytes_eq}
use Rattle.std.proofs.Math.ListN.{get_or-map as get_or_mapped}
use Rattle.std.proofs.lemmas.List.{length-map}
use Rattle.std.proofs.lemmas.List.Elements.{All-from_recursion, recursion_from_All}
use Rattle.som_model.specs.declared.key.ClassKey.{ClassKey}
use Rattle.som_model.specs.declared.key.MethodRef.{MethodRef}
use Rattle.som_model.specs.declared.key.ValueType.{ValueType}
use Rattle.som_model.specs.declared.key.ValueType.TheVariants as values
use Rattle.som_model.specs.Lists.{Mem}
use Rattle.som_model.specs.Keys.{same_key}
use Rattle.som_model.specs.Kernel.{som_object}
use Rattle.som_model.proofs.KeyLaws.{exact_bytes, exact_keys}
use Rattle.som_image_fields.specs.Spelling.{FitsKind, FitsMethod, FitsCounted}
use Rattle.som_image_decode.specs.declared.directory.Directory.{Directory}
use Rattle.som_image_decode.specs.Naming.{key_at, kind_named, method_named, ranges_in}
use Rattle.som_image_encode.specs.Numbering.{number_of, slot_of, method_numbered, MethodKnown, kind_numbered, IsKnown, IsValue}
use Rattle.som_image_encode.proofs.Numbering.{placed}

-- ---- one value, and many

-- what a value is numbered to fits, and is named from it
pub record TurnsBack {A W : Type 0} (Fits : W → Type 0) (named : W → A) (numbered : A → W) (v : A) : Type 0 where
  pub fits : Fits (numbered v)
  pub names : named (numbered v) ≡ v

pub all_both : {A : Type 0} (P Q R : A → Type 0) → ((x : A) → P x → Q x → R x) → (xs : List A) → All P xs → All Q xs → AllByRecursion R xs
all_both P Q R f xs p q = by xs (recursion_from_All P xs p) (recursion_from_All Q xs q)
  where
    by : (ys : List _) → AllByRecursion P ys → AllByRecursion Q ys → AllByRecursion R ys
    by [] p q = tt
    by (y ∷ ys) p q = (f y p.0 q.0, by ys p.1 q.1)

pub each_of : {A : Type 0} (P R : A → Type 0) → ((x : A) → P x → R x) → (xs : List A) → All P xs → AllByRecursion R xs
each_of P R f xs p = all_both P P R (λ x h k. f x h) xs p p

module _ {A W : Type 0} (Fits : W → Type 0) (named : W → A) (numbered : A → W) where
  each_fits : (vs : List A) → AllByRecursion (TurnsBack Fits named numbered) vs → AllByRecursion Fits (map numbered vs)
  each_fits [] h = tt
  each_fits (v ∷ vs) h = (h.0.fits, each_fits vs h.1)

  each_named : (vs : List A) → AllByRecursion (TurnsBack Fits named numbered) vs → map named (map numbered vs) ≡ vs
  each_named [] h = refl
  each_named (v ∷ vs) h = ap (λ (x : A). x ∷ map named (map numbered vs)) h.0.names ∙ ap (λ (xs : List A). v ∷ xs) (each_named vs h.1)

  -- so many values
  pub counted_turn : (least most : ℕ) (vs : List A) → least ≤ length vs → length vs ≤ most → AllByRecursion (TurnsBack Fits named numbered) vs → TurnsBack (FitsCounted least most Fits) (map named) (map numbered) vs
  counted_turn least most vs few many h = record {
    fits = (omega (arith, few, length-map vs numbered), omega (arith, many, length-map vs numbered), All-from_recursion Fits (map numbered vs) (each_fits vs h));
    names = each_named vs h;
  }

-- ---- classes and methods

abbrev a_method : ClassKey → List ℕ → MethodRef
a_method k name = record { class = k; name = name }

pub key_turns : (ks : List ClassKey) (k : ClassKey) → Mem k ks → TurnsBack (λ n. n < length ks) (key_at ks) (number_of ks) k
key_turns ks k known = let s = placed same_key exact_keys k ks known in record { fits = s.within; names = s.there som_object }

pub method_turns : (d : Directory) (r : MethodRef) → MethodKnown d r → TurnsBack (FitsMethod (ranges_in d)) (method_named d) (method_numbered d) r
method_turns d r known =
    let n : ℕ = number_of d.keys r.class in
    let names : List (List ℕ) = get_or d.slots n [] in
    let k = key_turns d.keys r.class known.class in
    let s = placed bytes_eq exact_bytes r.name names known.name in
    record {
      fits = record { class = k.fits; slot = omega (arith, s.within, get_or_mapped (λ (ns : List (List ℕ)). length ns) d.slots n []) };
      names = ap (λ (x : ClassKey). a_method x (get_or names (slot_of names r.name) [])) k.names ∙ ap (λ (x : List ℕ). a_method r.class x) (s.there []);
    }

-- ---- types

module _ (ks : List ClassKey) where
  abbrev classes : ℕ
  classes = length ks

  pub kind_turns : (t : ValueType) → IsKnown ks t → TurnsBack (FitsKind classes true) (kind_named ks) (kind_numbered ks) t
  kind_turns values.Void known = record { fits = refl; names = refl }
  kind_turns values.Long known = record { fits = tt; names = refl }
  kind_turns values.Boolean known = record { fits = tt; names = refl }
  kind_turns values.Str known = record { fits = tt; names = refl }
  kind_turns (values.Class k) known = let b = key_turns ks k known in record { fits = b.fits; names = ap values.Class b.names }

  pub value_turns : (t : ValueType) → IsValue ks t → TurnsBack (FitsKind classes false) (kind_named ks) (kind_numbered ks) t
  value_turns values.Void known = absurd known
  value_turns values.Long known = record { fits = tt; names = refl }
  value_turns values.Boolean known = record { fits = tt; names = refl }
  value_turns values.Str known = record { fits = tt; names = refl }
  value_turns (values.Class k) known = let b = key_turns ks k known in record { fits = b.fits; names = ap values.Class b.names }
