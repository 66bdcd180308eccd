-- The classes of all levels in one list.
use Rattle.std.proofs.Common.{◌≡◌, ℕ, suc, ◌+◌, ◌<◌, ◌≤◌, List, [], ◌∷◌, ◌++◌, map, length, drop, slice_index_or, sym, ap, ◌∙◌, append_assoc, append-nil, arith}
use Rattle.std.proofs.lemmas.List.{map-append}
use Rattle.som_model.specs.declared.key.Module.{Module}
use Rattle.som_model.specs.declared.class.ClassFace.{ClassFace}
use Rattle.som_model.specs.declared.program.Interface.{Interface}
use Rattle.som_model.specs.Class.{Class, bare, class_in}
use Rattle.som_level_laws.specs.Levels.{classes_of_level, level_module, levels_from}
use Rattle.som_compat_levels.specs.declared.classes.PlacedClass.{PlacedClass}
use Rattle.som_compat_levels.specs.Standing.{class_of, classes_of}
use Rattle.som_compat_levels.proofs.Lists.{drop_at, drop_end}

abbrev pub in_module : Module → List ClassFace → List Class
in_module m fs = map (λ f. class_in m (bare f)) fs

pub next_face : (ps : List PlacedClass) (p : PlacedClass) (m : Module) (fs : List ClassFace) (i : ℕ) (all : List Class) → i < length fs → p.module ≡ m → p.face.now ≡ slice_index_or fs i p.face.now
    → classes_of ps ++ in_module m (drop i fs) ≡ all → classes_of (ps ++ p ∷ []) ++ in_module m (drop (i + 1) fs) ≡ all
next_face ps p m fs i all lt at is so =
    let one : class_of p ≡ class_in m (bare (slice_index_or fs i p.face.now)) = ap (λ z. class_in z (bare p.face.now)) at ∙ ap (λ z. class_in m (bare z)) is in
    ap (λ z. z ++ in_module m (drop (i + 1) fs)) (map-append class_of ps (p ∷ []))
    ∙ append_assoc (classes_of ps) (class_of p ∷ []) (in_module m (drop (i + 1) fs))
    ∙ ap (λ z. classes_of ps ++ (z ∷ in_module m (drop (i + 1) fs))) one
    ∙ ap (λ z. classes_of ps ++ in_module m z) (sym (drop_at fs i p.face.now lt)) ∙ so

pub no_face : (ps : List PlacedClass) (m : Module) (fs : List ClassFace) (i : ℕ) (all : List Class) → length fs ≤ i → classes_of ps ++ in_module m (drop i fs) ≡ all → classes_of ps ≡ all
no_face ps m fs i all le so = sym (append-nil (classes_of ps)) ∙ ap (λ z. classes_of ps ++ in_module m z) (sym (drop_end fs i le)) ∙ so

pub next_level : (ps qs : List PlacedClass) (m : Module) (i : Interface) (is : List Interface) (k : ℕ) (all : List Class) → k < length is → m ≡ level_module k → i ≡ slice_index_or is k i
    → classes_of qs ≡ classes_of ps ++ in_module m i.classes → classes_of ps ++ levels_from k (drop k is) ≡ all → classes_of qs ++ levels_from (k + 1) (drop (k + 1) is) ≡ all
next_level ps qs m i is k all lt at is_one added so =
    let up : k + 1 ≡ suc k = omega arith in
    ap (λ z. z ++ levels_from (k + 1) (drop (k + 1) is)) added
    ∙ append_assoc (classes_of ps) (in_module m i.classes) (levels_from (k + 1) (drop (k + 1) is))
    ∙ ap (λ z. classes_of ps ++ (in_module z i.classes ++ levels_from (k + 1) (drop (k + 1) is))) at
    ∙ ap (λ z. classes_of ps ++ (classes_of_level k i ++ levels_from z (drop (k + 1) is))) up
    ∙ ap (λ z. classes_of ps ++ levels_from k (z ∷ drop (k + 1) is)) is_one
    ∙ ap (λ z. classes_of ps ++ levels_from k z) (sym (drop_at is k i lt)) ∙ so

pub no_level : (ps : List PlacedClass) (is : List Interface) (k : ℕ) (all : List Class) → length is ≤ k → classes_of ps ++ levels_from k (drop k is) ≡ all → classes_of ps ≡ all
no_level ps is k all le so = sym (append-nil (classes_of ps)) ∙ ap (λ z. classes_of ps ++ levels_from k z) (sym (drop_end is k le)) ∙ so
