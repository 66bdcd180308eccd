-- The levels of a library of a tower, with the levels below it against which it was compiled, can be compared with others.
use Rattle.std.proofs.Common.{◌≡◌, ◌+◌, ◌<◌, ◌≤◌, ℕ, zero, suc, inl, inr, List, [], ◌∷◌, get_or, length, map, refl, sym, ◌∙◌, subst, arith}
use Rattle.std.proofs.lemmas.List.{length-append, length-map}
use Rattle.som_model.specs.declared.class.ClassDecl.{ClassDecl}
use Rattle.som_model.specs.declared.class.ClassFace.{ClassFace}
use Rattle.som_model.specs.declared.limits.TheConstants.{MAX_LIBRARY_CLASSES}
use Rattle.som_model.specs.declared.program.Interface.{Interface}
use Rattle.som_model.specs.Counts.{FaceCounted}
use Rattle.som_model.specs.Lists.{Mem}
use Rattle.som_model_laws.proofs.Lists.{map_mem}
use Rattle.som_model_laws.proofs.Members.{mem_split}
use Rattle.som_rekey_laws.specs.Rekeying.{rekey_face}
use Rattle.som_level_programs.specs.ByLevels.{level_change}
use Rattle.som_level_programs.specs.Towers.{own_interface}
use Rattle.som_level_programs.proofs.Counted.{face_by_level}
use Rattle.som_flat_laws.specs.AcceptedTower.{embedded_levels, with_own}
use Rattle.som_flat_laws.proofs.MadeOver.{level_loads, olds_many}
use Rattle.som_compat.specs.Conditions.{IsCounted}
use Rattle.som_compat_levels.specs.Conditions.{AreComparable, AreLoadableLevels, IsWithinCounts}
use Rattle.som_towerimage.specs.declared.level.Level.{Level}
use Rattle.som_towerimage.specs.Spelling.{most_below}
use Rattle.som_tower.specs.Towers.{IsUpper, plain}
use Rattle.som_tower.proofs.Climbing.{below_loads, parents}

at_mem : {A : Type 0} (xs : List A) (i : ℕ) (d : A) → i < length xs → Mem (get_or xs i d) xs
at_mem [] i d lt = absurd (omega (arith, lt))
at_mem (x ∷ xs) zero d lt = inl refl
at_mem (x ∷ xs) (suc i) d lt = inr (at_mem xs i d (omega (arith, lt)))

face_within : (f : ClassFace) → FaceCounted f → IsCounted f
face_within f c = record { some = c.some_parent; parents = c.parents; entries = c.order }

faces_within : (faces : List ClassFace) → length faces ≤ MAX_LIBRARY_CLASSES → ((f : ClassFace) → Mem f faces → FaceCounted f) → IsWithinCounts (record { classes = faces })
faces_within faces few each = record { classes = few; counts = λ i d lt. (let f = get_or faces i d in face_within f (each f (at_mem faces i d lt))) }

module _ (n : ℕ) (l : Level) (u : IsUpper n l) where
  own_within : IsWithinCounts (own_interface (plain l))
  own_within =
      let f = level_change l.sizes l.client l.program.base in
      let g : ClassDecl → ClassFace = λ d. rekey_face f d.face in
      let same : length (map g l.program.classes) ≡ length l.program.classes = length-map l.program.classes g in
      let few = u.sound.counted.few in
      faces_within (map g l.program.classes) (omega (arith, same, few)) (λ x k.
      let q = map_mem g x l.program.classes k in
      subst FaceCounted (sym q.2) (face_by_level f q.0.face (u.sound.counted.each q.0 q.1).face))

  -- seven levels at most are below a library
  few_sizes : length l.sizes ≤ 7
  few_sizes = let m = subst (λ z. length l.sizes ≤ most_below z) u.library u.sound.fits.few in omega (arith, m)

  -- one level more than it has below it
  pub long : length (with_own (plain l)) ≡ n + 1
  long =
      let a = length-append (embedded_levels (plain l)) (own_interface (plain l) ∷ []) in
      let b = olds_many (plain l) in
      let c = u.levels in
      omega (arith, a, b, c)

  each_within : (i : Interface) → Mem i (with_own (plain l)) → IsWithinCounts i
  each_within i m = elim (mem_split i (embedded_levels (plain l)) (own_interface (plain l) ∷ []) m) [
    | inl k ↦ (below_loads l u.sound (let few = few_sizes in omega (arith, few))).counts i k
    | inr k ↦ elim k [ inl e ↦ subst IsWithinCounts (sym e) own_within | inr none ↦ absurd none ]
  ]

  pub loads : AreLoadableLevels (with_own (plain l))
  loads = record {
    few = (let a = long in let b = u.levels in let c = few_sizes in omega (arith, a, b, c));
    counts = each_within;
    faces = level_loads (plain l) u.library u.sound.fits.some u.sound.conforms (parents l u.sound) u.sound.fits.classes;
  }

-- two libraries above as many levels
pub comparable : (n : ℕ) (old new : Level) → IsUpper n old → IsUpper n new → AreComparable (with_own (plain old)) (with_own (plain new))
comparable n old new o u = record { alike = long n old o ∙ sym (long n new u); old = loads n old o; new = loads n new u }
