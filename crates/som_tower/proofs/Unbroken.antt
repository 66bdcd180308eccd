-- Libraries one above the other break nothing exactly where each stands on those below it.
use Rattle.std.proofs.Common.{◌≡◌, ℕ, ◌+◌, List, [], ◌∷◌, ◌++◌, Option, Some, None, append_assoc, append-nil, length, map, slice_get, refl, sym, ap, ◌∙◌, subst, arith}
use Rattle.std.proofs.lemmas.List.{length-map, map-append}
use Rattle.som_model.specs.declared.program.Interface.{Interface}
use Rattle.som_model.specs.declared.program.Release.{Release}
use Rattle.som_model.specs.Class.{interface_of}
use Rattle.som_model.specs.Classes.{library_classes}
use Rattle.som_model.specs.Lists.{or_else}
use Rattle.som_model.specs.Loads.{IsOrdered}
use Rattle.som_release_laws.specs.Releasing.{HaveParents}
use Rattle.som_level_laws.specs.Levels.{CompatibleLevels, level_classes}
use Rattle.som_level_laws.proofs.Breaks.{kept_none, none_kept}
use Rattle.som_level_programs.specs.ByLevels.{levels_below}
use Rattle.som_level_programs.specs.Towers.{AreStacked, own_interface}
use Rattle.som_level_programs.proofs.Counted.{release_parents}
use Rattle.som_level_programs.proofs.LevelsStand.{levels_stand, one_more, tower_stands}
use Rattle.som_towerimage.specs.declared.level.Level.{Level}
use Rattle.som_tower.specs.Towers.{AreLibraries, IsUpper, plain, tower_break}
use Rattle.som_tower.proofs.Breaking.{breaks_at}
use Rattle.som_tower.proofs.Climbing.{parents, stands}

at_end : (xs : List Level) (x : Level) (ys : List Level) → slice_get (xs ++ x ∷ ys) (length xs) ≡ Some x
at_end [] x ys = refl
at_end (y ∷ xs) x ys = at_end xs x ys

both_none : {A : Type 0} (a b : Option A) → or_else a b ≡ None → (a ≡ None) × (b ≡ None)
both_none None b e = (refl, e)
both_none (Some x) b e = absurd cc

module _ (base : Release) (uppers : List Level) (ok : AreLibraries base uppers) where
  abbrev lowest : List Interface
  lowest = interface_of base ∷ []

  -- the interfaces of the library and of these levels
  abbrev upto : List Level → List Interface
  upto done = lowest ++ map own_interface (map plain done)

  upto_more : (done : List Level) (l : Level) → upto (done ++ l ∷ []) ≡ upto done ++ own_interface (plain l) ∷ []
  upto_more done l =
      ap (λ z. lowest ++ map own_interface z) (map-append plain done (l ∷ []))
      ∙ ap (λ z. lowest ++ z) (map-append own_interface (map plain done) (plain l ∷ []))
      ∙ sym (append_assoc lowest (map own_interface (map plain done)) (own_interface (plain l) ∷ []))

  -- a level, and those before it, which stand one on the other
  module _ (done : List Level) (l : Level) (todo : List Level) (all : uppers ≡ done ++ l ∷ todo) (st : AreStacked lowest (map plain done)) where
    upper : IsUpper (length done + 1) l
    upper = ok.each (length done) l (ap (λ z. slice_get z (length done)) all ∙ at_end done l todo)

    compiled_ordered : IsOrdered (level_classes (levels_below l.sizes l.client l.program.base))
    compiled_ordered = (levels_stand l.program upper.sound.conforms (parents l upper.sound) l.sizes l.client upper.sound.fits.classes).ordered

    below_ordered : IsOrdered (level_classes (upto done))
    below_ordered = (tower_stands base (map plain done) ok.base_ok (release_parents base ok.base_counted.each) st).ordered

    kept_where_none : breaks_at (upto done) l ≡ None → CompatibleLevels (levels_below l.sizes l.client l.program.base) (upto done)
    kept_where_none none = none_kept (levels_below l.sizes l.client l.program.base) (upto done) compiled_ordered below_ordered none

    none_where_kept : CompatibleLevels (levels_below l.sizes l.client l.program.base) (upto done) → breaks_at (upto done) l ≡ None
    none_where_kept kept = kept_none (levels_below l.sizes l.client l.program.base) (upto done) compiled_ordered below_ordered kept

    long : length l.sizes ≡ length (upto done)
    long =
        let a : length (map own_interface (map plain done)) ≡ length (map plain done) = length-map (map plain done) own_interface in
        let b : length (map plain done) ≡ length done = length-map done plain in
        let n = upper.levels in
        omega (arith, a, b, n)

    one_higher : CompatibleLevels (levels_below l.sizes l.client l.program.base) (upto done) → AreStacked lowest (map plain (done ++ l ∷ []))
    one_higher kept =
        subst (λ z. AreStacked lowest z) (sym (map-append plain done (l ∷ [])))
        (one_more lowest (map plain done) (plain l) st (stands l upper.sound (upto done) long kept) upper.library)

  pub none_stacked : (done todo : List Level) → uppers ≡ done ++ todo → AreStacked lowest (map plain done) → tower_break (upto done) (map plain todo) ≡ None → AreStacked lowest (map plain uppers)
  none_stacked done [] all st none = subst (λ z. AreStacked lowest (map plain z)) (sym (all ∙ append-nil done)) st
  none_stacked done (l ∷ todo) all st none =
      let both = both_none (breaks_at (upto done) l) (tower_break (upto done ++ own_interface (plain l) ∷ []) (map plain todo)) none in
      none_stacked (done ++ l ∷ []) todo (all ∙ sym (append_assoc done (l ∷ []) todo)) (one_higher done l todo all st (kept_where_none done l todo all st both.0))
      (ap (λ z. tower_break z (map plain todo)) (upto_more done l) ∙ both.1)

  pub stacked_none : (done todo : List Level) → uppers ≡ done ++ todo → AreStacked lowest (map plain done) → AreStacked (upto done) (map plain todo) → tower_break (upto done) (map plain todo) ≡ None
  stacked_none done [] all st on = refl
  stacked_none done (l ∷ todo) all st on =
      let kept = on.0.0.compatible in
      ap (λ o. or_else o (tower_break (upto done ++ own_interface (plain l) ∷ []) (map plain todo))) (none_where_kept done l todo all st kept)
      ∙ ap (λ z. tower_break z (map plain todo)) (sym (upto_more done l))
      ∙ stacked_none (done ++ l ∷ []) todo (all ∙ sym (append_assoc done (l ∷ []) todo)) (one_higher done l todo all st kept) (subst (λ z. AreStacked z (map plain todo)) (sym (upto_more done l)) on.1)
