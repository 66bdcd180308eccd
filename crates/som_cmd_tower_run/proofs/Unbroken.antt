-- Libraries one above the other, each of which stands on those below it, break nothing, and neither does a client that stands on all of them.
use Rattle.std.proofs.Common.{◌≡◌, ◌≤◌, ◌++◌, List, [], ◌∷◌, length, map, None, refl, ap, ◌∙◌, arith}
use Rattle.std.proofs.lemmas.List.{length-append}
use Rattle.som_model.specs.declared.program.Interface.{Interface}
use Rattle.som_model.specs.Lists.{or_else}
use Rattle.som_model.specs.Loads.{FacesLoad}
use Rattle.som_level_laws.specs.Levels.{first_level_break, level_classes}
use Rattle.som_level_laws.proofs.Breaks.{kept_none}
use Rattle.som_level_laws.proofs.Stays.{levels_stand}
use Rattle.som_level_programs.specs.Towers.{AreStacked, LevelProgram, StandsOn, own_interface}
use Rattle.som_level_programs.proofs.LevelsStand.{levels_stand as program_levels}
use Rattle.som_flat_laws.specs.AcceptedTower.{embedded_levels}
use Rattle.som_flat_laws.proofs.MadeOver.{level_loads, olds_many, some_levels}
use Rattle.som_towerimage.specs.declared.level.Level.{Level}
use Rattle.som_tower.specs.Towers.{plain, tower_break}
use Rattle.som_tower.proofs.Breaking.{break_last}

stands_none : (is : List Interface) → FacesLoad (level_classes is) → (l : LevelProgram) → StandsOn is l → first_level_break (embedded_levels l) is ≡ None
stands_none is f l s = kept_none (embedded_levels l) is (program_levels l.program s.conforms s.parents l.sizes l.client s.fits).ordered f.ordered s.compatible

stacked_none : (is : List Interface) (ls : List LevelProgram) → FacesLoad (level_classes is) → 1 ≤ length is → AreStacked is ls → tower_break is ls ≡ None
stacked_none is [] f few st = refl
stacked_none is (l ∷ ls) f few st =
    let s = st.0.0 in
    let own = own_interface l in
    let load = level_loads l st.0.1 (some_levels is l s few) s.conforms s.parents s.fits in
    let more = levels_stand (embedded_levels l) is (own ∷ []) (olds_many l ∙ s.levels) load f s.compatible in
    let long = length-append is (own ∷ []) in
    ap (λ o. or_else o (tower_break (is ++ own ∷ []) ls)) (stands_none is f l s) ∙ stacked_none (is ++ own ∷ []) ls more (omega (arith, long)) st.1

pub none_broken : (is : List Interface) (ls : List LevelProgram) (client : Level) → FacesLoad (level_classes is) → 1 ≤ length is → AreStacked is ls → FacesLoad (level_classes (is ++ map own_interface ls)) → StandsOn (is ++ map own_interface ls) (plain client)
    → tower_break is (ls ++ plain client ∷ []) ≡ None
none_broken is ls client f few st all on = break_last is ls client (stacked_none is ls f few st) ∙ stands_none (is ++ map own_interface ls) all (plain client) on
