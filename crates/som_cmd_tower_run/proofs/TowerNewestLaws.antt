-- A tower client that was compiled against any releases of an accepted tower runs on the newest of each level as it means.
use Rattle.std.proofs.Common.{◌≡◌, ◌≢◌, ◌⊎◌, ◌+◌, ◌≤◌, ◌++◌, ℕ, suc, Bool, false, true≢false, List, [], ◌∷◌, drop, length, map, Option, Some, None, inl, inr, refl, sym, ap, subst, ◌∙◌, arith}
use Rattle.std.specs.Prelude.{sum}
use Rattle.std.proofs.lemmas.List.{length-append, length-map}
use Rattle.som_model.specs.declared.program.Interface.{Interface}
use Rattle.som_model.specs.declared.program.Release.{Release}
use Rattle.som_model.specs.Bytes.{Files}
use Rattle.som_model.specs.Class.{Class, interface_of}
use Rattle.som_model.specs.Classes.{client_classes, interface_classes, library_classes}
use Rattle.som_model.specs.Conforming.{ProgramOk, ReleaseOk}
use Rattle.som_model.specs.Images.{library_image}
use Rattle.som_model.specs.Kernel.{kernel}
use Rattle.som_model.specs.Lists.{Mem}
use Rattle.som_model.specs.Loads.{IsOrdered}
use Rattle.som_model_laws.proofs.Metas.{meta_of_parent}
use Rattle.som_release_laws.specs.Releasing.{HaveParents, stacked}
use Rattle.som_release_laws.proofs.Along.{tower_loadable}
use Rattle.som_semantics.specs.RunText.{no_trace, run_text}
use Rattle.som_level_laws.proofs.Along.{at_end}
use Rattle.som_level_programs.specs.Towers.{AreStacked, LevelProgram, StandsOn, by_level, own_interface}
use Rattle.som_level_programs.proofs.Counted.{program_parents, release_parents}
use Rattle.som_level_programs.proofs.TowersLoad.{HaveFaces, faces_of_all, level_compiled, level_kept, level_others, libraries_load, release_faces}
use Rattle.som_flat_laws.specs.AcceptedTower.{AreAcceptedAbove, AreNewest, IsMadeAgainst, chosen_interfaces, interfaces_of}
use Rattle.som_flat_laws.specs.Flat.{flat_interface, sizes_of}
use Rattle.som_flat_laws.proofs.Lowest.{shown_level}
use Rattle.som_flat_laws.proofs.NewestTowers.{Stand, made_stands, tower_stands}
use Rattle.som_flat_laws.proofs.Placing.{flat_count}
use Rattle.som_sema_scope.specs.Words.{interfaces_of as texts_of}
use Rattle.som_elab_methods.specs.Bodies.{bodies_of}
use Rattle.som_elab.proofs.Apart.{program_apart}
use Rattle.som_elab.proofs.Conforms.{program_conforms}
use Rattle.som_sources.specs.declared.source.Source.{Source}
use Rattle.som_link_limits.proofs.Classes.{program_counts, release_counts}
use Rattle.som_libimage.proofs.Decoded.{image_within as release_within}
use Rattle.som_cliimage.specs.Limits.{IsWithinLimits}
use Rattle.som_order.specs.Names.{name_at}
use Rattle.som_towerimage.specs.declared.level.Level.{Level}
use Rattle.som_towerimage.specs.Spelling.{FitsTower, most_below, tower_image}
use Rattle.som_tower.specs.Towers.{plain, programs_above, tower_break, tower_classes}
use Rattle.som_io.specs.Outside.{Rose, ShowsFront}
use Rattle.som_cmd_steps.specs.Endings.{Ending}
use Rattle.som_cmd_steps.specs.Outcomes.{EndsAs, ShowsSome, StoreFails}
use Rattle.som_cmd_steps.specs.StoredImages.{HoldsImage, IsUnder}
use Rattle.som_cmd_levels.specs.StoredLevels.{AreLevelsUnder, HoldsLevel, IsLevelUnder}
use Rattle.som_cmd_levels.proofs.Stored.{stored_within}
use Rattle.som_cmd_run.specs.Newest.{MetaclassesDescend}
use Rattle.som_cmd_tower_run.specs.TowerNewest.{HoldsImages, HoldsNewestTower, RunsOnNewestTower, programs_of}
use Rattle.som_cmd_tower_run.specs.TowerRunAnswer.{IsTowerRunAnswer, tower_means}
use Rattle.som_cmd_tower_run.specs.TowerRunEnds.{IsTowerUnder, StandAbove}
use Rattle.som_cmd_tower_run.proofs.TowerRunEndLaws.{front_by, means_by}
use Rattle.som_cmd_tower_run.proofs.Unbroken.{none_broken}

-- ---- the newest of accepted lists have no main

no_mains : (lowest : List Release) (below uppers : List (List LevelProgram)) (ls : List LevelProgram) → AreAcceptedAbove lowest below uppers → AreNewest ls uppers → (l : LevelProgram) → Mem l ls → l.program.main.statements ≡ []
no_mains lowest below [] [] a n l m = absurd m
no_mains lowest below [] (x ∷ ls) a n l m = absurd n
no_mains lowest below (list ∷ uppers) [] a n l m = absurd n
no_mains lowest below (list ∷ uppers) (x ∷ ls) a n l (inl is) =
    a.0.no_main l (subst (Mem l) (sym n.0.1) (subst (λ (z : LevelProgram). Mem l (n.0.0 ++ z ∷ [])) is (at_end n.0.0 l)))
no_mains lowest below (list ∷ uppers) (x ∷ ls) a n l (inr m) = no_mains lowest (below ++ list ∷ []) uppers ls a.1 n.1 l m

-- ---- libraries one above the other, whose images are held

module _ (files : Files) where
  holds_many : (names : List (List ℕ)) (images : List (Option (List ℕ))) → HoldsImages files names images → length names ≡ length images
  holds_many [] [] h = refl
  holds_many [] (i ∷ is) h = absurd h
  holds_many (n ∷ ns) [] h = absurd h
  holds_many (n ∷ ns) (i ∷ is) h = ap suc (holds_many ns is h.1)

  level_under : (name : List ℕ) (l : Level) → FitsTower l → ProgramOk l.program → HoldsImage files name (tower_image l) → IsLevelUnder files name l
  level_under name l fits ok h = record {
    holds = record { fits = fits; bytes = h.bytes; image_is = h.image_is; bytes_are = h.bytes_are; spelled = h.spelled };
    conforms = ok;
  }

  library_fits : (is : List Interface) (l : Level) → StandsOn is (plain l) → l.client ≡ false → l.program.main.statements ≡ [] → 1 ≤ length is → length is ≤ 7 → FitsTower l
  library_fits is l on library main some few = record {
    some = (let e = on.levels in omega (arith, e, some));
    few = subst (λ (b : Bool). length l.sizes ≤ most_below b) (sym library) (let e = on.levels in omega (arith, e, few));
    classes = on.fits;
    main = λ _. main;
  }

  uppers_under : (names : List (List ℕ)) (ls : List Level) (is : List Interface) → 1 ≤ length is → length is + length ls ≤ 8 → AreStacked is (map plain ls) → ((l : LevelProgram) → Mem l (map plain ls) → l.program.main.statements ≡ [])
      → HoldsImages files names (map tower_image ls) → AreLevelsUnder files names ls
  uppers_under [] [] is some few st mains h = tt
  uppers_under [] (l ∷ ls) is some few st mains h = absurd h
  uppers_under (n ∷ ns) [] is some few st mains h = absurd h
  uppers_under (n ∷ ns) (l ∷ ls) is some few st mains h =
      let long = length-append is (own_interface (plain l) ∷ []) in (
        level_under n l (library_fits is l st.0.0 st.0.1 (mains (plain l) (inl refl)) some (omega (arith, few))) st.0.0.conforms h.0,
        uppers_under ns ls (is ++ own_interface (plain l) ∷ []) (omega (arith, long)) (omega (arith, long, few)) st.1 (λ x m. mains x (inr m)) h.1,
      )

  release_under : (names : List (List ℕ)) (images : List (Option (List ℕ))) (r : Release) → ReleaseOk r → HoldsImages files names (library_image r ∷ images) → IsUnder files (name_at names 0) r
  release_under [] images r ok h = absurd h
  release_under (n ∷ ns) images r ok h = record { bytes = h.0.bytes; image_is = h.0.image_is; bytes_are = h.0.bytes_are; spelled = h.0.spelled; conforms = ok }

  others_held : (names : List (List ℕ)) (image : Option (List ℕ)) (images : List (Option (List ℕ))) → HoldsImages files names (image ∷ images) → HoldsImages files (drop 1 names) images
  others_held [] image images h = absurd h
  others_held (n ∷ ns) image images h = h.1

stand_above : (ls : List Level) (is : List Interface) (n : ℕ) → length is ≡ n → AreStacked is (map plain ls) → StandAbove n ls
stand_above [] is n e st = tt
stand_above (l ∷ ls) is n e st =
    let long = length-append is (own_interface (plain l) ∷ []) in
    (st.0.0.levels ∙ e, st.0.1, stand_above ls (is ++ own_interface (plain l) ∷ []) (suc n) (omega (arith, long, e)) st.1)

module _ (files : Files) (c : List ℕ) (below : List (List ℕ)) (earlier : List Release) (base : Release) (lists : List (List Level)) (newest : List Level) (texts : List Source) (t : Level) (h : HoldsNewestTower files c below earlier base lists newest texts t) (few : length below ≤ 8) where
  abbrev lowest : List Release
  lowest = earlier ++ base ∷ []

  abbrev levels : List LevelProgram
  levels = map plain newest

  abbrev ground : List Interface
  ground = interface_of base ∷ []

  abbrev chosen : List Interface
  chosen = chosen_interfaces h.compiled.choice

  abbrev flat : Interface
  flat = flat_interface chosen

  -- ---- the newest stand on one another

  stands : Stand lowest (programs_of lists) (interfaces_of base levels) × AreStacked ground levels
  stands = tower_stands earlier base (programs_of lists) levels h.accepted h.are_newest

  base_ok : ReleaseOk base
  base_ok = h.accepted.lowest_accepted.conform base (at_end earlier base)

  -- as many levels as there are names
  many : length below ≡ suc (length newest)
  many = holds_many files below (library_image base ∷ map tower_image newest) h.levels ∙ ap suc (length-map newest tower_image)

  lists_many : length (programs_of lists) ≡ length newest
  lists_many =
      let e = stands.0.many in
      let long : length (map own_interface levels) ≡ length levels = length-map levels own_interface in
      let plains : length levels ≡ length newest = length-map newest plain in
      omega (arith, e, long, plains)

  -- ---- the client

  base_is : t.program.base ≡ flat
  base_is = (program_apart flat (texts_of h.compiled.stand.trees.interfaces) (bodies_of h.compiled.stand.trees.bodies) h.compiled.stand.main.block t.program h.compiled.stand.built).over

  program_ok : ProgramOk t.program
  program_ok = program_conforms flat (texts_of h.compiled.stand.trees.interfaces) (bodies_of h.compiled.stand.trees.bodies) h.compiled.stand.main.block t.program h.compiled.rules h.compiled.stand.built

  sizes_many : length t.sizes ≡ length below
  sizes_many =
      let sizes : length t.sizes ≡ length (sizes_of chosen) = ap length h.compiled.sizes in
      let long : length (sizes_of chosen) ≡ length chosen = length-map chosen (λ (i : Interface). length i.classes) in
      let of_choice = stands.0.chosen_many h.compiled.choice in
      let e = lists_many in
      let n = many in
      omega (arith, sizes, long, of_choice, e, n)

  not_library : t.client ≡ false → ⊥
  not_library e = true≢false (sym h.compiled.is_client ∙ e)

  client_fits : FitsTower t
  client_fits = record {
    some = (let n = sizes_many in let m = many in omega (arith, n, m));
    few = subst (λ (b : Bool). length t.sizes ≤ most_below b) (sym h.compiled.is_client) (let n = sizes_many in omega (arith, n, few));
    classes = ap sum h.compiled.sizes ∙ flat_count chosen ∙ ap (λ (i : Interface). length i.classes) (sym base_is);
    main = λ e. absurd (not_library e);
  }

  client_held : HoldsLevel files c t
  client_held = record { fits = client_fits; bytes = h.program.bytes; image_is = h.program.image_is; bytes_are = h.program.bytes_are; spelled = h.program.spelled }

  within : IsWithinLimits t.program
  within = stored_within files c t client_held

  parents : HaveParents (interface_classes t.program.base ++ client_classes t.program)
  parents = let counted = program_counts t.program within in program_parents t.program counted.each_face counted.each

  made : IsMadeAgainst lowest (programs_of lists) (plain t)
  made = record { choice = h.compiled.choice; sizes = h.compiled.sizes; base = base_is; conforms = program_ok; parents = parents }

  client_stands : StandsOn (interfaces_of base levels) (plain t)
  client_stands = made_stands lowest (programs_of lists) (interfaces_of base levels) stands.0 (plain t) made

  -- ---- all conform and are held

  pub newest_under : IsTowerUnder files c below base newest t
  newest_under = record {
    release = release_under files below (map tower_image newest) base base_ok h.levels;
    libraries = uppers_under files (drop 1 below) newest ground (omega arith) (let m = many in omega (arith, m, few)) stands.1
        (λ l m. no_mains lowest [] (programs_of lists) levels h.accepted.levels h.are_newest l m) (others_held files below (library_image base) (map tower_image newest) h.levels);
    stand = stand_above newest ground 1 refl stands.1;
    top = record { holds = client_held; conforms = program_ok };
    is_client = h.compiled.is_client;
    levels = sizes_many;
  }

  -- the newest keep what those above them were compiled against
  pub newest_keep : tower_break ground (programs_above newest t) ≡ None
  newest_keep = none_broken ground levels t (shown_level base base_ok) (omega arith) stands.1 stands.0.load client_stands

  -- and metaclasses descend from those of parents
  abbrev news : List Class
  news = stacked (library_classes base) (map by_level levels)

  faces : HaveFaces news (interfaces_of base levels)
  faces = faces_of_all (library_classes base) ground levels (release_faces base) (omega arith) stands.1

  ordered : IsOrdered (tower_classes base newest t)
  ordered =
      let is = interfaces_of base levels in
      let l = plain t in
      let have = release_parents base (release_counts base (release_within base newest_under.release.bytes newest_under.release.spelled)).each in
      (tower_loadable news (by_level l ∷ []) (libraries_load base levels base_ok have stands.1) ((level_compiled news is faces l client_stands, level_kept news is faces l client_stands, level_others news is faces l client_stands), tt)).faces.ordered

  pub newest_metaclasses : MetaclassesDescend (kernel ++ tower_classes base newest t)
  newest_metaclasses k parent m = meta_of_parent (tower_classes base newest t) ordered k parent m

  -- ---- so a call whose clauses are those of `run_tower` runs the client on the newest

  module _ (fuel : ℕ) (is_line : List ℕ → Type 0) (store_before store_now sink_before sink_now status : ℕ) (new_files : Option Files) (old new : Option (List ℕ)) where
    abbrev Means : Type 0
    Means = ShowsFront old new (run_text no_trace (tower_means base newest t fuel))

    abbrev Failed : Type 0
    Failed = Rose store_before store_now × (line : List ℕ) × is_line line × ShowsFront old new line

    fronts : ShowsSome (IsTowerRunAnswer c below fuel) is_line (Some files) store_before store_now old new → Means ⊎ Failed
    fronts (inl (e, is, shown)) = inl (subst (λ (x : Ending). ShowsFront old new x.text) (front_by files c below base newest t newest_under fuel e is newest_keep) shown)
    fronts (inr failed) = inr failed

    pub runs_newest : (status ≢ 6 → status ≢ 8 → status ≢ 10 → EndsAs (IsTowerRunAnswer c below fuel files) status new_files old new) → (status ≡ 6 → StoreFails is_line store_before store_now old new) → (status ≡ 8 → Rose sink_before sink_now)
        → ((status ≡ 8) ⊎ (status ≡ 10) → ShowsSome (IsTowerRunAnswer c below fuel) is_line (Some files) store_before store_now old new)
        → RunsOnNewestTower base newest t fuel is_line store_before store_now sink_before sink_now status old new
    runs_newest answered store_failed sink_failed front = record {
      runs = λ not6 not8 not10. means_by files c below base newest t newest_under fuel status new_files old new (answered not6 not8 not10) newest_keep;
      store_failed = store_failed;
      sink_failed = sink_failed;
      front = λ cut. fronts (front cut);
      metaclasses = newest_metaclasses;
    }
