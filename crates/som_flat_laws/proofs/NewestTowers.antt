-- Of an accepted tower the newest releases stand together, and keep what any releases of it promise that were chosen one from each list.
use Rattle.std.proofs.Common.{◌≡◌, suc, ◌≤◌, List, [], ◌∷◌, ◌++◌, append-nil, append_assoc, length, map, refl, sym, ap, ◌∙◌, subst, arith}
use Rattle.std.specs.Prelude.{sum}
use Rattle.std.proofs.lemmas.List.{length-map, map-append}
use Rattle.som_model.specs.declared.program.Interface.{Interface}
use Rattle.som_model.specs.declared.program.Release.{Release}
use Rattle.som_model.specs.Lists.{Mem}
use Rattle.som_model.specs.Class.{Class, interface_of}
use Rattle.som_model.specs.Compatible.{Accepted, EachNext}
use Rattle.som_model.specs.Loads.{FacesLoad}
use Rattle.som_model_laws.proofs.Lists.{map_mem, mem_map}
use Rattle.som_release_laws.specs.Releasing.{AreKept}
use Rattle.som_release_laws.proofs.Accepting.{to_last}
use Rattle.som_level_laws.specs.Levels.{CompatibleLevels, level_classes}
use Rattle.som_level_laws.proofs.Along.{at_end}
use Rattle.som_level_laws.proofs.Stays.{levels_stand, newest_keep}
use Rattle.som_level_programs.specs.ByLevels.{levels_below}
use Rattle.som_flat_laws.specs.Flat.{levels_by_owners}
use Rattle.som_level_programs.specs.Towers.{AreStacked, LevelProgram, StandsOn, own_interface}
use Rattle.som_flat_laws.specs.AcceptedTower.{AcceptedTower, AreAcceptedAbove, AreNewest, AreStanding, Choice, IsAcceptedLevel, IsMadeAgainst, chosen_interfaces, embedded_levels, interfaces_of, with_own}
use Rattle.som_flat_laws.proofs.Choices.{HasLast, last_member, last_stands, map_next, no_members, one_longer}
use Rattle.som_flat_laws.proofs.FlatPrograms.{below_are, flat_kept}
use Rattle.som_flat_laws.proofs.KeptAbove.{levels_above}
use Rattle.som_flat_laws.proofs.Lowest.{lowest_kept, shown_level}
use Rattle.som_flat_laws.proofs.MadeOver.{level_loads, olds_many}
use Rattle.som_flat_laws.proofs.Placing.{flat_count}

-- these levels can be loaded together, and keep what any chosen ones promise, which can be loaded too
pub record Stand (lowest : List Release) (uppers : List (List LevelProgram)) (news : List Interface) : Type 0 where
  pub load : FacesLoad (level_classes news)
  pub many : length news ≡ suc (length uppers)
  pub chosen_load : (c : Choice lowest uppers) → FacesLoad (level_classes (chosen_interfaces c))
  pub chosen_many : (c : Choice lowest uppers) → length (chosen_interfaces c) ≡ suc (length uppers)
  pub kept : (c : Choice lowest uppers) → CompatibleLevels (chosen_interfaces c) news

-- ---- programs that were made against chosen releases

module _ (lowest : List Release) (uppers : List (List LevelProgram)) (news : List Interface) (s : Stand lowest uppers news) where
  -- what any program was made against is kept
  pub made_kept : (l : LevelProgram) → IsMadeAgainst lowest uppers l → CompatibleLevels (embedded_levels l) news
  made_kept l m =
      let is = chosen_interfaces m.choice in
      let f = s.chosen_load m.choice in
      let below : level_classes (embedded_levels l) ≡ levels_by_owners is =
      ap (λ z. level_classes (levels_below z l.client l.program.base)) m.sizes ∙ below_are is f l.program l.client m.base m.conforms m.parents in
      subst (λ (z : List Class). AreKept z (level_classes news)) (sym below) (flat_kept is f (level_classes news) s.load (s.kept m.choice))

  sizes_many : (l : LevelProgram) (m : IsMadeAgainst lowest uppers l) → length l.sizes ≡ suc (length uppers)
  sizes_many l m = ap length m.sizes ∙ length-map (chosen_interfaces m.choice) (λ (i : Interface). length i.classes) ∙ s.chosen_many m.choice

  fits : (l : LevelProgram) (m : IsMadeAgainst lowest uppers l) → sum l.sizes ≡ length l.program.base.classes
  fits l m = ap sum m.sizes ∙ flat_count (chosen_interfaces m.choice) ∙ ap (λ (i : Interface). length i.classes) (sym m.base)

  -- so it stands on these
  pub made_stands : (l : LevelProgram) → IsMadeAgainst lowest uppers l → StandsOn news l
  made_stands l m = record {
    conforms = m.conforms;
    parents = m.parents;
    fits = fits l m;
    levels = sizes_many l m ∙ sym s.many;
    compatible = made_kept l m;
  }

  -- ---- one level more

  module _ (rs : List LevelProgram) (a : IsAcceptedLevel lowest uppers rs) where
    some_sizes : (x : LevelProgram) → Mem x rs → 1 ≤ length x.sizes
    some_sizes x m = let e = sizes_many x (a.made_against x m) in omega (arith, e)

    own_load : (x : LevelProgram) → Mem x rs → FacesLoad (level_classes (with_own x))
    own_load x m = let d = a.made_against x m in level_loads x (a.libraries x m) (some_sizes x m) d.conforms d.parents (fits x d)

    embedded_many : (x : LevelProgram) → Mem x rs → length (embedded_levels x) ≡ suc (length uppers)
    embedded_many x m = olds_many x ∙ sizes_many x (a.made_against x m)

    embedded_kept : (x : LevelProgram) → Mem x rs → CompatibleLevels (embedded_levels x) news
    embedded_kept x m = made_kept x (a.made_against x m)

    module _ (before : List LevelProgram) (last : LevelProgram) (parts : rs ≡ before ++ last ∷ []) where
      last_in : Mem last rs
      last_in = subst (Mem last) (sym parts) (at_end before last)

      abbrev more : List Interface
      more = news ++ own_interface last ∷ []

      as_many : length (embedded_levels last) ≡ length news
      as_many = embedded_many last last_in ∙ sym s.many

      more_load : FacesLoad (level_classes more)
      more_load = levels_stand (embedded_levels last) news (own_interface last ∷ []) as_many (own_load last last_in) s.load (embedded_kept last last_in)

      all_parts : map with_own rs ≡ map with_own before ++ with_own last ∷ []
      all_parts = ap (map with_own) parts ∙ map-append with_own before (last ∷ [])

      each_load : (is : List Interface) → Mem is (map with_own before ++ with_own last ∷ []) → FacesLoad (level_classes is)
      each_load is m =
          let r = map_mem with_own is rs (subst (Mem is) (sym all_parts) m) in
          subst (λ z. FacesLoad (level_classes z)) (sym r.2) (own_load r.0 r.1)

      -- the last of the list keeps what each promised above the levels against which that was compiled
      own_kept : (x : LevelProgram) → Mem x rs → CompatibleLevels (with_own x) more
      own_kept x m = newest_keep (map with_own before) (embedded_levels last) (own_interface last ∷ []) news (with_own x) each_load
          (subst (EachNext CompatibleLevels) all_parts (map_next CompatibleLevels with_own rs a.next))
          as_many s.load (embedded_kept last last_in) (subst (Mem (with_own x)) all_parts (mem_map with_own x rs m))

      -- ---- chosen releases with one level more

      module _ (c : Choice lowest (uppers ++ rs ∷ [])) where
        abbrev base : List Interface
        base = interface_of c.release ∷ []

        split : HasLast c.members uppers rs
        split = last_member c.members uppers rs c.are

        standing : AreStanding base split.before × CompatibleLevels (embedded_levels split.last) (base ++ map own_interface split.before)
        standing = last_stands base split.before split.last (subst (AreStanding base) split.parts c.stand)

        lower : Choice lowest uppers
        lower = record { release = c.release; among = c.among; members = split.before; are = split.are; stand = standing.0 }

        chosen_parts : chosen_interfaces c ≡ chosen_interfaces lower ++ own_interface split.last ∷ []
        unfolding lower
        chosen_parts = ap (interfaces_of c.release) split.parts ∙ ap (λ l. interface_of c.release ∷ l) (map-append own_interface split.before (split.last ∷ []))

        lower_many : length (embedded_levels split.last) ≡ length (chosen_interfaces lower)
        lower_many = embedded_many split.last split.there ∙ sym (s.chosen_many lower)

        more_chosen_load : FacesLoad (level_classes (chosen_interfaces c))
        unfolding lower
        more_chosen_load = subst (λ z. FacesLoad (level_classes z)) (sym chosen_parts)
            (levels_stand (embedded_levels split.last) (chosen_interfaces lower) (own_interface split.last ∷ []) lower_many (own_load split.last split.there) (s.chosen_load lower) standing.1)

        more_chosen_many : length (chosen_interfaces c) ≡ suc (length (uppers ++ rs ∷ []))
        more_chosen_many = ap length chosen_parts ∙ one_longer (chosen_interfaces lower) (own_interface split.last) ∙ ap (λ z. suc z) (s.chosen_many lower ∙ sym (one_longer uppers rs))

        more_kept : CompatibleLevels (chosen_interfaces c) more
        unfolding lower
        more_kept = subst (λ z. CompatibleLevels z more) (sym chosen_parts)
            (levels_above (embedded_levels split.last) (chosen_interfaces lower) news (own_interface split.last ∷ []) (own_interface last ∷ []) lower_many (s.chosen_many lower ∙ sym s.many)
            (own_load split.last split.there) (s.chosen_load lower) more_load standing.1 (own_kept split.last split.there) (s.kept lower))

      pub one_more : Stand lowest (uppers ++ rs ∷ []) more
      one_more = record {
        load = more_load;
        many = one_longer news (own_interface last) ∙ ap (λ z. suc z) (s.many ∙ sym (one_longer uppers rs));
        chosen_load = more_chosen_load;
        chosen_many = more_chosen_many;
        kept = more_kept;
      }

-- ---- all levels

pub lowest_stands : (front : List Release) (last : Release) → Accepted (front ++ last ∷ []) → Stand (front ++ last ∷ []) [] (interface_of last ∷ [])
lowest_stands front last acc = record {
  load = shown_level last (acc.conform last (at_end front last));
  many = refl;
  chosen_load = λ c. subst (λ ms. FacesLoad (level_classes (interfaces_of c.release ms))) (sym (no_members c.members c.are)) (shown_level c.release (acc.conform c.release c.among));
  chosen_many = λ c. ap (λ ms. length (interfaces_of c.release ms)) (no_members c.members c.are);
  kept = λ c. subst (λ ms. CompatibleLevels (interfaces_of c.release ms) (interface_of last ∷ [])) (sym (no_members c.members c.are))
      (lowest_kept c.release last (acc.conform c.release c.among) (acc.conform last (at_end front last)) (to_last front last c.release acc.conform acc.next c.among));
}

-- the newest of all lists stand together, and each stands on those below it
above_stand : (lowest : List Release) (below uppers : List (List LevelProgram)) (news : List Interface) (ls : List LevelProgram) → Stand lowest below news → AreAcceptedAbove lowest below uppers → AreNewest ls uppers
    → Stand lowest (below ++ uppers) (news ++ map own_interface ls) × AreStacked news ls
above_stand lowest below [] news [] s a n = (subst (λ z. Stand lowest z (news ++ [])) (sym (append-nil below)) (subst (Stand lowest below) (sym (append-nil news)) s), tt)
above_stand lowest below [] news (l ∷ ls) s a n = absurd n
above_stand lowest below (rs ∷ uppers) news [] s a n = absurd n
above_stand lowest below (rs ∷ uppers) news (l ∷ ls) s a n =
    let there : Mem l rs = subst (Mem l) (sym n.0.1) (at_end n.0.0 l) in
    let more = one_more lowest below news s rs a.0 n.0.0 l n.0.1 in
    let all = above_stand lowest (below ++ rs ∷ []) uppers (news ++ own_interface l ∷ []) ls more a.1 n.1 in (
      subst (λ z. Stand lowest z (news ++ map own_interface (l ∷ ls))) (append_assoc below (rs ∷ []) uppers)
          (subst (Stand lowest ((below ++ rs ∷ []) ++ uppers)) (append_assoc news (own_interface l ∷ []) (map own_interface ls)) all.0),
      ((made_stands lowest below news s l (a.0.made_against l there), a.0.libraries l there), all.1),
    )

pub tower_stands : (front : List Release) (last : Release) (uppers : List (List LevelProgram)) (ls : List LevelProgram) → AcceptedTower (front ++ last ∷ []) uppers → AreNewest ls uppers
    → Stand (front ++ last ∷ []) uppers (interfaces_of last ls) × AreStacked (interface_of last ∷ []) ls
tower_stands front last uppers ls t n = above_stand (front ++ last ∷ []) [] uppers (interface_of last ∷ []) ls (lowest_stands front last t.lowest_accepted) t.levels n
