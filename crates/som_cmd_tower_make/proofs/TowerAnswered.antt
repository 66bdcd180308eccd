-- Whatever is got and compiled, there is one answer.
use Rattle.std.proofs.Common.{◌≡◌, ℕ, suc, ◌≤◌, Bool, true, false, if◌then◌else◌, List, [], ◌∷◌, length, Ok, refl, sym, ap, subst, arith}
use Rattle.som_model.specs.Bytes.{Files}
use Rattle.som_model.specs.Lists.{some}
use Rattle.som_model.specs.Steps.{◌>>=◌}
use Rattle.som_model.proofs.StepLaws.{same_ok, went}
use Rattle.som_sources.specs.declared.source.Source.{Source}
use Rattle.som_sources.specs.Sources.{is_main, mains_in, names_of}
use Rattle.som_level_compile.specs.CompilingLevels.{AreSizesBelow}
use Rattle.som_level_compile.proofs.LevelLaws.{one_level, some_level}
use Rattle.som_towerimage.specs.Spelling.{most_below}
use Rattle.som_cmd_steps.specs.Endings.{Ending}
use Rattle.som_cmd_steps.specs.Fetching.{file_of}
use Rattle.som_cmd_steps.specs.Getting.{images_in}
use Rattle.som_cmd_sources.specs.Texts.{texts_in}
use Rattle.som_cmd_sources.proofs.TextLaws.{mains_named, texts_known}
use Rattle.som_cmd_build.proofs.PutAnswered.{Told, one_put, some_put}
use Rattle.som_cmd_tower_make.specs.declared.base.TowerBase.{TowerBase}
use Rattle.som_cmd_tower_make.specs.declared.parts.TowerParts.{TowerParts}
use Rattle.som_cmd_tower_make.specs.Bases.{IsSoundBase}
use Rattle.som_cmd_tower_make.specs.TowerMakeAnswer.{CompilesTower, IsTowerMakeAnswer, has_main}
use Rattle.som_cmd_tower_make.specs.TowerParts.{base_in, tower_in}
use Rattle.som_cmd_tower_make.proofs.SoundBases.{base_sound}

-- ---- mains

abbrev count_of : Bool → ℕ
count_of client = if client then 1 else 0

mains_by : (b : Bool) (n : ℕ) (others : Bool) → (if b then suc n else n) ≤ 1 → n ≡ count_of others → (if b then suc n else n) ≡ count_of (if b then true else others)
mains_by true n others few e = omega (arith, few, e)
mains_by false n others few e = e

fewer : (b : Bool) (n : ℕ) → (if b then suc n else n) ≤ 1 → n ≤ 1
fewer true n few = omega (arith, few)
fewer false n few = few

-- one main at most is one where there is one, and else none
pub mains_counted : (names : List (List ℕ)) → mains_in names ≤ 1 → mains_in names ≡ count_of (has_main names)
mains_counted [] few = refl
mains_counted (n ∷ ns) few = mains_by (is_main n) (mains_in ns) (has_main ns) few (mains_counted ns (fewer (is_main n) (mains_in ns) few))

-- ---- what the parts of a level came from

images_long : (names : List (List ℕ)) (files : Files) (images : List (List ℕ)) → images_in names files ≡ Ok images → length images ≡ length names
images_long [] files images e = sym (ap length (same_ok [] images e))
images_long (n ∷ ns) files images e =
    let w = went (file_of n files) (λ (b : List ℕ). images_in ns files >>= λ bs. Ok (b ∷ bs)) images e in
    let v = went (images_in ns files) (λ (bs : List (List ℕ)). Ok (w.value ∷ bs)) images w.further in
    subst (λ (x : List (List ℕ)). length x ≡ suc (length ns)) (same_ok (w.value ∷ v.value) images v.further) (ap suc (images_long ns files v.value v.first))

record Came (below names : List (List ℕ)) (files : Files) (p : TowerParts) : Type 0 where
  sound : IsSoundBase (length below) p.base
  texts_are : texts_in names files ≡ Ok p.texts

abbrev parts_from : TowerBase → List Source → TowerParts
parts_from base texts = record { base = base; texts = texts }

came : (below names : List (List ℕ)) (files : Files) (p : TowerParts) → 1 ≤ length below → length below ≤ 8 → tower_in below names files ≡ Ok p → Came below names files p
came below names files p some few e =
    let w = went (images_in below files) (λ (images : List (List ℕ)). texts_in names files >>= λ texts. base_in below images >>= λ base. Ok (parts_from base texts)) p e in
    let v = went (texts_in names files) (λ (texts : List Source). base_in below w.value >>= λ base. Ok (parts_from base texts)) p w.further in
    let u = went (base_in below w.value) (λ (base : TowerBase). Ok (parts_from base v.value)) p v.further in
    let long = images_long below files w.value w.first in
    subst (Came below names files) (same_ok (parts_from u.value v.value) p u.further)
    (record { sound = base_sound below w.value u.value long some few u.first; texts_are = v.first })

pub few_levels : (client : Bool) (n : ℕ) → n ≤ most_below client → n ≤ 8
few_levels true n le = omega (arith, le)
few_levels false n le = omega (arith, le)

-- ---- there is an answer

pub sizes_below : (client : Bool) (count : ℕ) (b : TowerBase) → 1 ≤ count → count ≤ most_below client → IsSoundBase count b → AreSizesBelow b.interface b.sizes client
sizes_below client count b some few sound = record {
  some = subst (λ (n : ℕ). 1 ≤ n) (sym sound.levels) some;
  few = subst (λ (n : ℕ). n ≤ most_below client) (sym sound.levels) few;
  classes = sound.classes;
}

-- so it is of what the code gets
pub parts_sizes : (client : Bool) (names : List (List ℕ)) (count : ℕ) (b : TowerBase) → client ≡ has_main names → 1 ≤ count → count ≤ most_below (has_main names) → IsSoundBase count b → AreSizesBelow b.interface b.sizes client
parts_sizes client names count b is some few sound = subst (AreSizesBelow b.interface b.sizes) (sym is) (sizes_below (has_main names) count b some few sound)

pub parts_mains : (client : Bool) (names : List (List ℕ)) (ss : List Source) → client ≡ has_main names → mains_in names ≤ 1 → names_of ss ≡ names → mains_in (names_of ss) ≡ (if client then 1 else 0)
parts_mains client names ss is mains named = subst (λ (b : Bool). mains_in (names_of ss) ≡ count_of b) (sym is) (mains_named names ss (count_of (has_main names)) named (mains_counted names mains))

pub tower_answer : (files : Files) (out : List ℕ) (below names : List (List ℕ)) → 1 ≤ length below → length below ≤ most_below (has_main names) → mains_in names ≤ 1 → (e : Ending) × IsTowerMakeAnswer out below names files e
tower_answer files out below names some few mains =
    some_put (CompilesTower (has_main names)) files out (tower_in below names files) (λ p got.
    let c = came below names files p some (few_levels (has_main names) (length below) few) got in
    let k = texts_known names files p.texts c.texts_are in
    some_level p.base.interface p.base.sizes (has_main names) p.texts c.sound.base (sizes_below (has_main names) (length below) p.base some few c.sound)
    (mains_named names p.texts (count_of (has_main names)) k.0 (mains_counted names mains)) k.1)

-- ---- and one at most

one_parts : (client : Bool) (p : TowerParts) (a b : Told) → CompilesTower client p a → CompilesTower client p b → a ≡ b
one_parts client p a b x y = one_level p.base.interface p.base.sizes client p.texts a b x y

pub one_tower_answer : (files : Files) (out : List ℕ) (below names : List (List ℕ)) (a b : Ending) → IsTowerMakeAnswer out below names files a → IsTowerMakeAnswer out below names files b → a ≡ b
one_tower_answer files out below names a b is_a is_b = one_put (CompilesTower (has_main names)) files out (tower_in below names files) (one_parts (has_main names)) a b is_a is_b
