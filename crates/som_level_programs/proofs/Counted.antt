-- Programs above levels are within the counts where their flat classes are.
use Rattle.std.proofs.Common.{◌≡◌, ℕ, ◌+◌, ◌≤◌, inl, inr, true, List, [], ◌∷◌, ◌++◌, length, map, refl, sym, ◌∙◌, subst, arith}
use Rattle.std.specs.Prelude.{sum}
use Rattle.std.proofs.lemmas.List.{length-append}
use Rattle.std.proofs.lemmas.List.Sums.{sum_by-cons}
use Rattle.som_model.specs.declared.key.Module.TheVariants as modules
use Rattle.som_model.specs.declared.syntax.Block.{Block}
use Rattle.som_model.specs.declared.class.ClassFace.{ClassFace}
use Rattle.som_model.specs.declared.class.ClassDecl.{ClassDecl}
use Rattle.som_model.specs.declared.program.Release.{Release}
use Rattle.som_model.specs.declared.program.ClientProgram.{ClientProgram}
use Rattle.som_model.specs.Lists.{Mem}
use Rattle.som_model.specs.Class.{Class, bare, class_in}
use Rattle.som_model.specs.Classes.{client_classes, interface_classes, library_classes}
use Rattle.som_model.specs.Counts.{ClassCounted, FaceCounted, block_counted}
use Rattle.som_model_laws.proofs.Lists.{map_mem}
use Rattle.som_model_laws.proofs.Members.{mem_split}
use Rattle.som_release_laws.specs.Releasing.{HaveParents, stacked}
use Rattle.som_rekey_laws.specs.Rekeying.{ModuleChange, rekey_block, rekey_decl, rekey_face}
use Rattle.som_rekey_rules.proofs.CountsRekeyed.{block_same, class_counted}
use Rattle.som_rekey_rules.proofs.RulesRekeyed.{as_long}
use Rattle.som_level_programs.specs.ByLevels.{level_change, own_module}
use Rattle.som_level_programs.specs.Towers.{LevelProgram, by_level}

-- ---- parents

abbrev of_face : ClassFace → Class
of_face f = class_in modules.Library (bare f)

faces_have : (fs : List ClassFace) → ((f : ClassFace) → Mem f fs → FaceCounted f) → HaveParents (map of_face fs)
faces_have fs counted c m = let r = map_mem of_face c fs m in subst (λ (z : Class). 1 ≤ length z.decl.face.parents) (sym r.2) (counted r.0 r.1).some_parent

pub program_parents : (p : ClientProgram) → ((f : ClassFace) → Mem f p.base.classes → FaceCounted f) → ((d : ClassDecl) → Mem d p.classes → ClassCounted d)
    → HaveParents (interface_classes p.base ++ client_classes p)
program_parents p faces own c m = elim (mem_split c (interface_classes p.base) (client_classes p) m) [
  | inl k ↦ faces_have p.base.classes faces c k
  | inr k ↦ (let r = map_mem (class_in modules.Client) c p.classes k in subst (λ (z : Class). 1 ≤ length z.decl.face.parents) (sym r.2) (own r.0 r.1).face.some_parent)
]

pub release_parents : (r : Release) → ((d : ClassDecl) → Mem d r.classes → ClassCounted d) → HaveParents (library_classes r)
release_parents r counted c m = let w = map_mem (class_in modules.Library) c r.classes m in subst (λ (z : Class). 1 ≤ length z.decl.face.parents) (sym w.2) (counted w.0 w.1).face.some_parent

-- ---- under new keys

bare_counted : (f : ClassFace) → FaceCounted f → ClassCounted (bare f)
bare_counted f c = record {
  face = c;
  variables = omega arith;
  names = refl;
  user = refl;
  overrides = omega arith;
  blocks = refl;
  selects = omega arith;
}

pub face_by_level : (change : ModuleChange) (f : ClassFace) → FaceCounted f → FaceCounted (rekey_face change f)
face_by_level change f c = (class_counted change (bare f) (bare_counted f c)).face

pub block_by_level : (change : ModuleChange) (b : Block) → block_counted b ≡ true → block_counted (rekey_block change b) ≡ true
block_by_level change b e = block_same change b ∙ e

-- ---- towers

own_counted : (l : LevelProgram) → ((d : ClassDecl) → Mem d l.program.classes → ClassCounted d) → (c : Class) → Mem c (by_level l).own → ClassCounted c.decl
own_counted l counted c m =
    let change = level_change l.sizes l.client l.program.base in
    let r = map_mem (λ (d : ClassDecl). class_in (own_module (length l.sizes) l.client) (rekey_decl change d)) c l.program.classes m in
    subst (λ (z : Class). ClassCounted z.decl) (sym r.2) (class_counted change r.0 (counted r.0 r.1))

both_counted : (xs ys : List Class) → ((c : Class) → Mem c xs → ClassCounted c.decl) → ((c : Class) → Mem c ys → ClassCounted c.decl) → (c : Class) → Mem c (xs ++ ys) → ClassCounted c.decl
both_counted xs ys a b c m = elim (mem_split c xs ys m) [ inl k ↦ a c k | inr k ↦ b c k ]

stacked_counted : (news : List Class) (ls : List LevelProgram) → ((c : Class) → Mem c news → ClassCounted c.decl)
    → ((l : LevelProgram) (d : ClassDecl) → Mem l ls → Mem d l.program.classes → ClassCounted d)
    → (c : Class) → Mem c (stacked news (map by_level ls)) → ClassCounted c.decl
stacked_counted news [] have counted c m = have c m
stacked_counted news (l ∷ ls) have counted c m =
    stacked_counted (news ++ (by_level l).own) ls
    (both_counted news (by_level l).own have (own_counted l (λ d k. counted l d (inl refl) k)))
    (λ x d i k. counted x d (inr i) k) c m

pub tower_counted : (r : Release) (ls : List LevelProgram) (l : LevelProgram) → ((d : ClassDecl) → Mem d r.classes → ClassCounted d)
    → ((x : LevelProgram) (d : ClassDecl) → Mem x ls → Mem d x.program.classes → ClassCounted d)
    → ((d : ClassDecl) → Mem d l.program.classes → ClassCounted d)
    → (c : Class) → Mem c (stacked (library_classes r) (map by_level ls) ++ (by_level l).own) → ClassCounted c.decl
tower_counted r ls l base counted own =
    both_counted (stacked (library_classes r) (map by_level ls)) (by_level l).own
    (stacked_counted (library_classes r) ls (λ c m. (let w = map_mem (class_in modules.Library) c r.classes m in
    subst (λ (z : Class). ClassCounted z.decl) (sym w.2) (base w.0 w.1))) counted)
    (own_counted l own)

abbrev own_size : LevelProgram → ℕ
own_size l = length l.program.classes

own_long : (l : LevelProgram) → length (by_level l).own ≡ own_size l
own_long l = as_long (λ (d : ClassDecl). class_in (own_module (length l.sizes) l.client) (rekey_decl (level_change l.sizes l.client l.program.base) d)) l.program.classes

stacked_long : (news : List Class) (ls : List LevelProgram) → length (stacked news (map by_level ls)) ≡ length news + sum (map own_size ls)
stacked_long news [] = omega arith
stacked_long news (l ∷ ls) =
    let rest = stacked_long (news ++ (by_level l).own) ls in
    let joined = length-append news (by_level l).own in
    let own = own_long l in
    let all = sum_by-cons (λ (n : ℕ). n) (own_size l) (map own_size ls) in
    omega (arith, rest, joined, own, all)

pub tower_long : (r : Release) (ls : List LevelProgram) (l : LevelProgram)
    → length (stacked (library_classes r) (map by_level ls) ++ (by_level l).own) ≡ length r.classes + sum (map (λ (x : LevelProgram). length x.program.classes) ls) + length l.program.classes
tower_long r ls l =
    let below = stacked_long (library_classes r) ls in
    let joined = length-append (stacked (library_classes r) (map by_level ls)) (by_level l).own in
    let own = own_long l in
    let base = as_long (class_in modules.Library) r.classes in
    omega (arith, below, joined, own, base)
