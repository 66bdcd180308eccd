-- Reading a tower image answers what the bytes spell, and nothing else.
use Rattle.std.proofs.Common.{◌≡◌, ℕ, ◌+◌, ◌^◌, ◌<◌, ◌≤◌, Bool, true, false, true≢false, List, [], ◌∷◌, ◌++◌, length, drop, Result, Ok, refl, sym, ap, subst, ◌∙◌, arith}
use Rattle.std.specs.Prelude.{sum, codes, All}
use Rattle.std.specs.List.{flat_map, AllByRecursion}
use Rattle.std.specs.Int.{w8, w16}
use Rattle.std.proofs.lemmas.List.{drop_at, length-append}
use Rattle.std.proofs.lemmas.List.Elements.{All-from_recursion}
use Rattle.std.proofs.lemmas.List.Sums.{sum_by-cons}
use Rattle.som_model.specs.declared.syntax.Stmt.{Stmt}
use Rattle.som_model.specs.declared.program.ClientProgram.{ClientProgram}
use Rattle.som_model.specs.Bytes.{AreBytes}
use Rattle.som_model.specs.Steps.{◌>>=◌}
use Rattle.som_image_fields.specs.declared.fault.ImageFault.{ImageFault}
use Rattle.som_image_fields.specs.declared.read.Read.{Read}
use Rattle.som_image_fields.specs.Fields.{Stands}
use Rattle.som_image_fields.specs.Spelling.{number}
use Rattle.som_image_fields.proofs.Parts.{Stands-join, bind_ok, took, went}
use Rattle.som_image_classes.specs.ReadClasses.{head_at}
use Rattle.som_image_classes.specs.SpelledClasses.{head}
use Rattle.som_image_classes.proofs.ClassFields.{beginning, IsVersion, head_field}
use Rattle.som_cliimage.specs.Forms.{IsAsked}
use Rattle.som_cliimage.specs.Limits.{IsWithinLimits}
use Rattle.som_cliimage.specs.Programs.{SpellsProgram, client_from}
use Rattle.som_cliimage.proofs.Decoded.{ProgramHasForm, spelled_within, from_one, from_again}
use Rattle.som_towerimage.specs.declared.level.TheConstants.{MAX_BELOW_CLIENT}
use Rattle.som_towerimage.specs.declared.level.Level.{Level}
use Rattle.som_towerimage.specs.Reading.{below_at, flag_at, sizes_at, statements_of, level_form, level_at}
use Rattle.som_towerimage.specs.Spelling.{most_below, FitsTower, flag, levels_below, tower_head, SpellsLevel}
use Rattle.som_towerimage.proofs.HeadFields.{IsBelow, below_field, HasRoom, flag_field, AreSizes, sizes_field}

abbrev somt : List ℕ
somt = codes "SOMT"

abbrev answered : Level → Result Level ImageFault
answered l = Ok l

same_level : (x y : Level) → answered x ≡ answered y → x ≡ y
same_level x y e = cc

-- ---- forms

-- a library's main is asked to be empty
asked_main : (client : Bool) (ss : List Stmt) → (client ≡ false → ss ≡ []) → IsAsked (statements_of client) (length ss)
asked_main false ss h = ap (length {A = Stmt}) (h refl)
asked_main true ss h = tt

no_statement : (ss : List Stmt) → length ss ≡ 0 → ss ≡ []
no_statement [] e = refl
no_statement (s ∷ ss) e = absurd (omega (arith, e))

empty_main : (client : Bool) (ss : List Stmt) → IsAsked (statements_of client) (length ss) → client ≡ false → ss ≡ []
empty_main false ss h is = no_statement ss h
empty_main true ss h is = absurd (true≢false is)

-- what a level that fits has is what is asked of its client image
level_has : (l : Level) → FitsTower l → ProgramHasForm (level_form (sum l.sizes) l.client) l.program
level_has l fits = record { base = sym fits.classes; main = asked_main l.client l.program.main.statements fits.main }

-- ---- sizes

small_each : (most : ℕ) (xs : List ℕ) → sum xs ≤ most → most < 2 ^ 16 → AllByRecursion (λ (n : ℕ). n < 2 ^ 16) xs
small_each most [] le lt = tt
small_each most (x ∷ xs) le lt =
    let both = sum_by-cons (λ (n : ℕ). n) x xs in
    (omega (arith, both, le, lt), small_each most xs (omega (arith, both, le)) lt)

few_classes : (p : ClientProgram) → IsWithinLimits p → length p.base.classes < 2 ^ 16
few_classes p within = omega (arith, within.faces)

pub sizes_small : (l : Level) (image : List ℕ) → FitsTower l → SpellsProgram l.program image → All (λ (n : ℕ). n < 2 ^ 16) l.sizes
sizes_small l image fits spells =
    let few = few_classes l.program (spelled_within l.program image spells) in
    All-from_recursion (λ (n : ℕ). n < 2 ^ 16) l.sizes (small_each (length l.program.base.classes) l.sizes (omega (arith, fits.classes)) few)

few_below : (client : Bool) (n : ℕ) → n ≤ most_below client → n ≤ MAX_BELOW_CLIENT
few_below true n le = le
few_below false n le = omega (arith, le)

-- ---- whole levels

abbrev a_level : List ℕ → Bool → ClientProgram → Level
a_level sizes client p = record { sizes = sizes; program = p; client = client }

abbrev after_sizes : List ℕ → Bool → Read (List ℕ) → Result Level ImageFault
after_sizes bytes client sizes = client_from (level_form (sum sizes.value) client) bytes sizes.next >>= λ p. answered (a_level sizes.value client p)

abbrev after_flag : List ℕ → ℕ → Read Bool → Result Level ImageFault
after_flag bytes below client = sizes_at below bytes client.next >>= after_sizes bytes client.value

abbrev after_below : List ℕ → Read ℕ → Result Level ImageFault
after_below bytes below = flag_at below.value bytes below.next >>= after_flag bytes below.value

abbrev after_version : List ℕ → Read ℕ → Result Level ImageFault
after_version bytes version = below_at bytes version.next >>= after_below bytes

-- the version is the only one
one_version : (n : ℕ) → IsVersion somt 1 n → n ≡ 1
one_version n is = omega (arith, is.0, is.1)

head_is : (version below : ℕ) (sizes : List ℕ) (client : Bool) → version ≡ 1 → below ≡ length sizes → head somt version ++ (number w8 below ++ (flag client ++ flat_map (number w16) sizes)) ≡ tower_head sizes client
head_is version below sizes client one is =
    let others : List ℕ = flag client ++ flat_map (number w16) sizes in
    ap (λ (n : ℕ). head somt n ++ (number w8 below ++ others)) one ∙ ap (λ (n : ℕ). head somt 1 ++ (number w8 n ++ others)) is

-- the text with which bytes begin, and what follows it
joined : (bytes t u : List ℕ) (next : ℕ) → Stands bytes 0 t next → t ≡ u → u ++ drop next bytes ≡ bytes
joined bytes t u next h is = sym (h.parts ∙ ap (λ (x : List ℕ). x ++ drop next bytes) is)

made_fits : (below : ℕ) (sizes : List ℕ) (client : Bool) (p : ClientProgram) → IsBelow below → below ≡ length sizes → below ≤ most_below client → ProgramHasForm (level_form (sum sizes) client) p → FitsTower (a_level sizes client p)
made_fits below sizes client p is same few has = record {
  some = omega (arith, is.0, same);
  few = subst (λ (n : ℕ). n ≤ most_below client) same few;
  classes = sym has.base;
  main = empty_main client p.main.statements has.main;
}

-- a level that came out
level_came : (bytes : List ℕ) (made l : Level) → answered made ≡ Ok l → SpellsLevel made bytes → SpellsLevel l bytes
level_came bytes made l e s = subst (λ (x : Level). SpellsLevel x bytes) (same_level made l e) s

-- what is read is spelled so
pub level_takes : (bytes : List ℕ) → AreBytes bytes → (l : Level) → level_at bytes ≡ Ok l → SpellsLevel l bytes
unfolding level_at
level_takes bytes all l e =
    let v = took (head_at somt 1) (beginning somt 1) (IsVersion somt 1) (head_field somt 1 (omega arith)) bytes all 0 (omega arith) (after_version bytes) l e in
    let version : ℕ = v.0.value in
    let b = took below_at (number w8) IsBelow below_field bytes all v.0.next v.1.within (after_below bytes) l v.3 in
    let below : ℕ = b.0.value in
    let f = took (flag_at below) flag (HasRoom below b.2.1) (flag_field below b.2.1) bytes all b.0.next b.1.within (after_flag bytes below) l b.3 in
    let client : Bool = f.0.value in
    let s = took (sizes_at below) (flat_map (number w16)) (AreSizes below) (sizes_field below) bytes all f.0.next f.1.within (after_sizes bytes client) l f.3 in
    let sizes : List ℕ = s.0.value in
    let p = bind_ok (client_from (level_form (sum sizes) client) bytes s.0.next) (λ (p : ClientProgram). answered (a_level sizes client p)) l s.3 in
    let spells = from_one (level_form (sum sizes) client) bytes all s.0.next s.1.within p.0 p.1 in
    let j1 = Stands-join bytes b.0.next (flag client) f.0.next (flat_map (number w16) sizes) s.0.next f.1 s.1 in
    let j2 = Stands-join bytes v.0.next (number w8 below) b.0.next (flag client ++ flat_map (number w16) sizes) s.0.next b.1 j1 in
    let j3 = Stands-join bytes 0 (head somt version) v.0.next (number w8 below ++ (flag client ++ flat_map (number w16) sizes)) s.0.next v.1 j2 in
    let below_is : below ≡ length sizes = sym s.2.0 in
    let whole = head_is version below sizes client (one_version version v.2) below_is in
    let spelled = joined bytes (head somt version ++ (number w8 below ++ (flag client ++ flat_map (number w16) sizes))) (tower_head sizes client) s.0.next j3 whole in
    let fits = made_fits below sizes client p.0 b.2 below_is f.2 spells.1 in
    level_came bytes (a_level sizes client p.0) l p.2 (record { fits = fits; image = drop s.0.next bytes; program = spells.0; spelled = spelled })

-- a text that others follow stands at the beginning of all
front_stands : (t others : List ℕ) → Stands (t ++ others) 0 t (length t)
front_stands t others = record {
  parts = ap (λ (x : List ℕ). t ++ x) (sym (drop_at t others (length t) refl));
  moves = omega arith;
  within = omega (arith, length-append t others);
}

-- what is spelled so is read
pub read_again : (l : Level) (image : List ℕ) → FitsTower l → SpellsProgram l.program image → level_at (tower_head l.sizes l.client ++ image) ≡ Ok l
unfolding level_at
read_again l image fits spells =
    let bytes : List ℕ = tower_head l.sizes l.client ++ image in
    let end : ℕ = length (tower_head l.sizes l.client) in
    let below : ℕ = length l.sizes in
    let few : below ≤ MAX_BELOW_CLIENT = few_below l.client below fits.few in
    let v = went (head_at somt 1) (beginning somt 1) (IsVersion somt 1) (head_field somt 1 (omega arith)) bytes 0 1 (levels_below l.sizes l.client) end (front_stands (tower_head l.sizes l.client) image) (omega arith, omega arith) in
    let p1 : ℕ = 0 + length (head somt 1) in
    let b = went below_at (number w8) IsBelow below_field bytes p1 below (flag l.client ++ flat_map (number w16) l.sizes) end v.1 (fits.some, few) in
    let p2 : ℕ = p1 + length (number w8 below) in
    let f = went (flag_at below) flag (HasRoom below few) (flag_field below few) bytes p2 l.client (flat_map (number w16) l.sizes) end b.1 fits.few in
    let p3 : ℕ = p2 + length (flag l.client) in
    let s = (sizes_field below).again bytes p3 l.sizes end f.1 (refl, sizes_small l image fits spells) in
    let rest : drop end bytes ≡ image = drop_at (tower_head l.sizes l.client) image end refl in
    let within : end ≤ length bytes = omega (arith, length-append (tower_head l.sizes l.client) image) in
    let p = from_again (level_form (sum l.sizes) l.client) bytes end l.program within (subst (SpellsProgram l.program) (sym rest) spells) (level_has l fits) in
    rw (v.0, b.0, f.0, s, p) refl

pub level_again : (l : Level) (bytes : List ℕ) → SpellsLevel l bytes → level_at bytes ≡ Ok l
level_again l bytes s = subst (λ (x : List ℕ). level_at x ≡ Ok l) s.spelled (read_again l s.image s.fits s.program)
