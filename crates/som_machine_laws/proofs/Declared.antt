-- The bodies that classes declare need only what their class has, and main needs no self.
use Rattle.std.proofs.Common.{◌≡◌, ◌==◌, ℕ, inl, inr, Bool, true, false, List, [], ◌∷◌, ◌++◌, map, flat_map, length, slice_get, Option, Some, None, IsSome, Ok, Err, refl, sym, ap, ◌∙◌, subst, arith, true≢false}
use Rattle.std.proofs.lemmas.Bool.{eqb-true}
use Rattle.som_model.specs.declared.key.ClassKey.{ClassKey}
use Rattle.som_model.specs.declared.key.MethodRef.{MethodRef}
use Rattle.som_model.specs.declared.key.ValueType.{ValueType}
use Rattle.som_model.specs.declared.syntax.Block.{Block}
use Rattle.som_model.specs.declared.class.Sig.{Sig}
use Rattle.som_model.specs.declared.class.Entry.{Entry}
use Rattle.som_model.specs.declared.class.Entry.TheVariants as entries
use Rattle.som_model.specs.declared.class.Body.{Body}
use Rattle.som_model.specs.declared.class.Body.TheVariants as bodies
use Rattle.som_model.specs.declared.class.Override.{Override}
use Rattle.som_model.specs.declared.class.Variable.{Variable}
use Rattle.som_model.specs.Lists.{Mem}
use Rattle.som_model.specs.Class.{Class, introduced}
use Rattle.som_model.specs.Kernel.{kernel}
use Rattle.som_model.specs.Implementation.{User, Set}
use Rattle.som_model.specs.Loads.{IsOrdered, Loads}
use Rattle.som_model.specs.Made.{blocks_of_class}
use Rattle.som_model.specs.Owner.{owner, sig_of}
use Rattle.som_model.specs.Same.{same_type}
use Rattle.som_model.specs.Rules.{body_fits, demand, demand_of, is_void}
use Rattle.som_model.specs.Typing.{ClassFacts, Ruled, in_body, in_main, running_facts}
use Rattle.som_model.specs.TypedBlocks.{Scope, block_scope}
use Rattle.som_model.specs.Conforming.{block_breach_by, bodies_typed_by, override_typed_by, main_typed_by, override_breach_by}
use Rattle.som_semantics.specs.World.{world}
use Rattle.som_semantics.proofs.WorldLaws.{answers_are}
use Rattle.som_model.proofs.KeyLaws.{both}
use Rattle.som_model_laws.proofs.Members.{mem_split}
use Rattle.som_model_laws.proofs.Lists.{get_mem, map_mem}
use Rattle.som_model_laws.proofs.Standing.{found, found_is}
use Rattle.som_release_laws.proofs.Facing.{demanded, demanded_of}
use Rattle.som_release_laws.proofs.Inheriting.{s10_says}
use Rattle.som_release_laws.proofs.Lists.{flat_at, none_left}
use Rattle.som_release_laws.proofs.TypedClasses.{well}
use Rattle.som_type_soundness.proofs.Facts.{IsClass}
use Rattle.som_type_soundness.proofs.Fitting.{a_class_here}
use Rattle.som_type_soundness.proofs.Methods.{fits_from}
use Rattle.som_code.specs.declared.instruction.Instruction.{Instruction}
use Rattle.som_code.specs.declared.instruction.Instruction.TheVariants as ops
use Rattle.som_code.specs.Laid.{lay_body}
use Rattle.som_machine_laws.specs.Having.{AreOfClass, AreOfMain, HasParent, HasVariable, IsOfClass, needs_self}
use Rattle.som_machine_laws.proofs.Blocks.{IsIn, block_of_class, held_body, world_in}
use Rattle.som_machine_laws.proofs.Needs.{Finds, variable_kind}
use Rattle.som_machine_laws.proofs.Needed.{body_finds}

abbrev block_in : Body → List Block
block_in (bodies.User b) = b ∷ []
block_in (bodies.Get n) = []
block_in (bodies.Set n) = []

abbrev is_one : List ValueType → ValueType → Bool
is_one (p ∷ []) t = same_type p t
is_one _ t = false

kernel_empty : (c : Class) → Mem c kernel → (c.decl.bodies ≡ []) × (c.decl.overrides ≡ [])
kernel_empty c (inl e) = (ap (λ (z : Class). z.decl.bodies) e, ap (λ (z : Class). z.decl.overrides) e)
kernel_empty c (inr (inl e)) = (ap (λ (z : Class). z.decl.bodies) e, ap (λ (z : Class). z.decl.overrides) e)
kernel_empty c (inr (inr (inl e))) = (ap (λ (z : Class). z.decl.bodies) e, ap (λ (z : Class). z.decl.overrides) e)
kernel_empty c (inr (inr (inr (inl e)))) = (ap (λ (z : Class). z.decl.bodies) e, ap (λ (z : Class). z.decl.overrides) e)
kernel_empty c (inr (inr (inr (inr m)))) = absurd m

-- a block is well typed in a class, with some result and parameters
pub record IsTypedIn (w : ClassFacts) (c : Class) (b : Block) : Type 0 where
  pub result : ValueType
  pub params : Scope
  pub after : Scope
  pub typed : block_scope w (in_body c result) b params ≡ Ok after

module _ (w : ClassFacts) (c : Class) where
  typed_in : (name : List ℕ) (sig : Sig) (b : Block) → block_breach_by w c name sig b ≡ [] → IsTypedIn w c b
  typed_in name sig b e =
      let x = well c name (block_scope w (in_body c sig.result) b sig.params) e in
      record { result = sig.result; params = sig.params; after = x.0; typed = x.1 }

  in_bodies : (es : List Entry) (bs : List Body) (b : Block) → length bs ≡ length (introduced es) → bodies_typed_by w c es bs ≡ [] → Mem b (flat_map block_in bs) → IsTypedIn w c b
  in_bodies [] [] b n e m = absurd m
  in_bodies [] (x ∷ bs) b n e m = absurd (omega (arith, n))
  in_bodies (entries.Moved name to ∷ es) bs b n e m = in_bodies es bs b n e m
  in_bodies (entries.Introduced name sig way ∷ es) [] b n e m = absurd (omega (arith, n))
  in_bodies (entries.Introduced name sig way ∷ es) (bodies.User block ∷ bs) b n e m =
      let p = none_left (block_breach_by w c name sig block) (bodies_typed_by w c es bs) e in
      elim m [
        | inl is ↦ subst (IsTypedIn w c) (sym is) (typed_in name sig block p.0)
        | inr k ↦ in_bodies es bs b (omega (arith, n)) p.1 k
      ]
  in_bodies (entries.Introduced name sig way ∷ es) (bodies.Get i ∷ bs) b n e m = in_bodies es bs b (omega (arith, n)) e m
  in_bodies (entries.Introduced name sig way ∷ es) (bodies.Set i ∷ bs) b n e m = in_bodies es bs b (omega (arith, n)) e m

  in_override : (o : Override) (q : Option Sig) → IsSome q → override_breach_by w c o q ≡ [] → IsTypedIn w c o.block
  in_override o None s e = absurd (true≢false (sym s))
  in_override o (Some sig) s e = typed_in o.method.name sig o.block e

-- a body that fits some signature
body_fitting : (c : Class) (es : List Entry) (bs : List Body) (d : Body) → length bs ≡ length (introduced es) → fits_from c es bs ≡ [] → Mem d bs → (s : Sig) × (body_fits c.decl.variables s d ≡ true)
body_fitting c [] [] d n e m = absurd m
body_fitting c [] (x ∷ bs) d n e m = absurd (omega (arith, n))
body_fitting c (entries.Moved name to ∷ es) bs d n e m = body_fitting c es bs d n e m
body_fitting c (entries.Introduced name sig way ∷ es) [] d n e m = absurd m
body_fitting c (entries.Introduced name sig way ∷ es) (x ∷ bs) d n e m =
    let p = none_left (demand_of 14 c name (body_fits c.decl.variables sig x)) (fits_from c es bs) e in
    elim m [
      | inl is ↦ (sig, ap (body_fits c.decl.variables sig) is ∙ demanded_of 14 c name (body_fits c.decl.variables sig x) p.0)
      | inr k ↦ body_fitting c es bs d (omega (arith, n)) p.1 k
    ]

kind_there : (q : Option ValueType) (ps : List ValueType) → (elim q [ None ↦ false | Some kind ↦ is_one ps kind ]) ≡ true → IsSome q
kind_there None ps e = absurd (true≢false (sym e))
kind_there (Some kind) ps e = refl

kind_set : (c : Class) (s : Sig) (d : Body) (n : ℕ) → held_body d ≡ Set n → body_fits c.decl.variables s d ≡ true → IsSome (variable_kind (Some c) n)
kind_set c s (bodies.User b) n e f = absurd (let z = e in cc)
kind_set c s (bodies.Get i) n e f = absurd (let z = e in cc)
kind_set c s (bodies.Set i) n e f =
    let same : i ≡ n = (let z = e in cc) in
    let q = slice_get (map (λ (v : Variable). v.kind) c.decl.variables) i in
    subst (λ z. IsSome (variable_kind (Some c) z)) same (kind_there q s.params (both (is_void s.result) (elim q [ None ↦ false | Some kind ↦ is_one s.params kind ]) f).1)

module _ (cs : List Class) (main : Block) (l : Loads cs main) where
  abbrev all : List Class
  all = kernel ++ cs

  abbrev o : IsOrdered cs
  o = l.faces.ordered

  abbrev w : ClassFacts
  w = running_facts all

  as_many : (c : Class) → Mem c cs → length c.decl.bodies ≡ length (introduced c.decl.face.entries)
  as_many c m = eqb-true (length c.decl.bodies) (length (introduced c.decl.face.entries)) (demanded 14 c _ (none_left _ _ (l.bodies c m)).0)

  is_class : (c : Class) → Mem c all → IsClass (world all) c
  is_class c m = subst (λ z. IsClass z c) (answers_are all) (a_class_here cs main l c.key c (found cs o c c.key m refl) refl)

  has_variable : (c : Class) → Mem c all → (n : ℕ) → IsSome (variable_kind (Some c) n) → HasVariable (world all) c.key n
  has_variable c m n e = by (variable_kind (Some c) n) refl e
    where
      by : (q : Option ValueType) → variable_kind (Some c) n ≡ q → IsSome q → HasVariable (world all) c.key n
      by None f g = absurd (true≢false (sym g))
      by (Some kind) f g = let v = (is_class c m).variables n kind f in ap is_void v.0 ∙ v.1

  has_parent : (c : Class) → Mem c all → (n : ℕ) → IsSome (slice_get c.decl.face.parents n) → HasParent (world all) c.key n
  has_parent c m n e = subst (λ z. IsSome (slice_get z n)) (sym (is_class c m).parents) e

  of_class : (c : Class) → Mem c all → (i : Instruction) → Finds (Some c) i → IsOfClass (world all) c.key i
  of_class c m (ops.GetVariable n) f = has_variable c m n f
  of_class c m (ops.SetVariable n) f = has_variable c m n f
  of_class c m (ops.ParentCall p r n) f = has_parent c m p f
  of_class c m _ f = tt

  -- the blocks of a class are well typed in it
  class_typed : (c : Class) (b : Block) → Mem c cs → Mem b (blocks_of_class c) → IsTypedIn w c b
  class_typed c b m at =
      let t = none_left (bodies_typed_by w c c.decl.face.entries c.decl.bodies) (flat_map (override_typed_by w all c) c.decl.overrides) (l.typed c m) in
      elim (mem_split b (flat_map block_in c.decl.bodies) (map (λ (x : Override). x.block) c.decl.overrides) at) [
        | inl k ↦ in_bodies w c c.decl.face.entries c.decl.bodies b (as_many c m) t.0 k
        | inr k ↦ (
            let r = map_mem (λ (x : Override). x.block) b c.decl.overrides k in
            let typed : override_breach_by w c r.0 (sig_of all (owner all r.0.method)) ≡ [] = flat_at (override_typed_by w all c) c.decl.overrides r.0 t.1 r.1 in
            let signed : IsSome (sig_of all (owner all r.0.method)) = ((s10_says all c (l.inherited c m)).overrides.0 r.0 r.1).1 in
            subst (IsTypedIn w c) (sym r.2) (in_override w c r.0 (sig_of all (owner all r.0.method)) signed typed))
      ]

  no_block : (c : Class) (b : Block) → Mem c kernel → Mem b (blocks_of_class c) → ⊥
  no_block c b m at =
      let e = kernel_empty c m in
      elim (mem_split b (flat_map block_in c.decl.bodies) (map (λ (x : Override). x.block) c.decl.overrides) at) [
        | inl k ↦ subst (λ z. Mem b (flat_map block_in z)) e.0 k
        | inr k ↦ subst (λ z. Mem b (map (λ (x : Override). x.block) z)) e.1 k
      ]

  -- the code of a class's block needs only what the class has
  pub class_code : (c : Class) (b : Block) (params : ℕ) → Mem c all → Mem b (blocks_of_class c) → AreOfClass (world all) c.key (lay_body b params)
  class_code c b params m at n i e = elim (mem_split c kernel cs m) [
    | inl k ↦ absurd (no_block c b k at)
    | inr k ↦ (
        let t = class_typed c b k at in
        of_class c m i (body_finds w (in_body c t.result) b params t.params t.after t.typed i (get_mem (lay_body b params) n i e)))
  ]

  pub held_code : (k : ClassKey) (r : MethodRef) (b : Block) (params : ℕ) → (world all).held k r ≡ Some (User b) → AreOfClass (world all) k (lay_body b params)
  held_code k r b params e =
      let d = world_in all r (User b) refl k e in
      let is = found_is cs o k d.class d.at in
      subst (λ z. AreOfClass (world all) z (lay_body b params)) is.1 (class_code d.class b params is.0 (block_of_class d.class b d.is_in))

  -- a body that writes a variable is of a variable that its class has
  writer_in : (c : Class) (n : ℕ) → Mem c cs → IsIn c (Set n) → IsSome (variable_kind (Some c) n)
  writer_in c n m (inl (d, at, e)) =
      let t = none_left (demand 14 c (length c.decl.bodies == length (introduced c.decl.face.entries))) (fits_from c c.decl.face.entries c.decl.bodies) (l.bodies c m) in
      let f = body_fitting c c.decl.face.entries c.decl.bodies d (as_many c m) t.1 at in
      kind_set c f.0 d n e f.1
  writer_in c n m (inr (x, at, e)) = absurd (let z = e in cc)

  kernel_writes : (c : Class) (n : ℕ) → Mem c kernel → IsIn c (Set n) → ⊥
  kernel_writes c n m (inl (d, at, e)) = subst (λ z. Mem d z) (kernel_empty c m).0 at
  kernel_writes c n m (inr (x, at, e)) = subst (λ z. Mem x z) (kernel_empty c m).1 at

  pub writer_there : (k : ClassKey) (r : MethodRef) (n : ℕ) → (world all).held k r ≡ Some (Set n) → HasVariable (world all) k n
  writer_there k r n e =
      let d = world_in all r (Set n) refl k e in
      let is = found_is cs o k d.class d.at in
      elim (mem_split d.class kernel cs is.0) [
        | inl m ↦ absurd (kernel_writes d.class n m d.is_in)
        | inr m ↦ subst (λ z. HasVariable (world all) z n) is.1 (has_variable d.class is.0 n (writer_in d.class n m d.is_in))
      ]

  -- main

  main_scope : (after : Scope) × (block_scope w in_main main [] ≡ Ok after)
  main_scope = by (block_scope w in_main main []) refl l.main_typed
    where
      by : (x : Ruled Scope) → block_scope w in_main main [] ≡ x → main_typed_by w main ≡ [] → (after : Scope) × (block_scope w in_main main [] ≡ Ok after)
      by (Ok after) f e = (after, f)
      by (Err rule) f e = absurd (let g = rw f at e in cc)

  nothing_found : (i : Instruction) → Finds None i → needs_self i ≡ false
  nothing_found ops.Me f = absurd (true≢false (sym f))
  nothing_found (ops.GetVariable n) f = absurd (true≢false (sym f))
  nothing_found (ops.SetVariable n) f = absurd (true≢false (sym f))
  nothing_found (ops.ParentCall p r n) f = absurd (true≢false (sym f))
  nothing_found (ops.ParentsCall r n) f = absurd (true≢false (sym f))
  nothing_found _ f = refl

  pub main_code : (params : ℕ) → AreOfMain (lay_body main params)
  main_code params n i e =
      let s = main_scope in
      nothing_found i (body_finds w in_main main params [] s.0 s.1 i (get_mem (lay_body main params) n i e))
