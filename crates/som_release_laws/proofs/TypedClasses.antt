-- The bodies of a class that are well typed among some classes are so among those that have what these had.
use Rattle.std.proofs.Common.{◌≡◌, ℕ, inl, inr, List, [], ◌∷◌, ◌++◌, flat_map, length, Some, Ok, Err, refl, sym, ap, ◌∙◌, arith}
use Rattle.som_model.specs.declared.key.MethodRef.{MethodRef}
use Rattle.som_model.specs.declared.syntax.Block.{Block}
use Rattle.som_model.specs.declared.class.Sig.{Sig}
use Rattle.som_model.specs.declared.class.Entry.{Entry}
use Rattle.som_model.specs.declared.class.Entry.TheVariants as entries
use Rattle.som_model.specs.declared.class.Body.{Body}
use Rattle.som_model.specs.declared.class.Body.TheVariants as bodies
use Rattle.som_model.specs.declared.class.Override.{Override}
use Rattle.som_model.specs.declared.class.Select.{Select}
use Rattle.som_model.specs.Lists.{Mem}
use Rattle.som_model.specs.Class.{Class, introduced}
use Rattle.som_model.specs.Conforming.{block_breach_by, bodies_typed_by, class_typed_by, main_typed_by, override_typed_by, body_breach, override_breach_by}
use Rattle.som_model.specs.Named.{block_names, body_names, method_names, override_names, select_names}
use Rattle.som_model.specs.Owner.{owner, sig_of}
use Rattle.som_model.specs.Typing.{ClassFacts, Ruled, in_body, in_main}
use Rattle.som_model.specs.TypedBlocks.{Scope, block_scope}
use Rattle.som_release_laws.specs.Refining.{AreKnown, Refines}
use Rattle.som_release_laws.proofs.Lists.{both_none, none_left}
use Rattle.som_release_laws.proofs.Statements.{block_carried}
use Rattle.som_release_laws.proofs.TypesBelow.{both_named, none_named}

-- what a body came to that breaks no rule
pub well : (c : Class) (name : List ℕ) (x : Ruled Scope) → body_breach c name x ≡ [] → (after : Scope) × (x ≡ Ok after)
well c name (Ok after) e = (after, refl)
well c name (Err rule) e = absurd (cc)

module _ (w v : ClassFacts) (r : Refines w v) (c : Class) where
  block_typed : (name : List ℕ) (sig : Sig) (block : Block) → block_breach_by w c name sig block ≡ [] → (block_breach_by v c name sig block ≡ []) × AreKnown w (block_names block)
  block_typed name sig block e =
      let x = well c name (block_scope w (in_body c sig.result) block sig.params) e in
      let k = block_carried w v r (in_body c sig.result) block sig.params x.0 x.1 in
      (ap (body_breach c name) k.0, k.1)

  bodies_carried : (es : List Entry) (bs : List Body) → length bs ≡ length (introduced es) → bodies_typed_by w c es bs ≡ [] → (bodies_typed_by v c es bs ≡ []) × AreKnown w (flat_map body_names bs)
  bodies_carried [] [] n e = (refl, none_named w)
  bodies_carried [] (b ∷ bs) n e = absurd (omega (arith, n))
  bodies_carried (entries.Moved name to ∷ es) bs n e = bodies_carried es bs n e
  bodies_carried (entries.Introduced name sig way ∷ es) [] n e = absurd (omega (arith, n))
  bodies_carried (entries.Introduced name sig way ∷ es) (bodies.User block ∷ bs) n e =
      let p = none_left (block_breach_by w c name sig block) (bodies_typed_by w c es bs) e in
      let one = block_typed name sig block p.0 in
      let rest = bodies_carried es bs (omega (arith, n)) p.1 in
      (both_none (block_breach_by v c name sig block) (bodies_typed_by v c es bs) one.0 rest.0, both_named w (block_names block) (flat_map body_names bs) one.1 rest.1)
  bodies_carried (entries.Introduced name sig way ∷ es) (bodies.Get i ∷ bs) n e = bodies_carried es bs (omega (arith, n)) e
  bodies_carried (entries.Introduced name sig way ∷ es) (bodies.Set i ∷ bs) n e = bodies_carried es bs (omega (arith, n)) e

  module _ (cs ds : List Class) (sigs : (m : MethodRef) (s : Sig) → sig_of cs (owner cs m) ≡ Some s → sig_of ds (owner ds m) ≡ Some s)
      (named : (m : MethodRef) (s : Sig) → sig_of cs (owner cs m) ≡ Some s → AreKnown w (method_names m)) where
    override_carried : (o : Override) (s : Sig) → sig_of cs (owner cs o.method) ≡ Some s → override_typed_by w cs c o ≡ [] → (override_typed_by v ds c o ≡ []) × AreKnown w (override_names o)
    override_carried o s f e =
        let one = block_typed o.method.name s o.block (sym (ap (override_breach_by w c o) f) ∙ e) in
        (ap (override_breach_by v c o) (sigs o.method s f) ∙ one.0, both_named w (method_names o.method) (block_names o.block) (named o.method s f) one.1)

    overrides_carried : (os : List Override) → ((o : Override) → Mem o os → (s : Sig) × (sig_of cs (owner cs o.method) ≡ Some s)) → flat_map (override_typed_by w cs c) os ≡ []
        → (flat_map (override_typed_by v ds c) os ≡ []) × AreKnown w (flat_map override_names os)
    overrides_carried [] f e = (refl, none_named w)
    overrides_carried (o ∷ os) f e =
        let p = none_left (override_typed_by w cs c o) (flat_map (override_typed_by w cs c) os) e in
        let s = f o (inl refl) in
        let one = override_carried o s.0 s.1 p.0 in
        let rest = overrides_carried os (λ x m. f x (inr m)) p.1 in
        (both_none (override_typed_by v ds c o) (flat_map (override_typed_by v ds c) os) one.0 rest.0, both_named w (override_names o) (flat_map override_names os) one.1 rest.1)

    selects_named : (ss : List Select) → ((x : Select) → Mem x ss → (s : Sig) × (sig_of cs (owner cs x.method) ≡ Some s)) → AreKnown w (flat_map select_names ss)
    selects_named [] f = none_named w
    selects_named (x ∷ ss) f = let s = f x (inl refl) in both_named w (select_names x) (flat_map select_names ss) (named x.method s.0 s.1) (selects_named ss (λ y m. f y (inr m)))

    pub class_carried : length c.decl.bodies ≡ length (introduced c.decl.face.entries)
        → ((o : Override) → Mem o c.decl.overrides → (s : Sig) × (sig_of cs (owner cs o.method) ≡ Some s)) → ((x : Select) → Mem x c.decl.selects → (s : Sig) × (sig_of cs (owner cs x.method) ≡ Some s))
        → class_typed_by w cs c ≡ [] → (class_typed_by v ds c ≡ []) × AreKnown w (flat_map body_names c.decl.bodies ++ (flat_map override_names c.decl.overrides ++ flat_map select_names c.decl.selects))
    class_carried n f g e =
        let p = none_left (bodies_typed_by w c c.decl.face.entries c.decl.bodies) (flat_map (override_typed_by w cs c) c.decl.overrides) e in
        let b = bodies_carried c.decl.face.entries c.decl.bodies n p.0 in
        let o = overrides_carried c.decl.overrides f p.1 in (
          both_none (bodies_typed_by v c c.decl.face.entries c.decl.bodies) (flat_map (override_typed_by v ds c) c.decl.overrides) b.0 o.0,
          both_named w (flat_map body_names c.decl.bodies) (flat_map override_names c.decl.overrides ++ flat_map select_names c.decl.selects) b.1
              (both_named w (flat_map override_names c.decl.overrides) (flat_map select_names c.decl.selects) o.1 (selects_named c.decl.selects g)),
        )

main_well : (w : ClassFacts) (main : Block) → main_typed_by w main ≡ [] → (after : Scope) × (block_scope w in_main main [] ≡ Ok after)
main_well w main e = by (block_scope w in_main main []) refl e
  where
    by : (x : Ruled Scope) → block_scope w in_main main [] ≡ x → main_typed_by w main ≡ [] → (after : Scope) × (block_scope w in_main main [] ≡ Ok after)
    by (Ok after) f e = (after, f)
    by (Err rule) f e = absurd (let g = rw f at e in cc)

main_is : (v : ClassFacts) (main : Block) (after : Scope) → block_scope v in_main main [] ≡ Ok after → main_typed_by v main ≡ []
main_is v main after e = rw e refl

pub main_carried : (w v : ClassFacts) (r : Refines w v) (main : Block) → main_typed_by w main ≡ [] → (main_typed_by v main ≡ []) × AreKnown w (block_names main)
main_carried w v r main e =
    let x = main_well w main e in
    let k = block_carried w v r in_main main [] x.0 x.1 in
    (main_is v main x.0 k.0, k.1)
