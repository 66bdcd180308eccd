-- Where classes and a main can be loaded, the classes that their blocks name are among them.
use Rattle.std.proofs.Common.{◌≡◌, inl, inr, true, List, [], ◌∷◌, ◌++◌, map, flat_map, length, Option, Some, None, refl, sym, ap, ◌∙◌, subst, true≢false}
use Rattle.std.specs.Prelude.{is_some}
use Rattle.std.proofs.lemmas.Bool.{eqb-true}
use Rattle.som_model.specs.declared.key.ClassKey.{ClassKey, out-ClassKey, out-roll-ClassKey}
use Rattle.som_model.specs.declared.key.ClassKey.TheOpen.{ClassKey-F}
use Rattle.som_model.specs.declared.key.ClassKey.TheVariants as keys
use Rattle.som_model.specs.declared.key.ClassKey.TheVariants.{rolls-Proxy}
use Rattle.som_model.specs.declared.key.MethodRef.{MethodRef}
use Rattle.som_model.specs.declared.syntax.Block.{Block}
use Rattle.som_model.specs.declared.class.Sig.{Sig}
use Rattle.som_model.specs.declared.class.Body.{Body}
use Rattle.som_model.specs.declared.class.Body.TheVariants as bodies
use Rattle.som_model.specs.declared.class.Override.{Override}
use Rattle.som_model.specs.Lists.{Mem}
use Rattle.som_model.specs.Ancestors.{itself}
use Rattle.som_model.specs.Class.{Class, introduced}
use Rattle.som_model.specs.Classes.{class_at, hierarchy}
use Rattle.som_model.specs.Kernel.{kernel}
use Rattle.som_model.specs.Loads.{IsOrdered, Loads, keys_of}
use Rattle.som_model.specs.Made.{blocks_of, blocks_of_class, proxies_in}
use Rattle.som_model.specs.Named.{Named, AClass, block_names, body_names, method_names, override_names, select_names}
use Rattle.som_model.specs.Owner.{owner, sig_of}
use Rattle.som_model.specs.Rules.{s14}
use Rattle.som_model.specs.Typing.{ClassFacts, running_facts}
use Rattle.som_model_laws.proofs.Laws.{descends_through}
use Rattle.som_model_laws.proofs.Members.{mem_left, mem_right, mem_split}
use Rattle.som_model_laws.proofs.Lists.{map_mem, mem_map, flat_mem, mem_flat}
use Rattle.som_model_laws.proofs.Owners.{entry_class}
use Rattle.som_model_laws.proofs.Standing.{found_is}
use Rattle.som_release_laws.specs.Refining.{AreKnown, Refines}
use Rattle.som_release_laws.proofs.Facing.{demanded, tested, tests}
use Rattle.som_release_laws.proofs.Inheriting.{s10_says}
use Rattle.som_release_laws.proofs.Lists.{none_left}
use Rattle.som_release_laws.proofs.Prefix.{signature_entry}
use Rattle.som_release_laws.proofs.TypedClasses.{class_carried, main_carried}
use Rattle.som_release_laws.proofs.TypesBelow.{method_named}
use Rattle.som_proxy_uses.specs.Proxied.{proxies_of}
use Rattle.som_proxy_uses.proofs.Naming.{block_covered}

abbrev pub block_in : Body → List Block
block_in (bodies.User b) = b ∷ []
block_in (bodies.Get n) = []
block_in (bodies.Set n) = []

out_proxy : (k : ClassKey) → out-ClassKey (keys.Proxy k) ≡ ClassKey-F.Proxy k
out_proxy k = ap out-ClassKey (sym (rolls-Proxy k)) ∙ out-roll-ClassKey (ClassKey-F.Proxy k)

one_proxy : (k c : ClassKey) → keys.Proxy k ≡ keys.Proxy c → k ≡ c
one_proxy k c e = let z = sym (out_proxy k) ∙ ap out-ClassKey e ∙ out_proxy c in cc

pub some_sig : (o : Option Sig) → is_some o ≡ true → (s : Sig) × (o ≡ Some s)
some_sig None e = absurd (true≢false (sym e))
some_sig (Some s) e = (s, refl)

pub some_class : (o : Option Class) → is_some o ≡ true → (c : Class) × (o ≡ Some c)
some_class None e = absurd (true≢false (sym e))
some_class (Some c) e = (c, refl)

pub as_many : (c : Class) → s14 c ≡ [] → length c.decl.bodies ≡ length (introduced c.decl.face.entries)
as_many c e = eqb-true (length c.decl.bodies) (length (introduced c.decl.face.entries)) (demanded 14 c _ (none_left _ _ e).0)

-- what a block of a class names is named by one of its bodies or by one of its overrides
pub class_block : (c : Class) (b : Block) (n : Named) → Mem b (blocks_of_class c) → Mem n (block_names b)
    → Mem n (flat_map body_names c.decl.bodies ++ (flat_map override_names c.decl.overrides ++ flat_map select_names c.decl.selects))
class_block c b n m at = elim (mem_split b (flat_map block_in c.decl.bodies) (map (λ (o : Override). o.block) c.decl.overrides) m) [
  | inl k ↦ (let r = flat_mem block_in b c.decl.bodies k in
      mem_left n (flat_map body_names c.decl.bodies) (flat_map override_names c.decl.overrides ++ flat_map select_names c.decl.selects) (mem_flat body_names n r.0 c.decl.bodies r.1 (of_body r.0 r.2)))
  | inr k ↦ (let r = map_mem (λ (o : Override). o.block) b c.decl.overrides k in
      mem_right n (flat_map body_names c.decl.bodies) (flat_map override_names c.decl.overrides ++ flat_map select_names c.decl.selects)
      (mem_left n (flat_map override_names c.decl.overrides) (flat_map select_names c.decl.selects)
      (mem_flat override_names n r.0 c.decl.overrides r.1 (mem_right n (method_names r.0.method) (block_names r.0.block) (subst (λ z. Mem n (block_names z)) r.2 at)))))
]
  where
    of_body : (d : Body) → Mem b (block_in d) → Mem n (body_names d)
    of_body (bodies.User x) (inl is) = subst (λ z. Mem n (block_names z)) is at
    of_body (bodies.User x) (inr z) = absurd z
    of_body (bodies.Get i) z = absurd z
    of_body (bodies.Set i) z = absurd z

module _ (cs : List Class) (main : Block) (l : Loads cs main) where
  abbrev all : List Class
  all = kernel ++ cs

  abbrev o : IsOrdered cs
  o = l.faces.ordered

  abbrev w : ClassFacts
  w = running_facts all

  -- typing by some facts finds well typed what it finds well typed
  pub same : Refines w w
  unfolding running_facts
  same = record {
    known = λ k e. e;
    is_a = λ k a e. e;
    through = λ a b c x y. tests cs o a c (descends_through (hierarchy all) a b c (tested cs o a b x) (tested cs o b c y));
    object = λ k e. tests cs o _ _ itself;
    signature = λ r s e. e;
    referred = λ r s e. (let f = signature_entry all r.class r.name s e in let c = entry_class all r.class r.name f.0 f.1 in ap is_some c.1);
    proper = λ r s c e p. p;
  }

  signature_is : (m : MethodRef) (s : Sig) → sig_of all (owner all m) ≡ Some s → w.signature m ≡ Some s
  unfolding running_facts
  signature_is m s e = e

  -- what is known is declared
  pub known_is : (k : ClassKey) → w.is_known k ≡ true → is_some (class_at all k) ≡ true
  unfolding running_facts
  known_is k e = e

  method_known : (m : MethodRef) (s : Sig) → sig_of all (owner all m) ≡ Some s → AreKnown w (method_names m)
  method_known m s e = let f = signature_is m s e in method_named w m s f (same.referred m s f)

  -- what the blocks of a class name is known
  pub class_known : (c : Class) → Mem c cs → AreKnown w (flat_map body_names c.decl.bodies ++ (flat_map override_names c.decl.overrides ++ flat_map select_names c.decl.selects))
  class_known c m =
      let i = s10_says all c (l.inherited c m) in
      (class_carried w w same c all all (λ m s e. e) method_known (as_many c (l.bodies c m))
      (λ x n. some_sig (sig_of all (owner all x.method)) (i.overrides.0 x n).1) (λ x n. some_sig (sig_of all (owner all x.method)) (i.selects.0 x n).1) (l.typed c m)).1

  block_known : (b : Block) → Mem b (blocks_of cs main) → (k : ClassKey) → Mem (AClass k) (block_names b) → w.is_known k ≡ true
  block_known b m k at = elim (mem_split b (flat_map blocks_of_class cs) (main ∷ []) m) [
    | inl n ↦ (let r = flat_mem blocks_of_class b cs n in (class_known r.0 r.1).classes k (class_block r.0 b (AClass k) r.2 at))
    | inr n ↦ elim n [
      | inl is ↦ (main_carried w w same main l.main_typed).1.classes k (subst (λ z. Mem (AClass k) (block_names z)) is at)
      | inr z ↦ absurd z
    ]
  ]

  pub declared : (k : ClassKey) → is_some (class_at all k) ≡ true → Mem k (keys_of all)
  declared k e =
      let c = some_class (class_at all k) e in
      let f = found_is cs o k c.0 c.1 in
      subst (λ z. Mem z (keys_of all)) f.1 (mem_map (λ (c : Class). c.key) c.0 all f.0)

  -- each class of which a block names a proxy is declared, or one of the kernel
  pub block_law : (b : Block) → Mem b (blocks_of all main) → (k : ClassKey) → Mem (keys.Proxy k) (proxies_in b) → Mem k (keys_of all)
  block_law b m k at =
      let r = (block_covered b).by (keys.Proxy k) at in
      declared k (known_is k (subst (λ z. w.is_known z ≡ true) (sym (one_proxy k r.0 r.1)) (block_known b m r.0 r.2)))

  pub declared_law : (ks : List ClassKey) → proxies_of ks ≡ flat_map proxies_in (blocks_of all main) → (k : ClassKey) → Mem k ks → Mem k (keys_of all)
  declared_law ks are k m =
      let n : Mem (keys.Proxy k) (proxies_of ks) = mem_map keys.Proxy k ks m in
      let r = flat_mem proxies_in (keys.Proxy k) (blocks_of all main) (subst (λ z. Mem (keys.Proxy k) z) are n) in
      block_law r.0 r.1 k r.2
