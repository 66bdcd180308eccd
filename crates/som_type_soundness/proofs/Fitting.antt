-- Each body that a class has for a method fits the method's signature, where the classes can be loaded.
use Rattle.std.proofs.Common.{◌≡◌, ℕ, inl, inr, Bool, true, false, ◌||◌, if◌then◌else◌, List, [], ◌∷◌, ◌++◌, map, flat_map, length, ◌==◌, Option, Some, None, slice_get, refl, sym, ap, ◌∙◌, subst, true≢false}
use Rattle.std.specs.Prelude.{is_some, codes}
use Rattle.std.specs.Str.{bytes_eq}
use Rattle.som_model.specs.declared.key.Module.TheVariants as modules
use Rattle.som_model.specs.declared.key.ClassKey.{ClassKey, out-ClassKey}
use Rattle.som_model.specs.declared.key.ClassKey.TheOpen.{ClassKey-F}
use Rattle.som_model.specs.declared.key.ClassKey.TheVariants as keys
use Rattle.som_model.specs.declared.key.ClassKey.TheVariants.{rolls-Proxy}
use Rattle.som_model.specs.declared.key.MethodRef.{MethodRef}
use Rattle.som_model.specs.declared.key.ValueType.{ValueType}
use Rattle.som_model.specs.declared.key.ValueType.TheVariants as types
use Rattle.som_model.specs.declared.class.Sig.{Sig}
use Rattle.som_model.specs.declared.class.Entry.{Entry}
use Rattle.som_model.specs.declared.class.Entry.TheVariants as entries
use Rattle.som_model.specs.declared.class.Body.{Body}
use Rattle.som_model.specs.declared.class.Body.TheVariants as bodies
use Rattle.som_model.specs.declared.class.Variable.{Variable}
use Rattle.som_model.specs.declared.class.Override.{Override}
use Rattle.som_model.specs.declared.syntax.Block.{Block}
use Rattle.som_model.specs.Lists.{Mem, some, or_else}
use Rattle.som_model.specs.Keys.{same_key, same_method}
use Rattle.som_model.specs.Same.{same_type}
use Rattle.som_model.specs.Hierarchy.{Hierarchy}
use Rattle.som_model.specs.Ancestors.{itself, by_parent}
use Rattle.som_model.specs.Class.{Class, bare, class_in, entry_name, entry_of, introduced, introduced_sig}
use Rattle.som_model.specs.Kernel.{kernel, som_object, som_init, som_uninit, object_face, class_face, class_mgr_face, before_after_face}
use Rattle.som_model.specs.Classes.{class_at, ancestors, hierarchy, is_a, variable_type}
use Rattle.som_model.specs.Owner.{introduced_by, owner, sig_of}
use Rattle.som_model.specs.Implementation.{Held, is_kernel, held, held_by, declared_held, introduced_body, body_named, override_of, proxy_held, forwards}
use Rattle.som_model.specs.Implementation as helds
use Rattle.som_semantics.specs.World.{World, answers_of}
use Rattle.som_semantics.specs.Invoked.{table, kernel_body}
use Rattle.som_model.specs.Rules.{body_fits, demand, is_void}
use Rattle.som_model.specs.Conforming.{block_breach_by, bodies_typed_by, override_typed_by, override_breach_by}
use Rattle.som_model.specs.Typing.{ClassFacts, in_body, running_facts}
use Rattle.som_model.specs.TypedBlocks.{block_scope}
use Rattle.som_model.specs.Loads.{IsOrdered, Loads}
use Rattle.som_model.proofs.KeyLaws.{both, exact_keys}
use Rattle.som_model.proofs.NamedLaws.{hierarchy_parents}
use Rattle.som_model_laws.proofs.Laws.{ancestors as ancestors_are}
use Rattle.som_model_laws.proofs.Members.{mem_split, some_mem}
use Rattle.som_model_laws.proofs.Lists.{map_mem, flat_mem}
use Rattle.som_model_laws.proofs.Standing.{falls, found_is, parents_known, rolled, tells}
use Rattle.som_model_laws.proofs.Owners.{entry_is, entry_mem}
use Rattle.som_release_laws.proofs.Facing.{tests}
use Rattle.som_release_laws.proofs.Lists.{flat_at, none_left}
use Rattle.som_release_laws.proofs.TypedClasses.{well}
use Rattle.som_type_soundness.proofs.Facts.{IsBody, IsClass, IsKernelSig, facts_of, sig}
use Rattle.som_type_soundness.proofs.Classes.{kind_is, kind_some, object_at, proper_parent}
use Rattle.som_type_soundness.proofs.Values.{one_type}
use Rattle.som_type_soundness.proofs.Methods.{fits_from, held_body, kernel_is, named_fits, one_method, own_is}

abbrev pub known_in : List Class → ClassKey → Bool
known_in cs k = is_some (class_at cs k)

-- ---- blocks

-- ---- accessors

abbrev is_kind : Option ValueType → ValueType → Bool
is_kind None t = false
is_kind (Some kind) t = same_type kind t

abbrev is_empty : {A : Type 0} → List A → Bool
is_empty [] = true
is_empty (x ∷ xs) = false

abbrev is_one : List ValueType → ValueType → Bool
is_one (p ∷ []) t = same_type p t
is_one _ t = false

kind_there : (q : Option ValueType) (t : ValueType) → is_kind q t ≡ true → (kind : ValueType) × (q ≡ Some kind) × (same_type kind t ≡ true)
kind_there None t e = absurd (true≢false (sym e))
kind_there (Some kind) t e = (kind, refl, e)

empty_is : {A : Type 0} (xs : List A) → is_empty xs ≡ true → xs ≡ []
empty_is [] e = refl
empty_is (x ∷ xs) e = absurd (true≢false (sym e))

one_is : (ps : List ValueType) (t : ValueType) → is_one ps t ≡ true → (p : ValueType) × (ps ≡ p ∷ []) × (same_type p t ≡ true)
one_is [] t e = absurd (true≢false (sym e))
one_is (p ∷ []) t e = (p, refl, e)
one_is (p ∷ q ∷ ps) t e = absurd (true≢false (sym e))

set_kind : (q : Option ValueType) (ps : List ValueType) → (elim q [ None ↦ false | Some kind ↦ is_one ps kind ]) ≡ true → (kind : ValueType) × (q ≡ Some kind) × (is_one ps kind ≡ true)
set_kind None ps e = absurd (true≢false (sym e))
set_kind (Some kind) ps e = (kind, refl, e)

void_is : (t : ValueType) → is_void t ≡ true → t ≡ types.Void
void_is types.Void e = refl
void_is types.Long e = absurd (true≢false (sym e))
void_is types.Boolean e = absurd (true≢false (sym e))
void_is types.Str e = absurd (true≢false (sym e))
void_is (types.Class k) e = absurd (true≢false (sym e))

-- ---- the kernel's bodies

abbrev IsRow : List ℕ → Sig → Type 0
IsRow name s = (some (λ row. bytes_eq row.0 name) table ≡ true) × IsKernelSig (kernel_body table name) s

row_of : (name n : List ℕ) (s : Sig) (result : ValueType) (params : List ValueType) (way : _) (e : Entry) → e ≡ entries.Introduced n (sig result params) way → entry_name e ≡ name → introduced_sig (Some e) ≡ Some s → IsRow n (sig result params) → IsRow name s
row_of name n s result params way e is named signed row =
    let same : sig result params ≡ s = (let z = ap (λ x. introduced_sig (Some x)) (sym is) ∙ signed in cc) in
    subst (λ z. IsRow z s) (ap entry_name (sym is) ∙ named) (subst (IsRow n) same row)

object_row : (name : List ℕ) (s : Sig) (e : Entry) → Mem e object_face.entries → entry_name e ≡ name → introduced_sig (Some e) ≡ Some s → IsRow name s
object_row name s e (inl is) n f = row_of name (codes "somInit") s _ _ _ e is n f (refl, (refl, inl refl))
object_row name s e (inr (inl is)) n f = row_of name (codes "somUninit") s _ _ _ e is n f (refl, (refl, inl refl))
object_row name s e (inr (inr (inl is))) n f = row_of name (codes "somFree") s _ _ _ e is n f (refl, (refl, inl refl))
object_row name s e (inr (inr (inr (inl is)))) n f = row_of name (codes "somGetClass") s _ _ _ e is n f (refl, (refl, inl refl))
object_row name s e (inr (inr (inr (inr (inl is))))) n f = row_of name (codes "somGetClassName") s _ _ _ e is n f (refl, (refl, inl refl))
object_row name s e (inr (inr (inr (inr (inr (inl is)))))) n f = row_of name (codes "somIsA") s _ _ _ e is n f (refl, (refl, inl refl))
object_row name s e (inr (inr (inr (inr (inr (inr (inl is))))))) n f = row_of name (codes "somIsInstanceOf") s _ _ _ e is n f (refl, (refl, inl refl))
object_row name s e (inr (inr (inr (inr (inr (inr (inr (inl is)))))))) n f = row_of name (codes "somRespondsTo") s _ _ _ e is n f (refl, (refl, inl refl))
object_row name s e (inr (inr (inr (inr (inr (inr (inr (inr (inl is))))))))) n f = row_of name (codes "somDispatchName") s _ _ _ e is n f (refl, (refl, inl refl))
object_row name s e (inr (inr (inr (inr (inr (inr (inr (inr (inr m))))))))) n f = absurd m

class_row : (name : List ℕ) (s : Sig) (e : Entry) → Mem e class_face.entries → entry_name e ≡ name → introduced_sig (Some e) ≡ Some s → IsRow name s
class_row name s e (inl is) n f = row_of name (codes "somNew") s _ _ _ e is n f (refl, (refl, inl refl))
class_row name s e (inr (inl is)) n f = row_of name (codes "somNewNoInit") s _ _ _ e is n f (refl, (refl, inl refl))
class_row name s e (inr (inr (inl is))) n f = row_of name (codes "somGetName") s _ _ _ e is n f (refl, (refl, inl refl))
class_row name s e (inr (inr (inr (inl is)))) n f = row_of name (codes "somDescendedFrom") s _ _ _ e is n f (refl, (refl, inl refl))
class_row name s e (inr (inr (inr (inr (inl is))))) n f = row_of name (codes "somSupportsMethod") s _ _ _ e is n f (refl, (refl, inl refl))
class_row name s e (inr (inr (inr (inr (inr (inl is)))))) n f = row_of name (codes "somCheckVersion") s _ _ _ e is n f (refl, (refl, inl refl))
class_row name s e (inr (inr (inr (inr (inr (inr m)))))) n f = absurd m

manager_row : (name : List ℕ) (s : Sig) (e : Entry) → Mem e class_mgr_face.entries → entry_name e ≡ name → introduced_sig (Some e) ≡ Some s → IsRow name s
manager_row name s e (inl is) n f = row_of name (codes "somFindClass") s _ _ _ e is n f (refl, (refl, inl refl))
manager_row name s e (inr m) n f = absurd m

hook_row : (name : List ℕ) (s : Sig) (e : Entry) → Mem e before_after_face.entries → entry_name e ≡ name → introduced_sig (Some e) ≡ Some s → IsRow name s
hook_row name s e (inl is) n f = row_of name (codes "sommBeforeMethod") s _ _ _ e is n f (refl, (refl, inr refl))
hook_row name s e (inr (inl is)) n f = row_of name (codes "sommAfterMethod") s _ _ _ e is n f (refl, (refl, inr refl))
hook_row name s e (inr (inr m)) n f = absurd m

-- a method of the kernel's is a row of its table, as its signature says
kernel_row : (c : Class) (name : List ℕ) (s : Sig) (e : Entry) → Mem c kernel → Mem e c.decl.face.entries → entry_name e ≡ name → introduced_sig (Some e) ≡ Some s → IsRow name s
kernel_row c name s e (inl is) m n f = object_row name s e (subst (λ (z : Class). Mem e z.decl.face.entries) is m) n f
kernel_row c name s e (inr (inl is)) m n f = class_row name s e (subst (λ (z : Class). Mem e z.decl.face.entries) is m) n f
kernel_row c name s e (inr (inr (inl is))) m n f = manager_row name s e (subst (λ (z : Class). Mem e z.decl.face.entries) is m) n f
kernel_row c name s e (inr (inr (inr (inl is)))) m n f = hook_row name s e (subst (λ (z : Class). Mem e z.decl.face.entries) is m) n f
kernel_row c name s e (inr (inr (inr (inr z)))) m n f = absurd z

kernel_overrides : (c : Class) → Mem c kernel → c.decl.overrides ≡ []
kernel_overrides c (inl e) = ap (λ (z : Class). z.decl.overrides) e
kernel_overrides c (inr (inl e)) = ap (λ (z : Class). z.decl.overrides) e
kernel_overrides c (inr (inr (inl e))) = ap (λ (z : Class). z.decl.overrides) e
kernel_overrides c (inr (inr (inr (inl e)))) = ap (λ (z : Class). z.decl.overrides) e
kernel_overrides c (inr (inr (inr (inr m)))) = absurd m

signed_entry : (q : Option Entry) (s : Sig) → introduced_sig q ≡ Some s → (e : Entry) × (q ≡ Some e) × (introduced_sig (Some e) ≡ Some s)
signed_entry None s f = absurd (let z = f in cc)
signed_entry (Some e) s f = (e, refl, f)

module _ (cs : List Class) (main : Block) (l : Loads cs main) where
  abbrev all : List Class
  all = kernel ++ cs

  abbrev o : IsOrdered cs
  o = l.faces.ordered

  abbrev h : Hierarchy ClassKey
  h = hierarchy all

  abbrev W : World
  W = answers_of all

  abbrev F : ClassFacts
  F = facts_of W (known_in all)

  pub a_class_here : (k : ClassKey) (c : Class) → class_at all k ≡ Some c → c.key ≡ k → IsClass W c
  a_class_here k c e is =
      let at : class_at all c.key ≡ Some c = ap (class_at all) is ∙ e in
      let ps = parents_known cs o c.key c at in
      record {
        parents = sym (hierarchy_parents all c.key) ∙ ps;
        above = λ p m. tests cs o c.key p (by_parent p (subst (λ z. Mem p z) (sym ps) m) itself);
        proper = λ a n d. subst (λ z. some (λ p. is_a all p a) z ≡ true) ps (proper_parent cs o c.key a n d);
        variables = λ n kind f. (kind_is cs o c.key c n kind at f, kind_some cs o l.faces.types c.key c n kind at f);
      }

  -- a block that breaks no rule
  block_fits : (y : ClassKey) (r : MethodRef) (c : Class) (name : List ℕ) (s : Sig) (block : Block) → class_at all y ≡ Some c → block_breach_by F c name s block ≡ [] → IsBody W (known_in all) y r s (helds.User block)
  block_fits y r c name s block e t =
      let is = (found_is cs o y c e).1 in
      let x = well c name (block_scope F (in_body c s.result) block s.params) t in
      (c, is, a_class_here y c e is, (x.0, x.1))

  declared_fits : (y : ClassKey) (r : MethodRef) (c : Class) (s : Sig) (body : Body) → class_at all y ≡ Some c → body_fits c.decl.variables s body ≡ true → ((block : Block) → body ≡ bodies.User block → (n : List ℕ) × (block_breach_by F c n s block ≡ [])) → IsBody W (known_in all) y r s (held_body body)
  declared_fits y r c s (bodies.User block) e f t = let u = t block refl in block_fits y r c u.0 s block e u.1
  declared_fits y r c s (bodies.Get n) e f t =
      let p = both (is_kind (slice_get (map (λ (v : Variable). v.kind) c.decl.variables) n) s.result) (is_empty s.params) f in
      let k = kind_there (slice_get (map (λ (v : Variable). v.kind) c.decl.variables) n) s.result p.0 in
      let same : k.0 ≡ s.result = one_type k.0 s.result k.2 in
      (kind_is cs o y c n k.0 e k.1 ∙ same, ap is_void (sym same) ∙ kind_some cs o l.faces.types y c n k.0 e k.1, empty_is s.params p.1)
  declared_fits y r c s (bodies.Set n) e f t =
      let q = slice_get (map (λ (v : Variable). v.kind) c.decl.variables) n in
      let p = both (is_void s.result) (elim q [ None ↦ false | Some kind ↦ is_one s.params kind ]) f in
      let k = set_kind q s.params p.1 in
      let one = one_is s.params k.0 k.2 in
      let var : variable_type all y n ≡ k.0 = kind_is cs o y c n k.0 e k.1 in
      (void_is s.result p.0, ap is_void var ∙ kind_some cs o l.faces.types y c n k.0 e k.1, one.1 ∙ ap (λ z. z ∷ []) (one_type one.0 k.0 one.2 ∙ sym var))

  typed_parts : (c : Class) → Mem c cs → (bodies_typed_by F c c.decl.face.entries c.decl.bodies ≡ []) × (flat_map (override_typed_by F all c) c.decl.overrides ≡ [])
  unfolding running_facts
  typed_parts c m = none_left (bodies_typed_by F c c.decl.face.entries c.decl.bodies) (flat_map (override_typed_by F all c) c.decl.overrides) (l.typed c m)

  -- the body of a method that the class introduces
  introduced_fits : (y : ClassKey) (r : MethodRef) (c : Class) (s : Sig) (b : Held) → class_at all y ≡ Some c → introduced_sig (entry_of c.decl.face.entries r.name) ≡ Some s → introduced_body c r.name ≡ Some b → IsBody W (known_in all) y r s b
  introduced_fits y r c s b e g f = elim (mem_split c kernel cs (found_is cs o y c e).0) [
    | inl m ↦ (
        let t = signed_entry (entry_of c.decl.face.entries r.name) s g in
        let em = entry_mem c.decl.face.entries r.name t.0 t.1 in
        let at : Some (helds.OfKernel r.name) ≡ Some b =
        ap (λ (q : Option Entry). if is_some q then Some (helds.OfKernel r.name) else None) (sym t.1)
        ∙ ap (λ z. if z then (if is_some (entry_of c.decl.face.entries r.name) then Some (helds.OfKernel r.name) else None) else body_named c.decl.face.entries c.decl.bodies r.name) (sym (kernel_is cs l.faces c m)) ∙ f in
        let is : helds.OfKernel r.name ≡ b = (let z = at in cc) in
        subst (IsBody W (known_in all) y r s) is (kernel_row c r.name s t.0 m em.0 em.1 t.2))
    | inr m ↦ (
        let at : body_named c.decl.face.entries c.decl.bodies r.name ≡ Some b =
        ap (λ z. if z then (if is_some (entry_of c.decl.face.entries r.name) then Some (helds.OfKernel r.name) else None) else body_named c.decl.face.entries c.decl.bodies r.name) (sym (own_is cs l.faces c m)) ∙ f in
        let t = none_left (demand 14 c (length c.decl.bodies == length (introduced c.decl.face.entries))) (fits_from c c.decl.face.entries c.decl.bodies) (l.bodies c m) in
        let u = named_fits cs l.faces l.bodies c F c.decl.face.entries c.decl.bodies r.name s b g at (typed_parts c m).0 t.1 in
        subst (IsBody W (known_in all) y r s) (sym u.1) (declared_fits y r c s u.0 e u.2 u.3))
  ]

  -- an override's block
  override_at : (r : MethodRef) (os : List Override) (b : Held) → override_of all r os ≡ Some b → (x : Override) × Mem x os × (owner all x.method ≡ r) × (helds.User x.block ≡ b)
  override_at r [] b e = absurd (let z = e in cc)
  override_at r (x ∷ os) b e = by (same_method (owner all x.method) r) refl e (override_at r os b)
    where
      by : (t : Bool) → same_method (owner all x.method) r ≡ t → (if t then Some (helds.User x.block) else override_of all r os) ≡ Some b → (override_of all r os ≡ Some b → (z : Override) × Mem z os × (owner all z.method ≡ r) × (helds.User z.block ≡ b))
          → (z : Override) × Mem z (x ∷ os) × (owner all z.method ≡ r) × (helds.User z.block ≡ b)
      by true t g further = (x, inl refl, one_method (owner all x.method) r t, let z = g in cc)
      by false t g further = let q = further g in (q.0, inr q.1, q.2, q.3)

  override_fits : (y : ClassKey) (r : MethodRef) (c : Class) (s : Sig) (b : Held) → class_at all y ≡ Some c → sig_of all r ≡ Some s → override_of all r c.decl.overrides ≡ Some b → IsBody W (known_in all) y r s b
  override_fits y r c s b e g f =
      let x = override_at r c.decl.overrides b f in
      elim (mem_split c kernel cs (found_is cs o y c e).0) [
        | inl m ↦ absurd (subst (λ z. Mem x.0 z) (kernel_overrides c m) x.1)
        | inr m ↦ (
            let typed : override_breach_by F c x.0 (sig_of all (owner all x.0.method)) ≡ [] = flat_at (override_typed_by F all c) c.decl.overrides x.0 (typed_parts c m).1 x.1 in
            let signed : sig_of all (owner all x.0.method) ≡ Some s = ap (sig_of all) x.2 ∙ g in
            subst (IsBody W (known_in all) y r s) x.3 (block_fits y r c x.0.method.name s x.0.block e (subst (λ q. override_breach_by F c x.0 q ≡ []) signed typed)))
      ]

  declared_by : (y : ClassKey) (r : MethodRef) (c : Class) (s : Sig) (b : Held) (t : Bool) → same_key c.key r.class ≡ t → class_at all y ≡ Some c → sig_of all r ≡ Some s → or_else (if t then introduced_body c r.name else None) (override_of all r c.decl.overrides) ≡ Some b → IsBody W (known_in all) y r s b
  declared_by y r c s b false same e g f = override_fits y r c s b e g f
  declared_by y r c s b true same e g f = by (introduced_body c r.name) refl f
    where
      by : (q : Option Held) → introduced_body c r.name ≡ q → or_else q (override_of all r c.decl.overrides) ≡ Some b → IsBody W (known_in all) y r s b
      by None t k = override_fits y r c s b e g k
      by (Some x) t k =
          let is : r.class ≡ y = sym (exact_keys.two c.key r.class same) ∙ (found_is cs o y c e).1 in
          introduced_fits y r c s b e (ap introduced_sig (sym (entry_is all r.class r.name c (ap (class_at all) is ∙ e))) ∙ g) (t ∙ k)

  abbrev methods_in : ClassKey → List MethodRef
  methods_in k = map (λ name. record { class = k; name = name }) (introduced_by all k)

  class_of_method : (k : ClassKey) (x : MethodRef) (t : Bool) → Mem x (if t then [] else methods_in k) → x.class ≡ k
  class_of_method k x true n = absurd n
  class_of_method k x false n = let z = map_mem (λ name. record { class = k; name = name }) x (introduced_by all k) n in ap (λ (v : MethodRef). v.class) z.2

  -- a proxy's body
  proxy_fits : (y c : ClassKey) (r : MethodRef) (s : Sig) (b : Held) → out-ClassKey y ≡ ClassKey-F.Proxy c → sig_of all r ≡ Some s → proxy_held all c r ≡ Some b → IsBody W (known_in all) y r s b
  proxy_fits y c r s b e g f = by (same_method r som_init) (same_method r som_uninit) (some (same_method r) (forwards all c)) refl refl refl f
    where
      object : (name : List ℕ) (q : Sig) → r ≡ record { class = som_object; name = name } → introduced_sig (entry_of object_face.entries name) ≡ Some q → q ≡ s
      object name q is t = let z = sym (ap introduced_sig (entry_is all som_object name (class_in modules.Kernel (bare object_face)) (object_at cs o)) ∙ t) ∙ ap (sig_of all) (sym is) ∙ g in cc

      nothing : Some helds.Nothing ≡ Some b → s.result ≡ types.Void → IsBody W (known_in all) y r s b
      nothing t v = let none : helds.Nothing ≡ b = (let z = t in cc) in subst (IsBody W (known_in all) y r s) none v

      by : (i u w : Bool) → same_method r som_init ≡ i → same_method r som_uninit ≡ u → some (same_method r) (forwards all c) ≡ w → (if i || u then Some helds.Nothing else (if w then Some helds.Forward else None)) ≡ Some b → IsBody W (known_in all) y r s b
      by true u w p q t k = nothing k (ap (λ (z : Sig). z.result) (sym (object (codes "somInit") (sig types.Void []) (one_method r som_init p) refl)))
      by false true w p q t k = nothing k (ap (λ (z : Sig). z.result) (sym (object (codes "somUninit") (sig types.Void []) (one_method r som_uninit q) refl)))
      by false false false p q t k = absurd (let z = k in cc)
      by false false true p q t k =
          let m = some_mem (same_method r) (forwards all c) t in
          let is : r ≡ m.0 = one_method r m.0 m.2 in
          let a = flat_mem (λ k. if is_kernel k then [] else methods_in k) m.0 (ancestors all c) m.1 in
          let above = tests cs o c a.0 ((ancestors_are h (tells cs o) (falls cs o) c a.0).0 a.1) in
          let owner_is = class_of_method a.0 m.0 (is_kernel a.0) a.2 in
          let key : y ≡ keys.Proxy c = sym (rolled y (ClassKey-F.Proxy c) e) ∙ rolls-Proxy c in
          let forward : helds.Forward ≡ b = (let z = k in cc) in
          subst (IsBody W (known_in all) y r s) forward (c, key, subst (λ z. is_a all c z ≡ true) (sym (ap (λ (z : MethodRef). z.class) is ∙ owner_is)) above)

  held_fits : (y : ClassKey) (r : MethodRef) (s : Sig) (b : Held) (k : ClassKey-F ClassKey) → out-ClassKey y ≡ k → sig_of all r ≡ Some s → held_by all k y r ≡ Some b → IsBody W (known_in all) y r s b
  held_fits y r s b (ClassKey-F.Named m n) e g f = by (class_at all y) refl f
    where
      by : (q : Option Class) → class_at all y ≡ q → declared_held all q r ≡ Some b → IsBody W (known_in all) y r s b
      by None t u = absurd (let z = u in cc)
      by (Some c) t u = declared_by y r c s b (same_key c.key r.class) refl t g u
  held_fits y r s b (ClassKey-F.Derived ks) e g f = absurd (let z = f in cc)
  held_fits y r s b (ClassKey-F.Proxy c) e g f = proxy_fits y c r s b e g f

  pub all_fit : (y : ClassKey) (r : MethodRef) (s : Sig) (b : Held) → sig_of all r ≡ Some s → held all y r ≡ Some b → IsBody W (known_in all) y r s b
  all_fit y r s b g f = held_fits y r s b (out-ClassKey y) refl g f
