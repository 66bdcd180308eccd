-- What interfaces inherit, and what the classes that they declare inherit.
use Rattle.std.proofs.Common.{◌≡◌, ℕ, inl, inr, Bool, true, false, List, [], ◌∷◌, ◌++◌, map, flat_map, Option, Some, None, refl, sym, ap, ◌∙◌, subst, true≢false}
use Rattle.std.specs.Str.{bytes_eq}
use Rattle.som_model.specs.declared.key.ClassKey.{ClassKey}
use Rattle.som_model.specs.declared.key.Module.{Module}
use Rattle.som_model.specs.declared.key.Module.TheVariants as modules
use Rattle.som_model.specs.declared.key.ValueType.{ValueType}
use Rattle.som_model.specs.declared.class.ClassDecl.{ClassDecl}
use Rattle.som_model.specs.declared.class.Entry.{Entry}
use Rattle.som_model.specs.declared.class.Entry.TheVariants as entries
use Rattle.som_model.specs.declared.program.Interface.{Interface}
use Rattle.som_model.specs.Ancestors.{Descends, anc}
use Rattle.som_model.specs.Class.{Class, class_in, entry_name, entry_of, introduced}
use Rattle.som_model.specs.Classes.{ancestors, class_at, hierarchy, interface_classes}
use Rattle.som_model.specs.Hierarchy.{Falls, Hierarchy, Tells}
use Rattle.som_model.specs.Keys.{same_key}
use Rattle.som_model.specs.Lists.{Mem, among}
use Rattle.som_model.specs.Owner.{introduced_by}
use Rattle.som_model.proofs.KeyLaws.{exact_bytes, exact_keys}
use Rattle.som_model.proofs.NamedLaws.{hierarchy_same}
use Rattle.som_model_laws.proofs.Laws.{among_mem, ancestors as ancestors_law}
use Rattle.som_model_laws.proofs.Members.{find_first, find_none, mem_split}
use Rattle.som_model_laws.proofs.Lists.{flat_mem}
use Rattle.som_ast.specs.declared.words.Word.{Word}
use Rattle.som_ast.specs.declared.interface.IdlInterface.{IdlInterface}
use Rattle.som_ast.specs.declared.interface.Export.{Export}
use Rattle.som_ast.specs.declared.interface.Export.TheVariants as exports
use Rattle.som_verify_classes.specs.Modules.{AreDeclared}
use Rattle.som_verify_classes.specs.Places.{with_kernel}
use Rattle.som_verify_classes.specs.Plainly.{Introduces, IntroducedOnce, IsAbove, NamesApart, ParentsBefore}
use Rattle.som_verify_classes.proofs.DeclaredClasses.{faces_declared, map_declared}
use Rattle.som_verify_classes.proofs.Owners.{mem_middle}
use Rattle.som_verify_classes.proofs.PlainMoves.{lower}
use Rattle.som_verify_classes.proofs.Outlines.{hierarchy_outline, outline}
use Rattle.som_sema_scope.specs.ClassNames.{type_of}
use Rattle.som_sema_drafts.specs.Drafts.{InterfaceDraft, accessors, export_entries, introduces}
use Rattle.som_sema_drafts.specs.Items.{by_name}
use Rattle.som_sema.specs.Ancestry.{AreDrafts}
use Rattle.som_sema_decls.specs.Known.{after_base}
use Rattle.som_sema.specs.Building.{declarations, module_over}
use Rattle.som_sema_decls.specs.Finished.{introducer}
use Rattle.som_sema.specs.TextRules.{is_inherited}
use Rattle.som_sema.proofs.Introducing.{AllSame, IntroduceSame, introduced_mem, introduced_so}
use Rattle.som_sema.proofs.Replaced.{introduce_same, outlines}
use Rattle.som_sema.proofs.TextBases.{are_drafts}
use Rattle.som_sema.proofs.TextInherited.{inherits_from}
use Rattle.som_elab.proofs.Declared.{find_mem}
use Rattle.som_elab_methods.proofs.Fitting.{introduced_there}
use Rattle.som_elab_laws.specs.Keeping.{interfaces_over, known_classes}

-- ---- an interface declares no entry that was moved

accessors_stay : (names : List (List ℕ)) (readonly : Bool) (kind : ValueType) (name x : List ℕ) (to : ClassKey) → Mem (entries.Moved x to) (accessors names readonly kind name) → ⊥
accessors_stay names true kind name x to (inl e) = absurd (cc)
accessors_stay names true kind name x to (inr m) = m
accessors_stay names false kind name x to (inl e) = absurd (cc)
accessors_stay names false kind name x to (inr (inl e)) = absurd (cc)
accessors_stay names false kind name x to (inr (inr m)) = m

export_stays : (module_of : List ℕ → Module) (names : List (List ℕ)) (e : Export) (x : List ℕ) (to : ClassKey) → Mem (entries.Moved x to) (export_entries module_of names e) → ⊥
export_stays module_of names (exports.Attribute readonly kind ws) x to m =
    let r = flat_mem (λ (w : Word). accessors names readonly (type_of module_of kind) w.text) (entries.Moved x to) ws m in
    accessors_stay names readonly (type_of module_of kind) r.0.text x to r.2
export_stays module_of names (exports.Operation result name params) x to (inl e) = absurd (cc)
export_stays module_of names (exports.Operation result name params) x to (inr m) = m

pub none_moved : (module_of : List ℕ → Module) (i : IdlInterface) (x : List ℕ) (to : ClassKey) → Mem (entries.Moved x to) (introduces module_of i) → ⊥
none_moved module_of i x to m = elim (mem_split (entries.Moved x to) (flat_map (export_entries module_of (by_name i.items)) i.before) (flat_map (export_entries module_of (by_name i.items)) i.after) m) [
  | inl n ↦ (let r = flat_mem (export_entries module_of (by_name i.items)) (entries.Moved x to) i.before n in export_stays module_of (by_name i.items) r.0 x to r.2)
  | inr n ↦ (let r = flat_mem (export_entries module_of (by_name i.items)) (entries.Moved x to) i.after n in export_stays module_of (by_name i.items) r.0 x to r.2)
]

-- an entry of which the name is introduced is found
pub entry_found : (es : List Entry) (name : List ℕ) → entry_of es name ≡ None → Mem name (introduced es) → ⊥
entry_found es name e m =
    let r = introduced_mem es name m in
    true≢false (sym (exact_bytes.one name) ∙ find_none (λ (x : Entry). bytes_eq (entry_name x) name) es e (entries.Introduced name r.0 r.1) r.2)

-- ---- classes of the same keys that introduce the same names

introduces_by : (cs : List Class) (k : ClassKey) (name : List ℕ) (o : Option Class) → class_at cs k ≡ o → among name (introduced_by cs k) ≡ true → Introduces cs k name
introduces_by cs k name None e t = absurd (true≢false (sym t ∙ rw e refl))
introduces_by cs k name (Some c) e t =
    let r = introduced_mem c.decl.face.entries name ((among_mem name (introduced c.decl.face.entries)).0 (sym (rw e refl) ∙ t)) in
    record {
      class = c;
      there = find_mem (λ (x : Class). same_key x.key k) cs c e;
      named = exact_keys.two c.key k (find_first (λ (x : Class). same_key x.key k) cs c e).passes;
      sig = r.0;
      way = r.1;
      entry = r.2;
    }

pub all_turned : (xs ys : List Class) → AllSame xs ys → AllSame ys xs
all_turned [] [] a = tt
all_turned (x ∷ xs) (y ∷ ys) a = (record { key = sym a.0.key; names = λ name. sym (a.0.names name) }, all_turned xs ys a.1)
all_turned [] (y ∷ ys) a = absurd a
all_turned (x ∷ xs) [] a = absurd a

other_there : (xs ys : List Class) → AllSame xs ys → (c : Class) → Mem c xs → (d : Class) × Mem d ys × IntroduceSame c d
other_there [] ys a c m = absurd m
other_there (x ∷ xs) [] a c m = absurd a
other_there (x ∷ xs) (y ∷ ys) a c (inl e) = (y, inl refl, subst (λ (z : Class). IntroduceSame z y) (sym e) a.0)
other_there (x ∷ xs) (y ∷ ys) a c (inr m) = let r = other_there xs ys a.1 c m in (r.0, inr r.1, r.2)

other_introduces : (xs ys : List Class) → AllSame xs ys → (k : ClassKey) (name : List ℕ) → Introduces xs k name → Introduces ys k name
other_introduces xs ys a k name i =
    let r = other_there xs ys a i.class i.there in
    let s = introduced_mem r.0.decl.face.entries name ((among_mem name (introduced r.0.decl.face.entries)).0
    (sym (r.2.names name) ∙ (among_mem name (introduced i.class.decl.face.entries)).1 (introduced_there i.class.decl.face.entries name i.sig i.way i.entry))) in
    record { class = r.0; there = r.1; named = sym r.2.key ∙ i.named; sig = s.0; way = s.1; entry = s.2 }

-- the rule S8 goes over
pub other_once : (xs ys : List Class) → AllSame (with_kernel xs) (with_kernel ys) → hierarchy (with_kernel xs) ≡ hierarchy (with_kernel ys) → IntroducedOnce xs → IntroducedOnce ys
other_once xs ys same over once = record {
  by = λ c a b name n p q i j.
      let back = all_turned (with_kernel xs) (with_kernel ys) same in
      let r = other_there ys xs back.1.1.1.1 c n in
      let down = λ (k : ClassKey) (d : Descends (hierarchy (with_kernel ys)) c.key k).
      subst (λ (z : ClassKey). Descends (hierarchy (with_kernel xs)) z k) r.2.key (subst (λ (z : Hierarchy ClassKey). Descends z c.key k) (sym over) d) in
      once.by r.0 a b name r.1 (down a p) (down b q)
      (other_introduces (with_kernel ys) (with_kernel xs) back a name i) (other_introduces (with_kernel ys) (with_kernel xs) back b name j);
}

-- ---- the interfaces and the classes that they declare

module _ (m : Module) (base : Interface) (is : List IdlInterface) where
  abbrev module_of : List ℕ → Module
  module_of = module_over m base is

  abbrev ds : List InterfaceDraft
  ds = interfaces_over m base is

  abbrev before : List Class
  before = interface_classes base

  abbrev known : List Class
  known = with_kernel (known_classes m base is)

  abbrev finished : List Class
  finished = after_base m before (declarations m base is)

  abbrev cs : List Class
  cs = with_kernel finished

  pub are : AreDrafts module_of ds
  are = are_drafts module_of is ds refl

  pub declared_of : (ds : List ClassDecl) → AreDeclared (before ++ map (class_in m) ds)
  declared_of ds = record {
    by = λ c n. elim (mem_split c before (map (class_in m) ds) n) [
      | inl k ↦ (faces_declared modules.Library base.classes).by c k
      | inr k ↦ (map_declared m ds).by c k
    ];
  }

  pub same_outlines : map outline known ≡ map outline cs
  same_outlines = outlines module_of m before ds are.by (λ d. [])

  pub same_methods : AllSame known cs
  same_methods = introduce_same module_of m before ds are.by (λ d. [])

  pub hierarchies : hierarchy known ≡ hierarchy cs
  hierarchies = sym (hierarchy_outline known) ∙ ap hierarchy same_outlines ∙ hierarchy_outline cs

  pub tells : Tells (hierarchy cs)
  tells = record {
    one = λ x. hierarchy_same cs x x ∙ exact_keys.one x;
    two = λ x y e. exact_keys.two x y (sym (hierarchy_same cs x y) ∙ e);
  }

  -- an ancestor of a class that stands above it and introduces a name
  pub record Above (c : Class) (name : List ℕ) (a : ClassKey) : Type 0 where
    pub ancestor : Mem a (anc (hierarchy cs) c.key)
    pub above : IsAbove finished c a
    pub introduced : Introduces cs a name

  module _ (names : NamesApart finished) (stand : ParentsBefore finished) where
    pub low : Falls (hierarchy cs)
    low = lower finished (declared_of (declarations m base is)) names stand

    pub above_so : (c : Class) (name : List ℕ) → is_inherited known c.key name ≡ true → Above c name (introducer known c.key name)
    above_so c name e =
        let h = inherits_from known c.key name e in
        let a = introducer known c.key name in
        let up : Mem a (ancestors known c.key) = mem_middle (ancestors known c.key) h.first.before h.first.after a h.first.parts in
        let moved : Mem a (anc (hierarchy cs) c.key) = subst (λ (z : Hierarchy ClassKey). Mem a (anc z c.key)) hierarchies up in
        record {
          ancestor = moved;
          above = record { other = h.other; above = (ancestors_law (hierarchy cs) tells low c.key a).0 moved };
          introduced = introduces_by cs a name (class_at cs a) refl (sym (introduced_so known cs same_methods a name) ∙ h.first.passes);
        }
