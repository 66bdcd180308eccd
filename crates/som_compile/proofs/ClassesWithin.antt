-- The classes that texts declare, and the blocks of their bodies, are within the limits of images.
use Rattle.std.proofs.Common.{◌≡◌, ℕ, ◌≤◌, inl, inr, List, [], ◌∷◌, length, map, Option, Some, refl, sym, ap, subst, arith}
use Rattle.std.specs.List.{AllByRecursion}
use Rattle.std.specs.Str.{bytes_eq}
use Rattle.std.proofs.lemmas.List.{length-map}
use Rattle.std.proofs.lemmas.List.Elements.{recursion_from_All, All-from_recursion}
use Rattle.som_model.specs.declared.limits.TheConstants.{MAX_PARAMETERS, MAX_SELECTS}
use Rattle.som_model.specs.declared.key.Module.{Module}
use Rattle.som_model.specs.declared.key.Module.TheVariants as modules
use Rattle.som_model.specs.declared.syntax.Block.{Block}
use Rattle.som_model.specs.declared.class.Sig.{Sig}
use Rattle.som_model.specs.declared.class.Entry.{Entry}
use Rattle.som_model.specs.declared.class.Variable.{Variable}
use Rattle.som_model.specs.declared.class.Body.{Body}
use Rattle.som_model.specs.declared.class.Override.{Override}
use Rattle.som_model.specs.declared.class.Select.{Select}
use Rattle.som_model.specs.declared.class.ClassFace.{ClassFace}
use Rattle.som_model.specs.declared.class.ClassDecl.{ClassDecl}
use Rattle.som_model.specs.declared.program.Interface.{Interface}
use Rattle.som_model.specs.Lists.{Mem, find}
use Rattle.som_model.specs.Class.{Class, bare, class_in, entry_of, introduced}
use Rattle.som_model.specs.Classes.{interface_classes}
use Rattle.som_model.specs.EffectiveOrder.{effective_order}
use Rattle.som_model.specs.Kernel.{kernel}
use Rattle.som_model.specs.Owner.{owner, sig_of}
use Rattle.som_model.specs.Typing.{in_body}
use Rattle.som_ast.specs.declared.interface.IdlInterface.{IdlInterface}
use Rattle.som_idl.specs.Within.{ItemWithin, InterfaceWithin}
use Rattle.som_ast.specs.declared.body.BodyText.{BodyText}
use Rattle.som_verify_classes.specs.Places.{with_kernel}
use Rattle.som_verify_classes.proofs.PlainLists.{mem_map}
use Rattle.som_image_decode.specs.BlockLimits.{TextWithin, BlockWithin}
use Rattle.som_image_classes.specs.ClassLimits.{EntryWithin, BodyWithin, FaceWithin, ClassWithin}
use Rattle.som_elab_methods.specs.Accessors.{Access, accessors_of, body_of}
use Rattle.som_sema_decls.specs.Known.{after_base}
use Rattle.som_sema.specs.Building.{declarations, module_over}
use Rattle.som_sema_decls.specs.Finished.{declare, entry_for, introducer, select_of, selects_at}
use Rattle.som_sema_drafts.specs.Items.{chosen, listed, major_in, minor_in, or_object, overridden}
use Rattle.som_elab_methods.specs.PlainLimits.{LimitsKept}
use Rattle.som_sema_drafts.specs.Drafts.{InterfaceDraft, draft_of, introduces, draft_class, draft_classes}
use Rattle.som_elab_body.specs.Expressions.{Among}
use Rattle.som_elab.specs.Elaboration.{drafts_of_classes, classes_over, drafts_over}
use Rattle.som_elab_methods.specs.Bodies.{texts_for}
use Rattle.som_elab_body.specs.MethodBody.{parameters}
use Rattle.som_elab.specs.Blocks.{with_blocks}
use Rattle.som_elab.proofs.Apart.{TextApart, no_text, a_text, EntryApart, accessor, of_text, EntriesApart, no_entry, moved, introduced as one_introduced, OverrideApart, without_sig, with_sig, OverridesApart, no_override, an_override, ClassApart, EachApart, no_class, a_class, entries_apart, overrides_apart}
use Rattle.som_compile.proofs.BlocksWithin.{PlaceFits, SigsFit, whole_block_within}
use Rattle.som_compile.proofs.BodiesWithin.{IsShort, access_within, all_texts, empty_overrides, no_block, parameters_few}
use Rattle.som_compile.proofs.EntriesWithin.{EntriesFit, entry_within, kernel_within}
use Rattle.som_compile.proofs.InterfacesWithin.{Named, all_join, all_map, all_members, member_of_all, all_variables, entry_named, introduces_named, major_within, minor_within, number_within, order_named, some_parent, word_within}

-- ---- bodies

-- the bodies of a class, of which there is room for what its blocks name
module _ (a : Among) (sigs : SigsFit a.classes) (c : Class) (place : PlaceFits (Some c)) (bs : List BodyText) (short : AllByRecursion IsShort bs) where
  text_within : (sig : Sig) → length sig.params ≤ MAX_PARAMETERS → (ts : List BodyText) → AllByRecursion IsShort ts → (b : Block) → TextApart a c sig ts b → BlockWithin b
  text_within sig few _ p _ no_text = no_block
  text_within sig few _ p _ (a_text t ts b is) =
      let le = parameters_few t.params sig.params in
      whole_block_within a (in_body c sig.result) (record { sigs = sigs; place = place }) p.0.most p.0.few t.block (parameters t.params sig.params) b (omega (arith, le, few)) p.0.within.block is.is

  texts_within : (name : List ℕ) (sig : Sig) → length sig.params ≤ MAX_PARAMETERS → (b : Block) → TextApart a c sig (texts_for bs c.decl.face.name name) b → BlockWithin b
  texts_within name sig few b is = text_within sig few (texts_for bs c.decl.face.name name) (all_texts IsShort c.decl.face.name name bs short) b is

  entry_body_within : (d : InterfaceDraft) (name : List ℕ) (sig : Sig) → length sig.params ≤ MAX_PARAMETERS → (o : Option Body) → body_of d name ≡ o → (body : Body) → EntryApart a bs c name sig o body → BodyWithin body
  entry_body_within d name sig few _ e _ (accessor body) = access_within d.class.variables (find (λ (x : Access). bytes_eq name x.name) (accessors_of d.text)) body e
  entry_body_within d name sig few _ e _ (of_text b is) = texts_within name sig few b is

  entry_bodies_within : (d : InterfaceDraft) (es : List Entry) → AllByRecursion EntryWithin es → (own : List Body) → EntriesApart a bs d c es own → AllByRecursion BodyWithin own
  entry_bodies_within d _ p _ no_entry = tt
  entry_bodies_within d _ p _ (moved name to es more is) = entry_bodies_within d es p.1 more is
  entry_bodies_within d _ p _ (one_introduced name sig way es body more one is) = (entry_body_within d name sig p.0.1 (body_of d name) refl body one, entry_bodies_within d es p.1 more is)

  override_within : (o : Override) → BlockWithin o.block → (s : Option Sig) → sig_of a.classes (owner a.classes o.method) ≡ s → (p : Override) → OverrideApart a bs c o s p → BlockWithin p.block
  override_within o empty _ e _ without_sig = empty
  override_within o empty _ e _ (with_sig sig b is) = texts_within o.method.name sig (sigs (owner a.classes o.method) sig e) b is

  overrides_within : (os : List Override) → AllByRecursion (λ (o : Override). BlockWithin o.block) os → (ps : List Override) → OverridesApart a bs c os ps
      → AllByRecursion (λ (o : Override). BlockWithin o.block) ps × (length ps ≡ length os)
  overrides_within _ q _ no_override = (tt, refl)
  overrides_within _ q _ (an_override o os p more one is) =
      let r = overrides_within os q.1 more is in
      ((override_within o q.0 (sig_of a.classes (owner a.classes o.method)) refl p one, r.0), omega (arith, r.1))

-- ---- declarations

abbrev finished : List Class → (List ℕ → Module) → Module → IdlInterface → InterfaceDraft
finished cs module_of m i = record { text = i; class = declare cs m (draft_of module_of i) }

-- where the counts of the declared classes are within the limits
module _ (m : Module) (base : Interface) (is : List IdlInterface) (within : AllByRecursion InterfaceWithin is) (kept : LimitsKept (drafts_over m base is)) where
  abbrev module_of : List ℕ → Module
  module_of = module_over m base is

  abbrev known : List Class
  known = with_kernel (after_base m (interface_classes base) (draft_classes (map (draft_of module_of) is)))

  drafts_of_classes_map : (js : List IdlInterface) → drafts_of_classes js (map (declare known m) (map (draft_of module_of) js)) ≡ map (finished known module_of m) js
  drafts_of_classes_map [] = refl
  drafts_of_classes_map (j ∷ js) = ap (λ z. finished known module_of m j ∷ z) (drafts_of_classes_map js)

  drafts_are : drafts_over m base is ≡ map (finished known module_of m) is
  drafts_are = drafts_of_classes_map is

  draft_there : (i : IdlInterface) → Mem i is → Mem (finished known module_of m i) (drafts_over m base is)
  draft_there i there = subst (λ z. Mem (finished known module_of m i) z) (sym drafts_are) (mem_map (finished known module_of m) i is there)

  entries_named : (i : IdlInterface) → InterfaceWithin i → AllByRecursion Named (finished known module_of m i).class.face.entries
  entries_named i p =
      all_map TextWithin Named (entry_for known (class_in m (draft_class module_of i)).key (introduces module_of i))
      (λ name le. entry_named (introducer known (class_in m (draft_class module_of i)).key name) name (introduces module_of i) (introduces_named module_of i p) le (entry_of (introduces module_of i) name) refl)
      (effective_order (listed i.items) (introduced (introduces module_of i))) (order_named i p (introduces module_of i) (introduces_named module_of i p))

  entries_within : (i : IdlInterface) → Mem i is → AllByRecursion EntryWithin (finished known module_of m i).class.face.entries
  entries_within i there =
      let d = finished known module_of m i in
      all_members EntryWithin d.class.face.entries (λ e n.
      entry_within e (member_of_all Named d.class.face.entries e (entries_named i (member_of_all InterfaceWithin is i within there)) n)
      (λ name sig way same. kept.parameters d name sig way (draft_there i there) (subst (λ (x : Entry). Mem x d.class.face.entries) same n)))

  face_within : (i : IdlInterface) → Mem i is → FaceWithin (finished known module_of m i).class.face
  face_within i there =
      let p = member_of_all InterfaceWithin is i within there in
      let d = finished known module_of m i in
      record {
        name = word_within i.name p.name;
        major = number_within major_in major_within i.items (recursion_from_All ItemWithin i.items p.items);
        minor = number_within minor_in minor_within i.items (recursion_from_All ItemWithin i.items p.items);
        some_parent = some_parent module_of i.parents;
        parents = kept.parents d (draft_there i there);
        entries = kept.entries d (draft_there i there);
        each_entry = All-from_recursion EntryWithin d.class.face.entries (entries_within i there);
      }

  -- with bodies and overrides that are within the limits
  class_within : (i : IdlInterface) → Mem i is → (own : List Body) (others : List Override) (selects : List Select) → length selects ≤ MAX_SELECTS → AllByRecursion BodyWithin own → AllByRecursion (λ (o : Override). BlockWithin o.block) others
      → length others ≡ length (finished known module_of m i).class.overrides → ClassWithin (with_blocks (finished known module_of m i).class own others selects)
  class_within i there own others selects counted q r long =
      let d = finished known module_of m i in
      let few = kept.overrides d (draft_there i there) in
      record {
        face = face_within i there;
        variables = kept.variables d (draft_there i there);
        each_variable = All-from_recursion (λ (v : Variable). TextWithin v.name) d.class.variables (all_variables module_of i (member_of_all InterfaceWithin is i within there));
        each_body = All-from_recursion BodyWithin own q;
        overrides = omega (arith, few, long);
        each_override = All-from_recursion (λ (o : Override). BlockWithin o.block) others r;
        selects = counted;
      }

  own_within : AllByRecursion EntriesFit (map (class_in m) (declarations m base is))
  own_within =
      let Fit = λ (d : ClassDecl). AllByRecursion EntryWithin d.face.entries in
      all_map Fit EntriesFit (class_in m) (λ d p. p) (declarations m base is)
      (all_map (λ (d : InterfaceDraft). Fit (declare known m d)) Fit (declare known m) (λ d p. p) (map (draft_of module_of) is)
      (all_map (λ (i : IdlInterface). Fit (declare known m (draft_of module_of i))) (λ (d : InterfaceDraft). Fit (declare known m d)) (draft_of module_of) (λ i p. p) is
      (all_members (λ (i : IdlInterface). Fit (declare known m (draft_of module_of i))) is entries_within)))

  -- each class that texts are elaborated among has entries within the limits
  pub entries_fit : AllByRecursion FaceWithin base.classes → AllByRecursion EntriesFit (classes_over m base is)
  entries_fit faces =
      all_join EntriesFit kernel (after_base m (interface_classes base) (declarations m base is)) kernel_within
      (all_join EntriesFit (interface_classes base) (map (class_in m) (declarations m base is))
      (all_map FaceWithin EntriesFit (λ (f : ClassFace). class_in modules.Library (bare f)) (λ f p. recursion_from_All EntryWithin f.entries p.each_entry) base.classes faces)
      own_within)

  module _ (a : Among) (sigs : SigsFit a.classes) (bs : List BodyText) (short : AllByRecursion IsShort bs) where
    one_within : (i : IdlInterface) → Mem i is → (c : ClassDecl) → ClassApart a m bs (finished known module_of m i) c → ClassWithin c
    one_within i there c apart =
        let d = finished known module_of m i in
        let k = class_in m d.class in
        let place : PlaceFits (Some k) = (kept.variables d (draft_there i there), kept.parents d (draft_there i there)) in
        let long = length-map (chosen d.text.items) (select_of a.classes k.key (or_object d.text.parents)) in
        let count = kept.selects d (draft_there i there) in
        let few_selects : length (selects_at a.classes k.key d) ≤ MAX_SELECTS = omega (arith, long, count) in
        let r = overrides_within a sigs k place bs short d.class.overrides (empty_overrides known (class_in m (draft_class module_of i)).key (overridden i.items)) apart.others
        (overrides_apart a bs k d.class.overrides apart.others apart.overrides) in
        subst ClassWithin (sym apart.is) (class_within i there apart.own apart.others (selects_at a.classes k.key d) few_selects
        (entry_bodies_within a sigs k place bs short d d.class.face.entries (entries_within i there) apart.own (entries_apart a bs d k d.class.face.entries apart.own apart.bodies)) r.0 r.1)

    each_within : (js : List IdlInterface) → ((j : IdlInterface) → Mem j js → Mem j is) → (cs : List ClassDecl) → EachApart a m bs (map (finished known module_of m) js) cs
        → AllByRecursion ClassWithin cs × (length cs ≡ length js)
    each_within [] sub _ no_class = (tt, refl)
    each_within (j ∷ js) sub _ (a_class d ds c cs one more) =
        let r = each_within js (λ x n. sub x (inr n)) cs more in
        ((one_within j (sub j (inl refl)) c one, r.0), omega (arith, r.1))

    pub classes_within : (cs : List ClassDecl) → EachApart a m bs (drafts_over m base is) cs → AllByRecursion ClassWithin cs × (length cs ≡ length is)
    classes_within cs each = each_within is (λ x n. n) cs (subst (λ (ds : List InterfaceDraft). EachApart a m bs ds cs) drafts_are each)
